use Rattle.std.proofs.Common.{◌≡◌, ◌*◌, ◌-◌, ◌/◌, length, drop}
use Rattle.semijoins.specs.Keys.{renumbers}
use Rattle.semijoins.proofs.keyed.are_renumbered.Given as goal

abbrev pub invariant-loop-k : goal.invariant-loop-k
invariant-loop-k l = let n = length l.triples / 3 in renumbers n l.columns l.triples l.other ≡ renumbers (n - l.k) l.columns (drop (l.k * 3) l.triples) (drop (l.k * 3) l.other)
