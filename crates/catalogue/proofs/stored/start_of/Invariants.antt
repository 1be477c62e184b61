use Rattle.std.proofs.Common.{◌≡◌}
use Rattle.catalogue.specs.Stored.{start_of}
use Rattle.catalogue.proofs.stored.start_of.Given as goal

-- `start` is where the words of the relation `passed` start.
abbrev pub invariant-loop-passed : goal.invariant-loop-passed
invariant-loop-passed l = l.start ≡ start_of l.catalogue l.passed
