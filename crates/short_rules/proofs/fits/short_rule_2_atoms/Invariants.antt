use Prim.Native.Nat.{◌+◌, ◌≤◌}
use mathlib.Core.Bool.{false, ◌&&◌, ◌||◌}
use Rattle.short_rules.proofs.LeafSteps.{rest}
use Rattle.conditions.specs.Leaves.{atoms_of}
use Rattle.calculus.specs.Leaves.{alone_on, compares_with_other}
use Rattle.relations.specs.Lists.{all, filter}
use lib.ListN.{length}
use mathlib.Core.Path.{◌≡◌}
use Rattle.short_rules.proofs.fits.short_rule_2_atoms.Given as goal

abbrev pub invariant-loop-number : goal.invariant-loop-number
invariant-loop-number l = (l.comparing ≤ l.number-index)
    × ((l.fits && all (λ a. alone_on l.x a || compares_with_other l.x a) (rest l.words false l.leaves l.number-index)) ≡ all (λ a. alone_on l.x a || compares_with_other l.x a) (atoms_of l.words false l.leaves))
    × (length (filter (compares_with_other l.x) (atoms_of l.words false l.leaves)) ≡ l.comparing + length (filter (compares_with_other l.x) (rest l.words false l.leaves l.number-index)))
