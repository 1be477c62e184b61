use Rattle.short_rules.proofs.LeafSteps.{rest}
use Rattle.conditions.specs.Leaves.{atoms_of}
use Rattle.calculus.specs.Leaves.{alone_on, equates_with, equates_outside}
use Rattle.relations.specs.Lists.{all, filter}
use lib.ListN.{length}
use mathlib.Core.Bool.{false, ◌&&◌, ◌||◌}
use mathlib.Core.Path.{◌≡◌}
use Prim.Native.Nat.{◌+◌, ◌≤◌}
use Rattle.short_rules.proofs.fits.short_rule_5_atoms.Given as goal

abbrev pub invariant-loop-number : goal.invariant-loop-number
invariant-loop-number l = (l.shared ≤ l.number-index)
    × (l.outside ≤ l.number-index)
    × ((l.fits && all (λ a. alone_on l.z a || (equates_with l.z l.y a || equates_outside l.z l.y a)) (rest l.words false l.leaves l.number-index)) ≡ all (λ a. alone_on l.z a || (equates_with l.z l.y a || equates_outside l.z l.y a)) (atoms_of l.words false l.leaves))
    × (length (filter (equates_with l.z l.y) (atoms_of l.words false l.leaves)) ≡ l.shared + length (filter (equates_with l.z l.y) (rest l.words false l.leaves l.number-index)))
    × (length (filter (equates_outside l.z l.y) (atoms_of l.words false l.leaves)) ≡ l.outside + length (filter (equates_outside l.z l.y) (rest l.words false l.leaves l.number-index)))
