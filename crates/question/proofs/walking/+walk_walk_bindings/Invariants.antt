use Prim.Native.Nat.{◌*◌, ◌+◌}
use Rattle.question.proofs.walking.+walk_walk_bindings.Given as goal

-- The measure is twice the reference, and one more for bindings: each call is of a lower node, or of the same by `walk`.
abbrev pub decreases-walk : goal.decreases-walk
decreases-walk l = 2 * l.reference

abbrev pub decreases-walk_bindings : goal.decreases-walk_bindings
decreases-walk_bindings l = 2 * l.reference + 1
