use Prim.Native.Nat.{◌+◌, ◌≤◌}
use mathlib.Core.List.{◌++◌}
use mathlib.Core.Path.{◌≡◌}
use Rattle.values.specs.Words.{rows_of, end}
use Rattle.values.proofs.MakeLaws.{Offered}
use Rattle.operations.proofs.copy.unite.Given as goal

abbrev pub invariant-loop-lefts : goal.invariant-loop-lefts
invariant-loop-lefts l = (l.lefts.width ≡ l.width) × (l.rights.width ≡ l.width) × (end l.lefts ≤ l.out) × (end l.rights ≤ l.out)
    × Offered l.width l.out l.rows (rows_of l.lefts l.initial.work ++ rows_of l.rights l.initial.work) (rows_of l.initial.lefts l.initial.work ++ rows_of l.initial.rights l.initial.work) l.initial.work l.work

abbrev pub decreases-loop-lefts : goal.decreases-loop-lefts
decreases-loop-lefts l = l.lefts.rows + l.rights.rows
