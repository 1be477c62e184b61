use mathlib.Core.Path.{◌≡◌}
use Prim.Native.Nat.{◌≤◌}
use Rattle.relations.specs.Values.{Ascending}
use Rattle.relations.specs.Operations.{tally_candidates}
use Rattle.values.specs.Words.{rows_of, end}
use Rattle.values.proofs.FillLaws.{Filled}
use Rattle.operations.proofs.RowSteps.{rows_from}
use Rattle.tallying.proofs.tally.Given as goal

abbrev pub invariant-loop-i : goal.invariant-loop-i
invariant-loop-i l = (l.rest.width ≡ l.initial.rest.width) × (end l.rest ≤ l.out) × Ascending (rows_from l.left l.i l.initial.work) × Ascending (rows_of l.rest l.initial.work)
    × Filled l.left.width l.out 0 l.rows (tally_candidates l.least (rows_of l.left l.initial.work) (rows_of l.initial.rest l.initial.work)) (tally_candidates l.least (rows_from l.left l.i l.initial.work) (rows_of l.rest l.initial.work)) l.initial.work l.work
