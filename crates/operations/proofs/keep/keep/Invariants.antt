use mathlib.Core.Bool.{Bool}
use Rattle.relations.specs.Rows.{Row}
use Rattle.values.specs.Words.{rows_of}
use Rattle.operations.specs.Tests.{Answers}
use Rattle.operations.proofs.RowSteps.{rows_from}
use Rattle.operations.proofs.TestLaws.{Kept}
use Rattle.operations.proofs.keep.keep.Given as goal

abbrev pub invariant-loop-i : goal.invariant-loop-i
invariant-loop-i g l = Kept (λ (test : Row → Bool). Answers g.F.Fn l.passes test) l.value.width l.rows (rows_of l.value l.front) (rows_from l.value l.i l.front) l.initial.behind l.behind
