use Rattle.relations.specs.Values.{Rows}
use Rattle.relations.specs.Operations.{join_candidates}
use Rattle.values.specs.Words.{rows_of}
use Rattle.values.proofs.FillLaws.{Filled}
use Rattle.operations.specs.Lists.{triples_of}
use Rattle.operations.proofs.RowSteps.{rows_from}
use Prim.Native.Nat.{◌+◌}
use Rattle.joining.proofs.join.join.Given as goal

abbrev pub invariant-loop-i : goal.invariant-loop-i
invariant-loop-i l = let some : Rows → Rows = λ rows. join_candidates (triples_of l.triples) rows (rows_of l.right l.initial.work) in
    Filled (l.width + l.right.width) l.out 0 l.made (some (rows_of l.left l.initial.work)) (some (rows_from l.left l.i l.initial.work)) l.initial.work l.work
