use Rattle.values.specs.Words.{rows_of}
use Rattle.values.proofs.FillLaws.{Filled}
use Rattle.operations.specs.Lists.{triples_of}
use Rattle.operations.proofs.RowSteps.{rows_from}
use Rattle.wanted_rows.specs.Wanted.{wanted_rows}
use Rattle.wanted_rows.proofs.keep_by_rows.Given as goal

abbrev pub invariant-loop-i : goal.invariant-loop-i
invariant-loop-i l =
    Filled l.left.width l.out 0 l.rows (wanted_rows l.wanted (triples_of l.triples) (rows_of l.left l.initial.work) (rows_of l.right l.initial.work)) (wanted_rows l.wanted (triples_of l.triples) (rows_from l.left l.i l.initial.work) (rows_of l.right l.initial.work)) l.initial.work l.work
