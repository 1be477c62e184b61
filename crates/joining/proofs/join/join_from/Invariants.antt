use Prim.Native.Nat.{◌+◌}
use Rattle.values.specs.Words.{row_in, rows_of}
use Rattle.values.proofs.FillLaws.{Filled}
use Rattle.operations.proofs.RowSteps.{rows_from}
use Rattle.partners.specs.Sieves.{sifts}
use Rattle.joining.specs.Joins.{joined}
use Rattle.joining.proofs.join.join_from.Given as goal

abbrev pub invariant-loop-i : goal.invariant-loop-i
invariant-loop-i l =
    Filled (l.width + l.right.width) l.out l.made l.total (joined (sifts l.sieve) (row_in l.initial.work l.a l.width) (rows_of l.right l.initial.work)) (joined (sifts l.sieve) (row_in l.initial.work l.a l.width) (rows_from l.right l.i l.initial.work)) l.initial.work l.work
