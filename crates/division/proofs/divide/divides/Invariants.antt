use mathlib.Core.Path.{◌≡◌}
use Rattle.relations.specs.Lists.{all}
use Rattle.relations.specs.Meanings.{partnered}
use Rattle.values.specs.Words.{rows_of}
use Rattle.operations.proofs.RowSteps.{rows_from}
use Rattle.division.specs.Divisions.{pairs_of}
use Rattle.division.proofs.divide.divides.Given as goal

abbrev pub invariant-loop-i : goal.invariant-loop-i
invariant-loop-i l = let test = partnered (pairs_of l.pairs) (rows_of l.left l.work) l.t in
    all test (rows_of l.right l.work) ≡ all test (rows_from l.right l.i l.work)
