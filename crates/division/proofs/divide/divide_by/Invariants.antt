use Prim.Native.Nat.{◌+◌, ◌*◌, ◌≤◌, ◌<◌}
use mathlib.Core.Bool.{So}
use mathlib.Core.List.{[], ◌∷◌}
use lib.ListN.{length}
use Rattle.relations.specs.Lists.{All}
use Rattle.relations.specs.Values.{member}
use Rattle.values.specs.Words.{row_in, rows_at, rows_of}
use Rattle.values.proofs.FillLaws.{Filled}
use Rattle.operations.proofs.RowSteps.{rows_from}
use Rattle.division.specs.Divisions.{pairs_of, quotient}
use Rattle.division.proofs.divide.divide_by.Given as goal

abbrev pub invariant-loop-i : goal.invariant-loop-i
invariant-loop-i l = let made_of = quotient l.columns (pairs_of l.pairs) (rows_of l.left l.initial.work) (rows_of l.right l.initial.work) in
    let at = l.left.base + l.i * l.left.width in
    (l.last ≤ at)
    × (l.last < at → All (λ row. So (member row (rows_at (length l.columns) l.made l.out l.work))) (made_of (row_in l.initial.work l.last l.left.width ∷ [])))
    × Filled (length l.columns) l.out 0 l.made (made_of (rows_of l.left l.initial.work)) (made_of (rows_from l.left l.i l.initial.work)) l.initial.work l.work
