use Rattle.values.specs.Words.{rows_of}
use Rattle.values.proofs.RowsLaws.{rows_at-wide}
use Rattle.ordering.proofs.OfferLaws.{project-rows}
use native.Mathlib.Omega.{arith}
use Rattle.ordering.proofs.sorted.project.Goals as goal

pub returns : goal.returns
returns c = let a = c.args in let v = a.left in let w = a.work.now in let picks = c.picks_of-picks.ensures in
    rw (picks.many, project-rows picks (rows_of v w) (rows_at-wide v.width v.rows v.base w (omega (arith, c.requires.3)))) at c.take_rows.ensures
