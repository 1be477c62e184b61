use mathlib.Core.Path.{sym, ◌∙◌}
use mathlib.Core.List.{map}
use lib.ListN.{take}
use Rattle.values.specs.Words.{rows_of}
use Rattle.values.specs.Building.{Makes}
use Rattle.values.proofs.RowsLaws.{rows_at-wide}
use Rattle.ordering.proofs.OfferLaws.{all_columns_lem}
use Rattle.ordering.proofs.AscendLaws.{ascends_rows}
use Rattle.ordering.proofs.sorted.load.Goals as goal

pub returns-else-ascends : goal.returns-else-ascends
returns-else-ascends c = let v = c.args.stored in let t = c.args.tables.now in
    let m : Makes v.width c.args.out (map (λ row. take v.width row) (rows_of v t)) c.args.work.now c.take_rows.new.work c.take_rows.result = c.take_rows.ensures in
    rw (all_columns_lem v.width (rows_of v t) (rows_at-wide v.width v.rows v.base t c.requires.1)) at m

pub copy_ascending-requires : goal.copy_ascending-requires
copy_ascending-requires c = let p = c.requires in (ascends_rows c.args.stored c.args.tables.now p.1 (sym c.ascends.ensures ∙ c.if-ascends.true), p.1, p.2, p.3)
