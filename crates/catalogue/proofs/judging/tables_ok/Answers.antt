use mathlib.Core.Path.{sym, ap, ◌∙◌}
use Rattle.catalogue.specs.Judging.{catalogue_numbers}
use Rattle.catalogue.proofs.PairLaws.{tables_judged, tables-wrong}
use Rattle.catalogue.proofs.judging.tables_ok.Goals as goal

pub returns-in-Ok : goal.returns-in-Ok
returns-in-Ok c = tables_judged c.args.catalogue.now c.args.tables.now c.in-Ok.words
    (sym (ap catalogue_numbers c.in-Ok.is) ∙ c.judge_catalogue.ensures)

pub returns-in-Err : goal.returns-in-Err
returns-in-Err c = tables-wrong c.args.catalogue.now c.args.tables.now (sym (ap catalogue_numbers c.in-Err.is) ∙ c.judge_catalogue.ensures)
