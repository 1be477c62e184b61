use Rattle.std.proofs.Common.{sym, ◌∙◌}
use lib.Seq.{length-take-le}
use Rattle.desk.proofs.CallLaws.{answered_as, handed_on, ran_bounded, answer-tables, answer-refused, plan-inside, answer_ran}
use Rattle.desk.proofs.answer.Goals as goal

pub returns-then-not-tables_ok : goal.returns-then-not-tables_ok
returns-then-not-tables_ok c = let s = c.args in
    answered_as _ _ s.plan.now s.work.now s.output.now c.answer_of.ensures (answer-tables s.catalogue.now s.tables.now s.question.now s.mode s.plan.now s.work.now s.output.now (sym c.tables_ok.ensures ∙ c.if-not-tables_ok.true))

pub returns-in_err-translated : goal.returns-in_err-translated
returns-in_err-translated c = let s = c.args in let refused = c.in_err-translated.field-0.0 in
    answered_as _ _ c.translate.new.plan s.work.now s.output.now (handed_on refused c.from_residual.result c.from_residual.ensures.1)
    (answer-refused s.catalogue.now s.tables.now s.question.now s.mode s.plan.now (sym c.tables_ok.ensures ∙ c.if-not-tables_ok.false) _ _ c.translate.new.plan c.in_err-translated.ensures s.work.now s.output.now)

pub slice_bounds-run-end : goal.slice_bounds-run-end
slice_bounds-run-end c = let s = c.args in plan-inside s.catalogue.now s.tables.now s.question.now s.mode s.plan.now (sym c.tables_ok.ensures ∙ c.if-not-tables_ok.false) _ _ c.translate.new.plan c.in_ok-translated.ensures

pub slice_bounds-run-end-2 : goal.slice_bounds-run-end-2
slice_bounds-run-end-2 c = let s = c.args in sym (length-take-le _ c.translate.new.plan (plan-inside s.catalogue.now s.tables.now s.question.now s.mode s.plan.now (sym c.tables_ok.ensures ∙ c.if-not-tables_ok.false) _ _ c.translate.new.plan c.in_ok-translated.ensures))

pub answer_of-requires-2 : goal.answer_of-requires-2
answer_of-requires-2 c = ran_bounded _ _ _ _ _ c.run.result _ _ c.run.ensures

pub returns : goal.returns
returns c = let s = c.args in
    answered_as _ _ c.translate.new.plan c.run.new.work c.run.new.output c.answer_of-2.ensures
    (answer_ran s.catalogue.now s.tables.now s.question.now s.mode s.plan.now (sym c.tables_ok.ensures ∙ c.if-not-tables_ok.false) _ _ c.translate.new.plan c.in_ok-translated.ensures s.work.now s.output.now c.run.ensures)
