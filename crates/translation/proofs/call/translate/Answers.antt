use Rattle.std.proofs.Common.{arith, sym, ◌∙◌, Ok, Err}
use Rattle.translation.proofs.CallLaws.{catalogue-good, handed_catalogue, handed_question, refused_catalogue, refused_count, question_judged}
use Rattle.translation.proofs.call.translate.Goals as goal

pub returns-in_err-judge_catalogue : goal.returns-in_err-judge_catalogue
returns-in_err-judge_catalogue c = handed_catalogue c.args.plan.now c.from_residual.result c.from_residual.ensures.1 ∙ refused_catalogue c.args.catalogue.now c.args.question.now c.args.mode c.args.plan.now c.in_err-judge_catalogue.ensures

pub returns-in_err-judge_count : goal.returns-in_err-judge_count
returns-in_err-judge_count c =
    handed_question c.args.plan.now c.in_err-judge_count.field-0.0 c.from_residual-in_err-judge_count.result c.from_residual-in_err-judge_count.ensures.1
    ∙ refused_count c.args.catalogue.now c.args.question.now c.args.mode c.args.plan.now (catalogue-good c.args.catalogue.now c.in_ok-judge_catalogue.ensures) c.in_err-judge_count.field-0.0 c.in_err-judge_count.ensures

pub returns-in_err-judge : goal.returns-in_err-judge
returns-in_err-judge c =
    handed_question c.args.plan.now c.in_err-judge.field-0.0 c.from_residual-in_err-judge.result c.from_residual-in_err-judge.ensures.1
    ∙ question_judged c.args.catalogue.now c.args.question.now c.args.mode c.args.plan.now (catalogue-good c.args.catalogue.now c.in_ok-judge_catalogue.ensures) c.in_ok-judge_count.ensures (omega arith) (Err c.in_err-judge.field-0.0) c.in_err-judge.ensures

pub write_plan-requires : goal.write_plan-requires
write_plan-requires c = (catalogue-good c.args.catalogue.now c.in_ok-judge_catalogue.ensures, omega arith, sym c.in_ok-judge.ensures)

pub returns : goal.returns
returns c = c.write_plan.ensures ∙ question_judged c.args.catalogue.now c.args.question.now c.args.mode c.args.plan.now (catalogue-good c.args.catalogue.now c.in_ok-judge_catalogue.ensures) c.in_ok-judge_count.ensures (omega arith) (Ok tt) c.in_ok-judge.ensures
