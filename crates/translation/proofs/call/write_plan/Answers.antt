use native.Mathlib.Omega.{arith}
use Rattle.translation.proofs.CallLaws.{last_named, few-nodes, question_ready, plan-fits, accepted-written}
use Rattle.translation.proofs.call.write_plan.Goals as goal

-- `translation::call::write_plan` meets its contract: an accepted question is ready to be translated, and its plan's words are counted. Assumes nothing.
pub overflow_cast-last : goal.overflow_cast-last
overflow_cast-last c = omega (arith, few-nodes c.args.catalogue.now c.args.question.now c.requires.0 c.requires.2)

pub translate_range-made-requires : goal.translate_range-made-requires
translate_range-made-requires c =
    (last_named c.args.catalogue.now c.args.question.now c.requires.0 c.requires.2, question_ready c.args.catalogue.now c.args.question.now c.requires.0 c.requires.2 c.args.plan.now c.requires.1)

pub count_heavy-heavy-requires : goal.count_heavy-heavy-requires
count_heavy-heavy-requires c =
    plan-fits c.args.catalogue.now c.args.question.now c.requires.0 c.requires.2 c.args.plan.now c.requires.1 c.args.mode _ c.translate_range-made.result c.translate_range-made.ensures

pub returns : goal.returns
returns c =
    accepted-written c.args.catalogue.now c.args.question.now c.requires.0 c.requires.2 c.args.plan.now c.requires.1 c.args.mode _ c.translate_range-made.result c.translate_range-made.ensures c.count_heavy-heavy.result c.count_heavy-heavy.ensures
