use Rattle.desk.proofs.CallLaws.{answered_as}
use Rattle.desk.proofs.console.desk_answer.Goals as goal

pub returns : goal.returns
returns c = answered_as _ _ c.answer-answered.new.plan c.answer-answered.new.work c.answer-answered.new.output c.report.ensures c.answer-answered.ensures
