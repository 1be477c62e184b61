use mathlib.Core.Path.{◌∙◌}
use Rattle.desk.proofs.CallLaws.{ran_bounded, run_as}
use Rattle.desk.proofs.console.desk_run.Goals as goal

pub answer_of-requires : goal.answer_of-requires
answer_of-requires c = ran_bounded _ _ _ _ _ c.run-ran.result _ _ c.run-ran.ensures

pub returns : goal.returns
returns c = run_as _ _ c.run-ran.new.work c.run-ran.new.output (c.report.ensures ∙ c.answer_of.ensures) c.run-ran.ensures
