use native.Mathlib.Omega.{arith}
use Rattle.std.proofs.lemmas.Result.{err_from_is_err_and}
use Rattle.plan_reading.specs.Judging.{nodes_of_plan}
use Rattle.running.proofs.RunLaws.{nodes-few, nodes_many}
use Rattle.running.proofs.OutcomeLaws.{ran_refused, ran_inside, ran_long, ran_done}
use Rattle.running.proofs.hand_out.Goals as goal

pub returns-in_err-worked : goal.returns-in_err-worked
returns-in_err-worked c = let p = err_from_is_err_and c.from_residual.result c.from_residual.ensures.1 in
    rw (p.1, p.2) (ran_refused c.args.catalogue.now c.args.tables.now (nodes_of_plan c.args.plan.now) c.args.work.now c.run_nodes.new.work c.run_nodes.auto.work c.in_err-worked.field-0.0 c.in_err-worked.ensures c.args.output.now c.run_nodes.new.work)

pub overflow_mul-words : goal.overflow_mul-words
overflow_mul-words c = omega (arith, ran_inside c.args.catalogue.now c.args.tables.now (nodes_of_plan c.args.plan.now) c.args.work.now c.run_nodes.new.work c.run_nodes.auto.work c.in_ok-worked.ensures)

pub overflow_sub-result : goal.overflow_sub-result
overflow_sub-result c = omega (arith, (nodes-few c.args.catalogue.now c.args.tables.now c.args.plan.now c.args.nodes c.requires.0 c.requires.1).0)

pub returns-then-output-words : goal.returns-then-output-words
returns-then-output-words c = ran_long c.args.catalogue.now c.args.tables.now (nodes_of_plan c.args.plan.now) c.args.work.now c.run_nodes.new.work c.run_nodes.auto.work c.in_ok-worked.ensures c.args.nodes (nodes_many c.args.catalogue.now c.args.tables.now c.args.plan.now c.args.nodes c.requires.0 c.requires.1) c.args.output.now c.run_nodes.new.work c.if-output-words.true

pub returns : goal.returns
returns c = ran_done c.args.catalogue.now c.args.tables.now (nodes_of_plan c.args.plan.now) c.args.work.now c.run_nodes.new.work c.run_nodes.auto.work c.in_ok-worked.ensures c.args.nodes (nodes_many c.args.catalogue.now c.args.tables.now c.args.plan.now c.args.nodes c.requires.0 c.requires.1) c.args.output.now c.run_nodes.new.work c.if-output-words.false c.write_row.ensures
