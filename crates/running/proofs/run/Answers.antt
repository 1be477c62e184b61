use mathlib.Core.List.{◌++◌}
use mathlib.Core.Path.{refl, sym, ◌∙◌}
use lib.ListN.{length, take, drop, replicate}
use Rattle.std.proofs.lemmas.Result.{err_from_is_err_and}
use Rattle.plan_reading.specs.Judging.{nodes_of_plan}
use Rattle.plan_reading.proofs.JudgeLaws.{plan_judged}
use Rattle.running.specs.RunCall.{fit_within}
use Rattle.running.proofs.OutcomeLaws.{outcome-tables, outcome-illegal, outcome_ran, ran_with}
use Rattle.running.proofs.run.Goals as goal

pub returns-then-not-tables_ok : goal.returns-then-not-tables_ok
returns-then-not-tables_ok c = let s = c.args in
    outcome-tables s.catalogue.now s.tables.now s.plan.now s.work.now s.output.now (sym c.tables_ok.ensures ∙ c.if-not-tables_ok.true)

pub returns-in_err-nodes : goal.returns-in_err-nodes
returns-in_err-nodes c = let s = c.args in
    let p = err_from_is_err_and c.from_residual.result c.from_residual.ensures.1 in
    rw (p.1, p.2) (outcome-illegal s.catalogue.now s.tables.now s.plan.now s.work.now s.output.now (sym c.tables_ok.ensures ∙ c.if-not-tables_ok.false) (plan_judged s.catalogue.now s.plan.now c.in_err-nodes.ensures refl))

pub run_legal-requires : goal.run_legal-requires
run_legal-requires c = let s = c.args in (sym c.tables_ok.ensures ∙ c.if-not-tables_ok.false, plan_judged s.catalogue.now s.plan.now c.in_ok-nodes.ensures refl)

pub returns : goal.returns
returns c = let s = c.args in
    outcome_ran s.catalogue.now s.tables.now s.plan.now s.work.now s.output.now (sym c.tables_ok.ensures ∙ c.if-not-tables_ok.false) (plan_judged s.catalogue.now s.plan.now c.in_ok-nodes.ensures refl) c.capacity_of-capacity.ensures
    (ran_with s.catalogue.now s.tables.now (nodes_of_plan s.plan.now) (λ l. l ++ drop c.capacity_of-capacity.result s.work.now) (replicate (length (take c.capacity_of-capacity.result s.work.now)) 0) s.output.now
    (fit_within s.catalogue.now s.tables.now (nodes_of_plan s.plan.now) (length (take c.capacity_of-capacity.result s.work.now))) c.run_legal.ensures)
