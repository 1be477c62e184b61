-- Demand 1 of run: it leaves what the first of its lines says. Assumes nothing.
use Prim.Native.Nat.{ℕ}
use mathlib.Core.Path.{◌≡◌, refl, ap}
use mathlib.Core.Bool.{Bool, true, false, cond, not}
use mathlib.Core.List.{List, [], ◌∷◌}
use lib.Dec.{eqb}
use Rattle.relations.specs.Nodes.{Node}
use Rattle.catalogue.specs.Judging.{tables_ok}
use Rattle.std.specs.Prelude.{Ok, Err}
use Rattle.plan_reading.specs.Judging.{PlanJudgement, plan_judgement, plan_numbers, nodes_of_plan}
use Rattle.running.specs.RunCall.{RunOutcome, capacity_of, cleared, fits, passes_at, fit_within, answered, ran_outcome, judged_outcome, run_outcome}
use Rattle.demands.specs.Refusals.{outcome_by, no_room, long_answer, running_lines, run_lines}
use Rattle.demands.specs.Demands.{refused_run, RunDemand}
use Rattle.demands.proofs.LineLaws.{answered-exactly}
use Rattle.demands.proofs.RoomLaws.{room-fit}

-- a plan that is run: 10 and 11
pub ran_lines : (catalogue tables : List ℕ) (nodes : List Node) (work output : List ℕ)
    → ran_outcome catalogue tables nodes (cleared work) output (fit_within catalogue tables nodes (capacity_of work))
    ≡ outcome_by (running_lines catalogue tables nodes work output) (refused_run work output) (answered catalogue tables nodes (cleared work) output)
ran_lines catalogue tables nodes work output = rw (room-fit catalogue tables nodes (capacity_of work)) (go (no_room catalogue tables nodes work).given)
  where
    go : (over : Bool) → ran_outcome catalogue tables nodes (cleared work) output (cond over (passes_at (no_room catalogue tables nodes work).place) fits)
        ≡ cond over (refused_run work output 10 (no_room catalogue tables nodes work).place) (outcome_by (long_answer catalogue tables nodes output ∷ []) (refused_run work output) (answered catalogue tables nodes (cleared work) output))
    go true = refl
    go false = refl

module _ (catalogue tables plan work output : List ℕ) where
  run-table : run_outcome catalogue tables plan work output
      ≡ outcome_by (run_lines catalogue tables plan work output) (refused_run work output) (answered catalogue tables (nodes_of_plan plan) (cleared work) output)
  unfolding run_outcome
  run-table = ap (cond (not (tables_ok catalogue tables)) (refused_run work output 7 0)) (go (plan_judgement catalogue plan))
    where
      go : (judged : PlanJudgement) → judged_outcome catalogue tables plan work output judged
          ≡ cond (eqb (plan_numbers judged).status 9) (refused_run work output 9 (plan_numbers judged).place) (outcome_by (running_lines catalogue tables (nodes_of_plan plan) work output) (refused_run work output) (answered catalogue tables (nodes_of_plan plan) (cleared work) output))
      go (Ok nodes) = ran_lines catalogue tables (nodes_of_plan plan) work output
      go (Err illegal) = refl

  pub run_demand : RunDemand catalogue tables plan work output
  run_demand =
      record {
        table = run-table;
        exactly = rw run-table (answered-exactly (λ (left : RunOutcome). left.numbers.status) (refused_run work output) (λ number place. refl) (answered catalogue tables (nodes_of_plan plan) (cleared work) output) (run_lines catalogue tables plan work output) refl refl);
      }
