-- Demand 2: each node's value has exactly the rows of its published meaning; the plan is the one that the rules name; text and back. Assumes nothing.
use Prim.Native.Nat.{ℕ, ◌≤◌}
use mathlib.Core.Path.{◌≡◌, refl, sym, ap, ◌∙◌}
use mathlib.Core.Bool.{Bool, true, false}
use mathlib.Core.List.{List, [], ◌∷◌, ◌++◌, append_assoc, append-nil}
use native.Mathlib.Omega.{arith}
use lib.Dec.{eqb}
use lib.ListN.{length, take, get_or}
use lib.Seq.{sets, take_at, get_or-append_seam}
use Rattle.std.specs.Prelude.{Ok}
use Rattle.relations.specs.Lists.{flat}
use Rattle.relations.specs.Rows.{Row}
use Rattle.relations.specs.Values.{Rows, Tables}
use Rattle.relations.specs.Machine.{run}
use Rattle.relations.specs.Nodes.{Node}
use Rattle.relations.specs.Operations.{Exactly}
use Rattle.relations.specs.Plan.{value_at, node_has, value_of_node, values}
use Rattle.relations.specs.PlanWords.{node_words}
use Rattle.relations.proofs.MachineLaws.{run-append, run_length}
use Rattle.relations.proofs.OperationLaws.{node_exact}
use Rattle.relations.proofs.ValueLaws.{extensional}
use Rattle.catalogue.specs.Judging.{catalogue_ok}
use Rattle.catalogue.specs.Stored.{stored_tables}
use Rattle.bundles.proofs.RoundTrip.{round_trip}
use Rattle.judgements.specs.Faults.{judged_question}
use Rattle.std.specs.Prelude.{Ok, Err}
use Rattle.plan_reading.specs.Judging.{PlanJudgement, plan_judgement, plan_numbers, nodes_of_plan}
use Rattle.plan_reading.proofs.PlanTheorem.{judged_exactly}
use Rattle.translation.specs.TranslateCall.{plan_buffer_words, plan_of, written}
use Rattle.running.specs.RunCall.{cleared, answered, run_outcome}
use Rattle.desk.specs.AnswerCall.{plan_in, plan_ran, answer_outcome}
use Rattle.desk.proofs.PlansLegal.{plan-legal}
use Rattle.demands.specs.Refusals.{run_lines, answer_lines}
use Rattle.demands.specs.Demands.{refused_run, refused_answer, NoneGiven, NodesExact, RunExact, PlanNamed, AnswerExact, Demand2}
use Rattle.demands.proofs.PlanWritten.{words-front}
use Rattle.demands.proofs.AnswerLaws.{accepted-written}
use Rattle.demands.proofs.LineLaws.{none_answered}
use Rattle.demands.proofs.Demand1.{demand_1}

-- Working from left to right, what was made is the front of what is made in the end.
module _ {N X : Type 0} (step : List X → N → X) where
  added : List X → List N → List X
  added made [] = []
  added made (node ∷ nodes) = step made node ∷ added (made ++ (step made node ∷ [])) nodes

  run_adds : (made : List X) (nodes : List N) → run step made nodes ≡ made ++ added made nodes
  unfolding run added
  run_adds made [] = sym (append-nil made)
  run_adds made (node ∷ nodes) = run_adds (made ++ (step made node ∷ [])) nodes ∙ append_assoc made (step made node ∷ []) (added (made ++ (step made node ∷ [])) nodes)

module _ (tables : Tables) where
  at_its_place : (before : List Node) (node : Node) (after : List Node)
      → Exactly (node_has tables (take (length before) (values tables (before ++ (node ∷ after)))) node) (value_at (values tables (before ++ (node ∷ after))) (length before))
  unfolding added
  at_its_place before node after =
      let made : List Rows = values tables before in
      let behind : List Rows = added (value_of_node tables) (made ++ (value_of_node tables made node ∷ [])) after in
      let all : values tables (before ++ (node ∷ after)) ≡ made ++ (value_of_node tables made node ∷ behind) =
      run-append (value_of_node tables) [] before (node ∷ after) ∙ run_adds (value_of_node tables) made (node ∷ after) in
      let many : length made ≡ length before = omega (arith, run_length (value_of_node tables) [] before) in
      let front : take (length before) (made ++ (value_of_node tables made node ∷ behind)) ≡ made = take_at made (value_of_node tables made node ∷ behind) (length before) many in
      let here : get_or (made ++ (value_of_node tables made node ∷ behind)) (length before) [] ≡ value_of_node tables made node =
      ap (λ place. get_or (made ++ (value_of_node tables made node ∷ behind)) place []) (sym many) ∙ get_or-append_seam made (value_of_node tables made node) behind [] in
      rw (all, front, here) (node_exact tables made node)

  nodes_exact : (plan : List Node) → NodesExact tables plan
  nodes_exact plan = record { each = λ before node after is. rw is (at_its_place before node after) }

one_value : (has : Row → Bool) (one other : Rows) → Exactly has one → Exactly has other → one ≡ other
one_value has one other first second = extensional one other first.ascending second.ascending (λ row. first.members row ∙ sym (second.members row))

module _ (catalogue tables plan work output : List ℕ) (good : (run_outcome catalogue tables plan work output).numbers.status ≡ 0) where
  run_none : NoneGiven (run_lines catalogue tables plan work output)
  run_none = (demand_1.running catalogue tables plan work output).exactly.0 good

  legal-words : (judged : PlanJudgement) → plan_judgement catalogue plan ≡ judged → eqb (plan_numbers judged).status 9 ≡ false → flat node_words (nodes_of_plan plan) ≡ plan
  legal-words (Ok count) is e = ((judged_exactly catalogue).sound plan count is).1
  legal-words (Err illegal) is e = let never : ◌≡◌ {A = ℕ} 0 1 = cc in absurd (omega arith)

  run_exact : RunExact catalogue tables plan work output
  run_exact =
      record {
        spelled = legal-words (plan_judgement catalogue plan) refl run_none.1.0;
        nodes = nodes_exact (stored_tables catalogue tables) (nodes_of_plan plan);
        left = (demand_1.running catalogue tables plan work output).table ∙ none_answered (run_lines catalogue tables plan work output) (refused_run work output) (answered catalogue tables (nodes_of_plan plan) (cleared work) output) run_none;
      }

module _ (catalogue question : List ℕ) (mode : ℕ) (plan : List ℕ) (ok : catalogue_ok catalogue ≡ true) (accepted : judged_question catalogue question ≡ Ok tt) (long : plan_buffer_words ≤ length plan) where
  plan-named : PlanNamed catalogue question mode plan
  plan-named =
      let is = accepted-written catalogue question mode plan ok accepted long in
      record {
        left = is;
        words = ap plan_in is ∙ words-front catalogue (plan_of catalogue question mode) (plan-legal catalogue question ok accepted mode) plan long;
      }

module _ (catalogue tables question : List ℕ) (mode : ℕ) (plan work output : List ℕ) (good : (answer_outcome catalogue tables question mode plan work output).numbers.status ≡ 0) where
  answer_exact : AnswerExact catalogue tables question mode plan work output
  answer_exact =
      let call = demand_1.answering catalogue tables question mode plan work output in
      record {
        nodes = nodes_exact (stored_tables catalogue tables) (plan_of catalogue question mode);
        left = call.table ∙ none_answered (answer_lines catalogue tables question mode plan work output) (refused_answer plan (sets plan 0 (flat node_words (plan_of catalogue question mode))) work output)
            (plan_ran (written catalogue question mode plan) (answered catalogue tables (plan_of catalogue question mode) (cleared work) output)) (call.exactly.0 good);
      }

pub demand_2 : Demand2
demand_2 = record { one_value = one_value; running = run_exact; translating = plan-named; answering = answer_exact; round_trip = round_trip }
