-- What a caller learns of an answer that is no refusal: it has a column at least, and its rows are no more words than the output has. So they can be
-- lent and listed. Assumes nothing.
use Prim.Native.Nat.{ℕ, ◌*◌, ◌≤◌}
use mathlib.Core.Path.{◌≡◌, refl, sym, ap, ◌∙◌}
use mathlib.Core.Bool.{Bool, true, false, cond, not, So}
use mathlib.Core.List.{List, []}
use native.Mathlib.Omega.{arith}
use native.Mathlib.Nat.{mul_comm}
use lib.Dec.{eqb, ltb}
use lib.ListN.{length}
use borrow.Author.Tests.{ltb-false, eqb-false}
use Rattle.relations.specs.Limits.{plan_node_limit}
use Rattle.relations.specs.Nodes.{Node}
use Rattle.relations.specs.Plan.{value_words}
use Rattle.relations.specs.Legality.{between, legal_nodes, legal_plan}
use Rattle.relations.proofs.BoolLaws.{and_left}
use Rattle.relations.proofs.LegalityLaws.{so_between}
use Rattle.relations.proofs.PlanNarrow.{widths-narrow}
use Rattle.catalogue.specs.Judging.{tables_ok}
use Rattle.catalogue.specs.Stored.{relations_of, columns_of}
use Rattle.catalogue.proofs.TableLaws.{has_column}
use Rattle.std.specs.Prelude.{Result, Ok, Err}
use Rattle.plan_reading.specs.Judging.{PlanJudgement, plan_judgement, nodes_of_plan}
use Rattle.plan_reading.proofs.PlanTheorem.{judged_exactly}
use Rattle.translation.specs.TranslateCall.{TranslateOutcome, translate_outcome}
use Rattle.running.specs.RunCall.{RunNumbers, RunOutcome, run_outcome, Fit, fits, passes_at, answer_rows, answer_width, last_place, fit_within, capacity_of, cleared, stopped, answered, ran_outcome, refused, judged_outcome}
use Rattle.desk.specs.AnswerCall.{answer_numbers, AnswerOutcome, plan_in, plan_ran, unanswered, answer_outcome}
use Rattle.desk.specs.declared.Results.{Results}
use Rattle.desk.specs.declared.Refusal.{Refusal}

pub record AnswerSize (numbers : RunNumbers) (output : List ℕ) : Type 0 where
  pub some : 1 ≤ numbers.width
  pub fit : numbers.width * numbers.rows ≤ length output

-- no value of a legal plan is without a column, and the last node is one of its nodes
last_some : (catalogue tables : List ℕ) → tables_ok catalogue tables ≡ true → (nodes : List Node) → So (legal_plan (columns_of catalogue) (relations_of catalogue) nodes)
    → 1 ≤ answer_width catalogue tables nodes
last_some catalogue tables ok nodes legal =
    let count : (1 ≤ length nodes) × (length nodes ≤ plan_node_limit) =
    so_between 1 plan_node_limit (length nodes) (and_left (between 1 plan_node_limit (length nodes)) (legal_nodes (columns_of catalogue) (relations_of catalogue) [] nodes) legal)
    in
    ((widths-narrow (columns_of catalogue) (relations_of catalogue) (λ relation k. let c = has_column catalogue tables ok relation k in (c.0, omega (arith, c.1))) nodes legal
    ).narrow (last_place catalogue tables nodes) (omega (arith, count.0))).0

module _ (catalogue tables : List ℕ) (ok : tables_ok catalogue tables ≡ true) (nodes : List Node) (legal : So (legal_plan (columns_of catalogue) (relations_of catalogue) nodes)) (work output : List ℕ) where
  of_length : (long : Bool) → ltb (length output) (value_words (answer_width catalogue tables nodes) (answer_rows catalogue tables nodes)) ≡ long
      → (cond long (stopped catalogue tables nodes work output 11 (last_place catalogue tables nodes)) (answered catalogue tables nodes work output)).numbers.status ≡ 0
      → AnswerSize (cond long (stopped catalogue tables nodes work output 11 (last_place catalogue tables nodes)) (answered catalogue tables nodes work output)).numbers output
  of_length true is e = absurd (omega (arith, e))
  of_length false is e = record {
    some = last_some catalogue tables ok nodes legal;
    fit =
        omega (
          arith,
          ltb-false (length output) (value_words (answer_width catalogue tables nodes) (answer_rows catalogue tables nodes)) is,
          mul_comm (answer_width catalogue tables nodes) (length (answer_rows catalogue tables nodes)),
        );
  }

  of_fit : (fit : Fit) → (ran_outcome catalogue tables nodes work output fit).numbers.status ≡ 0 → AnswerSize (ran_outcome catalogue tables nodes work output fit).numbers output
  of_fit (passes_at place) e = absurd (omega (arith, e))
  of_fit fits e = of_length (ltb (length output) (value_words (answer_width catalogue tables nodes) (answer_rows catalogue tables nodes))) refl e

module _ (catalogue tables plan work output : List ℕ) where
  of_plan : tables_ok catalogue tables ≡ true → (judged : PlanJudgement) → plan_judgement catalogue plan ≡ judged
      → (judged_outcome catalogue tables plan work output judged).numbers.status ≡ 0 → AnswerSize (judged_outcome catalogue tables plan work output judged).numbers output
  of_plan ok (Err illegal) is e = absurd (omega (arith, e))
  of_plan ok (Ok count) is e =
      of_fit catalogue tables ok (nodes_of_plan plan) ((judged_exactly catalogue).sound plan count is).0 (cleared work) output (fit_within catalogue tables (nodes_of_plan plan) (capacity_of work)) e

  run-size : (run_outcome catalogue tables plan work output).numbers.status ≡ 0 → AnswerSize (run_outcome catalogue tables plan work output).numbers output
  unfolding run_outcome
  run-size e = go (tables_ok catalogue tables) refl e
    where
      outcome : Bool → RunOutcome
      outcome ok = cond (not ok) (refused catalogue tables plan work output 7 0) (judged_outcome catalogue tables plan work output (plan_judgement catalogue plan))

      go : (ok : Bool) → tables_ok catalogue tables ≡ ok → (outcome ok).numbers.status ≡ 0 → AnswerSize (outcome ok).numbers output
      go false is e = absurd (omega (arith, e))
      go true is e = of_plan is (plan_judgement catalogue plan) refl e

module _ (catalogue tables question : List ℕ) (mode : ℕ) (plan work output : List ℕ) where
  outcome-size : (answer_outcome catalogue tables question mode plan work output).numbers.status ≡ 0
      → AnswerSize (answer_outcome catalogue tables question mode plan work output).numbers output
  unfolding answer_outcome
  outcome-size e = go (tables_ok catalogue tables) (eqb (translate_outcome catalogue question mode plan).numbers.status 0) refl e
    where
      translated : TranslateOutcome
      translated = translate_outcome catalogue question mode plan

      outcome : Bool → Bool → AnswerOutcome
      outcome ok done =
          cond (not ok) (unanswered catalogue tables question mode plan work output 7 0)
          (cond done (plan_ran translated (run_outcome catalogue tables (plan_in translated) work output))
          (unanswered catalogue tables question mode plan work output translated.numbers.status translated.numbers.place))

      go : (ok done : Bool) → eqb translated.numbers.status 0 ≡ done → (outcome ok done).numbers.status ≡ 0 → AnswerSize (outcome ok done).numbers output
      go false done is e = absurd (omega (arith, e))
      go true true is e = run-size catalogue tables (plan_in translated) work output e
      go true false is e = absurd (eqb-false translated.numbers.status 0 is e)

  -- `answer` answered with its numbers
  pub answer-size : {after : AnswerOutcome} {answered : Result Results Refusal} {answer : Results}
      → after ≡ answer_outcome catalogue tables question mode plan work output → after.numbers ≡ answer_numbers answered → answered ≡ Ok answer
      → (1 ≤ answer.width) × (answer.width * answer.rows ≤ length output)
  answer-size {after} {answered} {answer} e f g =
      let numbers : (answer_outcome catalogue tables question mode plan work output).numbers ≡ answer_numbers (Ok answer) =
      ap (λ (o : AnswerOutcome). o.numbers) (sym e) ∙ f ∙ ap answer_numbers g
      in
      let size : AnswerSize (answer_numbers (Ok answer)) output = rw numbers at (outcome-size (ap (λ (n : RunNumbers). n.status) numbers)) in
      (size.some, size.fit)
