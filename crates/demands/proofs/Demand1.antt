-- Demand 1: read, write, translate, run and answer leave what document 01's table of refusals says, line by line in its order. Assumes nothing.
use Prim.Native.Nat.{ℕ, ◌≤◌}
use mathlib.Core.Path.{◌≡◌, refl, sym, ap, ◌∙◌}
use mathlib.Core.Bool.{true, false}
use mathlib.Core.List.{List, [], ◌∷◌, ◌++◌}
use native.Mathlib.Omega.{arith}
use lib.ListN.{length}
use lib.Seq.{sets}
use borrow.Author.Tests.{ltb-false, not-false}
use Rattle.std.specs.Prelude.{Ok}
use Rattle.relations.specs.Lists.{flat}
use Rattle.relations.specs.PlanWords.{node_words}
use Rattle.catalogue.specs.Judging.{catalogue_ok, tables_ok}
use Rattle.judgements.specs.Faults.{judged_question}
use Rattle.judgements.proofs.FaultsDecide.{faults_accept_exactly}
use Rattle.catalogue.proofs.TableLaws.{known_columns}
use Rattle.plan_reading.proofs.PlanTheorem.{judged_exactly}
use Rattle.translation.specs.TranslateCall.{plan_buffer_words, plan_of, unwritten, written, translate_outcome}
use Rattle.running.specs.RunCall.{cleared, answered}
use Rattle.desk.specs.AnswerCall.{AnswerOutcome, plan_ran, translated_outcome, answer_outcome}
use Rattle.demands.specs.Refusals.{Line, outcome_by, wrong_count, illegal_plan, wrong_tables, short_plan, question_lines, running_lines, answer_lines}
use Rattle.demands.specs.Demands.{refused_run, refused_answer, NoneGiven, AnswerDemand, Demand1, OneOutcome}
use Rattle.desk.proofs.PlansLegal.{plan-legal}
use Rattle.demands.proofs.PlansRight.{catalogue_ok_lem}
use Rattle.demands.proofs.PlanWritten.{words_judged}
use Rattle.demands.proofs.AnswerLaws.{written_ran}
use Rattle.demands.proofs.LineLaws.{outcome_of, outcome-behind, not_refused, answered-exactly}
use Rattle.demands.proofs.TranslateTable.{accepted_by_lines, translate-table, translate_demand}
use Rattle.demands.proofs.RunTable.{ran_lines, run_demand}
use Rattle.demands.proofs.TextTable.{read_demand, write_demand}

module _ (catalogue tables question : List ℕ) (mode : ℕ) (plan work output : List ℕ) where
  -- the lines before a plan is written
  abbrev front_lines : List Line
  front_lines = wrong_tables catalogue tables ∷ wrong_count question ∷ short_plan plan ∷ question_lines question catalogue

  abbrev refusal : (status place : ℕ) → AnswerOutcome
  refusal = refused_answer plan (sets plan 0 (flat node_words (plan_of catalogue question mode))) work output

  abbrev success : AnswerOutcome
  success = plan_ran (written catalogue question mode plan) (answered catalogue tables (plan_of catalogue question mode) (cleared work) output)

  -- and what they leave
  module _ (none : NoneGiven front_lines) where
    tables-good : tables_ok catalogue tables ≡ true
    tables-good = not-false (tables_ok catalogue tables) none.0

    accepted : judged_question catalogue question ≡ Ok tt
    accepted = accepted_by_lines catalogue question (none.1.0, none.1.1.1)

    long : plan_buffer_words ≤ length plan
    long = ltb-false (length plan) plan_buffer_words none.1.1.0

    -- 9 is not given
    legal : (illegal_plan catalogue (flat node_words (plan_of catalogue question mode))).given ≡ false
    legal = rw (words_judged catalogue (plan_of catalogue question mode) (plan-legal catalogue question (catalogue_ok_lem catalogue tables tables-good) accepted mode))

    ran : translated_outcome catalogue tables question mode plan work output (written catalogue question mode plan)
        ≡ outcome_by (running_lines catalogue tables (plan_of catalogue question mode) work output) refusal success
    ran =
        written_ran catalogue tables question mode plan work output tables-good accepted long
        ∙ ap (plan_ran (written catalogue question mode plan)) (ran_lines catalogue tables (plan_of catalogue question mode) work output)
        ∙ outcome_of (plan_ran (written catalogue question mode plan)) (running_lines catalogue tables (plan_of catalogue question mode) work output) (refused_run work output) (answered catalogue tables (plan_of catalogue question mode) (cleared work) output)

  translated_lines : answer_outcome catalogue tables question mode plan work output ≡ outcome_by front_lines refusal (translated_outcome catalogue tables question mode plan work output (written catalogue question mode plan))
  unfolding answer_outcome
  translated_lines =
      outcome-behind (wrong_tables catalogue tables ∷ []) refusal (translated_outcome catalogue tables question mode plan work output (translate_outcome catalogue question mode plan)) _
      (λ none. translated (catalogue_ok_lem catalogue tables (not-false (tables_ok catalogue tables) none.0)))
    where
      translated : catalogue_ok catalogue ≡ true → translated_outcome catalogue tables question mode plan work output (translate_outcome catalogue question mode plan)
          ≡ outcome_by (wrong_count question ∷ short_plan plan ∷ question_lines question catalogue) refusal (translated_outcome catalogue tables question mode plan work output (written catalogue question mode plan))
      translated good =
          ap (translated_outcome catalogue tables question mode plan work output) (rw good at (translate-table catalogue question mode plan))
          ∙ outcome_of (translated_outcome catalogue tables question mode plan work output) (wrong_count question ∷ short_plan plan ∷ question_lines question catalogue) (unwritten catalogue question mode plan) (written catalogue question mode plan)

  -- the table without 9, which is never given
  without_9 : answer_outcome catalogue tables question mode plan work output ≡ outcome_by (front_lines ++ running_lines catalogue tables (plan_of catalogue question mode) work output) refusal success
  without_9 = translated_lines ∙ outcome-behind front_lines refusal (translated_outcome catalogue tables question mode plan work output (written catalogue question mode plan)) (outcome_by (running_lines catalogue tables (plan_of catalogue question mode) work output) refusal success) (λ none. ran none)

  answer-table : answer_outcome catalogue tables question mode plan work output ≡ outcome_by (answer_lines catalogue tables question mode plan work output) refusal success
  answer-table =
      without_9
      ∙ outcome-behind front_lines refusal (outcome_by (running_lines catalogue tables (plan_of catalogue question mode) work output) refusal success)
      (outcome_by (illegal_plan catalogue (flat node_words (plan_of catalogue question mode)) ∷ running_lines catalogue tables (plan_of catalogue question mode) work output) refusal success)
      (λ none. rw (legal none))

  pub answer_demand : AnswerDemand catalogue tables question mode plan work output
  answer_demand =
      record {
        table = answer-table;
        exactly = rw answer-table (answered-exactly (λ (left : AnswerOutcome). left.numbers.status) refusal (λ number place. refl) success (answer_lines catalogue tables question mode plan work output) refl refl);
        never9 = λ h. never (not_refused (λ (left : AnswerOutcome). left.numbers.status) refusal (λ number place. refl) success 9 (front_lines ++ running_lines catalogue tables (plan_of catalogue question mode) work output) refl (rw without_9 at h)).1;
      }
    where
      never : ◌≡◌ {A = ℕ} 0 9 → ⊥
      never h = omega arith

pub demand_1 : Demand1
demand_1 =
    record {
      accepting = λ catalogue question ok. faults_accept_exactly catalogue question (known_columns catalogue ok);
      judging = judged_exactly;
      reading = read_demand;
      writing = write_demand;
      translating = translate_demand;
      running = run_demand;
      answering = answer_demand;
    }

pub one_outcome : OneOutcome
one_outcome =
    record {
      of_translate = λ catalogue question mode plan one other p q. p ∙ sym q;
      of_run = λ catalogue tables plan work output one other p q. p ∙ sym q;
      of_answer = λ catalogue tables question mode plan work output one other p q. p ∙ sym q;
    }
