-- What a call of `answer` leaves, case by case of what was asked before. Assumes nothing.
use Prim.Native.Nat.{ℕ, ◌≤◌}
use mathlib.Core.Path.{◌≡◌, ap}
use mathlib.Core.Bool.{true, So}
use mathlib.Core.List.{List}
use lib.ListN.{length}
use borrow.Author.Tests.{le-ltb}
use Rattle.std.specs.Prelude.{Ok}
use Rattle.relations.specs.Lists.{flat}
use Rattle.relations.specs.Nodes.{Node}
use Rattle.relations.specs.Legality.{legal_plan}
use Rattle.relations.specs.PlanWords.{node_words}
use Rattle.catalogue.specs.Judging.{catalogue_ok, tables_ok}
use Rattle.judgements.specs.Faults.{judged_question}
use Rattle.judgements.proofs.FaultsDecide.{accepted-count}
use Rattle.catalogue.specs.Stored.{relations_of, columns_of}
use Rattle.translation.specs.TranslateCall.{plan_buffer_words, plan_of, written, translate_outcome}
use Rattle.running.specs.RunCall.{capacity_of, cleared, fit_within, ran_outcome, run_outcome}
use Rattle.desk.specs.AnswerCall.{plan_ran, translated_outcome, answer_outcome}
use Rattle.desk.proofs.PlansLegal.{plan-legal}
use Rattle.demands.proofs.PlansRight.{catalogue_ok_lem}
use Rattle.demands.proofs.PlanWritten.{words_judged, words_read, words-front}

-- a legal plan's words are run
pub legal_ran : (catalogue tables : List ℕ) → tables_ok catalogue tables ≡ true → (nodes : List Node) → So (legal_plan (columns_of catalogue) (relations_of catalogue) nodes) → (work output : List ℕ)
    → run_outcome catalogue tables (flat node_words nodes) work output ≡ ran_outcome catalogue tables nodes (cleared work) output (fit_within catalogue tables nodes (capacity_of work))
unfolding run_outcome
legal_ran catalogue tables ok nodes legal work output = rw (ok, words_judged catalogue nodes legal, words_read catalogue nodes legal)

-- an accepted question is translated
pub accepted-written : (catalogue question : List ℕ) (mode : ℕ) (plan : List ℕ) → catalogue_ok catalogue ≡ true → judged_question catalogue question ≡ Ok tt → plan_buffer_words ≤ length plan
    → translate_outcome catalogue question mode plan ≡ written catalogue question mode plan
unfolding translate_outcome
accepted-written catalogue question mode plan ok accepted long = rw (ok, accepted-count catalogue question accepted, le-ltb (length plan) plan_buffer_words long, accepted)

module _ (catalogue tables question : List ℕ) (mode : ℕ) (plan work output : List ℕ) where
  -- and its plan is run
  pub written_ran : tables_ok catalogue tables ≡ true → judged_question catalogue question ≡ Ok tt → plan_buffer_words ≤ length plan
      → translated_outcome catalogue tables question mode plan work output (written catalogue question mode plan)
      ≡ plan_ran (written catalogue question mode plan) (ran_outcome catalogue tables (plan_of catalogue question mode) (cleared work) output (fit_within catalogue tables (plan_of catalogue question mode) (capacity_of work)))
  written_ran ok accepted long =
      let legal : So (legal_plan (columns_of catalogue) (relations_of catalogue) (plan_of catalogue question mode)) = plan-legal catalogue question (catalogue_ok_lem catalogue tables ok) accepted mode in
      rw (words-front catalogue (plan_of catalogue question mode) legal plan long)
      (ap (plan_ran (written catalogue question mode plan)) (legal_ran catalogue tables ok (plan_of catalogue question mode) legal work output))

  pub accepted_ran : tables_ok catalogue tables ≡ true → judged_question catalogue question ≡ Ok tt → plan_buffer_words ≤ length plan
      → answer_outcome catalogue tables question mode plan work output
      ≡ plan_ran (written catalogue question mode plan) (ran_outcome catalogue tables (plan_of catalogue question mode) (cleared work) output (fit_within catalogue tables (plan_of catalogue question mode) (capacity_of work)))
  unfolding answer_outcome
  accepted_ran ok accepted long = rw (ok, accepted-written catalogue question mode plan (catalogue_ok_lem catalogue tables ok) accepted long) (written_ran ok accepted long)
