-- Document 01, "Translation" and "Refusal numbers": what a call of `translate` leaves: its numbers and the plan buffer afterwards. Assumes nothing.
use Rattle.std.specs.Prelude.{ℕ, ◌*◌, List, Bool, cond, not, length, ltb, eqb, Result, Ok, Err}
use Rattle.std.proofs.lemmas.List.Edits.{sets}
use Rattle.relations.specs.Limits.{plan_node_limit, plan_node_words}
use Rattle.relations.specs.Lists.{flat}
use Rattle.relations.specs.Nodes.{Node}
use Rattle.relations.specs.Plan.{heavy}
use Rattle.relations.specs.PlanWords.{node_words}
use Rattle.calculus.specs.Translation as calculus
use Rattle.catalogue.specs.Judging.{catalogue_ok}
use Rattle.catalogue.specs.Stored.{columns_of}
use Rattle.question.specs.Trees.{question_of}
use Rattle.question.specs.Judgement.{Judgement, count_ok, status_of, refused_at}
use Rattle.judgements.specs.Faults.{judged_question}
use Rattle.translation.specs.declared.call.Translated.{Translated}
use Rattle.translation.specs.declared.call.NotTranslated.{NotTranslated}
use Rattle.translation.specs.declared.call.NotTranslated.TheVariants.{WrongCatalogue, ShortPlan, WrongQuestion}

-- "Results after status and place: translate nodes, heavy"
pub record TranslateNumbers : Type 0 where
  pub status : ℕ
  pub place : ℕ
  pub nodes : ℕ
  pub heavy : ℕ

-- "A refusal's other result numbers are 0"
abbrev pub translate_refusal : (status place : ℕ) → TranslateNumbers
translate_refusal status place = record { status = status; place = place; nodes = 0; heavy = 0 }

-- the numbers of each case of the answer
abbrev pub translate_status : NotTranslated → ℕ
translate_status WrongCatalogue = 7
translate_status ShortPlan = 8
translate_status (WrongQuestion refusal) = status_of refusal

abbrev pub translate_place : NotTranslated → ℕ
translate_place WrongCatalogue = 0
translate_place ShortPlan = 0
translate_place (WrongQuestion refusal) = refused_at refusal

abbrev pub written_numbers : Translated → TranslateNumbers
written_numbers translated = record { status = 0; place = 0; nodes = translated.nodes; heavy = translated.heavy }

abbrev pub translate_numbers : Result Translated NotTranslated → TranslateNumbers
translate_numbers (Ok translated) = written_numbers translated
translate_numbers (Err refusal) = translate_refusal (translate_status refusal) (translate_place refusal)

pub record TranslateOutcome : Type 0 where
  pub numbers : TranslateNumbers
  pub plan : List ℕ

-- mode 0 is plain, every other short
abbrev pub is_short : ℕ → Bool
is_short mode = not (eqb mode 0)

-- the most words that a plan has
abbrev pub plan_buffer_words : ℕ
plan_buffer_words = plan_node_limit * plan_node_words

-- the plan that the rules name
abbrev pub plan_of : (catalogue question : List ℕ) (mode : ℕ) → List Node
plan_of catalogue question mode = calculus.translate (columns_of catalogue) (is_short mode) (question_of question)

module _ (catalogue question : List ℕ) (mode : ℕ) (plan : List ℕ) where
  -- a refusal changes nothing
  abbrev pub unwritten : (status place : ℕ) → TranslateOutcome
  unwritten status place = record { numbers = translate_refusal status place; plan = plan }

  -- "Success writes what it makes at the front of its buffer; what is behind stays."
  abbrev pub written : TranslateOutcome
  written =
      record {
        numbers = record { status = 0; place = 0; nodes = length (plan_of catalogue question mode); heavy = heavy (plan_of catalogue question mode) };
        plan = sets plan 0 (flat node_words (plan_of catalogue question mode));
      }

  abbrev pub judged_outcome : Judgement → TranslateOutcome
  judged_outcome (Err refusal) = unwritten (status_of refusal) (refused_at refusal)
  judged_outcome (Ok accepted) = written

  -- "1, 8, 2, 3, 4, 5, 6"
  abbrev pub behind_catalogue : TranslateOutcome
  behind_catalogue =
      cond (not (count_ok question)) (unwritten 1 0)
      (cond (ltb (length plan) plan_buffer_words) (unwritten 8 0)
      (judged_outcome (judged_question catalogue question)))

  -- "Translate: 7 (pairs and their total of words only)", then these
  unfoldable pub translate_outcome : TranslateOutcome
  translate_outcome = cond (not (catalogue_ok catalogue)) (unwritten 7 0) behind_catalogue
