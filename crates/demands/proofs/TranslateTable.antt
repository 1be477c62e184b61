-- Demand 1 of translate: it leaves what the first of its lines says. Assumes nothing.
use Prim.Native.Nat.{ℕ}
use mathlib.Core.Path.{◌≡◌, refl, ap, ◌∙◌}
use mathlib.Core.Bool.{false, not}
use mathlib.Core.List.{List, [], ◌∷◌}
use Rattle.nodes.specs.Nodes.{node_at}
use Rattle.judgements.specs.Faults.{judged_question}
use Rattle.question.specs.Judgement.{Judgement, count_ok, is_alpha, last_node}
use Rattle.question.specs.declared.judgement.Refusal.TheVariants.{WrongCount, BrokenForm, NotATree, UnknownRelation, Unbound, Unfit}
use Rattle.std.specs.Prelude.{Ok, Err, cond, eqb}
use Rattle.translation.specs.TranslateCall.{TranslateOutcome, unwritten, written, judged_outcome as judgedTranslation, translate_outcome}
use Rattle.demands.specs.Refusals.{outcome_by, wrong_count, wrong_catalogue, short_plan, question_lines, translate_lines}
use Rattle.demands.specs.Demands.{NoneGiven, TranslateDemand}
use Rattle.demands.proofs.LineLaws.{turned, none_answered, outcome_of, outcome-behind, answered-exactly}

-- the refusal of a line's number
abbrev refused_by : (number place : ℕ) → Judgement
refused_by number place =
    cond (eqb number 1) (Err WrongCount)
    (cond (eqb number 2) (Err (BrokenForm place))
    (cond (eqb number 3) (Err (NotATree place))
    (cond (eqb number 4) (Err (UnknownRelation place))
    (cond (eqb number 5) (Err (Unbound place))
    (Err (Unfit place))))))

-- A question's judgement is its lines'.
module _ (catalogue question : List ℕ) where
  by_lines : judged_question catalogue question ≡ outcome_by (wrong_count question ∷ question_lines question catalogue) refused_by (Ok tt)
  unfolding judged_question
  by_lines = rw (turned {A = Judgement} (count_ok question) _ (Err WrongCount), turned {A = Judgement} (is_alpha (node_at question (last_node question)).form) _ (Err (NotATree (last_node question))))

  pub accepted_by_lines : NoneGiven (wrong_count question ∷ question_lines question catalogue) → judged_question catalogue question ≡ Ok tt
  accepted_by_lines none = by_lines ∙ none_answered (wrong_count question ∷ question_lines question catalogue) refused_by (Ok tt) none

module _ (catalogue question : List ℕ) (mode : ℕ) (plan : List ℕ) where
  pub translate-table : translate_outcome catalogue question mode plan ≡ outcome_by (translate_lines catalogue question plan) (unwritten catalogue question mode plan) (written catalogue question mode plan)
  unfolding translate_outcome
  translate-table = outcome-behind (wrong_catalogue catalogue ∷ wrong_count question ∷ short_plan plan ∷ []) (unwritten catalogue question mode plan) (judgedTranslation catalogue question mode plan (judged_question catalogue question)) _ (λ none. accepted_or_not none.1.0)
    where
      accepted_or_not : not (count_ok question) ≡ false
          → judgedTranslation catalogue question mode plan (judged_question catalogue question) ≡ outcome_by (question_lines question catalogue) (unwritten catalogue question mode plan) (written catalogue question mode plan)
      accepted_or_not count =
          ap (judgedTranslation catalogue question mode plan) (rw count at (by_lines catalogue question))
          ∙ outcome_of (judgedTranslation catalogue question mode plan) (question_lines question catalogue) refused_by (Ok tt)

  pub translate_demand : TranslateDemand catalogue question mode plan
  translate_demand =
      record {
        table = translate-table;
        exactly = rw translate-table (answered-exactly (λ (left : TranslateOutcome). left.numbers.status) (unwritten catalogue question mode plan) (λ number place. refl) (written catalogue question mode plan) (translate_lines catalogue question plan) refl refl);
      }
