-- An accepted question's two plans: right, as wide as the question, and the shortened one no heavier. Assumes nothing.
use Prim.Native.Nat.{ℕ, ◌+◌, ◌-◌, ◌≤◌, pred}
use mathlib.Core.Path.{◌≡◌, refl, ap, ◌∙◌}
use mathlib.Core.Bool.{Bool, true, false}
use mathlib.Core.List.{List, []}
use native.Mathlib.Omega.{arith}
use lib.Dec.{eqb}
use lib.ListN.{length}
use Rattle.std.specs.Prelude.{Ok}
use Rattle.relations.specs.Nodes.{Node}
use Rattle.relations.specs.Values.{Wide}
use Rattle.relations.specs.Plan.{heavy, widths, width_at}
use Rattle.relations.proofs.BoolLaws.{and_left}
use Rattle.calculus.specs.Claims.{TranslationRight}
use Rattle.calculus.specs.Translation.{translate}
use Rattle.calculus.proofs.LegalTheorem.{range-fits}
use Rattle.calculus.proofs.RangeValues.{range-good}
use Rattle.catalogue.specs.Judging.{catalogue_words, catalogue_ok, tables_ok}
use Rattle.judgements.specs.Accepted.{QuestionRight}
use Rattle.judgements.specs.Faults.{judged_question}
use Rattle.question.specs.Trees.{question_of}
use Rattle.catalogue.specs.Stored.{relations_of, columns_of, stored_tables}
use Rattle.running.specs.RunCall.{answer_rows, answer_width}
use Rattle.catalogue.proofs.TableLaws.{tables-wide}
use Rattle.desk.proofs.PlansLegal.{question-right, translated_right}
use Rattle.demands.specs.Demands.{meaning_rows, meaning_width}

-- both plans, short or not
pub record PlansRight (catalogue tables question : List ℕ) : Type 0 where
  pub rows : (short : Bool) → answer_rows catalogue tables (translate (columns_of catalogue) short (question_of question)) ≡ meaning_rows catalogue tables question
  pub width : (short : Bool) → answer_width catalogue tables (translate (columns_of catalogue) short (question_of question)) ≡ meaning_width catalogue question
  pub lighter : heavy (translate (columns_of catalogue) true (question_of question)) ≤ heavy (translate (columns_of catalogue) false (question_of question))

pub catalogue_ok_lem : (catalogue tables : List ℕ) → tables_ok catalogue tables ≡ true → catalogue_ok catalogue ≡ true
catalogue_ok_lem catalogue tables ok = and_left (catalogue_ok catalogue) (eqb (length tables) (catalogue_words catalogue)) ok

module _ (catalogue tables question : List ℕ) (ok : tables_ok catalogue tables ≡ true) (accepted : judged_question catalogue question ≡ Ok tt) where
  right : QuestionRight catalogue question
  right = question-right catalogue question (catalogue_ok_lem catalogue tables ok) accepted

  translated : TranslationRight (columns_of catalogue) (relations_of catalogue) (question_of question)
  translated = translated_right catalogue question (catalogue_ok_lem catalogue tables ok) accepted

  -- the meaning's rows are as wide as the question
  pub meaning_wide : Wide (meaning_width catalogue question) (meaning_rows catalogue tables question)
  meaning_wide = (range-good (stored_tables catalogue tables) (columns_of catalogue) (relations_of catalogue) (tables-wide catalogue tables ok) (question_of question) right.good).1

  pub plans_right : PlansRight catalogue tables question
  plans_right = record { rows = rows; width = width; lighter = translated.lighter }
    where
      rows : (short : Bool) → answer_rows catalogue tables (translate (columns_of catalogue) short (question_of question)) ≡ meaning_rows catalogue tables question
      rows true = translated.short_meaning (stored_tables catalogue tables) (tables-wide catalogue tables ok)
      rows false = translated.plain_meaning (stored_tables catalogue tables) (tables-wide catalogue tables ok)

      width : (short : Bool) → answer_width catalogue tables (translate (columns_of catalogue) short (question_of question)) ≡ meaning_width catalogue question
      width short =
          let plan : List Node = translate (columns_of catalogue) short (question_of question) in
          let last : length plan - 1 ≡ pred (0 + length plan) = omega arith in
          ap (width_at (widths (columns_of catalogue) plan)) last ∙ (range-fits (columns_of catalogue) (relations_of catalogue) short (question_of question) right.good [] 0 refl).2
