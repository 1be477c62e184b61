-- P1, P2 and P3 of document 01, on the tree of its bundle; the tree is in good form, so the theorems hold of it.
use mathlib.Core.Path.{◌≡◌, refl}
use mathlib.Core.Bool.{true, false}
use mathlib.Core.List.{[], ◌∷◌}
use native.Mathlib.Omega.{arith}
use Rattle.relations.specs.Machine.{run}
use Rattle.calculus.specs.Claims.{TranslationRight}
use Rattle.calculus.specs.DeskExample.{desk_columns, ban_days, desk_tables, desk_question, outcome, count_question, count_outcome}
use Rattle.calculus.specs.Form.{width_of_range, GoodRange}
use Rattle.calculus.specs.Meaning.{range_rows}
use Rattle.calculus.specs.Translation.{translate_range}
use Rattle.calculus.proofs.Theorems.{translation_right}

pub p1 : outcome true ban_days ≡ record { nodes = 8; heavy_ones = 2; words = 32; rows = (4 ∷ []) ∷ (9 ∷ []) ∷ [] }
unfolding translate_range width_of_range run
p1 = refl

pub p2 : outcome false ban_days ≡ record { nodes = 12; heavy_ones = 4; words = 353; rows = (4 ∷ []) ∷ (9 ∷ []) ∷ [] }
unfolding translate_range width_of_range run
p2 = refl

-- with no ban days everyone passes: 13 is not lost
pub p3 : outcome true [] ≡ record { nodes = 8; heavy_ones = 2; words = 47; rows = (4 ∷ []) ∷ (7 ∷ []) ∷ (9 ∷ []) ∷ (13 ∷ []) ∷ [] }
unfolding translate_range width_of_range run
p3 = refl

pub question_meaning : range_rows (desk_tables ban_days) desk_question ≡ (4 ∷ []) ∷ (9 ∷ []) ∷ []
unfolding range_rows
question_meaning = refl

pub question-good : GoodRange desk_columns 3 desk_question
unfolding GoodRange width_of_range
question-good = (omega arith, tt, ((refl, tt), omega arith, ((refl, (refl, tt)), omega arith, (((omega arith, omega arith), (omega arith, omega arith)), ((omega arith, omega arith), (omega arith, omega arith))), omega arith), omega arith), ((omega arith, omega arith), tt), omega arith, omega arith, omega arith)

pub question-right : TranslationRight desk_columns 3 desk_question
question-right = translation_right desk_columns 3 desk_question question-good

-- who was there on two days: 4 and 9; on three: no one. A load, a load, a product, a select, operation 13, a project, in both modes
pub there-twice : (count_outcome true 2 ≡ record { nodes = 6; heavy_ones = 2; words = 124; rows = (4 ∷ []) ∷ (9 ∷ []) ∷ [] }) × (count_outcome false 2 ≡ count_outcome true 2) × ((count_outcome true 3).rows ≡ [])
unfolding translate_range width_of_range run
there-twice = (refl, refl, refl)

pub there-twice_meaning : range_rows (desk_tables ban_days) (count_question 2) ≡ (4 ∷ []) ∷ (9 ∷ []) ∷ []
unfolding range_rows
there-twice_meaning = refl
