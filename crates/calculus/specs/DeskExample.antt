-- The question of document 01's bundle as a tree, and its tables: who was there on every ban day?
use Rattle.std.specs.Prelude.{Bool, [], ◌∷◌, ℕ, get_or, length}
use Rattle.relations.specs.Values.{Rows, Tables}
use Rattle.relations.specs.Comparison.{equal}
use Rattle.relations.specs.Columns.{attribute}
use Rattle.relations.specs.Plan.{answer, heavy, room}
use Rattle.calculus.specs.Question.{of_variable, compare, one_attribute, Range, table, alpha, no_more, on_condition, atom, condition_and, for_some, for_every, for_at_least}
use Rattle.calculus.specs.Translation.{translate}

abbrev pub desk_columns : ℕ → ℕ
desk_columns relation = get_or (2 ∷ 1 ∷ 2 ∷ []) relation 0

abbrev pub relation0 : Rows
relation0 = (4 ∷ 11 ∷ []) ∷ (4 ∷ 12 ∷ []) ∷ (7 ∷ 11 ∷ []) ∷ (9 ∷ 12 ∷ []) ∷ (9 ∷ 11 ∷ []) ∷ []

abbrev pub relation2 : Rows
relation2 = (4 ∷ 1 ∷ []) ∷ (7 ∷ 1 ∷ []) ∷ (9 ∷ 2 ∷ []) ∷ (13 ∷ 2 ∷ []) ∷ []

abbrev pub ban_days : Rows
ban_days = (11 ∷ []) ∷ (12 ∷ []) ∷ []

-- relation 1 holds the ban days given
abbrev pub desk_tables : Rows → Tables
desk_tables days relation = get_or (relation0 ∷ days ∷ relation2 ∷ []) relation []

-- (u[1]): relation 2 (u): every v of relation 1, some w of relation 0 (w[1] = u[1] and w[2] = v[1])
abbrev pub desk_question : Range
desk_question = alpha (one_attribute 20 (attribute 1) ∷ []) 20 (table 2) no_more (on_condition (for_every 21 (table 1) (for_some 22 (table 0) (condition_and (atom (compare 22 (attribute 1) equal (of_variable 20 (attribute 1)))) (atom (compare 22 (attribute 2) equal (of_variable 21 (attribute 1))))))))

-- what an answer prints
pub record Outcome : Type 0 where
  pub nodes : ℕ
  pub heavy_ones : ℕ
  pub words : ℕ
  pub rows : Rows

abbrev pub outcome : Bool → Rows → Outcome
outcome short days =
    let plan = translate desk_columns short desk_question in
    record { nodes = length plan; heavy_ones = heavy plan; words = room desk_columns (desk_tables days) plan; rows = answer (desk_tables days) plan }

-- document 02, "At least so many": (u[1]): relation 2 (u): at least so many w of relation 0 (w[1] = u[1])
abbrev pub count_question : ℕ → Range
count_question least = alpha (one_attribute 20 (attribute 1) ∷ []) 20 (table 2) no_more (on_condition (for_at_least 22 (table 0) (atom (compare 22 (attribute 1) equal (of_variable 20 (attribute 1)))) least))

abbrev pub count_outcome : Bool → ℕ → Outcome
count_outcome short least =
    let plan = translate desk_columns short (count_question least) in
    record { nodes = length plan; heavy_ones = heavy plan; words = room desk_columns (desk_tables ban_days) plan; rows = answer (desk_tables ban_days) plan }
