-- The shortened plans of the eight questions of document 000, section 4.1, and their answers on small tables.
-- 2, 3 and 4 are the paper's own plans; 1 has two selects for its one; 5, 6 and 7 keep the semijoin, the care for an empty divisor and the union of S5; 8 is plain, since its or-tree holds a "some".
use mathlib.Core.Path.{◌≡◌, refl}
use mathlib.Core.Bool.{true}
use mathlib.Core.List.{List, [], ◌∷◌}
use Prim.Native.Nat.{ℕ}
use Rattle.relations.specs.Columns.{Attribute, attribute, constant, Triple, Pair}
use Rattle.relations.specs.Comparison.{Operator, equal, not_equal, at_most, greater}
use Rattle.relations.specs.Machine.{run}
use Rattle.relations.specs.Nodes.{Node, load, project, select_constant, select_attribute, join, semijoin, antijoin, divide, unite, subtract}
use Rattle.relations.specs.Plan.{answer}
use Rattle.relations.specs.Values.{Rows}
use Rattle.calculus.specs.Form.{width_of_range}
use Rattle.calculus.specs.Meaning.{range_rows}
use Rattle.calculus.specs.PaperExamples.{paper_columns, toy, shoe, gun, type_a, paper_tables, example1, example2, example3, example4, example5, example6, example7, example8}
use Rattle.calculus.specs.Question.{Range}
use Rattle.calculus.specs.Translation.{translate_range, translate}

-- a plan's list entries
abbrev # : ℕ → Attribute
# n = attribute n

abbrev meet : ℕ → Operator → ℕ → Triple
meet a o b = record { left = attribute a; operator = o; right = attribute b }

abbrev same : ℕ → ℕ → Pair
same a b = record { left = attribute a; right = attribute b }

abbrev short : Range → List Node
short question = translate paper_columns true question

-- the answer of the meaning and of the shortened plan
abbrev Answers : Range → Rows → Type 0
Answers question rows = (range_rows paper_tables question ≡ rows) × (answer paper_tables (short question) ≡ rows)

-- sales[#1 = toy][#2 = gun][#3]
pub plan1 : short example1 ≡ load 1 ∷ select_constant 0 (# 1) equal (constant toy) ∷ select_constant 1 (# 2) equal (constant gun) ∷ project 2 (# 3 ∷ []) ∷ []
unfolding translate_range width_of_range
plan1 = refl

pub answer1 : Answers example1 ((5 ∷ []) ∷ [])
unfolding range_rows translate_range width_of_range run
answer1 = (refl, refl)

-- (sales[∃; #1 = #1](loc[#2 = 2]))[#2]
pub plan2 : short example2 ≡ load 1 ∷ load 4 ∷ select_constant 1 (# 2) equal (constant 2) ∷ semijoin 0 2 (meet 1 equal 1 ∷ []) ∷ project 3 (# 2 ∷ []) ∷ []
unfolding translate_range width_of_range
plan2 = refl

pub answer2 : Answers example2 ((1 ∷ []) ∷ (2 ∷ []) ∷ (3 ∷ []) ∷ [])
unfolding range_rows translate_range width_of_range run
answer2 = (refl, refl)

-- (emp[∃; #3 = #1, #2 > #2] emp)[#1]
pub plan3 : short example3 ≡ load 0 ∷ load 0 ∷ semijoin 0 1 (meet 3 equal 1 ∷ meet 2 greater 2 ∷ []) ∷ project 2 (# 1 ∷ []) ∷ []
unfolding translate_range width_of_range
plan3 = refl

pub answer3 : Answers example3 ((10 ∷ []) ∷ (13 ∷ []) ∷ [])
unfolding range_rows translate_range width_of_range run
answer3 = (refl, refl)

-- (emp[~∃; #2 <= #2](emp[#4 = shoe]))[#1]
pub plan4 : short example4 ≡ load 0 ∷ load 0 ∷ select_constant 1 (# 4) equal (constant shoe) ∷ antijoin 0 2 (meet 2 at_most 2 ∷ []) ∷ project 3 (# 1 ∷ []) ∷ []
unfolding translate_range width_of_range
plan4 = refl

pub answer4 : Answers example4 ((10 ∷ []) ∷ (12 ∷ []) ∷ [])
unfolding range_rows translate_range width_of_range run
answer4 = (refl, refl)

-- supply[∃; #1 = #1](supply[#1, #3][(#2)/(#1)] class) [+] supply[~∃;] class, then [#1]
pub plan5 : short example5 ≡ load 2 ∷ load 3 ∷ load 2 ∷ project 2 (# 1 ∷ # 3 ∷ []) ∷ divide 3 1 (same 2 1 ∷ []) ∷ semijoin 0 4 (meet 1 equal 1 ∷ []) ∷ antijoin 0 1 [] ∷ unite 5 6 ∷ project 7 (# 1 ∷ []) ∷ []
unfolding translate_range width_of_range
plan5 = refl

pub answer5 : Answers example5 ((20 ∷ []) ∷ [])
unfolding range_rows translate_range width_of_range run
answer5 = (refl, refl)

pub plan6 : short example6 ≡ load 2 ∷ load 3 ∷ select_constant 1 (# 2) equal (constant type_a) ∷ load 2 ∷ load 4 ∷ select_constant 4 (# 2) equal (constant 2) ∷ semijoin 3 5 (meet 2 equal 1 ∷ []) ∷ project 6 (# 1 ∷ # 3 ∷ []) ∷ divide 7 2 (same 2 1 ∷ []) ∷ semijoin 0 8 (meet 1 equal 1 ∷ []) ∷ antijoin 0 2 [] ∷ unite 9 10 ∷ project 11 (# 1 ∷ []) ∷ []
unfolding translate_range width_of_range
plan6 = refl

pub answer6 : Answers example6 ((20 ∷ []) ∷ [])
unfolding range_rows translate_range width_of_range run
answer6 = (refl, refl)

pub plan7 : short example7 ≡ load 4 ∷ load 3 ∷ load 1 ∷ project 2 (# 1 ∷ # 2 ∷ []) ∷ divide 3 1 (same 2 1 ∷ []) ∷ semijoin 0 4 (meet 1 equal 1 ∷ []) ∷ antijoin 0 1 [] ∷ unite 5 6 ∷ project 7 (# 2 ∷ []) ∷ []
unfolding translate_range width_of_range
plan7 = refl

pub answer7 : Answers example7 ((2 ∷ []) ∷ [])
unfolding range_rows translate_range width_of_range run
answer7 = (refl, refl)

pub plan8 : short example8 ≡ load 4 ∷ load 4 ∷ join 0 1 [] ∷ select_attribute 2 (# 4) not_equal (# 2) ∷ load 1 ∷ join 2 4 [] ∷ select_attribute 5 (# 5) equal (# 3) ∷ load 3 ∷ select_constant 7 (# 2) equal (constant type_a) ∷ semijoin 6 8 (meet 6 equal 1 ∷ []) ∷ project 9 (# 1 ∷ # 2 ∷ # 3 ∷ # 4 ∷ []) ∷ unite 3 10 ∷ subtract 2 11 ∷ project 12 (# 1 ∷ # 2 ∷ []) ∷ subtract 0 13 ∷ project 14 (# 2 ∷ []) ∷ []
unfolding translate_range width_of_range
plan8 = refl

pub answer8 : Answers example8 ((2 ∷ []) ∷ [])
unfolding range_rows translate_range width_of_range run
answer8 = (refl, refl)
