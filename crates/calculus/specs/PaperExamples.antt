-- The eight questions of document 000, section 4.1, as trees, and small tables to ask them of.
-- Schema: emp (name, salary, manager, shop), sales (shop, product, quantity), supply (company, shop, product, quantity), class (product, type), loc (shop, floor).
use Rattle.std.specs.Prelude.{[], ◌∷◌, ℕ, get_or}
use Rattle.relations.specs.Values.{Rows, Tables}
use Rattle.relations.specs.Comparison.{Operator, equal, not_equal, less}
use Rattle.relations.specs.Columns.{attribute, constant}
use Rattle.calculus.specs.Question.{fixed, of_variable, compare, whole_row, one_attribute, Range, table, alpha, no_more, on_condition, Condition, atom, condition_and, condition_or, for_some, for_every}

abbrev pub paper_columns : ℕ → ℕ
paper_columns relation = get_or (4 ∷ 3 ∷ 4 ∷ 2 ∷ 2 ∷ []) relation 0

abbrev emp : Range
emp = table 0

abbrev sales : Range
sales = table 1

abbrev supply : Range
supply = table 2

abbrev class : Range
class = table 3

abbrev loc : Range
loc = table 4

-- the paper's names as numbers: shops toy and shoe, product gun, type a
abbrev pub toy : ℕ
toy = 1

abbrev pub shoe : ℕ
shoe = 2

abbrev pub gun : ℕ
gun = 1

abbrev pub type_a : ℕ
type_a = 1

abbrev emp_rows : Rows
emp_rows = (10 ∷ 50 ∷ 11 ∷ toy ∷ []) ∷ (11 ∷ 40 ∷ 12 ∷ shoe ∷ []) ∷ (12 ∷ 90 ∷ 12 ∷ toy ∷ []) ∷ (13 ∷ 45 ∷ 11 ∷ shoe ∷ []) ∷ []

abbrev sales_rows : Rows
sales_rows = (toy ∷ gun ∷ 5 ∷ []) ∷ (toy ∷ 2 ∷ 7 ∷ []) ∷ (shoe ∷ 3 ∷ 4 ∷ []) ∷ (3 ∷ gun ∷ 2 ∷ []) ∷ (3 ∷ 2 ∷ 1 ∷ []) ∷ (3 ∷ 3 ∷ 9 ∷ []) ∷ []

abbrev supply_rows : Rows
supply_rows = (20 ∷ toy ∷ gun ∷ 5 ∷ []) ∷ (20 ∷ shoe ∷ 3 ∷ 5 ∷ []) ∷ (20 ∷ 3 ∷ 2 ∷ 5 ∷ []) ∷ (21 ∷ toy ∷ gun ∷ 3 ∷ []) ∷ (21 ∷ shoe ∷ 2 ∷ 3 ∷ []) ∷ []

abbrev class_rows : Rows
class_rows = (gun ∷ type_a ∷ []) ∷ (2 ∷ type_a ∷ []) ∷ (3 ∷ 2 ∷ []) ∷ []

abbrev loc_rows : Rows
loc_rows = (toy ∷ 2 ∷ []) ∷ (shoe ∷ 1 ∷ []) ∷ (3 ∷ 2 ∷ []) ∷ []

abbrev pub paper_tables : Tables
paper_tables relation = get_or (emp_rows ∷ sales_rows ∷ supply_rows ∷ class_rows ∷ loc_rows ∷ []) relation []

-- the letters of the paper's variables
abbrev r : ℕ
r = 17

abbrev s : ℕ
s = 18

abbrev t : ℕ
t = 19

abbrev u : ℕ
u = 20

abbrev v : ℕ
v = 21

abbrev w : ℕ
w = 22

abbrev x : ℕ
x = 23

-- variable[attribute] operator constant, and variable[attribute] operator variable[attribute]
abbrev is_constant : ℕ → ℕ → Operator → ℕ → Condition
is_constant variable a operator c = atom (compare variable (attribute a) operator (fixed (constant c)))

abbrev is_attribute : ℕ → ℕ → Operator → ℕ → ℕ → Condition
is_attribute variable a operator other b = atom (compare variable (attribute a) operator (of_variable other (attribute b)))

-- (u[a]): range(u): condition
abbrev ask : ℕ → Range → Condition → Range
ask a range f = alpha (one_attribute u (attribute a) ∷ []) u range no_more (on_condition f)

-- 1. How many guns does the toy shop sell?
abbrev pub example1 : Range
example1 = ask 3 sales (condition_and (is_constant u 1 equal toy) (is_constant u 2 equal gun))

-- 2. What do the shops on floor 2 sell?
abbrev pub example2 : Range
example2 = ask 2 sales (for_some v loc (condition_and (is_attribute v 1 equal u 1) (is_constant v 2 equal 2)))

-- 3. Who earns more than the manager?
abbrev pub example3 : Range
example3 = ask 1 emp (for_some v emp (condition_and (is_attribute v 1 equal u 3) (is_attribute v 2 less u 2)))

-- 4. Who earns more than everyone in the shoe shop?
abbrev pub example4 : Range
example4 = ask 1 emp (for_every v emp (condition_or (is_constant v 4 not_equal shoe) (is_attribute v 2 less u 2)))

-- 5. Which companies supply every product?
abbrev pub example5 : Range
example5 = ask 1 supply (for_every v class (for_some w supply (condition_and (is_attribute w 1 equal u 1) (is_attribute w 3 equal v 1))))

-- 6. Which companies supply every product of type a to shops on floor 2?
abbrev pub example6 : Range
example6 = ask 1 supply (for_every v (alpha (whole_row t ∷ []) t class no_more (on_condition (is_constant t 2 equal type_a))) (for_some w (alpha (whole_row s ∷ []) s supply no_more (on_condition (for_some r loc (condition_and (is_attribute r 1 equal s 2) (is_constant r 2 equal 2))))) (condition_and (is_attribute w 1 equal u 1) (is_attribute w 3 equal v 1))))

-- 7. On which floors is a shop that sells every product?
abbrev pub example7 : Range
example7 = ask 2 loc (for_every v class (for_some w sales (condition_and (is_attribute w 1 equal u 1) (is_attribute w 2 equal v 1))))

-- 8. On which floors does every shop sell a product of type a?
abbrev pub example8 : Range
example8 = ask 2 loc (for_every v loc (condition_or (is_attribute v 2 not_equal u 2) (for_some w sales (condition_and (is_attribute w 1 equal v 1) (for_some x class (condition_and (is_attribute x 1 equal w 2) (is_constant x 2 equal type_a)))))))
