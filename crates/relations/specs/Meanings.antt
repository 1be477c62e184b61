-- The published meaning of each operation: which rows it has. Document 000, section 2.2; document 01, "The plan", for load and for division.
-- Each is the test of 000's set { row | .. }: "any (λ t. ..) left" is "some t of e1", "all (λ r. ..) right" is "every r of e2".
use Rattle.std.specs.Prelude.{Bool, not, ◌&&◌, ◌||◌, List, ◌++◌, ℕ, leb}
use Rattle.relations.specs.Lists.{any, all, how_many}
use Rattle.relations.specs.Rows.{Row, same_row, begins}
use Rattle.relations.specs.Values.{Rows, member}
use Rattle.relations.specs.Comparison.{Operator, holds}
use Rattle.relations.specs.Columns.{Attribute, Constant, Triple, Pair, column, pick, meets, equal_on, remaining}

-- 1: "repeated stored rows count once"
abbrev pub load_has : Rows → Row → Bool
load_has stored row = member row stored

-- 2: { t[A] | t ∈ e1 }
abbrev pub project_has : List Attribute → Rows → Row → Bool
project_has attributes left row = any (λ t. same_row row (pick attributes t)) left

-- 3 and 4: { t | t ∈ e1 ∧ t[F] = 1 }
abbrev pub select_constant_has : Attribute → Operator → Constant → Rows → Row → Bool
select_constant_has a operator c left row = member row left && holds operator (column row a) c.value

abbrev pub select_attribute_has : Attribute → Operator → Attribute → Rows → Row → Bool
select_attribute_has a operator b left row = member row left && holds operator (column row a) (column row b)

-- 5: { t ∘ s | t ∈ e1 ∧ s ∈ e2 ∧ t[F]s = 1 }
abbrev pub join_has : List Triple → Rows → Rows → Row → Bool
join_has triples left right row = any (λ t. any (λ s. meets triples t s && same_row row (t ++ s)) right) left

-- 6: { t | t ∈ e1 ∧ { s | s ∈ e2 ∧ t[F]s = 1 } ≠ ∅ }
abbrev pub semijoin_has : List Triple → Rows → Rows → Row → Bool
semijoin_has triples left right row = member row left && any (meets triples row) right

-- 7: { t | t ∈ e1 ∧ { s | s ∈ e2 ∧ t[F]s = 1 } = ∅ }
abbrev pub antijoin_has : List Triple → Rows → Rows → Row → Bool
antijoin_has triples left right row = member row left && not (any (meets triples row) right)

-- a left row that agrees with t on the remaining columns and equals r on the pairs
abbrev pub partnered : List Pair → Rows → Row → Row → Bool
partnered pairs left t r = any (λ l. same_row (remaining pairs l) (remaining pairs t) && equal_on pairs l r) left

-- 8, as document 01 repairs it: "t's remaining columns, for t in left, such that for each right row r some left row agrees with t on the remaining columns and equals r on the pairs"
abbrev pub divide_has : List Pair → Rows → Rows → Row → Bool
divide_has pairs left right row = any (λ t. all (partnered pairs left t) right && same_row row (remaining pairs t)) left

-- 9: { t | t ∈ e1 ∨ t ∈ e2 }
abbrev pub unite_has : Rows → Rows → Row → Bool
unite_has left right row = member row left || member row right

-- 10: { t | t ∈ e1 ∧ t ∈ e2 }
abbrev pub intersect_has : Rows → Rows → Row → Bool
intersect_has left right row = member row left && member row right

-- 11: { t | t ∈ e1 ∧ t ∉ e2 }
abbrev pub subtract_has : Rows → Rows → Row → Bool
subtract_has left right row = member row left && not (member row right)

-- 13: { t | t ∈ e1 ∧ #{ s | s ∈ e2 ∧ t begins s } ≥ least }; a value has each of its rows once, so that different rows are counted
abbrev pub tally_has : ℕ → Rows → Rows → Row → Bool
tally_has least left right row = member row left && leb least (how_many (begins row) right)
