-- Attribute numbers and constants. Document 01, "The question": "attribute numbers and constants are kept apart and neither stands for the other".
use Rattle.std.specs.Prelude.{Bool, cond, List, [], ◌∷◌, map, ℕ, zero, suc, eqb, get_or}
use Rattle.relations.specs.Lists.{any, all}
use Rattle.relations.specs.Rows.{Row}
use Rattle.relations.specs.Comparison.{Operator, holds}

-- an attribute's number, from 1
pub record Attribute : Type 0 where
  pub number : ℕ

pub record Constant : Type 0 where
  pub value : ℕ

abbrev pub attribute : ℕ → Attribute
attribute n = record { number = n }

abbrev pub constant : ℕ → Constant
constant n = record { value = n }

-- a comparison of a left row's attribute with a right row's (operations 5, 6, 7)
pub record Triple : Type 0 where
  pub left : Attribute
  pub operator : Operator
  pub right : Attribute

-- a left attribute that must equal a right one (operation 8)
pub record Pair : Type 0 where
  pub left : Attribute
  pub right : Attribute

-- the word at a column counted from 1
abbrev pub word_at : Row → ℕ → ℕ
word_at row zero = 0
word_at row (suc place) = get_or row place 0

-- t[#a] of document 000
abbrev pub column : Row → Attribute → ℕ
column row a = word_at row a.number

-- t[A] of document 000: a project's list may repeat an attribute
abbrev pub pick : List Attribute → Row → Row
pick attributes row = map (λ a. column row a) attributes

-- t[F]s = 1 of document 000: the two rows meet every triple
abbrev pub meets : List Triple → Row → Row → Bool
meets triples left right = all (λ t. holds t.operator (column left t.left) (column right t.right)) triples

-- the left row equals the right row on every pair
abbrev pub equal_on : List Pair → Row → Row → Bool
equal_on pairs left right = all (λ p. eqb (column left p.left) (column right p.right)) pairs

abbrev pub listed : ℕ → List ℕ → Bool
listed number numbers = any (eqb number) numbers

-- the columns whose numbers are not listed; the row's first column has the number given
abbrev pub columns_not_listed : ℕ → List ℕ → Row → Row
columns_not_listed number numbers [] = []
columns_not_listed number numbers (x ∷ xs) = cond (listed number numbers) (columns_not_listed (suc number) numbers xs) (x ∷ columns_not_listed (suc number) numbers xs)

abbrev pub left_numbers : List Pair → List ℕ
left_numbers pairs = map (λ p. p.left.number) pairs

-- t[~A] of document 000: the columns that are no pair's left attribute
abbrev pub remaining : List Pair → Row → Row
remaining pairs row = columns_not_listed 1 (left_numbers pairs) row
