-- Scopes: the variables whose rows stand side by side in P's columns, and where each attribute stands.
use Rattle.std.specs.Prelude.{cond, List, [], ◌∷◌, ◌++◌, ℕ, zero, suc, ◌+◌, eqb, take, drop}
use Rattle.relations.specs.Rows.{Row}
use Rattle.relations.specs.Columns.{Attribute, attribute}
use Rattle.calculus.specs.Question.{Target, whole_row, one_attribute}
use Rattle.calculus.specs.Meaning.{Environment}

-- a variable and the width of its rows
pub data ScopeEntry : Type 0 where
  entry : ℕ → ℕ → ScopeEntry

-- from left to right
abbrev pub Scope : Type 0
Scope = List ScopeEntry

abbrev pub extend : Scope → ℕ → ℕ → Scope
extend s variable width = s ++ (entry variable width ∷ [])

-- all columns in scope
abbrev pub columns_in : Scope → ℕ
columns_in [] = 0
columns_in (entry x width ∷ s) = width + columns_in s

-- the width of a variable's rows; 0 if it is not in scope
abbrev pub width_in : Scope → ℕ → ℕ
width_in [] variable = 0
width_in (entry x width ∷ s) variable = cond (eqb variable x) width (width_in s variable)

-- where the n-th column of a variable stands, both counted from 1
abbrev pub column_number : Scope → ℕ → ℕ → ℕ
column_number [] variable n = 0
column_number (entry x width ∷ s) variable n = cond (eqb variable x) n (width + column_number s variable n)

abbrev pub column_of : Scope → ℕ → Attribute → Attribute
column_of s variable a = attribute (column_number s variable a.number)

-- so many columns, in order, from the number given
abbrev pub columns_from : ℕ → ℕ → List Attribute
columns_from zero number = []
columns_from (suc count) number = attribute number ∷ columns_from count (suc number)

abbrev pub all_columns : ℕ → List Attribute
all_columns width = columns_from width 1

abbrev pub target_columns : Scope → Target → List Attribute
target_columns s (whole_row variable) = columns_from (width_in s variable) (column_number s variable 1)
target_columns s (one_attribute variable a) = column_of s variable a ∷ []

-- a row of P's columns read as the rows of the variables
abbrev pub environment_of : Scope → Row → Environment
environment_of [] row variable = []
environment_of (entry x width ∷ s) row variable = cond (eqb variable x) (take width row) (environment_of s (drop width row) variable)
