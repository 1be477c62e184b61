-- The values made so far: a list of them, each with its width, its number of rows and its place in the work area.
use Rattle.std.specs.Prelude.{List, map, ℕ, ◌≤◌, ◌<◌, length, get_or}
use Rattle.relations.specs.Limits.{column_limit}
use Rattle.relations.specs.Lists.{All}
use Rattle.relations.specs.Values.{Rows, Ascending}
use Rattle.values.specs.Words.{rows_of, end}
use Rattle.values.specs.Building.{Blank}
use Rattle.values.specs.declared.rows.Value.{Value}

-- a value without rows
abbrev pub no_value : Value
no_value = record { base = 0; rows = 0; width = 0 }

abbrev pub value_named : List Value → ℕ → Value
value_named made place = get_or made place no_value

abbrev pub widths_of : List Value → List ℕ
widths_of made = map (λ value. value.width) made

-- the rows of each
abbrev pub standing : List Value → List ℕ → List Rows
standing made work = map (λ value. rows_of value work) made

-- a value has a column and no more than the limit, it is ascending, and all of it is in front of `out`
abbrev pub StandsBefore : (out : ℕ) (work : List ℕ) → Value → Type 0
StandsBefore out work value = (0 < value.width) × (value.width ≤ column_limit) × (end value ≤ out) × Ascending (rows_of value work)

-- so does every value of the list, and behind `out` stands nothing
pub record Stand (values : List Value) (out : ℕ) (work : List ℕ) : Type 0 where
  pub each : All (StandsBefore out work) values
  pub inside : out ≤ length work
  pub blank : Blank out work
