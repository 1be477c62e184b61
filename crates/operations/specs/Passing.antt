-- The rows of two values passed one after another, the earlier one first. Assumes nothing.
use Rattle.std.specs.Prelude.{Bool, not, ◌&&◌, ◌||◌, List, ℕ, ◌+◌, ◌-◌, eqb}
use Rattle.relations.specs.Rows.{row_before}
use Rattle.values.specs.Words.{row_in}
use Rattle.values.specs.declared.rows.Value.{Value}

-- the rows behind the first
abbrev pub behind_first : Value → Value
behind_first value = record { base = value.base + value.width; rows = value.rows - 1; width = value.width }

-- the next row is the left value's: it is the only one, or not behind the right value's
abbrev pub left_first : List ℕ → (left right : Value) → Bool
left_first words left right = eqb right.rows 0 || (not (eqb left.rows 0) && not (row_before (row_in words right.base right.width) (row_in words left.base left.width)))
