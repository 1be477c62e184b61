-- Values in words: rows of one width, one after another, in a part of a buffer.
use Rattle.std.specs.Prelude.{Bool, cond, List, [], ◌∷◌, ◌++◌, ℕ, zero, suc, ◌+◌, ◌*◌, leb, length, take, drop}
use Rattle.relations.specs.Rows.{Row}
use Rattle.relations.specs.Values.{Rows}
use Rattle.values.specs.declared.rows.Value.{Value}

-- the words of that number from a place on
abbrev pub part : ℕ → ℕ → List ℕ → List ℕ
part start width words = take width (drop start words)

-- which of two buffers holds a row
abbrev pub held : Bool → List ℕ → List ℕ → List ℕ
held inWork tables work = cond inWork work tables

-- Document 01, "Running": "Reading a row hands back the row itself, a part of the data or of the work area";
-- "a row that isn't wholly inside the slice gives an empty part"
abbrev pub row_in : List ℕ → ℕ → ℕ → Row
row_in words start width = cond (leb (start + width) (length words)) (part start width words) []

-- so many rows of a width, from a place on
unfoldable pub rows_at : (width count start : ℕ) → List ℕ → Rows
rows_at width zero start words = []
rows_at width (suc count) start words = part start width words ∷ rows_at width count (start + width) words

-- the rows of a value that stands in a buffer
abbrev pub rows_of : Value → List ℕ → Rows
rows_of value words = rows_at value.width value.rows value.base words

-- the place behind a value
abbrev pub end : Value → ℕ
end value = value.base + value.rows * value.width

-- the words of the rows, one row after another
unfoldable pub words_of : Rows → List ℕ
words_of [] = []
words_of (row ∷ rows) = row ++ words_of rows
