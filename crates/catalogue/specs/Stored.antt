-- The catalogue and the stored tables as relations. Document 01, "What the desk holds": the catalogue is pairs of columns and rows,
-- "data are the rows one table after another". All of it is defined for every catalogue; refusal 7 leaves those where it fits. Assumes nothing.
use Rattle.std.specs.Prelude.{ℕ, zero, suc, ◌+◌, ◌*◌, ◌/◌, List, [], ◌∷◌, cond, ltb, get_or, length, take, drop}
use Rattle.relations.specs.Values.{Rows, Tables}

abbrev pub relations_of : List ℕ → ℕ
relations_of catalogue = length catalogue / 2

-- a word of a relation's pair; 0 for an unknown relation
abbrev pub pair_word : List ℕ → ℕ → ℕ → ℕ
pair_word catalogue relation word = cond (ltb relation (relations_of catalogue)) (get_or catalogue word 0) 0

abbrev pub columns_of : List ℕ → ℕ → ℕ
columns_of catalogue relation = pair_word catalogue relation (2 * relation)

abbrev pub row_count_of : List ℕ → ℕ → ℕ
row_count_of catalogue relation = pair_word catalogue relation (2 * relation + 1)

-- where a relation's words start: behind those of the relations before it
unfoldable pub start_of : List ℕ → ℕ → ℕ
start_of catalogue zero = 0
start_of catalogue (suc relation) = start_of catalogue relation + columns_of catalogue relation * row_count_of catalogue relation

-- so many rows of `columns` words each, from the front
unfoldable pub rows_in : ℕ → ℕ → List ℕ → Rows
rows_in columns zero words = []
rows_in columns (suc rows) words = take columns words ∷ rows_in columns rows (drop columns words)

abbrev pub stored_tables : List ℕ → List ℕ → Tables
stored_tables catalogue tables relation = rows_in (columns_of catalogue relation) (row_count_of catalogue relation) (drop (start_of catalogue relation) tables)
