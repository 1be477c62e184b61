-- Keys: the right columns that triples name, as a value of their own.
use Rattle.std.specs.Prelude.{◌≡◌, Option, Some, None, Bool, true, ◌&&◌, List, ℕ, zero, suc, ◌+◌, ◌*◌, ◌≤◌, eqb, length, map, get_or, drop}
use Rattle.relations.specs.Values.{Rows, canonical}
use Rattle.relations.specs.Columns.{attribute, word_at}
use Rattle.relations.specs.Operations.{project_candidates}
use Rattle.values.specs.Words.{rows_of}
use Rattle.values.specs.declared.rows.Value.{Value}
use Rattle.values.specs.Building.{Builds, Makes}

-- so many triples of other list words are those of the list, but that their right attributes are numbers of columns, which name the list's
abbrev pub renumbers : (count : ℕ) (columns list other : List ℕ) → Bool
renumbers zero columns list other = true
renumbers (suc count) columns list other =
    eqb (get_or other 0 0) (get_or list 0 0) && (eqb (get_or other 1 0) (get_or list 1 0) && (eqb (word_at columns (get_or other 2 0)) (get_or list 2 0) && renumbers count columns (drop 3 list) (drop 3 other)))

-- the keys, a value from `out` on: the picked columns of the right rows, each once
pub record Keyed (columns : List ℕ) (right : Value) (out : ℕ) (before after : List ℕ) (keys : Value) : Type 0 where
  pub base : keys.base ≡ out
  pub width : keys.width ≡ length columns
  pub fits : out + keys.rows * keys.width ≤ length after
  pub made : Builds keys.width out 0 (project_candidates (map attribute columns) (rows_of right before)) before after (Some keys.rows)
  pub value : rows_of keys after ≡ canonical (project_candidates (map attribute columns) (rows_of right before))

-- what a try leaves: the value, or, where its own way has too little room, everything as it was
abbrev pub Tried : (width out : ℕ) (candidates : Rows) (before after : List ℕ) → Option ℕ → Type 0
Tried width out candidates before after (Some rows) = Makes width out candidates before after (Some rows)
Tried width out candidates before after None = after ≡ before
