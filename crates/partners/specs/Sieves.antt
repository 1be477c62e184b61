-- A sieve: entries, each a column's number and its span. It lets through the rows whose columns are in their spans.
use Rattle.std.specs.Prelude.{◌≡◌, Bool, ◌&&◌, List, ℕ, ◌+◌, ◌≤◌, length, take}
use Rattle.std.specs.List.{list_all}
use Rattle.relations.specs.Rows.{Row}
use Rattle.relations.specs.Columns.{Triple, word_at, meets}
use Rattle.partners.specs.Spans.{allowed_by}
use Rattle.partners.specs.declared.sieve.Entry.{Entry}

abbrev pub in_span : Row → Entry → Bool
in_span row entry = allowed_by entry.span (word_at row entry.column)

abbrev pub sifts : List Entry → Row → Bool
sifts sieve row = list_all (in_span row) sieve

-- a column is asked to be in a span too; so many entries are in use afterwards
pub record Narrows (entry : Entry) (before : List Entry) (made : ℕ) (after : List Entry) : Type 0 where
  pub most : made ≤ length before + 1
  pub same : (row : Row) → sifts (take made after) row ≡ (in_span row entry && sifts before row)

-- what is let through is what the left row meets
pub record Sieve (triples : List Triple) (left : Row) (sieve : List Entry) : Type 0 where
  pub same : (right : Row) → sifts sieve right ≡ meets triples left right
