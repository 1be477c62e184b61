-- Document 01, "Bundle text and the program": what a bundle's text reads as, line by line from its front. Assumes nothing.
use Rattle.std.specs.Prelude.{ℕ, zero, suc, ◌+◌, ◌*◌, List, [], ◌∷◌, ◌++◌, cond, ◌&&◌, length, drop, leb, ltb}
use Rattle.relations.specs.Limits.{catalogue_pair_limit, word_limit, question_node_limit, question_node_words, byte_limit}
use Rattle.catalogue.specs.Judging.{pair_ok, catalogue_words}
use Rattle.lines.specs.Marks.{line_feed, space, plain_line, short_line, relation_key, row_key, node_key}
use Rattle.lines.specs.Reading.{Number, value, no_number, number_then, Next, goes_on, wrong_at, Read, nothing, and_then, begins, keyed_line, keyed_lines}

-- Tables: "for each table relation=COLUMNS ROWS and its row= lines".
pub data Relation : Type 0 where
  relation : (columns rows : ℕ) → List ℕ → Relation
  no_relation : Relation

-- "A line that passes a limit is the wrong one (a table's words count at its relation line)"
abbrev pub with_rows : (total columns : ℕ) → Number → Relation
with_rows total columns (value rows bytes) =
    cond (pair_ok columns rows && leb (total + columns * rows) word_limit) (relation columns rows bytes) no_relation
with_rows total columns no_number = no_relation

abbrev pub with_columns : (total : ℕ) → Number → Relation
with_columns total (value columns bytes) = with_rows total columns (number_then line_feed bytes)
with_columns total no_number = no_relation

-- what follows `relation=`, where the tables before it have `total` words
unfoldable pub relation_of : (total : ℕ) → List ℕ → Relation
relation_of total bytes = with_columns total (number_then space bytes)

pub record ReadTables : Type 0 where
  pub catalogue : List ℕ
  pub tables : List ℕ
  pub next : Next

abbrev pub no_tables : Next → ReadTables
no_tables next = record { catalogue = []; tables = []; next = next }

abbrev pub table_behind : (line : ℕ) → Relation → ReadTables
table_behind line (relation columns rows bytes) =
    record {
      catalogue = columns ∷ rows ∷ [];
      tables = (keyed_lines row_key columns rows (line + 1) bytes).words;
      next = (keyed_lines row_key columns rows (line + 1) bytes).next;
    }
table_behind line no_relation = no_tables (wrong_at line)

unfoldable pub table_of : (total line : ℕ) → List ℕ → ReadTables
table_of total line bytes = table_behind line (relation_of total (drop (length relation_key) bytes))

abbrev pub tables_then : (catalogue tables : List ℕ) → Next → (ℕ → List ℕ → ReadTables) → ReadTables
tables_then catalogue tables (goes_on line bytes) more =
    record {
      catalogue = catalogue ++ (more line bytes).catalogue;
      tables = tables ++ (more line bytes).tables;
      next = (more line bytes).next;
    }
tables_then catalogue tables (wrong_at line) more = record { catalogue = catalogue; tables = tables; next = wrong_at line }

abbrev pub and_tables : ReadTables → (ℕ → List ℕ → ReadTables) → ReadTables
and_tables first more = tables_then first.catalogue first.tables first.next more

-- at most `count` tables, as many as there are relation= lines
unfoldable pub tables_of : (count total line : ℕ) → List ℕ → ReadTables
tables_of zero total line bytes = no_tables (goes_on line bytes)
tables_of (suc more) total line bytes =
    cond (begins relation_key bytes)
    (and_tables (table_of total line bytes) (λ after rest. tables_of more (total + catalogue_words (table_of total line bytes).catalogue) after rest))
    (no_tables (goes_on line bytes))

-- Nodes: "1 to 64 node= lines of six numbers", to the text's end.
abbrev pub unless_ended : (line : ℕ) → List ℕ → Read → Read
unless_ended line [] more = nothing (goes_on line [])
unless_ended line (byte ∷ bytes) more = more

unfoldable pub nodes_of : (count line : ℕ) → List ℕ → Read
nodes_of zero line bytes = nothing (wrong_at line)
nodes_of (suc more) line bytes =
    and_then (keyed_line node_key question_node_words line bytes) (λ after rest. unless_ended after rest (nodes_of more after rest))

-- The bundle: the lines "in this order".
pub record Bundle : Type 0 where
  pub mode : ℕ
  pub catalogue : List ℕ
  pub tables : List ℕ
  pub nodes : List ℕ
  pub next : Next

abbrev pub no_bundle : (line : ℕ) → Bundle
no_bundle line = record { mode = 0; catalogue = []; tables = []; nodes = []; next = wrong_at line }

abbrev pub nodes_after : Next → Read
nodes_after (goes_on line bytes) = nodes_of question_node_limit line bytes
nodes_after (wrong_at line) = nothing (wrong_at line)

abbrev pub with_tables : (mode : ℕ) → ReadTables → Bundle
with_tables mode found =
    record {
      mode = mode;
      catalogue = found.catalogue;
      tables = found.tables;
      nodes = (nodes_after found.next).words;
      next = (nodes_after found.next).next;
    }

unfoldable pub lines_of : List ℕ → Bundle
lines_of text =
    cond (begins plain_line text) (with_tables 0 (tables_of catalogue_pair_limit 0 2 (drop (length plain_line) text)))
    (cond (begins short_line text) (with_tables 1 (tables_of catalogue_pair_limit 0 2 (drop (length short_line) text)))
    (no_bundle 1))

-- "At most 65,536 bytes (over: 12, place 0)"
unfoldable pub bundle_in : List ℕ → Bundle
bundle_in text = cond (ltb byte_limit (length text)) (no_bundle 0) (lines_of text)
