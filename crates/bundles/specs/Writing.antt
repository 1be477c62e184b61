-- Document 01, "Bundle text and the program": the text of a bundle, which is what `write` makes. Assumes nothing.
use Rattle.std.specs.Prelude.{ℕ, ◌*◌, ◌/◌, List, [], ◌∷◌, ◌++◌, cond, length, drop, eqb}
use Rattle.relations.specs.Limits.{question_node_words}
use Rattle.lines.specs.Marks.{plain_line, short_line, relation_key, row_key, node_key}
use Rattle.lines.specs.Writing.{line_text, lines_text}

-- "for each table relation=COLUMNS ROWS and its row= lines"
unfoldable pub tables_text : (catalogue tables : List ℕ) → List ℕ
tables_text [] tables = []
tables_text (columns ∷ []) tables = []
tables_text (columns ∷ rows ∷ more) tables =
    line_text relation_key (columns ∷ rows ∷ []) ++ lines_text row_key columns rows tables ++ tables_text more (drop (columns * rows) tables)

-- "mode=plain or mode=short"; "0 is plain, every other short"
abbrev pub mode_text : ℕ → List ℕ
mode_text mode = cond (eqb mode 0) plain_line short_line

-- the lines "in this order"
unfoldable pub bundle_text : (mode : ℕ) (catalogue tables nodes : List ℕ) → List ℕ
bundle_text mode catalogue tables nodes =
    mode_text mode ++ tables_text catalogue tables ++ lines_text node_key question_node_words (length nodes / question_node_words) nodes
