-- From words to a bundle's lines: the text of a bundle that `write` accepts reads as that bundle. Assumes nothing.
use Prim.Native.Nat.{ℕ, zero, suc, ◌+◌, ◌-◌, ◌*◌, ◌/◌, ◌≤◌, ◌<◌}
use mathlib.Core.Path.{◌≡◌, refl, sym, ap, ◌∙◌}
use mathlib.Core.List.{List, [], ◌∷◌, ◌++◌, append_assoc, append-nil}
use mathlib.Core.Bool.{Bool, true, false, cond}
use native.Mathlib.Omega.{arith}
use native.Mathlib.Nat.{mul_comm}
use lib.Dec.{leb, eqb}
use lib.ListN.{length, take, drop, take-append-drop, length-drop}
use lib.Seq.{length-take-le, take_all}
use borrow.Author.Tests.{le-ltb, le-leb}
use Rattle.relations.specs.Limits.{catalogue_pair_limit, word_limit, question_node_limit, question_node_words, byte_limit}
use Rattle.catalogue.specs.Judging.{pair_ok, pairs_ok, catalogue_words, tables_ok}
use Rattle.lines.specs.Marks.{line_feed, space, plain_line, short_line, relation_key, row_key, node_key}
use Rattle.lines.specs.Writing.{decimal, numbers_text, line_text, lines_text}
use Rattle.bundles.specs.Writing.{tables_text, mode_text, bundle_text}
use Rattle.lines.specs.Reading.{Number, number_then, goes_on, Read, and_then, begins}
use Rattle.bundles.specs.Reading.{Relation, relation, no_relation, with_rows, with_columns, relation_of, ReadTables, table_behind, table_of, and_tables, tables_of, unless_ended, nodes_of, with_tables, lines_of, bundle_in}
use Rattle.bundles.specs.WriteCall.{nodes_ok}
use Rattle.lines.specs.Words32.{Words32}
use Rattle.bundles.specs.RoundTrip.{table_lines, bundle_of}
use Rattle.relations.proofs.BoolLaws.{true-and-false, and_both, and_left, and_right}
use Rattle.lines.proofs.Words32.{words32_take, words32_drop}
use Rattle.catalogue.proofs.Judgements.{GoodPair, good_pair, GoodTables, good-tables}
use Rattle.bundles.proofs.Judgements.{GoodNodes, good-nodes}
use Rattle.lines.proofs.Numbers.{number_then_of_decimal}
use Rattle.lines.proofs.ReadingLaws.{two_numbers-text}
use Rattle.bundles.proofs.ReadingLaws.{tables_text_cons}
use Rattle.lines.proofs.WritingLaws.{none_long, read_of, keyed_line_of_text, keyed_lines_of_text}

-- Tables.

pub relation_of_of_text : (total columns rows : ℕ) (rest : List ℕ) → pair_ok columns rows ≡ true → total + columns * rows ≤ word_limit
    → relation_of total (numbers_text (columns ∷ rows ∷ []) ++ rest) ≡ relation columns rows rest
unfolding relation_of
relation_of_of_text total columns rows rest ok fits =
    let good : GoodPair columns rows = good_pair columns rows ok in
    let behind : List ℕ = decimal rows ++ (line_feed ∷ rest) in
    ap (λ (bytes : List ℕ). with_columns total (number_then space bytes))
    (sym (two_numbers-text (decimal columns ++ (space ∷ behind)) columns behind rows rest refl refl))
    ∙ ap (λ (first : Number). with_columns total first) (number_then_of_decimal space columns behind refl (omega arith))
    ∙ ap (λ (second : Number). with_rows total columns second) (number_then_of_decimal line_feed rows rest refl (omega arith))
    ∙ ap (λ (good : Bool). cond good (relation columns rows rest) no_relation)
    (and_both (pair_ok columns rows) (leb (total + columns * rows) word_limit) ok (le-leb (total + columns * rows) word_limit fits))

abbrev pub tables_at : (catalogue tables : List ℕ) (after : ℕ) (rest : List ℕ) → ReadTables
tables_at catalogue tables after rest = record { catalogue = catalogue; tables = tables; next = goes_on after rest }

pub table_of_of_text : (total line columns rows : ℕ) (words rest : List ℕ) → pair_ok columns rows ≡ true → total + columns * rows ≤ word_limit
    → length words ≡ columns * rows → Words32 words
    → table_of total line (line_text relation_key (columns ∷ rows ∷ []) ++ lines_text row_key columns rows words ++ rest)
    ≡ tables_at (columns ∷ rows ∷ []) words (line + 1 + rows) rest
unfolding table_of
table_of_of_text total line columns rows words rest ok fits many h =
    let names : List ℕ = numbers_text (columns ∷ rows ∷ []) in
    let lines : List ℕ = lines_text row_key columns rows words in
    ap (λ (bytes : List ℕ). table_behind line (relation_of total bytes)) (append_assoc names lines rest)
    ∙ ap (λ (found : Relation). table_behind line found) (relation_of_of_text total columns rows (lines ++ rest) ok fits)
    ∙ ap (λ (found : Read). record { catalogue = columns ∷ rows ∷ []; tables = found.words; next = found.next })
    (keyed_lines_of_text row_key columns rows (line + 1) words rest (many ∙ mul_comm columns rows) h)

-- no relation line, no table
tables_of_none : (count total line : ℕ) (bytes : List ℕ) → begins relation_key bytes ≡ false → tables_of count total line bytes ≡ tables_at [] [] line bytes
unfolding tables_of
tables_of_none zero total line bytes e = refl
tables_of_none (suc more) total line bytes e = rw e

-- one table before others that were found
abbrev with_table : (columns rows : ℕ) (words : List ℕ) → ReadTables → ReadTables
with_table columns rows words others =
    record { catalogue = columns ∷ rows ∷ others.catalogue; tables = words ++ others.tables; next = others.next }

-- the text of tables, cut behind the first one
tables_text_cut : (columns rows : ℕ) (more tables rest : List ℕ) → columns * rows ≤ length tables
    → tables_text (columns ∷ rows ∷ more) tables ++ rest
    ≡ line_text relation_key (columns ∷ rows ∷ []) ++ lines_text row_key columns rows (take (columns * rows) tables)
    ++ (tables_text more (drop (columns * rows) tables) ++ rest)
tables_text_cut columns rows more tables rest room =
    let first : List ℕ = take (columns * rows) tables in
    let others : List ℕ = drop (columns * rows) tables in
    ap (λ (all : List ℕ). tables_text (columns ∷ rows ∷ more) all ++ rest) (sym (take-append-drop (columns * rows) tables))
    ∙ ap (λ (text : List ℕ). text ++ rest)
    (tables_text_cons columns rows more first others (length-take-le (columns * rows) tables room))
    ∙ append_assoc (line_text relation_key (columns ∷ rows ∷ []) ++ lines_text row_key columns rows first) (tables_text more others) rest

tables_of_one_more : (count total line columns rows : ℕ) (more tables rest : List ℕ) → columns * rows ≤ length tables → pair_ok columns rows ≡ true
    → total + columns * rows ≤ word_limit → Words32 tables
    → tables_of (suc count) total line (tables_text (columns ∷ rows ∷ more) tables ++ rest)
    ≡ with_table columns rows (take (columns * rows) tables)
    (tables_of count (total + columns * rows) (line + 1 + rows) (tables_text more (drop (columns * rows) tables) ++ rest))
unfolding tables_of begins catalogue_words
tables_of_one_more count total line columns rows more tables rest room ok fits h =
    let words : ℕ = columns * rows in
    let behind : List ℕ = tables_text more (drop words tables) ++ rest in
    let same : total + (words + 0) ≡ total + words = omega arith in
    ap (λ (bytes : List ℕ). tables_of (suc count) total line bytes) (tables_text_cut columns rows more tables rest room)
    ∙ ap (λ (found : ReadTables). and_tables found (λ line' bytes'. tables_of count (total + catalogue_words found.catalogue) line' bytes'))
    (table_of_of_text total line columns rows (take words tables) behind ok fits (length-take-le words tables room) (words32_take words tables h))
    ∙ ap (λ (sum : ℕ). with_table columns rows (take words tables) (tables_of count sum (line + 1 + rows) behind)) same

pub tables_of_of_text : (count total line : ℕ) (catalogue tables rest : List ℕ) → length catalogue ≤ 2 * count → pairs_ok catalogue ≡ true
    → total + catalogue_words catalogue ≤ word_limit → length tables ≡ catalogue_words catalogue → Words32 tables → begins relation_key rest ≡ false
    → tables_of count total line (tables_text catalogue tables ++ rest) ≡ tables_at catalogue tables (line + table_lines catalogue) rest
unfolding tables_text pairs_ok catalogue_words table_lines
tables_of_of_text count total line [] tables rest few ok fits many h ends =
    let none : tables ≡ [] = none_long tables many in
    let same : line ≡ line + 0 = omega arith in
    tables_of_none count total line rest ends
    ∙ ap (λ (after : ℕ). tables_at [] [] after rest) same
    ∙ ap (λ (words : List ℕ). tables_at [] words (line + 0) rest) (sym none)
tables_of_of_text count total line (columns ∷ []) tables rest few ok fits many h ends = true-and-false refl (sym ok)
tables_of_of_text zero total line (columns ∷ rows ∷ more) tables rest few ok fits many h ends = absurd (omega arith)
tables_of_of_text (suc count) total line (columns ∷ rows ∷ more) tables rest few ok fits many h ends =
    let words : ℕ = columns * rows in
    let others : List ℕ = drop words tables in
    let others_ok : pairs_ok more ≡ true = and_right (pair_ok columns rows) (pairs_ok more) ok in
    let left : length others ≡ catalogue_words more = length-drop words tables ∙ omega arith in
    let lines : line + 1 + rows + table_lines more ≡ line + (1 + rows + table_lines more) = omega arith in
    tables_of_one_more count total line columns rows more tables rest (omega arith) (and_left (pair_ok columns rows) (pairs_ok more) ok) (omega arith) h
    ∙ ap (λ (found : ReadTables). with_table columns rows (take words tables) found)
    (tables_of_of_text count (total + words) (line + 1 + rows) more others rest (omega arith) others_ok (omega arith) left
    (words32_drop words tables h) ends)
    ∙ ap (λ (after : ℕ). tables_at (columns ∷ rows ∷ more) (take words tables ++ others) after rest) lines
    ∙ ap (λ (all : List ℕ). tables_at (columns ∷ rows ∷ more) all (line + (1 + rows + table_lines more)) rest) (take-append-drop words tables)

-- Nodes.

pub nodes_of_of_text : (count more line : ℕ) (words : List ℕ) → more < count → length words ≡ suc more * question_node_words → Words32 words
    → nodes_of count line (lines_text node_key question_node_words (suc more) words) ≡ read_of words (line + suc more) []
unfolding nodes_of lines_text
nodes_of_of_text zero more line words few many h = absurd (omega arith)
nodes_of_of_text (suc count) zero line words few many h =
    let first : List ℕ = take question_node_words words in
    let size : length words ≡ question_node_words = omega arith in
    let all : first ≡ words = take_all question_node_words words (omega arith) in
    let then : ℕ → List ℕ → Read = λ after bytes. unless_ended after bytes (nodes_of count after bytes) in
    ap (λ (found : Read). and_then found then)
    (keyed_line_of_text node_key question_node_words line first [] (ap length all ∙ size) (words32_take question_node_words words h))
    ∙ ap (λ (ws : List ℕ). read_of ws (line + 1) []) (append-nil first ∙ all)
nodes_of_of_text (suc count) (suc more) line words few many h =
    let first : List ℕ = take question_node_words words in
    let others : List ℕ = drop question_node_words words in
    let wide : length first ≡ question_node_words = length-take-le question_node_words words (omega arith) in
    let left : length others ≡ suc more * question_node_words = length-drop question_node_words words ∙ omega arith in
    let then : ℕ → List ℕ → Read = λ after bytes. unless_ended after bytes (nodes_of count after bytes) in
    let lines : line + 1 + suc more ≡ line + suc (suc more) = omega arith in
    ap (λ (found : Read). and_then found then)
    (keyed_line_of_text node_key question_node_words line first (lines_text node_key question_node_words (suc more) others) wide (words32_take question_node_words words h))
    ∙ ap (λ (found : Read). record { words = first ++ found.words; next = found.next })
    (nodes_of_of_text count more (line + 1) others (omega arith) left (words32_drop question_node_words words h))
    ∙ ap (λ (after : ℕ). read_of (first ++ others) after []) lines
    ∙ ap (λ (ws : List ℕ). read_of ws (line + suc (suc more)) []) (take-append-drop question_node_words words)

-- The whole.

-- a node line is no relation line
nodes_no_relation : (more : ℕ) (words : List ℕ) → begins relation_key (lines_text node_key question_node_words (suc more) words) ≡ false
unfolding lines_text begins
nodes_no_relation more words = refl

-- the tables and the nodes, behind the mode line
tables_and_nodes : (mode more : ℕ) (catalogue tables nodes : List ℕ) → tables_ok catalogue tables ≡ true → more < question_node_limit
    → length nodes ≡ suc more * question_node_words → Words32 tables → Words32 nodes
    → with_tables mode (tables_of catalogue_pair_limit 0 2 (tables_text catalogue tables ++ lines_text node_key question_node_words (suc more) nodes))
    ≡ record { mode = mode; catalogue = catalogue; tables = tables; nodes = nodes; next = goes_on (2 + table_lines catalogue + suc more) [] }
tables_and_nodes mode more catalogue tables nodes ok few many h k =
    let good : GoodTables catalogue tables = good-tables catalogue tables ok in
    ap (λ (found : ReadTables). with_tables mode found)
    (tables_of_of_text catalogue_pair_limit 0 2 catalogue tables (lines_text node_key question_node_words (suc more) nodes) good.few good.pairs
    (omega arith) good.sum h (nodes_no_relation more nodes))
    ∙ ap (λ (found : Read). record { mode = mode; catalogue = catalogue; tables = tables; nodes = found.words; next = found.next })
    (nodes_of_of_text question_node_limit more (2 + table_lines catalogue) nodes few many k)

-- the mode line, before any bytes
lines_of-mode : (mode : ℕ) (bytes : List ℕ) → lines_of (mode_text mode ++ bytes) ≡ with_tables (cond (eqb mode 0) 0 1) (tables_of catalogue_pair_limit 0 2 bytes)
unfolding lines_of begins
lines_of-mode mode bytes = go (eqb mode 0)
  where
    go : (plain : Bool) → lines_of (cond plain plain_line short_line ++ bytes) ≡ with_tables (cond plain 0 1) (tables_of catalogue_pair_limit 0 2 bytes)
    go true = refl
    go false = refl

-- The text of a bundle that `write` accepts reads as that bundle, whatever its length
pub lines_of_text : (mode : ℕ) (catalogue tables nodes : List ℕ) → tables_ok catalogue tables ≡ true → nodes_ok nodes ≡ true → Words32 tables → Words32 nodes
    → lines_of (bundle_text mode catalogue tables nodes) ≡ bundle_of mode catalogue tables nodes
unfolding bundle_text
lines_of_text mode catalogue tables nodes ok nodes_ok_lem h k =
    let good : GoodNodes nodes = good-nodes nodes nodes_ok_lem in
    let more : ℕ = length nodes / question_node_words - 1 in
    let count : length nodes / question_node_words ≡ suc more = omega arith in
    ap (λ (text : List ℕ). lines_of text)
    (append_assoc (mode_text mode) (tables_text catalogue tables) (lines_text node_key question_node_words (length nodes / question_node_words) nodes))
    ∙ lines_of-mode mode (tables_text catalogue tables ++ lines_text node_key question_node_words (length nodes / question_node_words) nodes)
    ∙ rw count (tables_and_nodes (cond (eqb mode 0) 0 1) more catalogue tables nodes ok (omega arith) (omega arith) h k)

-- and within the limit it is read.
pub reading_of_text : (mode : ℕ) (catalogue tables nodes : List ℕ) → tables_ok catalogue tables ≡ true → nodes_ok nodes ≡ true
    → Words32 tables → Words32 nodes → length (bundle_text mode catalogue tables nodes) ≤ byte_limit
    → bundle_in (bundle_text mode catalogue tables nodes) ≡ bundle_of mode catalogue tables nodes
unfolding bundle_in
reading_of_text mode catalogue tables nodes ok nodes_ok_lem h k short =
    rw (le-ltb byte_limit (length (bundle_text mode catalogue tables nodes)) short) (lines_of_text mode catalogue tables nodes ok nodes_ok_lem h k)
