-- A bundle has few lines, so the line that a reading stands at, good or wrong, is a small number: a caller may keep it in a word. Assumes nothing.
use Prim.Native.Nat.{ℕ, zero, suc, ◌+◌, ◌*◌, ◌≤◌}
use mathlib.Core.Path.{◌≡◌, refl}
use mathlib.Core.List.{List, [], ◌∷◌}
use mathlib.Core.Bool.{Bool, true, false, cond, ◌&&◌}
use native.Mathlib.Omega.{arith}
use lib.ListN.{length, drop}
use lib.Dec.{leb, ltb}
use Rattle.relations.specs.Limits.{catalogue_pair_limit, word_limit, row_limit, question_node_limit, question_node_words, byte_limit}
use Rattle.relations.proofs.BoolLaws.{and_left}
use Rattle.catalogue.specs.Judging.{pair_ok, catalogue_words}
use Rattle.catalogue.proofs.Judgements.{good_pair}
use Rattle.lines.specs.Marks.{line_feed, space, separator, plain_line, short_line, relation_key, row_key, node_key}
use Rattle.lines.specs.Reading.{Number, value, no_number, number_then, Next, goes_on, wrong_at, Read, nothing, words_then, or_wrong, numbers, begins, keyed_line, keyed_lines}
use Rattle.bundles.specs.Reading.{Relation, relation, no_relation, with_rows, with_columns, relation_of, ReadTables, no_tables, table_behind, table_of, tables_then, tables_of, unless_ended, nodes_of, no_bundle, nodes_after, with_tables, lines_of, bundle_in}
use Rattle.bundles.specs.ReadCall.{read_refused, bundle_outcome, small_buffers, read_outcome}

-- the line at which a reading stands
abbrev pub line_of : Next → ℕ
line_of (goes_on line bytes) = line
line_of (wrong_at line) = line

-- a reading that goes on where another stands, over `more` lines at most
then_line : {limit : ℕ} (more : ℕ) (words : List ℕ) (next : Next) (behind : ℕ → List ℕ → Read) → line_of next ≤ limit
    → ((after : ℕ) (rest : List ℕ) → line_of (behind after rest).next ≤ after + more) → line_of (words_then words next behind).next ≤ limit + more
then_line more words (goes_on after rest) behind h k = omega (arith, h, k after rest)
then_line more words (wrong_at line) behind h k = omega (arith, h)

numbers-line : (count line : ℕ) (bytes : List ℕ) → line_of (numbers count line bytes).next ≤ line + 1
unfolding numbers
numbers-line zero line bytes = omega arith
numbers-line (suc more) line bytes = go (number_then (separator more) bytes) (λ rest. numbers-line more line rest)
  where
    go : (found : Number) → ((rest : List ℕ) → line_of (numbers more line rest).next ≤ line + 1) → line_of (or_wrong line found (λ n rest. numbers more line rest)).next ≤ line + 1
    go (value n rest) k = k rest
    go no_number k = omega arith

keyed_line-line : (key : List ℕ) (count line : ℕ) (bytes : List ℕ) → line_of (keyed_line key count line bytes).next ≤ line + 1
unfolding keyed_line
keyed_line-line key count line bytes = go (begins key bytes)
  where
    go : (b : Bool) → line_of (cond b (numbers count line (drop (length key) bytes)) (nothing (wrong_at line))).next ≤ line + 1
    go true = numbers-line count line (drop (length key) bytes)
    go false = omega arith

keyed_lines-line : (key : List ℕ) (width count line : ℕ) (bytes : List ℕ) → line_of (keyed_lines key width count line bytes).next ≤ line + count
unfolding keyed_lines
keyed_lines-line key width zero line bytes = omega arith
keyed_lines-line key width (suc more) line bytes =
    let first : Read = keyed_line key width line bytes in
    omega (
      arith,
      then_line more first.words first.next (λ after rest. keyed_lines key width more after rest) (keyed_line-line key width line bytes)
          (λ after rest. keyed_lines-line key width more after rest),
    )

-- a table has at most so many rows
abbrev RowsFew : Relation → Type 0
RowsFew (relation columns rows bytes) = rows ≤ row_limit
RowsFew no_relation = Unit {0}

relation-rows : (total : ℕ) (bytes : List ℕ) → RowsFew (relation_of total bytes)
unfolding relation_of
relation-rows total bytes = first (number_then space bytes)
  where
    judged : (columns rows : ℕ) (rest : List ℕ) (ok : Bool) → pair_ok columns rows && leb (total + columns * rows) word_limit ≡ ok → RowsFew (cond ok (relation columns rows rest) no_relation)
    judged columns rows rest true is = (good_pair columns rows (and_left (pair_ok columns rows) (leb (total + columns * rows) word_limit) is)).rows_few
    judged columns rows rest false is = tt

    second : (columns : ℕ) (found : Number) → RowsFew (with_rows total columns found)
    second columns (value rows rest) = judged columns rows rest (pair_ok columns rows && leb (total + columns * rows) word_limit) refl
    second columns no_number = tt

    first : (found : Number) → RowsFew (with_columns total found)
    first (value columns rest) = second columns (number_then line_feed rest)
    first no_number = tt

table-line : (total line : ℕ) (bytes : List ℕ) → line_of (table_of total line bytes).next ≤ line + 1 + row_limit
unfolding table_of
table-line total line bytes = go (relation_of total (drop (length relation_key) bytes)) (relation-rows total (drop (length relation_key) bytes))
  where
    go : (found : Relation) → RowsFew found → line_of (table_behind line found).next ≤ line + 1 + row_limit
    go (relation columns rows rest) h = omega (arith, h, keyed_lines-line row_key columns rows (line + 1) rest)
    go no_relation h = omega arith

tables-line : (count total line : ℕ) (bytes : List ℕ) → line_of (tables_of count total line bytes).next ≤ line + count * (1 + row_limit)
unfolding tables_of
tables-line zero total line bytes = omega arith
tables-line (suc more) total line bytes =
    let words : ℕ = total + catalogue_words (table_of total line bytes).catalogue in
    go (begins relation_key bytes) (table_of total line bytes).next (λ after rest. tables_of more words after rest) (table-line total line bytes) (λ after rest. tables-line more words after rest)
  where
    first : ReadTables
    first = table_of total line bytes

    go : (table : Bool) (next : Next) (behind : ℕ → List ℕ → ReadTables) → line_of next ≤ line + 1 + row_limit
        → ((after : ℕ) (rest : List ℕ) → line_of (behind after rest).next ≤ after + more * (1 + row_limit))
        → line_of (cond table (tables_then first.catalogue first.tables next behind) (no_tables (goes_on line bytes))).next ≤ line + suc more * (1 + row_limit)
    go true (goes_on after rest) behind h k = omega (arith, h, k after rest)
    go true (wrong_at wrong) behind h k = omega (arith, h)
    go false next behind h k = omega arith

unended_line : (line more : ℕ) (bytes : List ℕ) (behind : Read) → line_of behind.next ≤ line + more → line_of (unless_ended line bytes behind).next ≤ line + more
unended_line line more [] behind h = omega arith
unended_line line more (byte ∷ bytes) behind h = h

nodes-line : (count line : ℕ) (bytes : List ℕ) → line_of (nodes_of count line bytes).next ≤ line + count
unfolding nodes_of
nodes-line zero line bytes = omega arith
nodes-line (suc more) line bytes =
    let first : Read = keyed_line node_key question_node_words line bytes in
    omega (
      arith,
      then_line more first.words first.next (λ after rest. unless_ended after rest (nodes_of more after rest)) (keyed_line-line node_key question_node_words line bytes)
          (λ after rest. unended_line after more rest (nodes_of more after rest) (nodes-line more after rest)),
    )

-- the lines of 16 tables of 16,384 rows, of 64 nodes and of the mode
abbrev pub line_limit : ℕ
line_limit = 2 + catalogue_pair_limit * (1 + row_limit) + question_node_limit

behind-mode-line : (mode : ℕ) (bytes : List ℕ) → line_of (with_tables mode (tables_of catalogue_pair_limit 0 2 bytes)).next ≤ line_limit
behind-mode-line mode bytes = go (tables_of catalogue_pair_limit 0 2 bytes).next (tables-line catalogue_pair_limit 0 2 bytes)
  where
    go : (next : Next) → line_of next ≤ 2 + catalogue_pair_limit * (1 + row_limit) → line_of (nodes_after next).next ≤ line_limit
    go (goes_on line rest) h = omega (arith, h, nodes-line question_node_limit line rest)
    go (wrong_at line) h = omega (arith, h)

reading-line : (text : List ℕ) → line_of (bundle_in text).next ≤ line_limit
unfolding bundle_in lines_of
reading-line text = go (ltb byte_limit (length text)) (begins plain_line text) (begins short_line text)
  where
    go : (long plain short : Bool)
        → line_of (cond long (no_bundle 0) (cond plain (with_tables 0 (tables_of catalogue_pair_limit 0 2 (drop (length plain_line) text))) (cond short (with_tables 1 (tables_of catalogue_pair_limit 0 2 (drop (length short_line) text))) (no_bundle 1)))).next ≤ line_limit
    go true plain short = omega arith
    go false true short = behind-mode-line 0 (drop (length plain_line) text)
    go false false true = behind-mode-line 1 (drop (length short_line) text)
    go false false false = omega arith

pub place-within : (text catalogue tables question : List ℕ) → (read_outcome text catalogue tables question).numbers.place ≤ line_limit
unfolding read_outcome
place-within text catalogue tables question = go (small_buffers catalogue tables question) (bundle_in text).next (reading-line text)
  where
    go : (small : Bool) (next : Next) → line_of next ≤ line_limit
        → (cond small (read_refused catalogue tables question 14 0) (bundle_outcome catalogue tables question (bundle_in text) next)).numbers.place ≤ line_limit
    go true next h = omega arith
    go false (goes_on line rest) h = omega arith
    go false (wrong_at line) h = h
