-- One line of each kind: what it reads as by the tests that decide it, and what a caller knows when it was read. Assumes nothing.
use mathlib.Core.Path.{◌≡◌, refl, sym, ap, ◌∙◌}
use Prim.Native.Nat.{ℕ, ◌+◌, ◌*◌, ◌<◌}
use mathlib.Core.List.{List}
use mathlib.Core.Bool.{Bool, true, false, cond, ◌&&◌}
use native.Mathlib.Omega.{arith}
use lib.Dec.{leb, ltb}
use lib.ListN.{length, drop}
use lib.Seq.{sets, drop-drop}
use borrow.Author.Tests.{ltb-true}
use Rattle.relations.specs.Limits.{word_limit, question_node_limit, question_node_words}
use Rattle.catalogue.specs.Judging.{pair_ok}
use Rattle.lines.specs.Marks.{line_feed, space, plain_line, short_line, relation_key, row_key, node_key}
use Rattle.lines.specs.Reading.{value, no_number, number_then, goes_on, wrong_at, Read, nothing, begins, keyed_line}
use Rattle.bundles.specs.Reading.{Relation, relation, no_relation, with_rows, with_columns, relation_of}
use Rattle.lines.specs.Answers.{GoneOn, LinesRead}
use Rattle.lines.proofs.Answered.{stands_behind}
use Rattle.bundle_lines.specs.OneLine.{Lawful, mode_read, pair_read, one_line}
use Rattle.lines.specs.declared.reader.Reader.{Reader}
use Rattle.std.specs.Prelude.{Ok}
use Rattle.bundle_lines.specs.declared.Line.{Line}
use Rattle.bundle_lines.specs.declared.Line.TheVariants.{Mode as ModeLine, Relation as RelationLine, Row as RowLine, Node as NodeLine}
use Rattle.lines.proofs.ReadingLaws.{no-next, keyed_line-length, line_cut}

-- What is read, and what is wrong.
module _ {start : Reader} {before : List ℕ} {to : ℕ} {found : Read} where
  pub line_read : {T : Type 0} {value : T} {after words : List ℕ} {stop : Reader} {next : ℕ} → found ≡ record { words = words; next = goes_on (start.line + 1) (drop next start.text.now) } → GoneOn start next stop → after ≡ sets before to words
      → LinesRead start found to before after stop (Ok value)
  line_read e g kept = rw e (record { means = sym (stands_behind g); stays = tt; text = g.text; words = kept })

-- The mode's line.
module _ (text : List ℕ) (at line : ℕ) where
  pub mode_plain : begins plain_line (drop at text) ≡ true → one_line ModeLine line (drop at text) ≡ mode_read 0 line (drop (at + 11) text)
  mode_plain e = rw (e, drop-drop (length plain_line) at text)

  pub mode-short : begins plain_line (drop at text) ≡ false → begins short_line (drop at text) ≡ true → one_line ModeLine line (drop at text) ≡ mode_read 1 line (drop (at + 11) text)
  mode-short e f = rw (e, f, drop-drop (length short_line) at text)

-- A relation line: its two numbers, and what they are judged by.
module _ (total : ℕ) (bytes : List ℕ) where
  pub relation_found : {columns rows : ℕ} {behind rest : List ℕ} → number_then space bytes ≡ value columns behind → number_then line_feed behind ≡ value rows rest
      → relation_of total bytes ≡ cond (pair_ok columns rows && leb (total + columns * rows) word_limit) (relation columns rows rest) no_relation
  unfolding relation_of
  relation_found {columns} e f = ap (with_columns total) e ∙ ap (with_rows total columns) f

  pub no_rows : {columns : ℕ} {behind : List ℕ} → number_then space bytes ≡ value columns behind → number_then line_feed behind ≡ no_number → relation_of total bytes ≡ no_relation
  unfolding relation_of
  no_rows {columns} e f = ap (with_columns total) e ∙ ap (with_rows total columns) f

  pub no_columns : number_then space bytes ≡ no_number → relation_of total bytes ≡ no_relation
  unfolding relation_of
  no_columns e = ap (with_columns total) e

-- the pair as the code hands it on
pub pair_begun : (total : ℕ) (text : List ℕ) (at : ℕ) {found : Relation} → begins relation_key (drop at text) ≡ true → relation_of total (drop (at + 9) text) ≡ found
    → cond (begins relation_key (drop at text)) (relation_of total (drop (length relation_key) (drop at text))) no_relation ≡ found
pair_begun total text at e f = rw (e, drop-drop (length relation_key) at text) f

-- A node line: within the limit, or beyond it.
module _ (before line : ℕ) (bytes : List ℕ) where
  pub node_read : {after : ℕ} {rest : List ℕ} → (one_line (NodeLine before) line bytes).next ≡ goes_on after rest
      → (before < question_node_limit) × (length (one_line (NodeLine before) line bytes).words ≡ question_node_words)
  node_read {after} {rest} e = go (ltb before question_node_limit) refl e
    where
      go : (within : Bool) → ltb before question_node_limit ≡ within → (cond within (keyed_line node_key question_node_words line bytes) (nothing (wrong_at line))).next ≡ goes_on after rest
          → (before < question_node_limit) × (length (cond within (keyed_line node_key question_node_words line bytes) (nothing (wrong_at line))).words ≡ question_node_words)
      go true w n = (ltb-true before question_node_limit w, keyed_line-length node_key question_node_words line bytes after rest n)
      go false w n = no-next n

  pub node_wrong : {wrong : ℕ} → (one_line (NodeLine before) line bytes).next ≡ wrong_at wrong → (wrong ≡ line) × (length (one_line (NodeLine before) line bytes).words < question_node_words)
  node_wrong {wrong} e = go (ltb before question_node_limit) e
    where
      go : (within : Bool) → (cond within (keyed_line node_key question_node_words line bytes) (nothing (wrong_at line))).next ≡ wrong_at wrong
          → (wrong ≡ line) × (length (cond within (keyed_line node_key question_node_words line bytes) (nothing (wrong_at line))).words < question_node_words)
      go true n = line_cut node_key question_node_words line bytes (omega arith) n
      go false n = let l : wrong ≡ line = cc in (l, omega arith)

-- The place of a refusal 12 is the line of the reader that found it, whatever line had to come.
pub wrong_here : (kind : Line) → Lawful kind → (line : ℕ) (bytes : List ℕ) {wrong : ℕ} → (one_line kind line bytes).next ≡ wrong_at wrong → wrong ≡ line
wrong_here ModeLine ok line bytes {wrong} e = go (begins plain_line bytes) (begins short_line bytes) e
  where
    go : (plain short : Bool) → (cond plain (mode_read 0 line (drop (length plain_line) bytes)) (cond short (mode_read 1 line (drop (length short_line) bytes)) (nothing (wrong_at line)))).next ≡ wrong_at wrong
        → wrong ≡ line
    go true short n = no-next (sym n)
    go false true n = no-next (sym n)
    go false false n = cc
wrong_here (RelationLine total) ok line bytes {wrong} e = go (begins relation_key bytes) (relation_of total (drop (length relation_key) bytes)) e
  where
    go : (begun : Bool) (found : Relation) → (cond begun (pair_read line found) (nothing (wrong_at line))).next ≡ wrong_at wrong → wrong ≡ line
    go true (relation columns rows rest) n = no-next (sym n)
    go true no_relation n = cc
    go false found n = cc
wrong_here (RowLine columns) ok line bytes e = (line_cut row_key columns line bytes ok e).0
wrong_here (NodeLine before) ok line bytes e = (node_wrong before line bytes e).0
