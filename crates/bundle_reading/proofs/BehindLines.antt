-- What stands behind a line that was read: the bundle behind its mode, a table behind its relation line, the nodes behind a node. Assumes nothing.
use mathlib.Core.Path.{◌≡◌, refl, sym, ap, subst, ◌∙◌}
use Prim.Native.Nat.{ℕ, ◌+◌, ◌-◌, ◌*◌, ◌≤◌}
use mathlib.Core.List.{List, [], ◌∷◌}
use mathlib.Core.Bool.{Bool, true, false, cond}
use mathlib.Core.Logic.{◌⊎◌, inl, inr}
use native.Mathlib.Omega.{arith}
use lib.Dec.{ltb}
use lib.ListN.{length, get_or, drop}
use lib.Seq.{sets}
use borrow.Author.Tests.{ltb-true, ltb-false}
use Rattle.relations.specs.Limits.{catalogue_pair_limit, word_limit, question_node_limit}
use Rattle.relations.proofs.BoolLaws.{true_or_false}
use Rattle.catalogue.specs.Judging.{pair_ok}
use Rattle.lines.specs.Marks.{plain_line, short_line, relation_key}
use Rattle.lines.specs.Reading.{goes_on, wrong_at, Read, nothing, and_then, begins}
use Rattle.bundles.specs.Reading.{Relation, relation, no_relation, relation_of, table_behind, table_of, tables_of, unless_ended, nodes_of, no_bundle, with_tables, lines_of}
use Rattle.lines.specs.Answers.{standing, LinesRead}
use Rattle.bundle_lines.specs.OneLine.{mode_read, pair_read, one_line}
use Rattle.lines.specs.declared.reader.Reader.{Reader}
use Rattle.lines.specs.declared.reader.WrongLine.{WrongLine}
use Rattle.std.specs.Prelude.{Result, Ok, Err}
use Rattle.bundle_lines.specs.declared.Line.TheVariants.{Mode as ModeLine, Relation as RelationLine, Node as NodeLine}
use Rattle.lines.proofs.ReadingLaws.{no-next}
use Rattle.bundles.proofs.ReadingLaws.{RelationAsText, relation_of-text}
use Rattle.bundle_reading.proofs.ReadingSteps.{nodes_step, nodes-done}

-- The bundle behind the mode's line, which a new reader reads first.
mode_first : (text now : List ℕ) (at line : ℕ) → now ≡ text → at ≡ 0 → line ≡ 1 → one_line ModeLine line (drop at now) ≡ one_line ModeLine 1 text
mode_first text now at line t a l = rw (l, a, t)

module _ {text after : List ℕ} {start stop : Reader} {answer : Result Unit WrongLine} (new : (start.text.now ≡ text) × (start.at ≡ 0) × (start.line ≡ 1))
    (read : LinesRead start (one_line ModeLine start.line (drop start.at start.text.now)) 0 (0 ∷ []) after stop answer) where
  first_line : LinesRead start (one_line ModeLine 1 text) 0 (0 ∷ []) after stop answer
  first_line = subst (λ (found : Read). LinesRead start found 0 (0 ∷ []) after stop answer) (mode_first text start.text.now start.at start.line new.0 new.1 new.2) read

  pub behind-mode : answer ≡ Ok tt → lines_of text ≡ with_tables (get_or after 0 0) (tables_of catalogue_pair_limit 0 stop.line (drop stop.at stop.text.now))
  unfolding lines_of
  behind-mode e = rw first_line.words (go (begins plain_line text) (begins short_line text) (first_line.means ∙ ap (standing stop) e))
    where
      plain_bytes : List ℕ
      plain_bytes = drop (length plain_line) text

      short-bytes : List ℕ
      short-bytes = drop (length short_line) text

      first : (plain short : Bool) → Read
      first plain short = cond plain (mode_read 0 1 plain_bytes) (cond short (mode_read 1 1 short-bytes) (nothing (wrong_at 1)))

      go : (plain short : Bool) → (first plain short).next ≡ goes_on stop.line (drop stop.at stop.text.now)
          → cond plain (with_tables 0 (tables_of catalogue_pair_limit 0 2 plain_bytes)) (cond short (with_tables 1 (tables_of catalogue_pair_limit 0 2 short-bytes)) (no_bundle 1))
          ≡ with_tables (get_or (sets (0 ∷ []) 0 (first plain short).words) 0 0) (tables_of catalogue_pair_limit 0 stop.line (drop stop.at stop.text.now))
      go true short n = let l : 2 ≡ stop.line = cc in let b : plain_bytes ≡ drop stop.at stop.text.now = cc in rw (l, b)
      go false true n = let l : 2 ≡ stop.line = cc in let b : short-bytes ≡ drop stop.at stop.text.now = cc in rw (l, b)
      go false false n = no-next n

  pub no_mode : {line : WrongLine} → answer ≡ Err line → lines_of text ≡ no_bundle line.0
  unfolding lines_of
  no_mode {line} e = go (begins plain_line text) (begins short_line text) (first_line.means ∙ ap (standing stop) e)
    where
      go : (plain short : Bool)
          → (cond plain (mode_read 0 1 (drop (length plain_line) text)) (cond short (mode_read 1 1 (drop (length short_line) text)) (nothing (wrong_at 1)))).next ≡ wrong_at line.0
          → cond plain (with_tables 0 (tables_of catalogue_pair_limit 0 2 (drop (length plain_line) text))) (cond short (with_tables 1 (tables_of catalogue_pair_limit 0 2 (drop (length short_line) text))) (no_bundle 1))
          ≡ no_bundle line.0
      go true short n = no-next (sym n)
      go false true n = no-next (sym n)
      go false false n = let l : 1 ≡ line.0 = cc in rw l

-- The table behind a relation line.
pub record TableBegun (total line : ℕ) (bytes pair : List ℕ) (next : ℕ) (rest : List ℕ) : Type 0 where
  pub next-line : next ≡ line + 1
  pub pair_is : pair ≡ get_or pair 0 0 ∷ get_or pair 1 0 ∷ []
  pub table_is : table_of total line bytes ≡ table_behind line (relation (get_or pair 0 0) (get_or pair 1 0) rest)
  pub ok : pair_ok (get_or pair 0 0) (get_or pair 1 0) ≡ true
  pub fits : total + get_or pair 0 0 * get_or pair 1 0 ≤ word_limit

module _ (total line : ℕ) (bytes : List ℕ) {pair : List ℕ} {start stop : Reader} {answer : Result Unit WrongLine} (read : LinesRead start (one_line (RelationLine total) line bytes) 0 (0 ∷ 0 ∷ []) pair stop answer) (key : begins relation_key bytes ≡ true) where
  abbrev behind : List ℕ
  behind = drop (length relation_key) bytes

  pub table_begun : answer ≡ Ok tt → TableBegun total line bytes pair stop.line (drop stop.at stop.text.now)
  unfolding table_of
  table_begun e = go (relation_of total behind) refl (rw key at read.words) (rw key at (read.means ∙ ap (standing stop) e))
    where
      go : (found : Relation) → relation_of total behind ≡ found → pair ≡ sets (0 ∷ 0 ∷ []) 0 (pair_read line found).words → (pair_read line found).next ≡ goes_on stop.line (drop stop.at stop.text.now)
          → TableBegun total line bytes pair stop.line (drop stop.at stop.text.now)
      go (relation columns rows rest) is kept n =
          let l : stop.line ≡ line + 1 = cc in
          let b : rest ≡ drop stop.at stop.text.now = cc in
          let head : RelationAsText total behind columns rows rest = relation_of-text total behind columns rows rest is in
          rw kept (record { next-line = l; pair_is = refl; table_is = rw (is, b); ok = head.ok; fits = head.fits })
      go no_relation is kept n = no-next n

  pub no_table : {wrong : WrongLine} → answer ≡ Err wrong → (table_of total line bytes ≡ table_behind line no_relation) × (wrong.0 ≡ line)
  unfolding table_of
  no_table {wrong} e = go (relation_of total behind) refl (rw key at (read.means ∙ ap (standing stop) e))
    where
      go : (found : Relation) → relation_of total behind ≡ found → (pair_read line found).next ≡ wrong_at wrong.0 → (table_behind line (relation_of total behind) ≡ table_behind line no_relation) × (wrong.0 ≡ line)
      go (relation columns rows rest) is n = no-next (sym n)
      go no_relation is n = let l : wrong.0 ≡ line = cc in (ap (table_behind line) is, l)

-- The nodes behind a node line.
module _ (before line : ℕ) (bytes : List ℕ) where
  -- the nodes that are left are a line, and those behind it
  pub node_step : nodes_of (question_node_limit - before) line bytes
      ≡ and_then (one_line (NodeLine before) line bytes) (λ after rest. unless_ended after rest (nodes_of (question_node_limit - before - 1) after rest))
  node_step = go (true_or_false (ltb before question_node_limit))
    where
      go : (ltb before question_node_limit ≡ true) ⊎ (ltb before question_node_limit ≡ false) → nodes_of (question_node_limit - before) line bytes
          ≡ and_then (one_line (NodeLine before) line bytes) (λ after rest. unless_ended after rest (nodes_of (question_node_limit - before - 1) after rest))
      go (inl e) = rw e (nodes_step (question_node_limit - before) line bytes (omega (arith, ltb-true before question_node_limit e)))
      go (inr e) = rw e (nodes-done (question_node_limit - before) line bytes (omega (arith, ltb-false before question_node_limit e)))
