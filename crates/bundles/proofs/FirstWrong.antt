-- The theorem of specs/FirstWrong.antt: the place that reading gives is the first wrong line, and there is only one. Assumes nothing.
use Prim.Native.Nat.{ℕ, zero, suc, ◌+◌, ◌-◌, ◌*◌, ◌/◌, ◌≤◌, ◌<◌}
use mathlib.Core.Path.{◌≡◌, refl, sym, ap, ◌∙◌}
use mathlib.Core.List.{List, [], ◌++◌, append_assoc, append-nil}
use mathlib.Core.Bool.{Bool, true, false, cond}
use mathlib.Core.Logic.{◌⊎◌, inl, inr}
use native.Mathlib.Omega.{arith}
use lib.Dec.{ltb, eqb}
use lib.ListN.{length, drop, replicate, length-replicate}
use borrow.Author.Tests.{le-ltb, ltb-true, ltb-false}
use Rattle.relations.specs.Limits.{catalogue_pair_limit, word_limit, question_node_limit, question_node_words, byte_limit}
use Rattle.relations.proofs.BoolLaws.{true_or_false}
use Rattle.catalogue.specs.Judging.{pairs_ok, catalogue_words}
use Rattle.catalogue.proofs.Judgements.{GoodTables, tables-good}
use Rattle.lines.specs.Marks.{plain_line, short_line, node_key}
use Rattle.lines.specs.Writing.{lines_text}
use Rattle.bundles.specs.Writing.{tables_text, mode_text, bundle_text}
use Rattle.bundles.specs.Reading.{Bundle, ReadTables, tables_of, no_bundle, nodes_after, with_tables, lines_of, bundle_in}
use Rattle.lines.specs.Reading.{Next, goes_on, wrong_at, begins}
use Rattle.lines.specs.Words32.{Words32}
use Rattle.bundles.specs.RoundTrip.{BundleAsText}
use Rattle.bundles.specs.ReadCall.{read_refused, bundle_outcome, small_buffers, read_outcome}
use Rattle.bundles.specs.FirstWrong.{ended_lines, RightText, FirstWrong, PlaceIsFirstWrong}
use Rattle.bundles.proofs.Judgements.{nodes-good}
use Rattle.lines.proofs.ReadingLaws.{no-next, begins-text}
use Rattle.bundles.proofs.ReadingLaws.{reading-text, TablesAsText, tables_of-text}
use Rattle.bundles.proofs.WritingLaws.{lines_of_text}
use Rattle.bundles.proofs.LineNumbers.{line_of}
use Rattle.bundles.proofs.SameLines.{Same, same_none, tables_of_from, nodes_of_from, lines_along, wrong_in_both}
use Rattle.bundles.proofs.Completed.{feeds_append, same_behind, same_all, same_less, same_line, same_from, at_once, zeros_32, TablesCompleted, tables_of_completed, tables_feeds, NodesCompleted, nodes_of_completed}

-- No right text has the same lines up to a wrong one: it would be wrong there too.
right_goes_on : (text : List ℕ) (line : ℕ) → RightText text → (lines_of text).next ≡ wrong_at line → ⊥
right_goes_on text line r e =
    no-next (sym e ∙ ap (λ (bytes : List ℕ). (lines_of bytes).next) (sym r.text_is) ∙ ap (λ (bundle : Bundle). bundle.next) (lines_of_text r.mode r.catalogue r.tables r.nodes r.tables_ok_lem r.nodes_ok_lem r.tables_32 r.nodes_32))

none_right : (text other : List ℕ) (k : ℕ) → (lines_of text).next ≡ wrong_at (suc k) → Same (suc k) text other → RightText other → ⊥
none_right text other k e s r = right_goes_on other (suc k) r (wrong_in_both (suc k) (lines_along k text other s) e)

-- Some right text has the same lines before a wrong one.
record Before (text : List ℕ) (place : ℕ) : Type 0 where
  from_one : 1 ≤ place
  example : List ℕ
  right : RightText example
  same : Same (place - 1) text example

mode_feeds : (mode : ℕ) → 1 ≤ ended_lines (mode_text mode)
unfolding ended_lines
mode_feeds mode = go (eqb mode 0)
  where
    go : (plain : Bool) → 1 ≤ ended_lines (cond plain plain_line short_line)
    go true = omega arith
    go false = omega arith

-- a right text of tables and nodes that are complete
right-text : (mode : ℕ) (catalogue tables nodes : List ℕ) (count : ℕ) → GoodTables catalogue tables → length nodes ≡ count * question_node_words → 1 ≤ count → count ≤ question_node_limit → Words32 tables → Words32 nodes
    → RightText (mode_text mode ++ (tables_text catalogue tables ++ lines_text node_key question_node_words count nodes))
unfolding bundle_text
right-text mode catalogue tables nodes count good many some few h k =
    let n : length nodes / question_node_words ≡ count = omega arith in
    record {
      mode = mode;
      catalogue = catalogue;
      tables = tables;
      nodes = nodes;
      tables_ok_lem = tables-good catalogue tables good;
      nodes_ok_lem = nodes-good nodes (record { whole = omega arith; some = omega arith; few = omega arith });
      tables_32 = h;
      nodes_32 = k;
      text_is = append_assoc (mode_text mode) (tables_text catalogue tables) (lines_text node_key question_node_words (length nodes / question_node_words) nodes) ∙ rw n;
    }

no_pairs_lem : pairs_ok [] ≡ true
unfolding pairs_ok
no_pairs_lem = refl

no_sum : catalogue_words [] ≡ 0
unfolding catalogue_words
no_sum = refl

no_words_lem : catalogue_words [] ≤ word_limit
no_words_lem = omega (arith, no_sum)

behind-mode : (mode : ℕ) (text bytes : List ℕ) (place : ℕ) → text ≡ mode_text mode ++ bytes → (with_tables mode (tables_of catalogue_pair_limit 0 2 bytes)).next ≡ wrong_at place → Before text place
behind-mode mode text bytes place is e = go found.next refl e
  where
    found : ReadTables
    found = tables_of catalogue_pair_limit 0 2 bytes

    go : (next : Next) → found.next ≡ next → (nodes_after next).next ≡ wrong_at place → Before text place
    go (goes_on line rest) stands e =
        let ts : TablesAsText catalogue_pair_limit 0 bytes found rest = tables_of-text catalogue_pair_limit 0 2 bytes line rest stands in
        let N : NodesCompleted question_node_limit line rest place = nodes_of_completed question_node_limit line rest place e in
        let front : List ℕ = mode_text mode ++ tables_text found.catalogue found.tables in
        let nodes : List ℕ = lines_text node_key question_node_words N.nodes N.words in
        record {
          from_one = let f : line ≤ line_of (wrong_at place) = rw e at (nodes_of_from question_node_limit line rest) in let g : 2 ≤ line_of (goes_on line rest) = rw stands at (tables_of_from catalogue_pair_limit 0 2 bytes) in omega arith;
          example = mode_text mode ++ (tables_text found.catalogue found.tables ++ nodes);
          right =
              right-text mode found.catalogue found.tables N.words N.nodes (record { few = ts.few; pairs = ts.ok; fits = omega (arith, ts.fits (omega arith)); sum = ts.many })
              N.many (N.some (omega arith)) N.few ts.words32 N.words32;
          same =
              same_from front 1 line place text (mode_text mode ++ (tables_text found.catalogue found.tables ++ nodes)) rest nodes
              (is ∙ ap (λ (tail : List ℕ). mode_text mode ++ tail) ts.text ∙ sym (append_assoc (mode_text mode) (tables_text found.catalogue found.tables) rest))
              (sym (append_assoc (mode_text mode) (tables_text found.catalogue found.tables) nodes))
              (omega (arith, feeds_append (mode_text mode) (tables_text found.catalogue found.tables), mode_feeds mode, tables_feeds catalogue_pair_limit 0 2 bytes line rest stands)) N.same;
        }
    go (wrong_at line) stands e =
        let C : TablesCompleted catalogue_pair_limit 0 2 bytes place = tables_of_completed catalogue_pair_limit 0 2 bytes place (stands ∙ e) in
        let nodes : List ℕ = lines_text node_key question_node_words 1 (replicate question_node_words 0) in
        record {
          from_one = let g : 2 ≤ line_of (wrong_at place) = rw (stands ∙ e) at (tables_of_from catalogue_pair_limit 0 2 bytes) in omega arith;
          example = mode_text mode ++ (tables_text C.catalogue C.tables ++ nodes);
          right =
              right-text mode C.catalogue C.tables (replicate question_node_words 0) 1 (record { few = C.few; pairs = C.ok; fits = omega (arith, C.fits (omega arith)); sum = C.many })
              (length-replicate {A = ℕ} question_node_words 0) (omega arith) (omega arith) C.words32 (zeros_32 question_node_words);
          same =
              same_from (mode_text mode) 1 2 place text (mode_text mode ++ (tables_text C.catalogue C.tables ++ nodes)) bytes (tables_text C.catalogue C.tables ++ nodes) is refl
              (omega (arith, mode_feeds mode)) (C.same nodes);
        }

before-wrong : (text : List ℕ) (place : ℕ) → (lines_of text).next ≡ wrong_at place → Before text place
unfolding lines_of
before-wrong text place e = moded (begins plain_line text) (begins short_line text) refl refl e
  where
    moded : (plain short : Bool) → begins plain_line text ≡ plain → begins short_line text ≡ short
        → (cond plain (with_tables 0 (tables_of catalogue_pair_limit 0 2 (drop (length plain_line) text)))
        (cond short (with_tables 1 (tables_of catalogue_pair_limit 0 2 (drop (length short_line) text))) (no_bundle 1))).next ≡ wrong_at place
        → Before text place
    moded true short p s e = behind-mode 0 text (drop (length plain_line) text) place (begins-text plain_line text p) e
    moded false true p s e = behind-mode 1 text (drop (length short_line) text) place (begins-text short_line text s) e
    moded false false p s e =
        let one : 1 ≡ place = same_line e in
        let nodes : List ℕ = lines_text node_key question_node_words 1 (replicate question_node_words 0) in
        record {
          from_one = omega arith;
          example = mode_text 0 ++ (tables_text [] [] ++ nodes);
          right = right-text 0 [] [] (replicate question_node_words 0) 1 (record { few = omega arith; pairs = no_pairs_lem; fits = no_words_lem; sum = sym no_sum }) (length-replicate {A = ℕ} question_node_words 0) (omega arith) (omega arith) tt (zeros_32 question_node_words);
          same = at_once place 1 text (mode_text 0 ++ (tables_text [] [] ++ nodes)) (sym one);
        }

place-first : (text : List ℕ) (line : ℕ) → (lines_of text).next ≡ wrong_at line → FirstWrong text line
place-first text line e = go line (before-wrong text line e) e
  where
    go : (line : ℕ) → Before text line → (lines_of text).next ≡ wrong_at line → FirstWrong text line
    go zero b e = absurd (let h : 1 ≤ 0 = b.from_one in omega arith)
    go (suc k) b e = record { counted = b.from_one; wrong = λ other r s. none_right text other k e s r; example = b.example; right = b.right; right-before = b.same }

place : (text : List ℕ) (line : ℕ) → length text ≤ byte_limit → (bundle_in text).next ≡ wrong_at line → FirstWrong text line
unfolding bundle_in
place text line short e = place-first text line (rw (le-ltb byte_limit (length text) short) at e)

-- a first wrong line is not before another
not_before : (text : List ℕ) (one other : ℕ) → FirstWrong text one → FirstWrong text other → one < other → ⊥
not_before text one other f g h = f.wrong g.example g.right (same_less text g.example one (other - 1) (omega arith) g.right-before)

one_place : (text : List ℕ) (one other : ℕ) → FirstWrong text one → FirstWrong text other → one ≡ other
one_place text one other f g = go (true_or_false (ltb one other)) (true_or_false (ltb other one))
  where
    go : (ltb one other ≡ true) ⊎ (ltb one other ≡ false) → (ltb other one ≡ true) ⊎ (ltb other one ≡ false) → one ≡ other
    go (inl a) q = absurd (not_before text one other f g (ltb-true one other a))
    go (inr a) (inl b) = absurd (not_before text other one g f (ltb-true other one b))
    go (inr a) (inr b) = omega (arith, ltb-false one other a, ltb-false other one b)

-- what is read to its end is right
read_right : (text : List ℕ) (line : ℕ) (rest : List ℕ) → (bundle_in text).next ≡ goes_on line rest → RightText text
read_right text line rest e =
    let is : BundleAsText text (bundle_in text) rest = reading-text text line rest e in
    record {
      mode = (bundle_in text).mode;
      catalogue = (bundle_in text).catalogue;
      tables = (bundle_in text).tables;
      nodes = (bundle_in text).nodes;
      tables_ok_lem = is.tables_ok_lem;
      nodes_ok_lem = is.nodes_ok_lem;
      tables_32 = is.tables_32;
      nodes_32 = is.nodes_32;
      text_is = is.text_is;
    }

refused : (text : List ℕ) (line : ℕ) → length text ≤ byte_limit → FirstWrong text line → (bundle_in text).next ≡ wrong_at line
refused text line short f = go (bundle_in text).next refl
  where
    go : (next : Next) → (bundle_in text).next ≡ next → next ≡ wrong_at line
    go (goes_on after rest) e = absurd (f.wrong text (read_right text after rest e) refl)
    go (wrong_at other) e = ap wrong_at (one_place text other line (place text other short e) f)

missing : (text more : List ℕ) → RightText (text ++ more) → (RightText text → ⊥) → FirstWrong text (suc (ended_lines text))
missing text more right wrong =
    let n : ℕ = ended_lines text in
    let before : suc n - 1 ≡ n = omega arith in
    let count : n + 0 ≡ n = omega arith in
    let s : Same (n + 0) (text ++ []) (text ++ more) = same_behind text 0 [] more (same_none [] more) in
    record {
      counted = omega arith;
      wrong = λ other r same. wrong (rw (same_all text other (suc n) (omega arith) same) r);
      example = text ++ more;
      right = right;
      right-before = rw before (rw (count, append-nil text) at s);
    }

module _ (text catalogue tables question : List ℕ) (large : small_buffers catalogue tables question ≡ false) (short : length text ≤ byte_limit) where
  read_place : (read_outcome text catalogue tables question).numbers.status ≡ 12 → FirstWrong text (read_outcome text catalogue tables question).numbers.place
  unfolding read_outcome
  read_place e = rw large (go (bundle_in text).next refl (rw large at e))
    where
      go : (next : Next) → (bundle_in text).next ≡ next → (bundle_outcome catalogue tables question (bundle_in text) next).numbers.status ≡ 12
          → FirstWrong text (bundle_outcome catalogue tables question (bundle_in text) next).numbers.place
      go (goes_on line rest) is e = absurd (omega arith)
      go (wrong_at line) is e = place text line short is

  read_refuses : (line : ℕ) → FirstWrong text line → read_outcome text catalogue tables question ≡ read_refused catalogue tables question 12 line
  unfolding read_outcome
  read_refuses line f = rw (large, refused text line short f)

pub place_is_first-wrong : PlaceIsFirstWrong
place_is_first-wrong =
    record {
      place = place;
      refused = refused;
      one_place = one_place;
      missing = missing;
      read_place = read_place;
      read_refuses = λ text catalogue tables question line large short f. read_refuses text catalogue tables question large short line f;
    }
