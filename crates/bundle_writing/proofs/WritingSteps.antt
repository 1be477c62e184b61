-- The text of tables, step by step from its front, and how long that of a bundle can be. Assumes nothing.
use Prim.Native.Nat.{ℕ, ◌+◌, ◌*◌, ◌/◌, ◌<◌, ◌≤◌}
use mathlib.Core.Path.{◌≡◌, refl, sym, ap, ◌∙◌}
use mathlib.Core.List.{List, [], ◌∷◌, ◌++◌, append_assoc}
use mathlib.Core.Bool.{Bool, true, false, cond, false≢true}
use native.Mathlib.Omega.{arith}
use lib.Dec.{eqb, ltb}
use lib.ListN.{length, get_or, take, drop, length-append, length-drop, drop_of_length-le}
use lib.Seq.{drop-drop}
use Rattle.relations.specs.Limits.{question_node_words, question_node_limit}
use Rattle.lines.specs.Marks.{plain_line, short_line, relation_key, row_key, node_key}
use Rattle.catalogue.specs.Judging.{pair_ok, pairs_ok, catalogue_words, tables_ok}
use Rattle.lines.specs.Writing.{numbers_text, lines_text}
use Rattle.bundles.specs.Writing.{tables_text, mode_text, bundle_text}
use Rattle.lines.specs.Put.{Put, furthest}
use Rattle.lines.proofs.Stores.{StillToPut, put_on, put_fits}
use borrow.Author.Tests.{ltb-true, ltb-false}
use Rattle.relations.proofs.BoolLaws.{and_left, and_right}
use Rattle.catalogue.proofs.Judgements.{good_pair, GoodTables, good-tables}
use Rattle.catalogue.proofs.PairLaws.{drop_pair, pairs-good, pairs_first, words_pair}
use Rattle.lines.proofs.WritingSteps.{length-lines, rows_words, length-numbers}

regroup : (a b c d : List ℕ) → a ++ b ++ c ++ d ≡ a ++ (b ++ (c ++ d))
regroup a b c d = simp append_assoc

pub tables_step : (catalogue tables more : List ℕ) (columns rows place : ℕ) → catalogue ≡ columns ∷ rows ∷ more
    → tables_text catalogue (drop place tables)
    ≡ relation_key ++ (numbers_text (take 2 catalogue) ++ (lines_text row_key columns rows (drop place tables) ++ tables_text more (drop (place + columns * rows) tables)))
unfolding tables_text
tables_step catalogue tables more columns rows place e =
    let numbers : List ℕ = numbers_text (columns ∷ rows ∷ []) in
    let lines : List ℕ = lines_text row_key columns rows (drop place tables) in
    rw e (
    regroup relation_key numbers lines (tables_text more (drop (columns * rows) (drop place tables)))
    ∙ ap (λ (l : List ℕ). relation_key ++ (numbers ++ (lines ++ tables_text more l))) (drop-drop (columns * rows) place tables))

-- A pair that begins in good pairs is whole.
two_left : (l : List ℕ) → pairs_ok l ≡ true → 0 < length l → 1 < length l
unfolding pairs_ok
two_left [] ok h = absurd (omega arith)
two_left (columns ∷ []) ok h = absurd (false≢true ok)
two_left (columns ∷ rows ∷ more) ok h = omega arith

pair_whole : (l : List ℕ) (at : ℕ) → at < length l → pairs_ok (drop at l) ≡ true → at + 1 < length l
pair_whole l at h ok =
    let some : 0 < length (drop at l) = rw length-drop (omega arith) in
    omega (arith, two_left (drop at l) ok some, length-drop at l)

-- A turn of the loop over the catalogue, at the pair that stands in front of what is left.
pub record TableTurn (catalogue tables : List ℕ) (pair place columns rows : ℕ) : Type 0 where
  pub here : pair + 2 ≤ length catalogue
  pub pairs-left : pairs_ok (drop (pair + 2) catalogue) ≡ true
  pub words : catalogue_words (drop pair catalogue) ≡ columns * rows + catalogue_words (drop (pair + 2) catalogue)
  pub text :
      tables_text (drop pair catalogue) (drop place tables)
      ≡ relation_key ++ (numbers_text (take 2 (drop pair catalogue)) ++ (lines_text row_key columns rows (drop place tables) ++ tables_text (drop (pair + 2) catalogue) (drop (place + columns * rows) tables)))

pub table_turn : (catalogue tables : List ℕ) (pair place columns rows : ℕ) → pair < length catalogue → pairs_ok (drop pair catalogue) ≡ true
    → columns ≡ get_or catalogue pair 0 → rows ≡ get_or catalogue (pair + 1) 0 → TableTurn catalogue tables pair place columns rows
table_turn catalogue tables pair place columns rows h ok e f =
    let two : pair + 1 < length catalogue = pair_whole catalogue pair h ok in
    let more : List ℕ = drop (pair + 2) catalogue in
    let front : drop pair catalogue ≡ columns ∷ rows ∷ more = drop_pair catalogue pair columns rows two e f in
    record {
      here = omega arith;
      pairs-left = sym (pairs-good columns rows (drop pair catalogue) more front (pairs_first columns rows (drop pair catalogue) more front ok)) ∙ ok;
      words = words_pair columns rows (drop pair catalogue) more front;
      text = tables_step (drop pair catalogue) tables more columns rows place front;
    }

-- and when no pair is left
pub last_pair : (catalogue : List ℕ) (pair : ℕ) → length catalogue ≤ pair + 1 → pairs_ok (drop pair catalogue) ≡ true → drop pair catalogue ≡ []
last_pair catalogue pair h ok = go (ltb pair (length catalogue)) refl
  where
    go : (some : Bool) → ltb pair (length catalogue) ≡ some → drop pair catalogue ≡ []
    go true e = absurd (omega (arith, pair_whole catalogue pair (ltb-true _ _ e) ok))
    go false e = drop_of_length-le catalogue {i = pair} (ltb-false _ _ e)

-- What the turn puts: the key, the pair and the rows, each behind the other.
module _ {catalogue tables before now : List ℕ} {at end pair place columns rows : ℕ} {whole : List ℕ} (turn : TableTurn catalogue tables pair place columns rows)
    (still : StillToPut at whole before end (tables_text (drop pair catalogue) (drop place tables)) now) (fits : at + length whole ≤ furthest) where
  abbrev numbers : List ℕ
  numbers = numbers_text (take 2 (drop pair catalogue))

  abbrev lines : List ℕ
  lines = lines_text row_key columns rows (drop place tables)

  abbrev others : List ℕ
  others = tables_text (drop (pair + 2) catalogue) (drop (place + columns * rows) tables)

  pub key_fits : end + length relation_key ≤ furthest
  key_fits = put_fits relation_key (numbers ++ (lines ++ others)) furthest still turn.text fits

  module _ {keyed : List ℕ} {behind : ℕ} (key_put : Put end relation_key now keyed behind) where
    still_numbers : StillToPut at whole before behind (numbers ++ (lines ++ others)) keyed
    still_numbers = put_on relation_key (numbers ++ (lines ++ others)) still turn.text key_put

    pub numbers_fit : behind + length numbers ≤ furthest
    numbers_fit = put_fits numbers (lines ++ others) furthest still_numbers refl fits

    module _ {numbered : List ℕ} {rows_at : ℕ} (numbers_put : Put behind numbers keyed numbered rows_at) where
      still_lines : StillToPut at whole before rows_at (lines ++ others) numbered
      still_lines = put_on numbers (lines ++ others) still_numbers refl numbers_put

      pub lines_fit : rows_at + length lines ≤ furthest
      lines_fit = put_fits lines others furthest still_lines refl fits

      pub lines_put : {after : List ℕ} {stop : ℕ} → Put rows_at lines numbered after stop → StillToPut at whole before stop others after
      lines_put p = put_on lines others still_lines refl p

-- The parts of a bundle's text, and how long they are.
pub length-bundle : (mode : ℕ) (catalogue tables nodes : List ℕ)
    → length (bundle_text mode catalogue tables nodes) ≡ length (mode_text mode) + length (tables_text catalogue tables) + length (lines_text node_key question_node_words (length nodes / question_node_words) nodes)
unfolding bundle_text
length-bundle mode catalogue tables nodes = simp length-append

length-tables : (catalogue tables : List ℕ) → pairs_ok catalogue ≡ true → length (tables_text catalogue tables) ≤ 31 * length catalogue + 15 * catalogue_words catalogue
unfolding tables_text pairs_ok catalogue_words
length-tables [] tables h = omega arith
length-tables (columns ∷ []) tables h = omega arith
length-tables (columns ∷ rows ∷ more) tables h =
    simp length-append (omega (
      arith,
      length-numbers (columns ∷ rows ∷ []),
      length-lines row_key columns rows tables,
      rows_words columns rows (good_pair columns rows (and_left _ (pairs_ok more) h)).some,
      length-tables more (drop (columns * rows) tables) (and_right (pair_ok columns rows) _ h),
    ))

length-mode : (mode : ℕ) → length (mode_text mode) ≡ 11
length-mode mode = go (eqb mode 0) where
  go : (b : Bool) → length (cond b plain_line short_line) ≡ 11
  go true = refl
  go false = refl

pub bundle_fits : (mode : ℕ) (catalogue tables nodes : List ℕ) → tables_ok catalogue tables ≡ true → length nodes / question_node_words ≤ question_node_limit
    → length (bundle_text mode catalogue tables nodes) ≤ furthest
unfolding bundle_text
bundle_fits mode catalogue tables nodes ok few =
    let good : GoodTables catalogue tables = good-tables catalogue tables ok in
    simp length-append (omega (
      arith,
      length-mode mode,
      length-tables catalogue tables good.pairs,
      good.few,
      good.fits,
      length-lines node_key question_node_words (length nodes / question_node_words) nodes,
    ))
