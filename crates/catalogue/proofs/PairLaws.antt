-- The catalogue read pair by pair from its front, and what its judgement says of the tables. Assumes nothing.
use Prim.Native.Nat.{ℕ, suc, ◌+◌, ◌*◌, ◌%◌, ◌<◌, ◌≤◌}
use mathlib.Core.Path.{◌≡◌, refl, sym, ap, ◌∙◌}
use mathlib.Core.List.{List, [], ◌∷◌, ◌++◌}
use mathlib.Core.Bool.{Bool, true, false, cond, ◌&&◌, false≢true}
use native.Mathlib.Omega.{arith}
use native.Mathlib.Numerals.{add-one}
use lib.Dec.{eqb, leb}
use borrow.Author.Tests.{le-leb, lt-leb}
use Rattle.std.proofs.Common.{slice_index_or}
use Rattle.relations.specs.Limits.{catalogue_pair_limit, word_limit}
use lib.ListN.{length, get_or, drop, length-drop, drop_of_length-le}
use lib.Seq.{drop-cons}
use Rattle.catalogue.specs.Judging.{pair_ok, pairs_ok, catalogue_words, catalogue_ok, tables_ok, CatalogueNumbers, catalogue_numbers, judged_catalogue}
use Rattle.relations.proofs.BoolLaws.{and_left}
use Rattle.std.specs.Prelude.{Result, Ok, Err}
use Rattle.catalogue.specs.declared.judging.WrongCatalogue.{WrongCatalogue}

-- A pair at the front of what is left.
pub drop_pair : (l : List ℕ) (at columns rows : ℕ) → at + 1 < length l → columns ≡ get_or l at 0 → rows ≡ get_or l (at + 1) 0 → drop at l ≡ columns ∷ rows ∷ drop (at + 2) l
drop_pair l at columns rows h e f =
    let two : at + 2 ≡ suc (suc at) = omega arith in
    rw (e, f, two, add-one, drop-cons l at 0 (omega arith), drop-cons l (suc at) 0 (omega arith))

-- The two words of a chunk, in front of the chunks left.
pub pair_front : (pair : List ℕ) {rest l : List ℕ} → length pair ≡ 2 → l ≡ pair ++ rest → l ≡ slice_index_or pair 0 0 ∷ slice_index_or pair 1 0 ∷ rest
pair_front [] n e = absurd (omega arith)
pair_front (columns ∷ []) n e = absurd (omega arith)
pair_front (columns ∷ rows ∷ []) n e = e
pair_front (columns ∷ rows ∷ third ∷ more) n e = absurd (omega arith)

pub none_left : (l : List ℕ) → length l < 2 → length l % 2 ≡ 0 → l ≡ []
none_left [] h even = refl
none_left (columns ∷ []) h even = absurd (omega arith)
none_left (columns ∷ rows ∷ more) h even = absurd (omega arith)

module _ (columns rows : ℕ) (l more : List ℕ) (e : l ≡ columns ∷ rows ∷ more) where
  pub pairs-good : pair_ok columns rows ≡ true → pairs_ok l ≡ pairs_ok more
  unfolding pairs_ok
  pairs-good h = ap pairs_ok e ∙ rw h

  pub pairs_bad : pair_ok columns rows ≡ false → pairs_ok l ≡ false
  unfolding pairs_ok
  pairs_bad h = ap pairs_ok e ∙ rw h

  pub pairs_first : pairs_ok l ≡ true → pair_ok columns rows ≡ true
  unfolding pairs_ok
  pairs_first h = and_left _ (pairs_ok more) (sym (ap pairs_ok e) ∙ h)

  pub words_pair : catalogue_words l ≡ columns * rows + catalogue_words more
  unfolding catalogue_words
  words_pair = ap catalogue_words e

-- Half a pair, and nothing.
pub pairs_odd : (l : List ℕ) → (length l % 2 ≡ 0 → ⊥) → pairs_ok l ≡ false
unfolding pairs_ok
pairs_odd [] odd = absurd (odd (omega arith))
pairs_odd (columns ∷ []) odd = refl
pairs_odd (columns ∷ rows ∷ more) odd = rw (pairs_odd more (λ even. odd (omega arith))) (and_false (pair_ok columns rows))
  where
    and_false : (b : Bool) → (b && false) ≡ false
    and_false true = refl
    and_false false = refl

pub pairs_end : (l : List ℕ) → l ≡ [] → pairs_ok l ≡ true
unfolding pairs_ok
pairs_end l h = ap pairs_ok h

pub words_end : (l : List ℕ) → l ≡ [] → catalogue_words l ≡ 0
unfolding catalogue_words
words_end l h = ap catalogue_words h

abbrev pub refused : CatalogueNumbers
refused = record { status = 7; place = 0; words = 0 }

-- What the tests of `judge_catalogue` decide of its answer.
module _ (l : List ℕ) where
  pub refused_long : 2 * catalogue_pair_limit < length l → refused ≡ judged_catalogue l
  refused_long h = simp (lt-leb _ _ h)

  pub refused_pairs : pairs_ok l ≡ false → refused ≡ judged_catalogue l
  refused_pairs e = rw e (go (leb (length l) (2 * catalogue_pair_limit)))
    where
      go : (short : Bool) → refused ≡ cond (short && false && leb (catalogue_words l) word_limit) (catalogue_numbers (Ok (catalogue_words l))) refused
      go true = refl
      go false = refl

  module _ (short : length l ≤ 2 * catalogue_pair_limit) (good : pairs_ok l ≡ true) {words : ℕ} (sum : catalogue_words l ≡ words) where
    pub accepted_words : words ≤ word_limit → catalogue_numbers (Ok words) ≡ judged_catalogue l
    accepted_words h = simp (le-leb (length l) (2 * catalogue_pair_limit) short, good, sum, le-leb words word_limit h)

    pub refused_words : word_limit < words → refused ≡ judged_catalogue l
    refused_words h = simp (le-leb (length l) (2 * catalogue_pair_limit) short, good, sum, lt-leb words word_limit h)

-- The numbers of an answer name it: `judge_catalogue` promises one answer.
pub one_catalogue : (one other : Result ℕ WrongCatalogue) → catalogue_numbers one ≡ catalogue_numbers other → one ≡ other
one_catalogue (Ok words) (Ok others) e = ap Ok (ap (λ (n : CatalogueNumbers). n.words) e)
one_catalogue (Ok words) (Err wrong) e = let never : ◌≡◌ {A = ℕ} 0 7 = ap (λ (n : CatalogueNumbers). n.status) e in absurd (omega arith)
one_catalogue (Err wrong) (Ok words) e = let never : ◌≡◌ {A = ℕ} 7 0 = ap (λ (n : CatalogueNumbers). n.status) e in absurd (omega arith)
one_catalogue (Err wrong) (Err other) e = refl

-- The tables, by the answer of `judge_catalogue`.
module _ (catalogue tables : List ℕ) where
  pub tables_judged : (words : ℕ) → catalogue_numbers (Ok words) ≡ judged_catalogue catalogue → eqb (length tables) words ≡ tables_ok catalogue tables
  tables_judged words h = go (catalogue_ok catalogue) h where
    go : (ok : Bool) → catalogue_numbers (Ok words) ≡ cond ok (catalogue_numbers (Ok (catalogue_words catalogue))) refused → eqb (length tables) words ≡ (ok && eqb (length tables) (catalogue_words catalogue))
    go true e = let same : words ≡ catalogue_words catalogue = ap (λ (n : CatalogueNumbers). n.words) e in rw same
    go false e = let never : ◌≡◌ {A = ℕ} 0 7 = ap (λ (n : CatalogueNumbers). n.status) e in absurd (omega arith)

  pub tables-wrong : refused ≡ judged_catalogue catalogue → false ≡ tables_ok catalogue tables
  tables-wrong h = go (catalogue_ok catalogue) h where
    go : (ok : Bool) → refused ≡ cond ok (catalogue_numbers (Ok (catalogue_words catalogue))) refused → false ≡ (ok && eqb (length tables) (catalogue_words catalogue))
    go true e = let never : ◌≡◌ {A = ℕ} 7 0 = ap (λ (n : CatalogueNumbers). n.status) e in absurd (omega arith)
    go false e = refl
