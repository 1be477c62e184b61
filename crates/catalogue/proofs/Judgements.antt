-- What the tests of refusal 7 say when they pass, as facts about numbers; and that these facts make them pass. Assumes nothing.
use Prim.Native.Nat.{ℕ, ◌*◌, ◌/◌, ◌≤◌}
use mathlib.Core.Path.{◌≡◌, refl, sym}
use mathlib.Core.List.{List, [], ◌∷◌}
use mathlib.Core.Bool.{Bool, true, ◌&&◌}
use native.Mathlib.Omega.{arith}
use native.Mathlib.Nat.{mul-le-mul}
use lib.Dec.{leb, eqb}
use lib.ListN.{length}
use borrow.Author.Tests.{leb-true, eqb-true, le-leb, eq-eqb}
use Rattle.relations.specs.Limits.{catalogue_pair_limit, stored_column_limit, row_limit, word_limit}
use Rattle.catalogue.specs.Judging.{pair_ok, pairs_ok, catalogue_words, catalogue_ok, tables_ok}
use Rattle.relations.proofs.BoolLaws.{true-and-false, and_both, and_left, and_right}

pub record GoodPair (columns rows : ℕ) : Type 0 where
  pub some : 1 ≤ columns
  pub few : columns ≤ stored_column_limit
  pub rows_few : rows ≤ row_limit
  -- before its total is judged, a table's words are few enough for every sum
  pub words-few : columns * rows ≤ 131072

pub good_pair : (columns rows : ℕ) → pair_ok columns rows ≡ true → GoodPair columns rows
good_pair columns rows ok =
    let wide : Bool = leb 1 columns && leb columns stored_column_limit in
    let wide_ok : wide ≡ true = and_left wide (leb rows row_limit) ok in
    let few_columns : columns ≤ stored_column_limit =
    leb-true columns stored_column_limit (and_right (leb 1 columns) (leb columns stored_column_limit) wide_ok)
    in
    let few-rows : rows ≤ row_limit = leb-true rows row_limit (and_right wide (leb rows row_limit) ok) in
    record {
      some = leb-true 1 columns (and_left (leb 1 columns) (leb columns stored_column_limit) wide_ok);
      few = few_columns;
      rows_few = few-rows;
      words-few = mul-le-mul {n₂ = stored_column_limit} {m₂ = row_limit} few_columns few-rows;
    }

pub pairs_even : (catalogue : List ℕ) → pairs_ok catalogue ≡ true → 2 * (length catalogue / 2) ≡ length catalogue
unfolding pairs_ok
pairs_even [] ok = refl
pairs_even (columns ∷ []) ok = true-and-false refl (sym ok)
pairs_even (columns ∷ rows ∷ more) ok =
    let others : 2 * (length more / 2) ≡ length more = pairs_even more (and_right (pair_ok columns rows) (pairs_ok more) ok) in
    omega arith

pub record GoodTables (catalogue tables : List ℕ) : Type 0 where
  pub few : length catalogue ≤ 2 * catalogue_pair_limit
  pub pairs : pairs_ok catalogue ≡ true
  pub fits : catalogue_words catalogue ≤ word_limit
  pub sum : length tables ≡ catalogue_words catalogue

pub good-tables : (catalogue tables : List ℕ) → tables_ok catalogue tables ≡ true → GoodTables catalogue tables
good-tables catalogue tables ok =
    let count : Bool = leb (length catalogue) (2 * catalogue_pair_limit) in
    let total : Bool = leb (catalogue_words catalogue) word_limit in
    let same : Bool = eqb (length tables) (catalogue_words catalogue) in
    let good : catalogue_ok catalogue ≡ true = and_left (catalogue_ok catalogue) same ok in
    let shaped : (count && pairs_ok catalogue) ≡ true = and_left (count && pairs_ok catalogue) total good in
    record {
      few = leb-true (length catalogue) (2 * catalogue_pair_limit) (and_left count (pairs_ok catalogue) shaped);
      pairs = and_right count (pairs_ok catalogue) shaped;
      fits = leb-true (catalogue_words catalogue) word_limit (and_right (count && pairs_ok catalogue) total good);
      sum = eqb-true (length tables) (catalogue_words catalogue) (and_right (catalogue_ok catalogue) same ok);
    }

pub tables-good : (catalogue tables : List ℕ) → GoodTables catalogue tables → tables_ok catalogue tables ≡ true
tables-good catalogue tables good =
    let count : Bool = leb (length catalogue) (2 * catalogue_pair_limit) in
    let total : Bool = leb (catalogue_words catalogue) word_limit in
    and_both (catalogue_ok catalogue) (eqb (length tables) (catalogue_words catalogue))
    (and_both (count && pairs_ok catalogue) total
    (and_both count (pairs_ok catalogue) (le-leb (length catalogue) (2 * catalogue_pair_limit) good.few) good.pairs)
    (le-leb (catalogue_words catalogue) word_limit good.fits))
    (eq-eqb (length tables) (catalogue_words catalogue) good.sum)
