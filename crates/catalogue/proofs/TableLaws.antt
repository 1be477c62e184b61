-- The tables that refusal 7 leaves: each relation has a column, and its words stand in the tables. Assumes nothing.
use mathlib.Core.Path.{◌≡◌, refl, ap, ◌∙◌}
use mathlib.Core.Bool.{Bool, true, ◌&&◌, false≢true}
use mathlib.Core.List.{List, [], ◌∷◌}
use Prim.Native.Nat.{ℕ, zero, suc, ◌+◌, ◌*◌, ◌/◌, ◌≤◌, ◌<◌}
use native.Mathlib.Omega.{arith}
use lib.Dec.{leb, leb-suc-suc}
use lib.ListN.{length}
use borrow.Author.Tests.{lt-ltb}
use Rattle.relations.specs.Limits.{catalogue_pair_limit, word_limit, stored_column_limit}
use Rattle.relations.specs.Values.{Wide}
use Rattle.relations.proofs.BoolLaws.{and_left, and_right}
use Rattle.catalogue.specs.Judging.{pair_ok, pairs_ok, catalogue_words, catalogue_ok, tables_ok}
use Rattle.catalogue.specs.Stored.{relations_of, columns_of, row_count_of, start_of, stored_tables}
use Rattle.catalogue.proofs.Judgements.{GoodPair, good_pair, GoodTables, good-tables}
use Rattle.catalogue.proofs.StoredLaws.{start_pair, start_room, stored-wide}

half : (n : ℕ) → suc (suc n) / 2 ≡ suc (n / 2)
half n = omega arith

-- the words before an end are the catalogue's words
start_words : (catalogue : List ℕ) → pairs_ok catalogue ≡ true → start_of catalogue (relations_of catalogue) ≡ catalogue_words catalogue
unfolding pairs_ok catalogue_words start_of
start_words [] h = refl
start_words (columns ∷ []) h = absurd (false≢true h)
start_words (columns ∷ rows ∷ more) h =
    rw (half (length more))
    (start_pair columns rows more (relations_of more) ∙ ap (λ (n : ℕ). columns * rows + n) (start_words more (and_right (pair_ok columns rows) (pairs_ok more) h)))

columns_some : (catalogue : List ℕ) (relation : ℕ) → pairs_ok catalogue ≡ true → relation < relations_of catalogue → (1 ≤ columns_of catalogue relation) × (columns_of catalogue relation ≤ stored_column_limit)
unfolding pairs_ok
columns_some [] relation h k = absurd (omega arith)
columns_some (columns ∷ []) relation h k = absurd (false≢true h)
columns_some (columns ∷ rows ∷ more) zero h k =
    let ok : GoodPair columns rows = good_pair columns rows (and_left (pair_ok columns rows) (pairs_ok more) h) in
    rw (lt-ltb 0 (relations_of (columns ∷ rows ∷ more)) k) (ok.some, ok.few)
columns_some (columns ∷ rows ∷ more) (suc relation) h k =
    let two : 2 * suc relation ≡ suc (suc (2 * relation)) = omega arith in
    rw (half (length more), two, leb-suc-suc (suc relation) (length more / 2)) (columns_some more relation (and_right (pair_ok columns rows) (pairs_ok more) h) (omega (arith, half (length more))))

-- translation looks at the catalogue alone
pub known_columns : (catalogue : List ℕ) → catalogue_ok catalogue ≡ true → (relation : ℕ) → relation < relations_of catalogue → 1 ≤ columns_of catalogue relation
known_columns catalogue ok relation known =
    let count : Bool = leb (length catalogue) (2 * catalogue_pair_limit) in
    let shaped : (count && pairs_ok catalogue) ≡ true = and_left (count && pairs_ok catalogue) (leb (catalogue_words catalogue) word_limit) ok in
    (columns_some catalogue relation (and_right count (pairs_ok catalogue) shaped) known).0

module _ (catalogue tables : List ℕ) (ok : tables_ok catalogue tables ≡ true) where
  good : GoodTables catalogue tables
  good = good-tables catalogue tables ok

  pub tables-wide : (relation : ℕ) → Wide (columns_of catalogue relation) (stored_tables catalogue tables relation)
  tables-wide = stored-wide catalogue tables (omega (arith, start_words catalogue good.pairs, good.sum))

  module _ (relation : ℕ) (known : relation < relations_of catalogue) where
    pub has_column : (1 ≤ columns_of catalogue relation) × (columns_of catalogue relation ≤ stored_column_limit)
    has_column = columns_some catalogue relation good.pairs known

    pub stored-inside : start_of catalogue relation + row_count_of catalogue relation * columns_of catalogue relation ≤ length tables
    stored-inside = omega (arith, start_room catalogue relation (relations_of catalogue) known, start_words catalogue good.pairs, good.sum)

    pub start_few : start_of catalogue relation ≤ word_limit
    start_few = omega (arith, stored-inside, good.sum, good.fits)
