-- Document 01, "What the desk holds": the catalogue, its number of words, and refusal 7 in its two forms. Assumes nothing.
use Rattle.std.specs.Prelude.{ℕ, ◌+◌, ◌*◌, List, [], ◌∷◌, Bool, true, false, cond, ◌&&◌, length, leb, eqb, Result, Ok, Err}
use Rattle.relations.specs.Limits.{catalogue_pair_limit, stored_column_limit, row_limit, word_limit}
use Rattle.catalogue.specs.declared.judging.WrongCatalogue.{WrongCatalogue}

-- "pairs (columns 1 to 8, rows 0 to 16,384)"
abbrev pub pair_ok : ℕ → ℕ → Bool
pair_ok columns rows = leb 1 columns && leb columns stored_column_limit && leb rows row_limit

unfoldable pub pairs_ok : List ℕ → Bool
pairs_ok [] = true
pairs_ok (columns ∷ []) = false
pairs_ok (columns ∷ rows ∷ more) = pair_ok columns rows && pairs_ok more

-- "the sum of columns x rows"
unfoldable pub catalogue_words : List ℕ → ℕ
catalogue_words [] = 0
catalogue_words (columns ∷ []) = 0
catalogue_words (columns ∷ rows ∷ more) = columns * rows + catalogue_words more

-- "0 to 16 pairs", "at most 16,384 words in all"
abbrev pub catalogue_ok : List ℕ → Bool
catalogue_ok catalogue = leb (length catalogue) (2 * catalogue_pair_limit) && pairs_ok catalogue && leb (catalogue_words catalogue) word_limit

-- "their length is exactly the sum"
abbrev pub tables_ok : List ℕ → List ℕ → Bool
tables_ok catalogue tables = catalogue_ok catalogue && eqb (length tables) (catalogue_words catalogue)

-- What a judgement of the catalogue says in document 01's numbers: status and place, and how many words the tables have.
pub record CatalogueNumbers : Type 0 where
  pub status : ℕ
  pub place : ℕ
  pub words : ℕ

-- the numbers of each case of the answer
abbrev pub catalogue_numbers : Result ℕ WrongCatalogue → CatalogueNumbers
catalogue_numbers (Ok count) = record { status = 0; place = 0; words = count }
catalogue_numbers (Err wrong) = record { status = 7; place = 0; words = 0 }

-- 7, "pairs and their total of words only": "catalogue .. wrong", at 0
abbrev pub judged_catalogue : List ℕ → CatalogueNumbers
judged_catalogue catalogue =
    cond (catalogue_ok catalogue)
    (record { status = 0; place = 0; words = catalogue_words catalogue })
    (record { status = 7; place = 0; words = 0 })
