-- Rows and their order. Document 01, "What the desk holds": "in ascending row order, first column first".
use Rattle.std.specs.Prelude.{Bool, true, false, ◌&&◌, ◌||◌, List, [], ◌∷◌, ℕ, ltb, eqb, length, take}

-- a row: its words, first column first
abbrev pub Row : Type 0
Row = List ℕ

abbrev pub same_row : Row → Row → Bool
same_row [] [] = true
same_row [] (y ∷ ys) = false
same_row (x ∷ xs) [] = false
same_row (x ∷ xs) (y ∷ ys) = eqb x y && same_row xs ys

-- the second row's first columns are the first row
abbrev pub begins : Row → Row → Bool
begins row longer = same_row row (take (length row) longer)

abbrev pub row_before : Row → Row → Bool
row_before [] [] = false
row_before [] (y ∷ ys) = true
row_before (x ∷ xs) [] = false
row_before (x ∷ xs) (y ∷ ys) = ltb x y || (eqb x y && row_before xs ys)
