-- The stored tables: where each relation's words start, how many rows it has, where each row stands, and that all are as wide as the catalogue says. Assumes nothing.
use Prim.Native.Nat.{ℕ, zero, suc, ◌+◌, ◌*◌, ◌-◌, ◌/◌, ◌≤◌, ◌<◌}
use mathlib.Core.Path.{◌≡◌, refl, ap, ap₂, ◌∙◌}
use mathlib.Core.Bool.{Bool, true, false}
use mathlib.Core.List.{List, [], ◌∷◌}
use native.Mathlib.Omega.{arith}
use native.Mathlib.Nat.{mul-zero, mul-suc, add-zero}
use lib.Dec.{ltb, leb-suc-suc}
use lib.ListN.{get_or, length, take, drop, length-drop}
use lib.Seq.{drop-drop, length-take-le}
use borrow.Author.Tests.{lt-ltb, ltb-true}
use Rattle.relations.specs.Values.{Wide}
use Rattle.catalogue.specs.Stored.{relations_of, pair_word, columns_of, row_count_of, start_of, rows_in, stored_tables}

-- Where the words start.

pub start_none : (catalogue : List ℕ) → 0 ≡ start_of catalogue 0
unfolding start_of
start_none catalogue = refl

pub start_next : (catalogue : List ℕ) (relation : ℕ) → start_of catalogue (relation + 1) ≡ start_of catalogue relation + columns_of catalogue relation * row_count_of catalogue relation
unfolding start_of
start_next catalogue relation = let next : relation + 1 ≡ suc relation = omega arith in rw next

-- an earlier relation starts no later
pub start_later : (catalogue : List ℕ) (relation more : ℕ) → start_of catalogue relation ≤ start_of catalogue (relation + more)
unfolding start_of
start_later catalogue relation zero = rw (add-zero relation) (omega arith)
start_later catalogue relation (suc more) =
    let next : relation + suc more ≡ suc (relation + more) = omega arith in
    rw next (omega (arith, start_later catalogue relation more))

-- a relation's words end no later than a later relation starts
pub start_room : (catalogue : List ℕ) (relation later : ℕ) → relation < later → start_of catalogue relation + columns_of catalogue relation * row_count_of catalogue relation ≤ start_of catalogue later
start_room catalogue relation later h =
    let is : relation + 1 + (later - (relation + 1)) ≡ later = omega arith in
    rw (← start_next catalogue relation) (rw is at (start_later catalogue (relation + 1) (later - (relation + 1))))

-- a relation's words, by the numbers that the code read of its pair
module _ (catalogue : List ℕ) (relation : ℕ) {start columns rows : ℕ} (here : start ≡ start_of catalogue relation) (wide : columns ≡ columns_of catalogue relation) (long : rows ≡ row_count_of catalogue relation) where
  pub start_over : start + columns * rows ≡ start_of catalogue (relation + 1)
  start_over = rw (here, wide, long, start_next catalogue relation) refl

  pub over_within : (later : ℕ) → relation < later → start + columns * rows ≤ start_of catalogue later
  over_within later h = rw (here, wide, long) (start_room catalogue relation later h)

-- pair by pair from the front: the sum of columns x rows before the relation
pub start_pair : (columns rows : ℕ) (more : List ℕ) (relation : ℕ) → start_of (columns ∷ rows ∷ more) (suc relation) ≡ columns * rows + start_of more relation
unfolding start_of
start_pair columns rows more zero =
    let known : ltb 0 (suc (suc (length more)) / 2) ≡ true = lt-ltb 0 (suc (suc (length more)) / 2) (omega arith) in
    rw known (omega arith)
start_pair columns rows more (suc relation) =
    let ih : start_of (columns ∷ rows ∷ more) (suc relation) ≡ columns * rows + start_of more relation = start_pair columns rows more relation in
    let here : columns_of (columns ∷ rows ∷ more) (suc relation) * row_count_of (columns ∷ rows ∷ more) (suc relation) ≡ columns_of more relation * row_count_of more relation = ap₂ ◌*◌ (word (2 * suc relation) (2 * relation) (omega arith)) (word (2 * suc relation + 1) (2 * relation + 1) (omega arith)) in
    omega (arith, ih, here)
  where
    -- the relation is known among all pairs where its place is among those behind the first
    word : (at before : ℕ) → at ≡ suc (suc before) → pair_word (columns ∷ rows ∷ more) (suc relation) at ≡ pair_word more relation before
    word at before is =
        let half : suc (suc (length more)) / 2 ≡ suc (length more / 2) = omega arith in
        rw (half, is, leb-suc-suc (suc relation) (length more / 2))

-- The rows.

pub rows_many_lem : (columns rows : ℕ) (words : List ℕ) → length (rows_in columns rows words) ≡ rows
unfolding rows_in
rows_many_lem columns zero words = refl
rows_many_lem columns (suc rows) words = ap suc (rows_many_lem columns rows (drop columns words))

pub rows_at_lem : (columns rows : ℕ) (words : List ℕ) (row : ℕ) → row < rows → get_or (rows_in columns rows words) row [] ≡ take columns (drop (columns * row) words)
unfolding rows_in
rows_at_lem columns zero words row h = absurd (omega arith)
rows_at_lem columns (suc rows) words zero h = rw (mul-zero columns)
rows_at_lem columns (suc rows) words (suc row) h =
    let place : columns + columns * row ≡ columns * suc row = omega (arith, mul-suc columns row) in
    rows_at_lem columns rows (drop columns words) row (omega arith)
    ∙ ap (take columns) (drop-drop (columns * row) columns words ∙ ap (λ (n : ℕ). drop n words) place)

rows-wide : (columns rows : ℕ) (words : List ℕ) → columns * rows ≤ length words → Wide columns (rows_in columns rows words)
unfolding rows_in
rows-wide columns zero words h = tt
rows-wide columns (suc rows) words h =
    (length-take-le columns words (omega (arith, mul-suc columns rows)), rows-wide columns rows (drop columns words) (omega (arith, mul-suc columns rows, length-drop columns words)))

-- tables that hold the words of all relations have rows of the catalogue's widths
pub stored-wide : (catalogue tables : List ℕ) → start_of catalogue (relations_of catalogue) ≤ length tables → (relation : ℕ) → Wide (columns_of catalogue relation) (stored_tables catalogue tables relation)
unfolding rows_in
stored-wide catalogue tables room relation = go (ltb relation (relations_of catalogue)) refl
  where
    go : (known : Bool) → ltb relation (relations_of catalogue) ≡ known → Wide (columns_of catalogue relation) (stored_tables catalogue tables relation)
    go true known =
        rows-wide (columns_of catalogue relation) (row_count_of catalogue relation) (drop (start_of catalogue relation) tables)
        (omega (arith, start_room catalogue relation (relations_of catalogue) (ltb-true relation (relations_of catalogue) known), length-drop (start_of catalogue relation) tables))
    go false known = rw known tt
