-- A turn of each kind of loop over the rows of a value: the first row, and the rows behind it. Assumes nothing.
use mathlib.Core.Path.{◌≡◌, ap, ap₂, ◌∙◌}
use mathlib.Core.Bool.{Bool, ◌&&◌, ◌||◌}
use mathlib.Core.List.{List, [], ◌∷◌, ◌++◌, map}
use Prim.Native.Nat.{ℕ, ◌+◌, ◌*◌, ◌-◌, ◌≤◌, ◌<◌}
use native.Mathlib.Nat.{zero-mul, suc-mul, add-zero, add-mul}
use native.Mathlib.Numerals.{add-one}
use native.Mathlib.Omega.{arith}
use lib.ListN.{length}
use Rattle.relations.specs.Lists.{any, all, filter, flat}
use Rattle.relations.specs.Rows.{Row}
use Rattle.relations.specs.Values.{Rows, Wide}
use Rattle.relations.proofs.ListLaws.{filter-append}
use Rattle.values.specs.declared.rows.Value.{Value}
use Rattle.values.specs.Words.{row_in, rows_at, rows_of, end}
use Rattle.values.proofs.RowsLaws.{rows_at_row, rows_at_none, rows_at-wide, times_inside}

module _ (width left at : ℕ) (words : List ℕ) (some_left : 0 < left) (inside : at + left * width ≤ length words) where
  abbrev first : Row
  first = row_in words at width

  abbrev behind : Rows
  behind = rows_at width (left - 1) (at + width) words

  rows_here : rows_at width left at words ≡ first ∷ behind
  rows_here = rows_at_row width left at words some_left inside

  pub any_step : (test : Row → Bool) → any test (rows_at width left at words) ≡ (test (row_in words at width) || any test (rows_at width (left - 1) (at + width) words))
  any_step test = ap (any test) rows_here

  pub all_step : (test : Row → Bool) → all test (rows_at width left at words) ≡ (test (row_in words at width) && all test (rows_at width (left - 1) (at + width) words))
  all_step test = ap (all test) rows_here

  pub filter_step : (test : Row → Bool)
      → filter test (rows_at width left at words) ≡ filter test (row_in words at width ∷ []) ++ filter test (rows_at width (left - 1) (at + width) words)
  filter_step test = ap (filter test) rows_here ∙ filter-append test (first ∷ []) behind

  pub map_step : (make : Row → Row) → map make (rows_at width left at words) ≡ (make (row_in words at width) ∷ []) ++ map make (rows_at width (left - 1) (at + width) words)
  map_step make = ap (map make) rows_here

  pub flat_step : (make : Row → Rows) → flat make (rows_at width left at words) ≡ make (row_in words at width) ++ flat make (rows_at width (left - 1) (at + width) words)
  flat_step make = ap (flat make) rows_here

-- no row is left
pub no_rows : {A : Type 0} (make : Rows → A) (width at : ℕ) (words : List ℕ) {left : ℕ} → left ≡ 0 → make (rows_at width left at words) ≡ make []
no_rows make width at words e = rw (e, rows_at_none width at words)

-- the same by a row's number: the rows of a value from one on
abbrev pub rows_from : Value → ℕ → List ℕ → Rows
rows_from value i words = rows_at value.width (value.rows - i) (value.base + i * value.width) words

pub rows_from_start : (value : Value) (words : List ℕ) → rows_from value 0 words ≡ rows_of value words
rows_from_start value words = let e : value.base + 0 * value.width ≡ value.base = rw zero-mul (add-zero value.base) in let f : value.rows - 0 ≡ value.rows = omega arith in rw (e, f)

pub rows_from_end : (value : Value) (i : ℕ) (words : List ℕ) → value.rows ≤ i → rows_from value i words ≡ []
rows_from_end value i words h = let e : value.rows - i ≡ 0 = omega arith in rw e (rows_at_none value.width (value.base + i * value.width) words)

rest_ends : (value : Value) (i : ℕ) → i ≤ value.rows → value.base + i * value.width + (value.rows - i) * value.width ≡ end value
rest_ends value i h =
    let many : value.rows ≡ i + (value.rows - i) = omega arith in
    omega (arith, ap (λ (n : ℕ). n * value.width) many, add-mul i (value.rows - i) value.width)

pub rows_from_wide : (value : Value) (i : ℕ) (words : List ℕ) → i ≤ value.rows → end value ≤ length words → Wide value.width (rows_from value i words)
rows_from_wide value i words h k = rows_at-wide value.width (value.rows - i) (value.base + i * value.width) words (omega (arith, rest_ends value i h))

pub rows_from_next : (value : Value) (i : ℕ) (words : List ℕ) → i < value.rows → end value ≤ length words
    → rows_from value i words ≡ row_in words (value.base + i * value.width) value.width ∷ rows_from value (i + 1) words
rows_from_next value i words h k =
    let w : ℕ = value.width in
    let at : ℕ = value.base + i * w in
    let next : at + w ≡ value.base + (i + 1) * w = rw (add-one, suc-mul i w) (omega arith) in
    let fewer : value.rows - i - 1 ≡ value.rows - (i + 1) = omega arith in
    rows_at_row w (value.rows - i) at words (omega arith) (omega (arith, rest_ends value i (omega arith))) ∙ ap₂ (λ (n a : ℕ). row_in words at w ∷ rows_at w n a words) fewer next

module _ (value : Value) (i : ℕ) (words : List ℕ) (more : i < value.rows) (inside : end value ≤ length words) where
  pub filter_next : (test : Row → Bool) → filter test (rows_from value i words) ≡ filter test (row_in words (value.base + i * value.width) value.width ∷ []) ++ filter test (rows_from value (i + 1) words)
  filter_next test = ap (filter test) (rows_from_next value i words more inside) ∙ filter-append test (row_in words (value.base + i * value.width) value.width ∷ []) (rows_from value (i + 1) words)

  -- where it stands
  pub row_ends : value.base + i * value.width + value.width ≤ end value
  row_ends = omega (arith, times_inside i value.rows value.width more)
