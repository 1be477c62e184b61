-- The values made so far: read by number, one more at the end, and kept when words behind them change. Assumes nothing.
use mathlib.Core.Path.{◌≡◌, refl, sym, ap, ap₂, ◌∙◌}
use mathlib.Core.List.{List, [], ◌∷◌, ◌++◌}
use Prim.Native.Nat.{ℕ, zero, suc, ◌+◌, ◌*◌, ◌≤◌, ◌<◌}
use native.Mathlib.Omega.{arith}
use lib.ListN.{length, get_or, get_or-map}
use Rattle.relations.specs.Limits.{column_limit}
use Rattle.relations.specs.Lists.{All}
use Rattle.relations.specs.Values.{Rows, canonical}
use Rattle.relations.specs.Plan.{value_at, width_at}
use Rattle.relations.proofs.ListLaws.{all_append}
use Rattle.relations.proofs.ValueLaws.{ascending-canonical}
use Rattle.values.specs.Words.{rows_at, rows_of}
use Rattle.values.specs.Building.{Makes}
use Rattle.std.specs.Prelude.{Some}
use Rattle.values.specs.declared.rows.Value.{Value}
use Rattle.values.proofs.MakeLaws.{makes-rows, makes-value, makes-fits, makes-blank}
use Rattle.node_values.specs.Standing.{no_value, value_named, widths_of, standing, StandsBefore, Stand}

-- Read by number.

pub value-width : (made : List Value) (place : ℕ) → (value_named made place).width ≡ width_at (widths_of made) place
value-width made place = sym (get_or-map (λ (value : Value). value.width) made place no_value)

pub widths-more : (made : List Value) (value : Value) → widths_of (made ++ (value ∷ [])) ≡ widths_of made ++ (value.width ∷ [])
widths-more [] value = refl
widths-more (first ∷ made) value = ap (λ (more : List ℕ). first.width ∷ more) (widths-more made value)

-- a value's rows, by its number
pub standing_at : (made : List Value) (work : List ℕ) (place : ℕ) → value_at (standing made work) place ≡ rows_of (value_named made place) work
unfolding rows_at
standing_at made work place = get_or-map (λ (value : Value). rows_of value work) made place no_value

all_at : {A : Type 0} (P : A → Type 0) (xs : List A) (d : A) → All P xs → (place : ℕ) → place < length xs → P (get_or xs place d)
all_at P [] d h place k = absurd (omega arith)
all_at P (x ∷ xs) d h zero k = h.0
all_at P (x ∷ xs) d h (suc place) k = all_at P xs d h.1 place (omega arith)

module _ {made : List Value} {out : ℕ} {work : List ℕ} (stand : Stand made out work) where
  pub value-stands : (place : ℕ) → place < length made → StandsBefore out work (value_named made place)
  value-stands place h = all_at (StandsBefore out work) made no_value stand.each place h

-- Kept: each value's rows are as they were in front of `out`, and `out` grows.

module _ (out later : ℕ) (work after : List ℕ) (grows : out ≤ later) (same : (z n a : ℕ) → a + n * z ≤ out → rows_at z n a after ≡ rows_at z n a work) where
  pub standing-kept : (made : List Value) → All (StandsBefore out work) made → standing made after ≡ standing made work
  standing-kept [] h = refl
  standing-kept (value ∷ made) h = ap₂ ◌∷◌ (same value.width value.rows value.base h.0.2) (standing-kept made h.1)

  pub each-kept : (made : List Value) → All (StandsBefore out work) made → All (StandsBefore later after) made
  each-kept [] h = tt
  each-kept (value ∷ made) h =
      let first : StandsBefore out work value = h.0 in
      ((first.0, first.1, omega (arith, first.2), rw (same value.width value.rows value.base first.2) first.3), each-kept made h.1)

-- A value that was made from no row at `out` is one more.

standing-append : (made : List Value) (value : Value) (work : List ℕ) → standing (made ++ (value ∷ [])) work ≡ standing made work ++ (rows_of value work ∷ [])
standing-append [] value work = refl
standing-append (first ∷ made) value work = ap (λ (more : List Rows). rows_of first work ∷ more) (standing-append made value work)

module _ {before : List Value} {out : ℕ} {work : List ℕ} (stand : Stand before out work)
    {value : Value} (here : value.base ≡ out) {cs : Rows} {after : List ℕ} (g : Makes value.width out cs work after (Some value.rows)) where
  same_rows : (z n a : ℕ) → a + n * z ≤ out → rows_at z n a after ≡ rows_at z n a work
  same_rows z n a h = makes-rows stand.inside stand.blank g z n a h

  new-rows : rows_of value after ≡ canonical cs
  new-rows = ap (λ (base : ℕ). rows_at value.width value.rows base after) here ∙ makes-value stand.inside stand.blank g

  pub standing-more : standing (before ++ (value ∷ [])) after ≡ standing before work ++ (canonical cs ∷ [])
  standing-more =
      standing-append before value after ∙ ap₂ (λ (front : List Rows) (one : Rows). front ++ (one ∷ [])) (standing-kept out out work after (omega arith) same_rows before stand.each) new-rows

  pub stand_more : 1 ≤ value.width → value.width ≤ column_limit → Stand (before ++ (value ∷ [])) (out + value.rows * value.width) after
  stand_more least few =
      record {
        each =
            all_append (StandsBefore (out + value.rows * value.width) after) before (value ∷ [])
            (each-kept out (out + value.rows * value.width) work after (omega arith) same_rows before stand.each)
            ((least, few, omega (arith, here), rw new-rows (ascending-canonical cs)), tt);
        inside = makes-fits stand.inside stand.blank g;
        blank = makes-blank stand.inside stand.blank g;
      }
