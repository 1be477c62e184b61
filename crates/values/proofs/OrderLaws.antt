-- Two rows compared from a column on, and what the answer says of the two tests. Assumes nothing.
use mathlib.Core.Path.{◌≡◌, refl, sym, ap, ◌∙◌}
use Prim.Native.Nat.{ℕ, ◌+◌, ◌-◌, ◌≤◌, ◌<◌, min}
use mathlib.Core.Bool.{Bool, true, false, cond}
use mathlib.Core.List.{[], ◌∷◌}
use native.Mathlib.Numerals.{add-one}
use native.Mathlib.Omega.{arith}
use lib.ListN.{length, get_or, drop, length-drop}
use lib.Seq.{drop-cons}
use borrow.Author.Tests.{lt-ltb, le-ltb, eq-eqb, ne_eqb}
use Rattle.std.specs.declared.cmp.Ordering.{Ordering}
use Rattle.std.specs.declared.cmp.Ordering.TheVariants.{Less, Equal, Greater}
use Rattle.std.specs.Ordering.{nat_cmp, is_lt, is_eq}
use Rattle.std.specs.Cmp.{nat_cmp_is}
use Rattle.relations.specs.Rows.{Row, row_before, same_row}
use Rattle.relations.proofs.RowLaws.{before_differs}
use Rattle.values.specs.Orders.{order_of}

-- two rows compared from a column on
module _ (a b : Row) (i : ℕ) (more : i < length a) (others : i < length b) where
  pub order_less : get_or a i 0 < get_or b i 0 → order_of (drop i a) (drop i b) ≡ Less
  order_less l = rw (drop-cons a i 0 more, drop-cons b i 0 others) (simp (lt-ltb (get_or a i 0) (get_or b i 0) l))

  pub order_greater : get_or b i 0 < get_or a i 0 → order_of (drop i a) (drop i b) ≡ Greater
  order_greater l = rw (drop-cons a i 0 more, drop-cons b i 0 others) (simp (le-ltb (get_or a i 0) (get_or b i 0) (omega arith), ne_eqb (get_or a i 0) (get_or b i 0) (λ e. omega arith)))

  pub order_on : get_or b i 0 ≤ get_or a i 0 → get_or a i 0 ≤ get_or b i 0 → order_of (drop i a) (drop i b) ≡ order_of (drop (i + 1) a) (drop (i + 1) b)
  order_on l m = rw (drop-cons a i 0 more, drop-cons b i 0 others, add-one) (simp (le-ltb (get_or a i 0) (get_or b i 0) l, eq-eqb (get_or a i 0) (get_or b i 0) (omega arith)))

-- where one of them ends, the lengths decide
ends_by_length : (p q : Row) {m n i : ℕ} → length p ≡ m - i → length q ≡ n - i → i ≤ m → i ≤ n → min m n ≤ i → order_of p q ≡ nat_cmp m n
ends_by_length [] [] {m} {n} e f h k l = nat_cmp_is m n Equal (omega (arith, e, f))
ends_by_length [] (y ∷ q) {m} {n} e f h k l = nat_cmp_is m n Less (omega (arith, e, f))
ends_by_length (x ∷ p) [] {m} {n} e f h k l = nat_cmp_is m n Greater (omega (arith, e, f))
ends_by_length (x ∷ p) (y ∷ q) e f h k l = absurd (omega (arith, e, f))

pub order_by_length : (a b : Row) (i : ℕ) → i ≤ length a → i ≤ length b → min (length a) (length b) ≤ i → order_of (drop i a) (drop i b) ≡ nat_cmp (length a) (length b)
order_by_length a b i = ends_by_length (drop i a) (drop i b) (length-drop i a) (length-drop i b)

less_order : (before same : Bool) → is_lt (cond before Less (cond same Equal Greater)) ≡ before
less_order true same = refl
less_order false true = refl
less_order false false = refl

equal_order : (before same : Bool) → (before ≡ true → same ≡ false) → is_eq (cond before Less (cond same Equal Greater)) ≡ same
equal_order true same h = sym (h refl)
equal_order false true h = refl
equal_order false false h = refl

module _ (a b : Row) {x y : Ordering} (compared : x ≡ order_of a b) (told : x ≡ y) where
  pub told_before : is_lt y ≡ row_before a b
  told_before = ap is_lt (sym told ∙ compared) ∙ less_order (row_before a b) (same_row a b)

  pub told_same : is_eq y ≡ same_row a b
  told_same = ap is_eq (sym told ∙ compared) ∙ equal_order (row_before a b) (same_row a b) (before_differs a b)
