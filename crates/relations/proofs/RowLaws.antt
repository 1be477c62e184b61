-- Rows: `same_row` is equality, `row_before` a strict total order that looks at the first column first.
use mathlib.Core.Path.{◌≡◌, refl, ◌∙◌, ap, ap₂, subst}
use mathlib.Core.Bool.{Bool, true, false, ◌&&◌, ◌||◌, So, false≢true}
use mathlib.Core.Logic.{◌⊎◌, inl, inr}
use mathlib.Core.List.{[], ◌∷◌, ◌++◌}
use Prim.Native.Nat.{ℕ}
use native.Mathlib.Omega.{arith}
use lib.Dec.{ltb, eqb}
use lib.ListN.{length}
use borrow.Author.Tests.{ltb-true, ltb-false, eqb-true, lt-ltb, le-ltb, eq-eqb}
use Rattle.relations.specs.Rows.{Row, same_row, row_before}
use Rattle.relations.proofs.BoolLaws.{true-and-false, bool_ext, and_left, and_right, and_both, or_cases, or_by_left, or_by_right, true_or_false, not_so}

pub eqb_itself : (n : ℕ) → eqb n n ≡ true
eqb_itself n = eq-eqb n n refl

pub same_row-itself : (x : Row) → So (same_row x x)
same_row-itself [] = refl
same_row-itself (x ∷ xs) = rw (eqb_itself x) (same_row-itself xs)

pub same_row-equal : (x y : Row) → So (same_row x y) → x ≡ y
same_row-equal [] [] h = refl
same_row-equal [] (y ∷ ys) h = absurd (false≢true h)
same_row-equal (x ∷ xs) [] h = absurd (false≢true h)
same_row-equal (x ∷ xs) (y ∷ ys) h = ap₂ ◌∷◌ (eqb-true x y (and_left (eqb x y) (same_row xs ys) h)) (same_row-equal xs ys (and_right (eqb x y) (same_row xs ys) h))

pub row_before-itself : (x : Row) → row_before x x ≡ false
row_before-itself [] = refl
row_before-itself (x ∷ xs) = rw (le-ltb x x (omega arith), eqb_itself x) (row_before-itself xs)

pub row_before_trans : (x y z : Row) → So (row_before x y) → So (row_before y z) → So (row_before x z)
row_before_trans [] [] z h k = absurd (false≢true h)
row_before_trans [] (y ∷ ys) [] h k = k
row_before_trans [] (y ∷ ys) (z ∷ zs) h k = refl
row_before_trans (x ∷ xs) [] z h k = absurd (false≢true h)
row_before_trans (x ∷ xs) (y ∷ ys) [] h k = absurd (false≢true k)
row_before_trans (x ∷ xs) (y ∷ ys) (z ∷ zs) h k = go (or_cases (ltb x y) (eqb x y && row_before xs ys) h) (or_cases (ltb y z) (eqb y z && row_before ys zs) k) (row_before_trans xs ys zs)
  where
    go : So (ltb x y) ⊎ So (eqb x y && row_before xs ys) → So (ltb y z) ⊎ So (eqb y z && row_before ys zs) → (So (row_before xs ys) → So (row_before ys zs) → So (row_before xs zs)) → So (ltb x z || (eqb x z && row_before xs zs))
    go (inl a) (inl b) ih = rw (lt-ltb x z (omega (arith, ltb-true x y a, ltb-true y z b)))
    go (inl a) (inr b) ih = rw (lt-ltb x z (omega (arith, ltb-true x y a, eqb-true y z (and_left (eqb y z) (row_before ys zs) b))))
    go (inr a) (inl b) ih = rw (lt-ltb x z (omega (arith, eqb-true x y (and_left (eqb x y) (row_before xs ys) a), ltb-true y z b)))
    go (inr a) (inr b) ih = or_by_right (ltb x z) (eqb x z && row_before xs zs) (rw (eq-eqb x z (eqb-true x y (and_left (eqb x y) (row_before xs ys) a) ∙ eqb-true y z (and_left (eqb y z) (row_before ys zs) b))) (ih (and_right (eqb x y) (row_before xs ys) a) (and_right (eqb y z) (row_before ys zs) b)))

pub data Trichotomy (x y : Row) : Type 0 where
  before : So (row_before x y) → Trichotomy x y
  same : x ≡ y → Trichotomy x y
  after : So (row_before y x) → Trichotomy x y

pub trichotomy : (x y : Row) → Trichotomy x y
trichotomy [] [] = same refl
trichotomy [] (y ∷ ys) = before refl
trichotomy (x ∷ xs) [] = after refl
trichotomy (x ∷ xs) (y ∷ ys) = go (true_or_false (ltb x y)) (true_or_false (ltb y x)) (trichotomy xs ys)
  where
    go : (ltb x y ≡ true) ⊎ (ltb x y ≡ false) → (ltb y x ≡ true) ⊎ (ltb y x ≡ false) → Trichotomy xs ys → Trichotomy (x ∷ xs) (y ∷ ys)
    go (inl a) b t = before (rw a)
    go (inr a) (inl b) t = after (rw b)
    go (inr a) (inr b) (before t) = before (or_by_right (ltb x y) (eqb x y && row_before xs ys) (rw (eq-eqb x y (omega (arith, ltb-false x y a, ltb-false y x b))) t))
    go (inr a) (inr b) (same t) = same (ap₂ ◌∷◌ (omega (arith, ltb-false x y a, ltb-false y x b)) t)
    go (inr a) (inr b) (after t) = after (or_by_right (ltb y x) (eqb y x && row_before ys xs) (rw (eq-eqb y x (omega (arith, ltb-false x y a, ltb-false y x b))) t))

pub row_before_asymmetric : {C : Type 0} (x y : Row) → So (row_before x y) → So (row_before y x) → C
row_before_asymmetric x y h k = true-and-false (row_before_trans x y x h k) (row_before-itself x)

pub same_row_symmetric : (x y : Row) → same_row x y ≡ same_row y x
same_row_symmetric x y = bool_ext (same_row x y) (same_row y x) (λ h. rw (same_row-equal x y h) (same_row-itself y)) (λ h. rw (same_row-equal y x h) (same_row-itself x))

pub same_row_cong : (p : Row → Bool) (x y : Row) → So (same_row x y) → p x ≡ p y
same_row_cong p x y h = ap p (same_row-equal x y h)

pub before_differs : (x y : Row) → So (row_before x y) → same_row x y ≡ false
before_differs x y h = not_so (same_row x y) (λ e. true-and-false h (subst (λ z. row_before x z ≡ false) (same_row-equal x y e) (row_before-itself x)))

pub after_differs : (x y : Row) → So (row_before y x) → same_row x y ≡ false
after_differs x y h = same_row_symmetric x y ∙ before_differs y x h

pub row_before_prefix : (l a b : Row) → row_before (l ++ a) (l ++ b) ≡ row_before a b
row_before_prefix [] a b = refl
row_before_prefix (x ∷ l) a b = rw (le-ltb x x (omega arith), eqb_itself x) (row_before_prefix l a b)

pub row_before-left : (l k a b : Row) → length l ≡ length k → So (row_before l k) → So (row_before (l ++ a) (k ++ b))
row_before-left [] [] a b e h = absurd (false≢true h)
row_before-left [] (y ∷ k) a b e h = absurd (omega arith)
row_before-left (x ∷ l) [] a b e h = absurd (omega arith)
row_before-left (x ∷ l) (y ∷ k) a b e h = go (or_cases (ltb x y) (eqb x y && row_before l k) h) (row_before-left l k a b (omega arith))
  where
    go : So (ltb x y) ⊎ So (eqb x y && row_before l k) → (So (row_before l k) → So (row_before (l ++ a) (k ++ b))) → So (ltb x y || (eqb x y && row_before (l ++ a) (k ++ b)))
    go (inl i) ih = or_by_left (ltb x y) (eqb x y && row_before (l ++ a) (k ++ b)) i
    go (inr i) ih = or_by_right (ltb x y) (eqb x y && row_before (l ++ a) (k ++ b)) (and_both (eqb x y) (row_before (l ++ a) (k ++ b)) (and_left (eqb x y) (row_before l k) i) (ih (and_right (eqb x y) (row_before l k) i)))
