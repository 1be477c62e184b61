-- The operators: the opposite holds exactly where the operator doesn't, the turned one with the sides turned; numbers and operators agree both ways.
use mathlib.Core.Path.{◌≡◌, refl, sym, ◌∙◌, ap}
use mathlib.Core.Bool.{Bool, true, false, not, not-not, cond}
use mathlib.Core.Logic.{◌⊎◌, inl, inr}
use mathlib.Core.Option.{Option, some, none}
use Prim.Native.Nat.{ℕ}
use native.Mathlib.Omega.{arith}
use lib.Dec.{ltb, leb, eqb}
use borrow.Author.Tests.{ltb-true, ltb-false, lt-leb, le-leb, eqb-true, eqb-false, eq-eqb, ne_eqb}
use Rattle.relations.specs.Comparison.{Operator, equal, not_equal, less, at_most, greater, at_least, holds, opposite, turned, operator_number, operator_of}
use Rattle.relations.proofs.BoolLaws.{true_or_false}

at_least_not_less : (x y : ℕ) → leb y x ≡ not (ltb x y)
at_least_not_less x y = go (true_or_false (ltb x y))
  where
    go : (ltb x y ≡ true) ⊎ (ltb x y ≡ false) → leb y x ≡ not (ltb x y)
    go (inl e) = rw e (lt-leb y x (ltb-true x y e))
    go (inr e) = rw e (le-leb y x (ltb-false x y e))

less_not_at_least : (x y : ℕ) → ltb x y ≡ not (leb y x)
less_not_at_least x y = sym (not-not (ltb x y)) ∙ ap not (sym (at_least_not_less x y))

pub eqb_symmetric : (x y : ℕ) → eqb x y ≡ eqb y x
eqb_symmetric x y = go (true_or_false (eqb x y))
  where
    go : (eqb x y ≡ true) ⊎ (eqb x y ≡ false) → eqb x y ≡ eqb y x
    go (inl e) = e ∙ sym (eq-eqb y x (sym (eqb-true x y e)))
    go (inr e) = e ∙ sym (ne_eqb y x (λ k. eqb-false x y e (sym k)))

pub opposite-holds : (o : Operator) (x y : ℕ) → holds (opposite o) x y ≡ not (holds o x y)
opposite-holds equal x y = refl
opposite-holds not_equal x y = sym (not-not (eqb x y))
opposite-holds less x y = at_least_not_less x y
opposite-holds at_most x y = less_not_at_least y x
opposite-holds greater x y = at_least_not_less y x
opposite-holds at_least x y = less_not_at_least x y

pub turned-holds : (o : Operator) (x y : ℕ) → holds (turned o) y x ≡ holds o x y
turned-holds equal x y = eqb_symmetric y x
turned-holds not_equal x y = ap not (eqb_symmetric y x)
turned-holds less x y = refl
turned-holds at_most x y = refl
turned-holds greater x y = refl
turned-holds at_least x y = refl

pub operator-back : (o : Operator) → operator_of (operator_number o) ≡ some o
operator-back equal = refl
operator-back not_equal = refl
operator-back less = refl
operator-back at_most = refl
operator-back greater = refl
operator-back at_least = refl

pub operator-only : (number : ℕ) (o : Operator) → operator_of number ≡ some o → operator_number o ≡ number
operator-only number o h = go (eqb number 1) (eqb number 2) (eqb number 3) (eqb number 4) (eqb number 5) (eqb number 6) refl refl refl refl refl refl h
  where
    is : (k : ℕ) (p : Operator) → operator_number p ≡ k → eqb number k ≡ true → Path (Option Operator) (some p) (some o) → operator_number o ≡ number
    is k p e t q =
        let same : p ≡ o = cc in
        sym (ap operator_number same) ∙ (e ∙ sym (eqb-true number k t))

    go : (a b c d e f : Bool) → eqb number 1 ≡ a → eqb number 2 ≡ b → eqb number 3 ≡ c → eqb number 4 ≡ d → eqb number 5 ≡ e → eqb number 6 ≡ f
        → cond a (some equal) (cond b (some not_equal) (cond c (some less) (cond d (some at_most) (cond e (some greater) (cond f (some at_least) none))))) ≡ some o → operator_number o ≡ number
    go true b c d e f h₁ h₂ h₃ h₄ h₅ h₆ q = is 1 equal refl h₁ q
    go false true c d e f h₁ h₂ h₃ h₄ h₅ h₆ q = is 2 not_equal refl h₂ q
    go false false true d e f h₁ h₂ h₃ h₄ h₅ h₆ q = is 3 less refl h₃ q
    go false false false true e f h₁ h₂ h₃ h₄ h₅ h₆ q = is 4 at_most refl h₄ q
    go false false false false true f h₁ h₂ h₃ h₄ h₅ h₆ q = is 5 greater refl h₅ q
    go false false false false false true h₁ h₂ h₃ h₄ h₅ h₆ q = is 6 at_least refl h₆ q
    go false false false false false false h₁ h₂ h₃ h₄ h₅ h₆ q = absurd (let z : ◌≡◌ {A = ℕ} 0 1 = cc in omega arith)
