-- Laws of Booleans: reading and making tests that hold.
use mathlib.Core.Path.{◌≡◌, refl, sym, ◌∙◌}
use mathlib.Core.Bool.{Bool, true, false, not, ◌&&◌, ◌||◌, So, true≢false, false≢true}
use mathlib.Core.Logic.{◌⊎◌, inl, inr}

pub true-and-false {ℓ} : {C : Type ℓ} {b : Bool} → b ≡ true → b ≡ false → C
true-and-false p q = absurd (true≢false (sym p ∙ q))

-- two Booleans are equal when each implies the other
pub bool_ext : (a b : Bool) → (So a → So b) → (So b → So a) → a ≡ b
bool_ext true b f g = sym (f refl)
bool_ext false true f g = g refl
bool_ext false false f g = refl

pub and_left : (a b : Bool) → So (a && b) → So a
and_left true b h = refl
and_left false b h = h

pub and_right : (a b : Bool) → So (a && b) → So b
and_right true b h = h
and_right false b h = absurd (false≢true h)

pub and_both : (a b : Bool) → So a → So b → So (a && b)
and_both true b p q = q
and_both false b p q = p

pub or_cases : (a b : Bool) → So (a || b) → So a ⊎ So b
or_cases true b h = inl refl
or_cases false b h = inr h

pub or_by_left : (a b : Bool) → So a → So (a || b)
or_by_left true b p = refl
or_by_left false b p = absurd (false≢true p)

pub or_by_right : (a b : Bool) → So b → So (a || b)
or_by_right true b p = refl
or_by_right false b p = p

pub true_or_false : (b : Bool) → (b ≡ true) ⊎ (b ≡ false)
true_or_false true = inl refl
true_or_false false = inr refl

pub not_so : (b : Bool) → (So b → ⊥) → b ≡ false
not_so true f = absurd (f refl)
not_so false f = refl

pub not_so_false : (b : Bool) → So (not b) → b ≡ false
not_so_false true h = absurd (false≢true h)
not_so_false false h = refl

pub or_only-left : (a : Bool) → So (a || false) → So a
or_only-left true h = refl
or_only-left false h = h

-- both parts of a disjunction that fails
pub or_left_false : (a b : Bool) → (a || b) ≡ false → a ≡ false
or_left_false true b e = e
or_left_false false b e = refl

pub or_right_false : (a b : Bool) → (a || b) ≡ false → b ≡ false
or_right_false true b e = true-and-false refl e
or_right_false false b e = e
