-- Tests over the elements of a list, and the lists that they leave.
use Rattle.std.specs.Prelude.{Bool, true, false, ◌&&◌, ◌||◌, cond, List, [], ◌∷◌, ◌++◌, ℕ, length}

module _ {A : Type 0} where
  abbrev pub any : (A → Bool) → List A → Bool
  any test [] = false
  any test (x ∷ xs) = test x || any test xs

  abbrev pub all : (A → Bool) → List A → Bool
  all test [] = true
  all test (x ∷ xs) = test x && all test xs

  -- the elements that pass, in their order
  abbrev pub filter : (A → Bool) → List A → List A
  filter test [] = []
  filter test (x ∷ xs) = cond (test x) (x ∷ filter test xs) (filter test xs)

  -- how many elements pass
  abbrev pub how_many : (A → Bool) → List A → ℕ
  how_many test xs = length (filter test xs)

  -- the lists made from the elements, one after the other
  abbrev pub flat : {B : Type 0} → (A → List B) → List A → List B
  flat make [] = []
  flat make (x ∷ xs) = make x ++ flat make xs

  -- a fact about every element, as nested pairs
  abbrev pub All : (A → Type 0) → List A → Type 0
  All P [] = Unit {0}
  All P (x ∷ xs) = P x × All P xs
