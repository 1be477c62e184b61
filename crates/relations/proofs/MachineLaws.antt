-- Working from left to right, with any step: what is made stays, what is added, where the last thing stands.
use mathlib.Core.Path.{◌≡◌, refl, sym, ◌∙◌, ap}
use mathlib.Core.List.{List, [], ◌∷◌, ◌++◌}
use Prim.Native.Nat.{ℕ, ◌+◌, ◌<◌, pred}
use native.Mathlib.Omega.{arith}
use lib.ListN.{get_or, length, length-append, get_or-append}
use lib.Seq.{get_or-append_seam}
use Rattle.relations.specs.Machine.{run, last_or}

pub last_snoc : {X : Type 0} (d : X) (made : List X) (x : X) → last_or d (made ++ (x ∷ [])) ≡ x
last_snoc d made x = ap (λ i. get_or (made ++ (x ∷ [])) i d) same ∙ get_or-append_seam made x [] d
  where
    same : pred (length (made ++ (x ∷ []))) ≡ length made
    same = omega (arith, length-append made (x ∷ []))

module _ {N X : Type 0} (step : List X → N → X) where
  pub run-append : (made : List X) (xs ys : List N) → run step made (xs ++ ys) ≡ run step (run step made xs) ys
  unfolding run
  run-append made [] ys = refl
  run-append made (x ∷ xs) ys = run-append (made ++ (step made x ∷ [])) xs ys

  pub run_length : (made : List X) (xs : List N) → length (run step made xs) ≡ length made + length xs
  unfolding run
  run_length made [] = omega arith
  run_length made (x ∷ xs) = omega (arith, run_length (made ++ (step made x ∷ [])) xs, length-append made (step made x ∷ []))

  -- what is made already stays
  pub run-keeps : (d : X) (made : List X) (xs : List N) (place : ℕ) → place < length made → get_or (run step made xs) place d ≡ get_or made place d
  unfolding run
  run-keeps d made [] place h = refl
  run-keeps d made (x ∷ xs) place h = run-keeps d (made ++ (step made x ∷ [])) xs place (omega (arith, length-append made (step made x ∷ []))) ∙ get_or-append made (step made x ∷ []) d place h

  pub run_one : (made : List X) (x : N) → run step made (x ∷ []) ≡ made ++ (step made x ∷ [])
  unfolding run
  run_one made x = refl

  pub last_one : (d : X) (made : List X) (x : N) → last_or d (run step made (x ∷ [])) ≡ step made x
  last_one d made x = rw (run_one made x) (last_snoc d made (step made x))

  -- the last node of a list
  pub last_end : (d : X) (made : List X) (xs : List N) (x : N) → last_or d (run step made (xs ++ (x ∷ []))) ≡ step (run step made xs) x
  last_end d made xs x = rw (run-append made xs (x ∷ [])) (last_one d (run step made xs) x)

  -- the number at which the last of xs stands, after n that were made before
  pub last_at : (d : X) (made : List X) (n : ℕ) → length made ≡ n → (xs : List N) → get_or (run step made xs) (pred (n + length xs)) d ≡ last_or d (run step made xs)
  last_at d made n e xs = ap (λ i. get_or (run step made xs) (pred i) d) (ap (λ k. k + length xs) (sym e) ∙ sym (run_length made xs))
