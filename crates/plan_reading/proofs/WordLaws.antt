-- Words that stand apart by a step, and tests of them from the front: what the loops over a node's list go by. Assumes nothing.
use Prim.Native.Nat.{ℕ, zero, suc, ◌+◌, ◌*◌, ◌-◌, ◌≤◌, ◌<◌}
use mathlib.Core.Path.{◌≡◌, refl, ap, ◌∙◌}
use mathlib.Core.Bool.{Bool, ◌&&◌}
use mathlib.Core.List.{List, [], ◌∷◌}
use native.Mathlib.Omega.{arith}
use native.Mathlib.Nat.{add-zero}
use lib.ListN.{get_or, drop}
use lib.Seq.{get_or-drop, drop-drop}
use Rattle.std.specs.List.{list_all}
use Rattle.relations.specs.Lists.{all}
use Rattle.plan_reading.specs.Decoding.{spaced}

pub get_d_front : (words : List ℕ) (at : ℕ) → get_or (drop at words) 0 0 ≡ get_or words at 0
get_d_front words at = get_or-drop at words 0 0 ∙ ap (λ (k : ℕ). get_or words k 0) (add-zero at)

pub spaced-front : (step left : ℕ) (words : List ℕ) (at : ℕ) → 0 < left → spaced step left (drop at words) ≡ get_or words at 0 ∷ spaced step (left - 1) (drop (at + step) words)
unfolding spaced
spaced-front step zero words at h = absurd (omega arith)
spaced-front step (suc left) words at h =
    let less : suc left - 1 ≡ left = omega arith in
    rw (less, get_d_front words at, drop-drop step at words)

pub spaced_end : (step left : ℕ) (words : List ℕ) → left ≤ 0 → spaced step left words ≡ []
unfolding spaced
spaced_end step zero words h = refl
spaced_end step (suc left) words h = absurd (omega arith)

-- the word at `place`, and those behind it: one turn of a loop over `count` words from `from` on
module _ (step count : ℕ) (words : List ℕ) (from place : ℕ) where
  pub spaced_at : place < count → spaced step (count - place) (drop (from + step * place) words) ≡ get_or words (from + step * place) 0 ∷ spaced step (count - (place + 1)) (drop (from + step * (place + 1)) words)
  spaced_at h =
      let less : count - place - 1 ≡ count - (place + 1) = omega arith in
      let next : from + step * place + step ≡ from + step * (place + 1) = omega arith in
      rw (spaced-front step (count - place) words (from + step * place) (omega arith), less, next)

  pub spaced_through : count ≤ place → spaced step (count - place) (drop (from + step * place) words) ≡ []
  spaced_through h = spaced_end step (count - place) (drop (from + step * place) words) (omega arith)

-- relations' test of every word is the library's
pub all_listed : (test : ℕ → Bool) (words : List ℕ) → all test words ≡ list_all test words
all_listed test [] = refl
all_listed test (word ∷ words) = ap (λ b. test word && b) (all_listed test words)
