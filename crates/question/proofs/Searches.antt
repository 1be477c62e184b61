-- The lowest node at which a test holds. Assumes nothing.
use mathlib.Core.Path.{◌≡◌, sym}
use mathlib.Core.Bool.{Bool, true, false}
use Prim.Native.Nat.{ℕ, zero, suc, ◌+◌, ◌-◌, ◌≤◌, ◌<◌}
use native.Mathlib.Omega.{arith}
use Rattle.std.specs.Prelude.{Option, None, Some, MatchOption}
use Rattle.nodes.specs.References.{first_from, lowest}
use Rattle.question.specs.Judgement.{FindsLowest}

-- a search whose test holds nowhere finds nothing
none_holds : (test : ℕ → Bool) (k j : ℕ) → ((i : ℕ) → j ≤ i → i < j + k → test i ≡ false) → j + k ≤ first_from test k j
unfolding first_from
none_holds test zero j h = omega arith
none_holds test (suc k) j h = rw (h j (omega arith) (omega arith)) (let g : suc j + k ≤ first_from test k (suc j) = none_holds test k (suc j) (λ i a b. h i (omega arith) (omega arith)) in omega arith)

pub all_below_lem : (test : ℕ → Bool) (n : ℕ) → ((i : ℕ) → i < n → test i ≡ false) → n ≤ lowest test n
all_below_lem test n h = let g : 0 + n ≤ lowest test n = none_holds test n 0 (λ i a b. h i (omega arith)) in omega arith

-- and one whose test holds at i, and at none below, finds i
first_holds : (test : ℕ → Bool) (k more j i : ℕ) → i ≡ j + k → ((m : ℕ) → j ≤ m → m < i → test m ≡ false) → test i ≡ true → first_from test (k + suc more) j ≡ i
unfolding first_from
first_holds test zero more j i e h t =
    let s : 0 + suc more ≡ suc more = omega arith in
    let d : j ≡ i = omega arith in
    rw (s, d, t)
first_holds test (suc k) more j i e h t =
    let s : suc k + suc more ≡ suc (k + suc more) = omega arith in
    rw (s, h j (omega arith) (omega arith)) (first_holds test k more (suc j) i (omega arith) (λ m a b. h m (omega arith) b) t)

-- what `find` says of a range
pub lowest_found : (test : ℕ → Bool) (n : ℕ) (r : Option ℕ)
    → MatchOption r ((k : ℕ) → 0 ≤ k → k < n → test k ≡ false) (λ i. (0 ≤ i) × (i < n) × (test i ≡ true) × ((k : ℕ) → 0 ≤ k → k < i → test k ≡ false))
    → FindsLowest test n r
lowest_found test n None h = all_below_lem test n (λ i l. h i (omega arith) l)
lowest_found test n (Some i) h =
    let e : i + suc (n - suc i) ≡ n = omega (arith, h.1) in
    let f : first_from test (i + suc (n - suc i)) 0 ≡ i = first_holds test i (n - suc i) 0 i (omega arith) h.3 h.2 in
    (h.1, sym (rw e at f))
