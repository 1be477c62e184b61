-- The lowest number at which one of several tests holds is the lowest of theirs. Assumes nothing.
use mathlib.Core.Path.{◌≡◌, refl, sym, ◌∙◌, ap, ap₂}
use mathlib.Core.Bool.{Bool, true, false, cond, ◌&&◌, ◌||◌}
use mathlib.Core.Logic.{◌⊎◌, inl, inr}
use Prim.Native.Nat.{ℕ, zero, suc, ◌+◌, ◌-◌, ◌≤◌, ◌<◌, min}
use native.Mathlib.Omega.{arith}
use lib.Dec.{ltb, eqb}
use borrow.Author.Tests.{eqb-true, eqb-false, ltb-true, ltb-false, lt-ltb}
use Rattle.relations.specs.Limits.{question_node_limit}
use Rattle.relations.proofs.BoolLaws.{true_or_false}
use Rattle.std.proofs.Math.Bool.{and-false}
use Rattle.nodes.specs.References.{first_from, lowest}
use Rattle.question.specs.Walk.{lowest_of}

from_on : (f : ℕ → Bool) (k j : ℕ) → j ≤ first_from f k j
unfolding first_from
from_on f zero j = omega arith
from_on f (suc k) j = go (f j) (from_on f k (suc j))
  where
    go : (b : Bool) → suc j ≤ first_from f k (suc j) → j ≤ cond b j (first_from f k (suc j))
    go true h = omega arith
    go false h = omega arith

from_or : (f g : ℕ → Bool) (k j : ℕ) → first_from (λ i. f i || g i) k j ≡ min (first_from f k j) (first_from g k j)
unfolding first_from
from_or f g zero j = omega arith
from_or f g (suc k) j = go (f j) (g j) (from_or f g k (suc j)) (from_on f k (suc j)) (from_on g k (suc j))
  where
    go : (a b : Bool) → first_from (λ i. f i || g i) k (suc j) ≡ min (first_from f k (suc j)) (first_from g k (suc j)) → suc j ≤ first_from f k (suc j) → suc j ≤ first_from g k (suc j)
        → cond (a || b) j (first_from (λ i. f i || g i) k (suc j)) ≡ min (cond a j (first_from f k (suc j))) (cond b j (first_from g k (suc j)))
    go true true e p q = omega arith
    go true false e p q = omega arith
    go false true e p q = omega arith
    go false false e p q = e

pub lowest_or : (f g : ℕ → Bool) (n : ℕ) → lowest (λ i. f i || g i) n ≡ min (lowest f n) (lowest g n)
lowest_or f g n = from_or f g n 0

-- tests that agree
from_same : (f g : ℕ → Bool) → ((i : ℕ) → f i ≡ g i) → (k j : ℕ) → first_from f k j ≡ first_from g k j
unfolding first_from
from_same f g h zero j = refl
from_same f g h (suc k) j = rw (h j, from_same f g h k (suc j))

from_none : (k j : ℕ) → first_from (λ i. false) k j ≡ j + k
unfolding first_from
from_none zero j = omega arith
from_none (suc k) j = from_none k (suc j) ∙ omega arith

pub lowest_none : (n : ℕ) → lowest (λ i. false) n ≡ n
lowest_none n = let e : first_from (λ i. false) n 0 ≡ 0 + n = from_none n 0 in e ∙ omega arith

-- one number
from_one : (i k j : ℕ) → j ≤ i → i < j + k → first_from (λ m. eqb i m && true) k j ≡ i
unfolding first_from
from_one i zero j a b = absurd (omega arith)
from_one i (suc k) j a b = go (true_or_false (eqb i j)) (λ c. from_one i k (suc j) c (omega arith))
  where
    go : (eqb i j ≡ true) ⊎ (eqb i j ≡ false) → (suc j ≤ i → first_from (λ m. eqb i m && true) k (suc j) ≡ i) → cond (eqb i j && true) j (first_from (λ m. eqb i m && true) k (suc j)) ≡ i
    go (inl e) ih = rw e (sym (eqb-true i j e))
    go (inr e) ih = rw e (ih (apart (eqb-false i j e)))
      where
        apart : (i ≡ j → ⊥) → suc j ≤ i
        apart d = omega arith

own : (fault : Bool) (i n : ℕ) → (fault ≡ true → i < n) → lowest (λ j. eqb i j && fault) n ≡ cond fault i n
own true i n h = from_one i n 0 (omega arith) (let l : i < n = h refl in omega arith)
own false i n h = from_same (λ j. eqb i j && false) (λ j. false) (λ j. and-false (eqb i j)) n 0 ∙ lowest_none n

-- a node's own fault, and those of its three parts
lowest_step : (fault : Bool) (i : ℕ) (f g h : ℕ → Bool) → (fault ≡ true → i < question_node_limit)
    → lowest (λ j. (eqb i j && fault) || (f j || (g j || h j))) question_node_limit ≡ lowest_of fault i (lowest f question_node_limit) (lowest g question_node_limit) (lowest h question_node_limit)
lowest_step fault i f g h small =
    lowest_or (λ j. eqb i j && fault) (λ j. f j || (g j || h j)) question_node_limit
    ∙ ap₂ min (own fault i question_node_limit small)
    (lowest_or f (λ j. g j || h j) question_node_limit ∙ ap (λ (m : ℕ). min (lowest f question_node_limit) m) (lowest_or g h question_node_limit))

pub node_lowest : (fault : Bool) (i : ℕ) {a b c : ℕ} (f g h : ℕ → Bool) → (fault ≡ true → i < question_node_limit)
    → a ≡ lowest f question_node_limit → b ≡ lowest g question_node_limit → c ≡ lowest h question_node_limit
    → lowest_of fault i a b c ≡ lowest (λ j. (eqb i j && fault) || (f j || (g j || h j))) question_node_limit
node_lowest fault i f g h small p q r = rw (p, q, r) (sym (lowest_step fault i f g h small))

-- a shorter search finds the same, or its end
from_cut : (f : ℕ → Bool) (k more j : ℕ) → first_from f k j ≡ min (j + k) (first_from f (k + more) j)
unfolding first_from
from_cut f zero more j =
    let e : 0 + more ≡ more = omega arith in
    let g : j ≡ min (j + 0) (first_from f more j) = omega (arith, from_on f more j) in
    rw e g
from_cut f (suc k) more j = let e : suc k + more ≡ suc (k + more) = omega arith in rw e (go (f j) (from_cut f k more (suc j)))
  where
    go : (b : Bool) → first_from f k (suc j) ≡ min (suc j + k) (first_from f (k + more) (suc j)) → cond b j (first_from f k (suc j)) ≡ min (j + suc k) (cond b j (first_from f (k + more) (suc j)))
    go true e = omega arith
    go false e = omega arith

pub lowest_cut : (f : ℕ → Bool) (n m : ℕ) → n ≤ m → lowest f n ≡ min n (lowest f m)
lowest_cut f n m h =
    let e : n + (m - n) ≡ m = omega arith in
    let c : first_from f n 0 ≡ min (0 + n) (first_from f (n + (m - n)) 0) = from_cut f n (m - n) 0 in
    let d : first_from f n 0 ≡ min (0 + n) (first_from f m 0) = rw e at c in
    d ∙ omega arith

-- the test holds where a search ended early
from_holds : (f : ℕ → Bool) (k j : ℕ) → first_from f k j < j + k → f (first_from f k j) ≡ true
unfolding first_from
from_holds f zero j h = absurd (omega arith)
from_holds f (suc k) j h = go (true_or_false (f j)) (λ l. from_holds f k (suc j) l)
  where
    go : (f j ≡ true) ⊎ (f j ≡ false) → (first_from f k (suc j) < suc j + k → f (first_from f k (suc j)) ≡ true) → f (cond (f j) j (first_from f k (suc j))) ≡ true
    go (inl e) ih = rw (e, e)
    go (inr e) ih = let g : first_from f k (suc j) < j + suc k = rw e at h in rw e (ih (omega arith))

pub lowest-holds : (f : ℕ → Bool) (n : ℕ) → lowest f n < n → f (lowest f n) ≡ true
lowest-holds f n h = let z : 0 + n ≡ n = omega arith in from_holds f n 0 (rw z h)

-- tests of numbers that say the same
pub same_ltb : (a b c d : ℕ) → (a < b → c < d) → (c < d → a < b) → ltb a b ≡ ltb c d
same_ltb a b c d there back = go (true_or_false (ltb a b)) (true_or_false (ltb c d))
  where
    go : (ltb a b ≡ true) ⊎ (ltb a b ≡ false) → (ltb c d ≡ true) ⊎ (ltb c d ≡ false) → ltb a b ≡ ltb c d
    go (inl e) q = e ∙ sym (lt-ltb c d (there (ltb-true a b e)))
    go (inr e) (inl g) = let l : a < b = back (ltb-true c d g) in let m : b ≤ a = ltb-false a b e in absurd (omega arith)
    go (inr e) (inr g) = e ∙ sym g
