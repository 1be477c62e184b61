-- S5: which columns of the dividend remain, and what its pairs and triples compare.
use mathlib.Core.Path.{◌≡◌, refl, ◌∙◌, ap, ap₂, subst}
use mathlib.Core.Bool.{true, false, ◌&&◌, ◌||◌}
use mathlib.Core.Logic.{◌⊎◌, inl, inr}
use mathlib.Core.List.{List, [], ◌∷◌, ◌++◌, map}
use Prim.Native.Nat.{ℕ, zero, suc, ◌+◌, ◌≤◌, ◌<◌}
use native.Mathlib.Omega.{arith}
use lib.Dec.{eqb}
use borrow.Author.Tests.{eqb-false, ne_eqb}
use lib.ListN.{get_or, length, length-append}
use lib.Seq.{get_or_at, append_snoc}
use Rattle.relations.specs.Columns.{column, meets, equal_on, listed, columns_not_listed, left_numbers, remaining}
use Rattle.relations.specs.Lists.{all}
use Rattle.relations.specs.Rows.{Row, same_row}
use Rattle.relations.proofs.BoolLaws.{true_or_false}
use Rattle.relations.proofs.ComparisonLaws.{eqb_symmetric}
use Rattle.calculus.specs.Leaves.{other_variable, other_attribute}
use Rattle.calculus.specs.Question.{Atom}
use Rattle.calculus.specs.Scope.{Scope, column_of}
use Rattle.calculus.specs.ShortRules.{outside_triples, division_pairs}

-- equal lists of columns
pub all_equal : {A : Type 0} (F G : A → ℕ) (xs : List A) → all (λ a. eqb (F a) (G a)) xs ≡ same_row (map F xs) (map G xs)
all_equal F G [] = refl
all_equal F G (x ∷ xs) = rw (all_equal F G xs)

-- so many numbers from i on
abbrev pub numbers_from : ℕ → ℕ → List ℕ
numbers_from zero i = []
numbers_from (suc many) i = i ∷ numbers_from many (suc i)

pub listed_outside : (n many i : ℕ) → n < i → listed n (numbers_from many i) ≡ false
listed_outside n zero i h = refl
listed_outside n (suc many) i h = rw (ne_eqb n i (λ e. omega arith)) (listed_outside n many (suc i) (omega arith))

listed-inside : (n many i : ℕ) → i ≤ n → n < i + many → listed n (numbers_from many i) ≡ true
listed-inside n zero i h k = absurd (omega arith)
listed-inside n (suc many) i h k = go (true_or_false (eqb n i)) (λ e. listed-inside n many (suc i) (lt_of n i h (eqb-false n i e)) (omega arith))
  where
    lt_of : (a b : ℕ) → b ≤ a → (a ≡ b → ⊥) → suc b ≤ a
    lt_of a b g f = omega arith

    go : (eqb n i ≡ true) ⊎ (eqb n i ≡ false) → (eqb n i ≡ false → listed n (numbers_from many (suc i)) ≡ true) → (eqb n i || listed n (numbers_from many (suc i))) ≡ true
    go (inl e) ih = rw e
    go (inr e) ih = rw e (ih e)

none_remain : (n many i : ℕ) (c : Row) → i ≤ n → n + length c ≤ i + many → columns_not_listed n (numbers_from many i) c ≡ []
none_remain n many i [] h k = refl
none_remain n many i (x ∷ c) h k = rw (listed-inside n many i h (omega arith)) (none_remain (suc n) many i c (omega arith) (omega arith))

first_remain : (n many i : ℕ) (a c : Row) → n + length a ≡ i → length c ≤ many → columns_not_listed n (numbers_from many i) (a ++ c) ≡ a
first_remain n many i [] c e h = none_remain n many i c (omega arith) (omega arith)
first_remain n many i (x ∷ a) c e h = rw (listed_outside n many i (omega arith)) (ap (λ l. x ∷ l) (first_remain (suc n) many i a c (omega arith) h))

-- the pairs' left columns are the last ones
pub left-numbers : (z : ℕ) (cs : List Atom) (i : ℕ) → left_numbers (division_pairs z cs i) ≡ numbers_from (length cs) i
left-numbers z [] i = refl
left-numbers z (a ∷ cs) i = rw (left-numbers z cs (suc i))

pub remaining-right : (z : ℕ) (cs : List Atom) (a c : Row) → length c ≡ length cs → remaining (division_pairs z cs (suc (length a))) (a ++ c) ≡ a
remaining-right z cs a c h = rw (left-numbers z cs (suc (length a))) (first_remain 1 (length cs) (suc (length a)) a c (omega arith) (omega arith))

pub pairs-right : (z : ℕ) (cs : List Atom) (i : ℕ) (a c t : Row) → length a ≡ i → length c ≡ length cs → equal_on (division_pairs z cs (suc i)) (a ++ c) t ≡ same_row c (map (λ b. column t (other_attribute z b)) cs)
pairs-right z [] i a [] t e h = refl
pairs-right z [] i a (x ∷ c) t e h = absurd (omega arith)
pairs-right z (b ∷ cs) i a [] t e h = absurd (omega arith)
pairs-right z (b ∷ cs) i a (x ∷ c) t e h = ap₂ ◌&&◌ (ap (λ g. eqb g (column t (other_attribute z b))) (get_or_at a x c 0 i e)) (subst (λ l. equal_on (division_pairs z cs (suc (suc i))) l t ≡ same_row c (map (λ b. column t (other_attribute z b)) cs)) (append_snoc a x c) (pairs-right z cs (suc i) (a ++ (x ∷ [])) c t (omega (arith, length-append a (x ∷ []))) (omega arith)))

pub triples_right : (s : Scope) (z : ℕ) (cs : List Atom) (i : ℕ) (a u r : Row) → length a ≡ i → length u ≡ length cs → meets (outside_triples s z cs (suc i)) r (a ++ u) ≡ same_row u (map (λ b. column r (column_of s (other_variable z b) (other_attribute z b))) cs)
triples_right s z [] i a [] r e h = refl
triples_right s z [] i a (x ∷ u) r e h = absurd (omega arith)
triples_right s z (b ∷ cs) i a [] r e h = absurd (omega arith)
triples_right s z (b ∷ cs) i a (x ∷ u) r e h = ap₂ ◌&&◌ (eqb_symmetric (column r (column_of s (other_variable z b) (other_attribute z b))) (get_or (a ++ x ∷ u) i 0) ∙ ap (λ g. eqb g (column r (column_of s (other_variable z b) (other_attribute z b)))) (get_or_at a x u 0 i e)) (subst (λ l. meets (outside_triples s z cs (suc (suc i))) r l ≡ same_row u (map (λ b. column r (column_of s (other_variable z b) (other_attribute z b))) cs)) (append_snoc a x u) (triples_right s z cs (suc i) (a ++ (x ∷ [])) u r (omega (arith, length-append a (x ∷ []))) (omega arith)))
