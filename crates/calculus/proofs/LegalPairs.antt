-- S5's attributes: the project's are columns of z's range, the triples' and pairs' of their sides, the pairs' left ones distinct.
use mathlib.Core.Path.{◌≡◌, refl, sym, ◌∙◌, ap, subst}
use mathlib.Core.Bool.{Bool, true, false, ◌&&◌, ◌||◌, cond, So, false≢true}
use mathlib.Core.Logic.{◌⊎◌, inl, inr}
use mathlib.Core.List.{List, [], ◌∷◌}
use Prim.Native.Nat.{ℕ, zero, suc, ◌+◌, ◌≤◌}
use native.Mathlib.Omega.{arith}
use lib.Dec.{eqb}
use borrow.Author.Tests.{eqb-true}
use lib.ListN.{length}
use Rattle.relations.specs.Columns.{Attribute, left_numbers}
use Rattle.relations.specs.Comparison.{Operator, equal, not_equal, less, at_most, greater, at_least}
use Rattle.relations.specs.Legality.{distinct}
use Rattle.relations.specs.Lists.{All}
use Rattle.relations.proofs.BoolLaws.{and_left, and_right, or_cases, or_by_left, or_by_right, true_or_false}
use Rattle.relations.proofs.LegalityLaws.{Inside, TripleInside, PairInside}
use Rattle.calculus.specs.Form.{NotInScope, Known, GoodAtom}
use Rattle.calculus.specs.Leaves.{equates_with, equates_outside, own_attribute, other_variable, other_attribute}
use Rattle.calculus.specs.Question.{fixed, of_variable, Atom, compare}
use Rattle.calculus.specs.Scope.{Scope, extend, columns_in, column_of}
use Rattle.calculus.specs.ShortRules.{outside_triples, division_pairs}
use Rattle.calculus.proofs.AtomLaws.{other_known}
use Rattle.calculus.proofs.DivisionColumns.{numbers_from, listed_outside, left-numbers}
use Rattle.calculus.proofs.LegalColumns.{column-inside, alone_inside}

pub pairs-length : (z : ℕ) (cs : List Atom) (i : ℕ) → length (division_pairs z cs i) ≡ length cs
pairs-length z [] i = refl
pairs-length z (a ∷ cs) i = ap suc (pairs-length z cs (suc i))

pub triples_length : (s : Scope) (z : ℕ) (cs : List Atom) (i : ℕ) → length (outside_triples s z cs i) ≡ length cs
triples_length s z [] i = refl
triples_length s z (a ∷ cs) i = ap suc (triples_length s z cs (suc i))

pub triples_inside : (s : Scope) (z u : ℕ) (cs : List Atom) (i : ℕ) → 1 ≤ i → i + length cs ≤ suc u → All (λ a. Inside (columns_in s) (column_of s (other_variable z a) (other_attribute z a))) cs → All (TripleInside (columns_in s) u) (outside_triples s z cs i)
triples_inside s z u [] i h k g = tt
triples_inside s z u (a ∷ cs) i h k g = ((g.0, (h, omega arith)), triples_inside s z u cs (suc i) (omega arith) (omega arith) g.1)

-- z's side of a crossing atom
pub own_inside : (s : Scope) (z w : ℕ) → NotInScope z s → (v : ℕ) (a : Attribute) (o : Operator) (u : ℕ) (b : Attribute) → So (eqb v z || eqb u z) → GoodAtom (extend s z w) (compare v a o (of_variable u b)) → Inside w (cond (eqb v z) a b)
own_inside s z w f v a o u b h k = go (true_or_false (eqb v z))
  where
    go : (eqb v z ≡ true) ⊎ (eqb v z ≡ false) → Inside w (cond (eqb v z) a b)
    go (inl i) = subst (λ c. Inside w (cond c a b)) (sym i) (alone_inside s z w v a f i k.0)
    go (inr i) = subst (λ c. Inside w (cond c a b)) (sym i) (alone_inside s z w u b f (rw i at h) k.1)

pub link_inside : (s : Scope) (z y w : ℕ) → NotInScope z s → (a : Atom) → So (equates_with z y a) → GoodAtom (extend s z w) a → Inside w (own_attribute z a)
link_inside s z y w f (compare v a equal (of_variable u b)) h k = own_inside s z w f v a equal u b (go (or_cases (eqb v z && eqb u y) (eqb v y && eqb u z) h)) k
  where
    go : So (eqb v z && eqb u y) ⊎ So (eqb v y && eqb u z) → So (eqb v z || eqb u z)
    go (inl i) = or_by_left (eqb v z) (eqb u z) (and_left (eqb v z) (eqb u y) i)
    go (inr i) = or_by_right (eqb v z) (eqb u z) (and_right (eqb v y) (eqb u z) i)
link_inside s z y w f (compare v a equal (fixed c)) h k = absurd (false≢true h)
link_inside s z y w f (compare v a not_equal x) h k = absurd (false≢true h)
link_inside s z y w f (compare v a less x) h k = absurd (false≢true h)
link_inside s z y w f (compare v a at_most x) h k = absurd (false≢true h)
link_inside s z y w f (compare v a greater x) h k = absurd (false≢true h)
link_inside s z y w f (compare v a at_least x) h k = absurd (false≢true h)

pub outside_inside : (s : Scope) (y k z w : ℕ) → NotInScope z (extend s y k) → (a : Atom) → So (equates_outside z y a) → GoodAtom (extend (extend s y k) z w) a → Inside w (own_attribute z a) × Inside (columns_in s) (column_of s (other_variable z a) (other_attribute z a))
outside_inside s y k z w f (compare v a equal (of_variable u b)) h o = go (true_or_false (eqb v z)) (true_or_false (eqb u z)) (true_or_false (eqb u y)) (true_or_false (eqb v y))
  where
    ends : (b' : Bool) → eqb v z ≡ b' → Inside w (cond b' a b) → Inside (columns_in s) (column_of s (cond b' u v) (cond b' b a)) → Inside w (cond (eqb v z) a b) × Inside (columns_in s) (column_of s (cond (eqb v z) u v) (cond (eqb v z) b a))
    ends b' e i j = (subst (λ c. Inside w (cond c a b)) (sym e) i, subst (λ c. Inside (columns_in s) (column_of s (cond c u v) (cond c b a))) (sym e) j)

    go : (eqb v z ≡ true) ⊎ (eqb v z ≡ false) → (eqb u z ≡ true) ⊎ (eqb u z ≡ false) → (eqb u y ≡ true) ⊎ (eqb u y ≡ false) → (eqb v y ≡ true) ⊎ (eqb v y ≡ false) → Inside w (cond (eqb v z) a b) × Inside (columns_in s) (column_of s (cond (eqb v z) u v) (cond (eqb v z) b a))
    go (inl i) (inl j) g l = absurd (false≢true (rw (i, j) at h))
    go (inl i) (inr j) (inl g) l = absurd (false≢true (rw (i, j, g) at h))
    go (inl i) (inr j) (inr g) l = ends true i (alone_inside (extend s y k) z w v a f i o.0) (column-inside s u b (columns_in s) refl (other_known s y k u b.number g (other_known (extend s y k) z w u b.number j o.1)))
    go (inr i) (inl j) g (inl l) = absurd (false≢true (rw (i, j, l) at h))
    go (inr i) (inl j) g (inr l) = ends false i (alone_inside (extend s y k) z w u b f j o.1) (column-inside s v a (columns_in s) refl (other_known s y k v a.number l (other_known (extend s y k) z w v a.number i o.0)))
    go (inr i) (inr j) g l = absurd (false≢true (rw (i, j) at h))
outside_inside s y k z w f (compare v a equal (fixed c)) h o = absurd (false≢true h)
outside_inside s y k z w f (compare v a not_equal x) h o = absurd (false≢true h)
outside_inside s y k z w f (compare v a less x) h o = absurd (false≢true h)
outside_inside s y k z w f (compare v a at_most x) h o = absurd (false≢true h)
outside_inside s y k z w f (compare v a greater x) h o = absurd (false≢true h)
outside_inside s y k z w f (compare v a at_least x) h o = absurd (false≢true h)

-- y's side of an atom z = y
pub pair_right-inside : (s : Scope) (y k z w : ℕ) → NotInScope y s → eqb y z ≡ false → (a : Atom) → So (equates_with z y a) → GoodAtom (extend (extend s y k) z w) a → Inside k (other_attribute z a)
pair_right-inside s y k z w new apart (compare v a equal (of_variable u b)) h o = go (or_cases (eqb v z && eqb u y) (eqb v y && eqb u z) h)
  where
    inside_y : (x : ℕ) (c : Attribute) → So (eqb x y) → Known (extend (extend s y k) z w) x c.number → Inside k c
    inside_y x c i g = alone_inside s y k x c new i (other_known (extend s y k) z w x c.number (ap (λ m. eqb m z) (eqb-true x y i) ∙ apart) g)

    go : So (eqb v z && eqb u y) ⊎ So (eqb v y && eqb u z) → Inside k (cond (eqb v z) b a)
    go (inl i) = subst (λ c. Inside k (cond c b a)) (sym (and_left (eqb v z) (eqb u y) i)) (inside_y u b (and_right (eqb v z) (eqb u y) i) o.1)
    go (inr i) =
        let vy : So (eqb v y) = and_left (eqb v y) (eqb u z) i in
        let vz : eqb v z ≡ false = ap (λ m. eqb m z) (eqb-true v y vy) ∙ apart in
        subst (λ c. Inside k (cond c b a)) (sym vz) (inside_y v a vy o.0)
pair_right-inside s y k z w new apart (compare v a equal (fixed c)) h o = absurd (false≢true h)
pair_right-inside s y k z w new apart (compare v a not_equal x) h o = absurd (false≢true h)
pair_right-inside s y k z w new apart (compare v a less x) h o = absurd (false≢true h)
pair_right-inside s y k z w new apart (compare v a at_most x) h o = absurd (false≢true h)
pair_right-inside s y k z w new apart (compare v a greater x) h o = absurd (false≢true h)
pair_right-inside s y k z w new apart (compare v a at_least x) h o = absurd (false≢true h)

pub pairs-inside : (z v w : ℕ) (cs : List Atom) (i : ℕ) → 1 ≤ i → i + length cs ≤ suc v → All (λ a. Inside w (other_attribute z a)) cs → All (PairInside v w) (division_pairs z cs i)
pairs-inside z v w [] i h k g = tt
pairs-inside z v w (a ∷ cs) i h k g = (((h, omega arith), g.0), pairs-inside z v w cs (suc i) (omega arith) (omega arith) g.1)

-- the pairs' left attributes are numbered one after the other
pub pairs-distinct : (z : ℕ) (cs : List Atom) (i : ℕ) → So (distinct (left_numbers (division_pairs z cs i)))
pairs-distinct z cs i = subst (λ numbers. So (distinct numbers)) (sym (left-numbers z cs i)) (go (length cs) i)
  where
    go : (many j : ℕ) → So (distinct (numbers_from many j))
    go zero j = refl
    go (suc many) j = rw (listed_outside j many (suc j) (omega arith)) (go many (suc j))
