-- The leaves passed one by one: tests of all, counts, and lists made from those that pass a test. Assumes nothing.
use Rattle.std.proofs.Common.{ℕ, ◌+◌, ◌≤◌, ◌<◌, ◌≡◌, refl, sym, ap, ◌∙◌, Bool, true, false, cond, ◌&&◌, List, [], ◌∷◌, ◌++◌, map, length, get_or, drop, add-one, arith}
use mathlib.Core.Bool.{and_assoc}
use mir.Val.{bool_byte}
use lib.ListN.{drop_of_length-le}
use lib.Seq.{drop-cons}
use Rattle.relations.specs.Lists.{all, filter, flat}
use Rattle.relations.specs.PlanWords.{triple_words, pair_words}
use Rattle.calculus.specs.Question as calculus
use Rattle.calculus.specs.Scope.{Scope, column_number}
use Rattle.calculus.specs.Leaves.{compares_with_other, own_attribute, other_variable, other_attribute}
use Rattle.calculus.specs.ShortRules.{triple_of, triples_of, outside_triples, division_pairs}
use Rattle.conditions.specs.Leaves.{leaf_at, atoms_of}
use Rattle.emission.specs.NodeLists.{numbers_of}

-- the leaves from the i-th on
module _ (words : List ℕ) (opposite : Bool) (numbers : List ℕ) where
  abbrev pub rest : ℕ → List calculus.Atom
  rest i = atoms_of words opposite (drop i numbers)

  pub rest_none : (i : ℕ) → length numbers ≤ i → rest i ≡ []
  rest_none i h = ap (atoms_of words opposite) (drop_of_length-le numbers h)

  module _ (i : ℕ) (h : i < length numbers) where
    abbrev pub here : calculus.Atom
    here = leaf_at words opposite (get_or numbers i 0)

    pub next_leaf : rest i ≡ here ∷ rest (i + 1)
    next_leaf = rw add-one (ap (map (leaf_at words opposite)) (drop-cons numbers i 0 h))

    module _ (test : calculus.Atom → Bool) where
      pub filter_in : test here ≡ true → filter test (rest i) ≡ here ∷ filter test (rest (i + 1))
      filter_in e = ap (filter test) next_leaf ∙ ap (λ b. cond b (here ∷ filter test (rest (i + 1))) (filter test (rest (i + 1)))) e

      pub filter_out : test here ≡ false → filter test (rest i) ≡ filter test (rest (i + 1))
      filter_out e = ap (filter test) next_leaf ∙ ap (λ b. cond b (here ∷ filter test (rest (i + 1))) (filter test (rest (i + 1)))) e

    -- what an atom that passes adds to a list

    pub own_next : (test : calculus.Atom → Bool) (z : ℕ) → test here ≡ true → numbers_of (map (own_attribute z) (filter test (rest i))) ≡ (own_attribute z here).number ∷ numbers_of (map (own_attribute z) (filter test (rest (i + 1))))
    own_next test z e = ap (λ l. numbers_of (map (own_attribute z) l)) (filter_in test e)

    pub pairs_next : (test : calculus.Atom → Bool) (z column : ℕ) → test here ≡ true
        → flat pair_words (division_pairs z (filter test (rest i)) column) ≡ (column ∷ (other_attribute z here).number ∷ []) ++ flat pair_words (division_pairs z (filter test (rest (i + 1))) (column + 1))
    pairs_next test z column e = rw (add-one column) (ap (λ l. flat pair_words (division_pairs z l column)) (filter_in test e))

    pub outside_next : (test : calculus.Atom → Bool) (s : Scope) (z column : ℕ) → test here ≡ true
        → flat triple_words (outside_triples s z (filter test (rest i)) column) ≡ (column_number s (other_variable z here) (other_attribute z here).number ∷ 1 ∷ column ∷ []) ++ flat triple_words (outside_triples s z (filter test (rest (i + 1))) (column + 1))
    outside_next test s z column e = rw (add-one column) (ap (λ l. flat triple_words (outside_triples s z l column)) (filter_in test e))

    pub triples_next : (s : Scope) (x : ℕ) → flat triple_words (triples_of s x (rest i)) ≡ flat triple_words (triples_of s x (here ∷ [])) ++ flat triple_words (triples_of s x (rest (i + 1)))
    triples_next s x = ap (λ l. flat triple_words (triples_of s x l)) next_leaf ∙ go (compares_with_other x here)
      where
        go : (b : Bool) → flat triple_words (map (triple_of s x) (cond b (here ∷ filter (compares_with_other x) (rest (i + 1))) (filter (compares_with_other x) (rest (i + 1))))) ≡ flat triple_words (map (triple_of s x) (cond b (here ∷ []) [])) ++ flat triple_words (map (triple_of s x) (filter (compares_with_other x) (rest (i + 1))))
        go true = refl
        go false = refl
