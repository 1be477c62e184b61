-- A node's list, as attributes, triples and pairs: their numbers are words that stand apart by a step. Assumes nothing.
use Prim.Native.Nat.{ℕ, zero, suc, ◌≤◌}
use mathlib.Core.Path.{◌≡◌, refl, sym, ap, ap₂, ◌∙◌}
use mathlib.Core.Bool.{Bool, true, false, ◌&&◌}
use mathlib.Core.List.{List, [], ◌∷◌, map}
use mathlib.Core.Option.{Option, some, none}
use native.Mathlib.Omega.{arith}
use native.Mathlib.Nat.{le_of_suc-le-suc}
use lib.ListN.{get_or, length, take, drop}
use lib.Seq.{drop-drop}
use Rattle.relations.specs.Lists.{all}
use Rattle.relations.specs.Comparison.{Operator, operator_of}
use Rattle.relations.specs.Columns.{Triple, attribute, left_numbers}
use Rattle.relations.specs.Legality.{between, inside, triple_inside, pair_inside}
use Rattle.relations.specs.PlanWords.{triple_before, read_triples, read_pairs}
use Rattle.relations.proofs.ListLaws.{all_test_map}
use Rattle.plan_reading.specs.Decoding.{spaced}
use Rattle.plan_reading.proofs.WordLaws.{get_d_front}

all_both : {A : Type 0} (p q : A → Bool) (xs : List A) → all (λ x. p x && q x) xs ≡ (all p xs && all q xs)
all_both p q [] = refl
all_both p q (x ∷ xs) = ap (λ b. (p x && q x) && b) (all_both p q xs) ∙ turn (p x) (q x) (all p xs) (all q xs)
  where
    turn : (a b c d : Bool) → ((a && b) && (c && d)) ≡ ((a && c) && (b && d))
    turn true true c d = refl
    turn true false true d = refl
    turn true false false d = refl
    turn false b c d = refl

-- Attributes.

take-spaced : (count : ℕ) (list : List ℕ) → count ≤ length list → take count list ≡ spaced 1 count list
unfolding spaced
take-spaced zero list h = refl
take-spaced (suc count) [] h = absurd (omega arith)
take-spaced (suc count) (word ∷ list) h = ap (λ rest. word ∷ rest) (take-spaced count list (le_of_suc-le-suc h))

pub attributes_inside_lem : (width count : ℕ) (list : List ℕ) → count ≤ length list → all (inside width) (map attribute (take count list)) ≡ all (between 1 width) (spaced 1 count list)
attributes_inside_lem width count list h = all_test_map (inside width) attribute (take count list) ∙ ap (all (between 1 width)) (take-spaced count list h)

-- Triples.

pub record TriplesAre (count : ℕ) (list : List ℕ) (triples : List Triple) : Type 0 where
  pub many : length triples ≡ count
  pub lefts : map (λ t. t.left.number) triples ≡ spaced 3 count list
  pub rights : map (λ t. t.right.number) triples ≡ spaced 3 count (drop 2 list)

none-some {ℓ} : {C : Type ℓ} {A : Type 0} {a : A} → Path (Option A) none (some a) → C
none-some e = let z : ◌≡◌ {A = ℕ} 0 1 = cc in absurd (omega arith)

pub triples_are : (count : ℕ) (list : List ℕ) (triples : List Triple) → read_triples count list ≡ some triples → TriplesAre count list triples
unfolding spaced
triples_are zero list triples e = let is : [] ≡ triples = cc in rw (← is) (record { many = refl; lefts = refl; rights = refl })
triples_are (suc count) list triples e = go (operator_of (get_or list 1 0)) (read_triples count (drop 3 list)) (λ others read. triples_are count (drop 3 list) others read) e
  where
    go : (operator : Option Operator) (behind : Option (List Triple)) → ((others : List Triple) → behind ≡ some others → TriplesAre count (drop 3 list) others) → triple_before operator list behind ≡ some triples → TriplesAre (suc count) list triples
    go none behind ih e = none-some e
    go (some o) none ih e = none-some e
    go (some o) (some others) ih e =
        let first : Triple = record { left = attribute (get_or list 0 0); operator = o; right = attribute (get_or list 2 0) } in
        let is : first ∷ others ≡ triples = cc in
        let rest : TriplesAre count (drop 3 list) others = ih others refl in
        rw (← is)
        (record {
          many = ap suc rest.many;
          lefts = ap (λ numbers. get_or list 0 0 ∷ numbers) rest.lefts;
          rights = ap₂ ◌∷◌ (sym (get_d_front list 2)) (rest.rights ∙ ap (spaced 3 count) (drop-drop 2 3 list ∙ sym (drop-drop 3 2 list)));
        })

pub triples_inside : (v w count : ℕ) (list : List ℕ) (triples : List Triple) → TriplesAre count list triples
    → all (triple_inside v w) triples ≡ (all (between 1 v) (spaced 3 count list) && all (between 1 w) (spaced 3 count (drop 2 list)))
triples_inside v w count list triples are =
    all_both (λ t. inside v t.left) (λ t. inside w t.right) triples
    ∙ ap₂ ◌&&◌ (sym (all_test_map (between 1 v) (λ t. t.left.number) triples) ∙ ap (all (between 1 v)) are.lefts) (sym (all_test_map (between 1 w) (λ t. t.right.number) triples) ∙ ap (all (between 1 w)) are.rights)

-- Pairs.

pub pairs_many : (count : ℕ) (list : List ℕ) → length (read_pairs count list) ≡ count
pairs_many zero list = refl
pairs_many (suc count) list = ap suc (pairs_many count (drop 2 list))

pub pairs_lefts : (count : ℕ) (list : List ℕ) → left_numbers (read_pairs count list) ≡ spaced 2 count list
unfolding spaced
pairs_lefts zero list = refl
pairs_lefts (suc count) list = ap (λ numbers. get_or list 0 0 ∷ numbers) (pairs_lefts count (drop 2 list))

pairs_rights : (count : ℕ) (list : List ℕ) → map (λ p. p.right.number) (read_pairs count list) ≡ spaced 2 count (drop 1 list)
unfolding spaced
pairs_rights zero list = refl
pairs_rights (suc count) list = ap₂ ◌∷◌ (sym (get_d_front list 1)) (pairs_rights count (drop 2 list) ∙ ap (spaced 2 count) (drop-drop 1 2 list ∙ sym (drop-drop 2 1 list)))

pub pairs-inside : (v w count : ℕ) (list : List ℕ) → all (pair_inside v w) (read_pairs count list) ≡ (all (between 1 v) (spaced 2 count list) && all (between 1 w) (spaced 2 count (drop 1 list)))
pairs-inside v w count list =
    all_both (λ p. inside v p.left) (λ p. inside w p.right) (read_pairs count list)
    ∙ ap₂ ◌&&◌ (sym (all_test_map (between 1 v) (λ p. p.left.number) (read_pairs count list)) ∙ ap (all (between 1 v)) (pairs_lefts count list)) (sym (all_test_map (between 1 w) (λ p. p.right.number) (read_pairs count list)) ∙ ap (all (between 1 w)) (pairs_rights count list))
