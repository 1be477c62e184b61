-- S5: the atoms as columns of the dividend and of P, and the value of its division, semijoin, antijoin and union.
use mathlib.Core.Path.{◌≡◌, refl, sym, ◌∙◌, ap, ap₂, subst}
use mathlib.Core.Bool.{Bool, true, false, not, ◌&&◌, ◌||◌, So, false≢true, and_comm}
use mathlib.Core.Logic.{◌⊎◌, inl, inr}
use mathlib.Core.List.{List, [], ◌∷◌, ◌++◌, map}
use Prim.Native.Nat.{ℕ, suc}
use lib.Dec.{eqb}
use borrow.Author.Tests.{eqb-true}
use lib.ListN.{length, length-map}
use Rattle.relations.specs.Columns.{Attribute, Pair, column, pick, meets, equal_on, remaining}
use Rattle.relations.specs.Comparison.{equal, not_equal, less, at_most, greater, at_least}
use Rattle.relations.specs.Lists.{any, all, filter, All}
use Rattle.relations.specs.Rows.{Row, same_row}
use Rattle.relations.specs.Values.{Rows}
use Rattle.relations.proofs.BoolLaws.{and_left, and_right, or_cases, true_or_false}
use Rattle.relations.proofs.ComparisonLaws.{eqb_symmetric}
use Rattle.relations.proofs.ListLaws.{all_mono, all_every, any-filter, any_same, all_cong, all_kept, all_split_three, any-map}
use Rattle.relations.proofs.ValueLaws.{any-canonical}
use Rattle.calculus.specs.Form.{Known, GoodAtom}
use Rattle.calculus.specs.Leaves.{alone_on, equates_with, equates_outside, own_attribute, other_variable, other_attribute}
use Rattle.calculus.specs.Meaning.{Environment, bound, atom_holds}
use Rattle.calculus.specs.Question.{fixed, of_variable, Atom, compare}
use Rattle.calculus.specs.Scope.{Scope, extend, column_of, environment_of}
use Rattle.calculus.specs.ShortRules.{outside_triples, division_pairs, short_rule5_columns}
use Rattle.calculus.proofs.AtomLaws.{other_known}
use Rattle.calculus.proofs.DivisionColumns.{all_equal, remaining-right, pairs-right, triples_right}
use Rattle.calculus.proofs.DivisionLaw.{division_law}
use Rattle.calculus.proofs.OperationValues.{projected, divided}
use Rattle.calculus.proofs.RangeValues.{pick-append}
use Rattle.calculus.proofs.ScopeLaws.{column_of-right}

-- the atoms of S5
equated_atom : (z y : ℕ) → eqb y z ≡ false → (a : Atom) → So (equates_with z y a) → (e : Environment) (t q : Row) → atom_holds a (bound (bound e y t) z q) ≡ eqb (column q (own_attribute z a)) (column t (other_attribute z a))
equated_atom z y d (compare v a equal (of_variable u b)) h e t q = go (or_cases (eqb v z && eqb u y) (eqb v y && eqb u z) h)
  where
    go : So (eqb v z && eqb u y) ⊎ So (eqb v y && eqb u z) → atom_holds (compare v a equal (of_variable u b)) (bound (bound e y t) z q) ≡ eqb (column q (own_attribute z (compare v a equal (of_variable u b)))) (column t (other_attribute z (compare v a equal (of_variable u b))))
    go (inl i) =
        let vz : eqb v z ≡ true = and_left (eqb v z) (eqb u y) i in
        let uy : eqb u y ≡ true = and_right (eqb v z) (eqb u y) i in
        let uz : eqb u z ≡ false = ap (λ k. eqb k z) (eqb-true u y uy) ∙ d in
        rw (vz, uz, uy)
    go (inr i) =
        let vy : eqb v y ≡ true = and_left (eqb v y) (eqb u z) i in
        let uz : eqb u z ≡ true = and_right (eqb v y) (eqb u z) i in
        let vz : eqb v z ≡ false = ap (λ k. eqb k z) (eqb-true v y vy) ∙ d in
        rw (vz, vy, uz) (eqb_symmetric (column t a) (column q b))
equated_atom z y d (compare v a equal (fixed c)) h e t q = absurd (false≢true h)
equated_atom z y d (compare v a not_equal w) h e t q = absurd (false≢true h)
equated_atom z y d (compare v a less w) h e t q = absurd (false≢true h)
equated_atom z y d (compare v a at_most w) h e t q = absurd (false≢true h)
equated_atom z y d (compare v a greater w) h e t q = absurd (false≢true h)
equated_atom z y d (compare v a at_least w) h e t q = absurd (false≢true h)

outside_atom : (s : Scope) (y k z w : ℕ) (a : Atom) → So (equates_outside z y a) → GoodAtom (extend (extend s y k) z w) a → (r t q : Row) → atom_holds a (bound (bound (environment_of s r) y t) z q) ≡ eqb (column q (own_attribute z a)) (column r (column_of s (other_variable z a) (other_attribute z a)))
outside_atom s y k z w (compare v a equal (of_variable u b)) h o r t q = go (true_or_false (eqb v z)) (true_or_false (eqb u z)) (true_or_false (eqb u y)) (true_or_false (eqb v y))
  where
    known : (x c : ℕ) → eqb x z ≡ false → eqb x y ≡ false → Known (extend (extend s y k) z w) x c → Known s x c
    known x c i j g = other_known s y k x c j (other_known (extend s y k) z w x c i g)

    go : (eqb v z ≡ true) ⊎ (eqb v z ≡ false) → (eqb u z ≡ true) ⊎ (eqb u z ≡ false) → (eqb u y ≡ true) ⊎ (eqb u y ≡ false) → (eqb v y ≡ true) ⊎ (eqb v y ≡ false) → atom_holds (compare v a equal (of_variable u b)) (bound (bound (environment_of s r) y t) z q) ≡ eqb (column q (own_attribute z (compare v a equal (of_variable u b)))) (column r (column_of s (other_variable z (compare v a equal (of_variable u b))) (other_attribute z (compare v a equal (of_variable u b)))))
    go (inl i) (inl j) g l = absurd (false≢true (rw (i, j) at h))
    go (inl i) (inr j) (inl g) l = absurd (false≢true (rw (i, j, g) at h))
    go (inl i) (inr j) (inr g) l = rw (i, j, g) (ap (eqb (column q a)) (sym (column_of-right s r u b (known u b.number j g o.1))))
    go (inr i) (inl j) g (inl l) = absurd (false≢true (rw (i, j, l) at h))
    go (inr i) (inl j) g (inr l) = rw (i, j, l) (eqb_symmetric (column (environment_of s r v) a) (column q b) ∙ ap (eqb (column q b)) (sym (column_of-right s r v a (known v a.number i l o.0))))
    go (inr i) (inr j) g l = absurd (false≢true (rw (i, j) at h))
outside_atom s y k z w (compare v a equal (fixed c)) h o r t q = absurd (false≢true h)
outside_atom s y k z w (compare v a not_equal x) h o r t q = absurd (false≢true h)
outside_atom s y k z w (compare v a less x) h o r t q = absurd (false≢true h)
outside_atom s y k z w (compare v a at_most x) h o r t q = absurd (false≢true h)
outside_atom s y k z w (compare v a greater x) h o r t q = absurd (false≢true h)
outside_atom s y k z w (compare v a at_least x) h o r t q = absurd (false≢true h)

pick-map : {A : Type 0} (g : A → Attribute) (xs : List A) (q : Row) → pick (map g xs) q ≡ map (λ a. column q (g a)) xs
pick-map g [] q = refl
pick-map g (x ∷ xs) q = rw (pick-map g xs q)

module _ (s : Scope) (y k z w : ℕ) (apart : eqb y z ≡ false) (cs : List Atom) where
  abbrev pub outsides : List Atom
  outsides = filter (equates_outside z y) cs

  abbrev pub links : List Atom
  links = filter (equates_with z y) cs

  abbrev pub outside_columns : Row → Row
  outside_columns q = pick (map (own_attribute z) outsides) q

  abbrev pub link_columns : Row → Row
  link_columns q = pick (map (own_attribute z) links) q

  abbrev pub outside_key : Row → Row
  outside_key r = map (λ a. column r (column_of s (other_variable z a) (other_attribute z a))) outsides

  abbrev pub wanted_links : Row → Row
  wanted_links t = map (λ a. column t (other_attribute z a)) links

  abbrev pub picked : List Attribute
  picked = short_rule5_columns z y cs

  abbrev pub pairs : List Pair
  pairs = division_pairs z links (suc (length outsides))

  pub rule_5_atoms : So (all (λ a. alone_on z a || (equates_with z y a || equates_outside z y a)) cs) → All (GoodAtom (extend (extend s y k) z w)) cs → (r t q : Row) → all (λ a. atom_holds a (bound (bound (environment_of s r) y t) z q)) cs ≡ (all (λ a. atom_holds a (bound (bound (environment_of s r) y t) z q)) (filter (alone_on z) cs) && (same_row (outside_columns q) (outside_key r) && same_row (link_columns q) (wanted_links t)))
  rule_5_atoms h o r t q = all_split_three (alone_on z) (equates_with z y) (equates_outside z y) (λ a. atom_holds a (bound (bound (environment_of s r) y t) z q)) cs h ∙ ap (λ b. all (λ a. atom_holds a (bound (bound (environment_of s r) y t) z q)) (filter (alone_on z) cs) && b) (ap₂ ◌&&◌ ls os ∙ and_comm (same_row (link_columns q) (wanted_links t)) (same_row (outside_columns q) (outside_key r)))
    where
      ls : all (λ a. atom_holds a (bound (bound (environment_of s r) y t) z q)) links ≡ same_row (link_columns q) (wanted_links t)
      ls = all_cong (λ a. atom_holds a (bound (bound (environment_of s r) y t) z q)) (λ a. eqb (column q (own_attribute z a)) (column t (other_attribute z a))) links (all_mono (λ a i. equated_atom z y apart a i.0 (environment_of s r) t q) links (all_kept (GoodAtom (extend (extend s y k) z w)) (equates_with z y) cs o)) ∙ (all_equal (λ a. column q (own_attribute z a)) (λ a. column t (other_attribute z a)) links ∙ ap (λ l. same_row l (wanted_links t)) (sym (pick-map (own_attribute z) links q)))

      os : all (λ a. atom_holds a (bound (bound (environment_of s r) y t) z q)) outsides ≡ same_row (outside_columns q) (outside_key r)
      os = all_cong (λ a. atom_holds a (bound (bound (environment_of s r) y t) z q)) (λ a. eqb (column q (own_attribute z a)) (column r (column_of s (other_variable z a) (other_attribute z a)))) outsides (all_mono (λ a i. outside_atom s y k z w a i.0 i.1 r t q) outsides (all_kept (GoodAtom (extend (extend s y k) z w)) (equates_outside z y) cs o)) ∙ (all_equal (λ a. column q (own_attribute z a)) (λ a. column r (column_of s (other_variable z a) (other_attribute z a))) outsides ∙ ap (λ l. same_row l (outside_key r)) (sym (pick-map (own_attribute z) outsides q)))

  outside_length : (q : Row) → length (outside_columns q) ≡ length outsides
  outside_length q = length-map (map (own_attribute z) outsides) (column q) ∙ length-map outsides (own_attribute z)

  link_length : (q : Row) → length (link_columns q) ≡ length links
  link_length q = length-map (map (own_attribute z) links) (column q) ∙ length-map links (own_attribute z)

  rule_5_remaining : (q : Row) → remaining pairs (pick picked q) ≡ outside_columns q
  rule_5_remaining q = ap (remaining pairs) (pick-append (map (own_attribute z) outsides) (map (own_attribute z) links) q) ∙ subst (λ i. remaining (division_pairs z links (suc i)) (outside_columns q ++ link_columns q) ≡ outside_columns q) (outside_length q) (remaining-right z links (outside_columns q) (link_columns q) (link_length q))

  rule_5_pairs : (q t : Row) → equal_on pairs (pick picked q) t ≡ same_row (link_columns q) (wanted_links t)
  rule_5_pairs q t = ap (λ l. equal_on pairs l t) (pick-append (map (own_attribute z) outsides) (map (own_attribute z) links) q) ∙ pairs-right z links (length outsides) (outside_columns q) (link_columns q) t (outside_length q) (link_length q)

  rule_5_triples : (q r : Row) → meets (outside_triples s z outsides 1) r (outside_columns q) ≡ same_row (outside_columns q) (outside_key r)
  rule_5_triples q r = triples_right s z outsides 0 [] (outside_columns q) r refl (outside_length q)

  -- the division's rows that P's row meets, or no divisor
  pub rule_5_value : (Z Y : Rows) (r : Row) → (any (meets (outside_triples s z outsides 1) r) (divided pairs (projected picked Z) Y) || not (any (meets [] r) Y)) ≡ all (λ t. any (λ q. same_row (outside_columns q) (outside_key r) && same_row (link_columns q) (wanted_links t)) Z) Y
  rule_5_value Z Y r = ap (λ b. b || not (any (λ t. true) Y)) first ∙ division_law Z Y outside_columns (outside_key r) (λ q t. same_row (link_columns q) (wanted_links t))
    where
      over_D : (g : Row → Bool) → any g (projected picked Z) ≡ any (λ q. g (pick picked q)) Z
      over_D g = any-canonical g (map (pick picked) Z) ∙ any-map g (pick picked) Z

      passes : Row → Bool
      passes l₀ = all (λ t. any (λ l. same_row (remaining pairs l) (remaining pairs l₀) && equal_on pairs l t) (projected picked Z)) Y

      inner : (q₀ : Row) → passes (pick picked q₀) ≡ all (λ t. any (λ q. same_row (outside_columns q) (outside_columns q₀) && same_row (link_columns q) (wanted_links t)) Z) Y
      inner q₀ = all_cong (λ t. any (λ l. same_row (remaining pairs l) (remaining pairs (pick picked q₀)) && equal_on pairs l t) (projected picked Z)) (λ t. any (λ q. same_row (outside_columns q) (outside_columns q₀) && same_row (link_columns q) (wanted_links t)) Z) Y (all_every (λ t. over_D (λ l. same_row (remaining pairs l) (remaining pairs (pick picked q₀)) && equal_on pairs l t) ∙ any_same (λ q. same_row (remaining pairs (pick picked q)) (remaining pairs (pick picked q₀)) && equal_on pairs (pick picked q) t) (λ q. same_row (outside_columns q) (outside_columns q₀) && same_row (link_columns q) (wanted_links t)) (λ q. ap₂ ◌&&◌ (ap₂ same_row (rule_5_remaining q) (rule_5_remaining q₀)) (rule_5_pairs q t)) Z) Y)

      first : any (meets (outside_triples s z outsides 1) r) (divided pairs (projected picked Z) Y) ≡ any (λ q₀. all (λ t. any (λ q. same_row (outside_columns q) (outside_columns q₀) && same_row (link_columns q) (wanted_links t)) Z) Y && same_row (outside_columns q₀) (outside_key r)) Z
      first = any-canonical (meets (outside_triples s z outsides 1) r) (map (remaining pairs) (filter passes (projected picked Z))) ∙ (any-map (meets (outside_triples s z outsides 1) r) (remaining pairs) (filter passes (projected picked Z)) ∙ (any-filter passes (λ l. meets (outside_triples s z outsides 1) r (remaining pairs l)) (projected picked Z) ∙ (over_D (λ l. passes l && meets (outside_triples s z outsides 1) r (remaining pairs l)) ∙ any_same (λ q. passes (pick picked q) && meets (outside_triples s z outsides 1) r (remaining pairs (pick picked q))) (λ q₀. all (λ t. any (λ q. same_row (outside_columns q) (outside_columns q₀) && same_row (link_columns q) (wanted_links t)) Z) Y && same_row (outside_columns q₀) (outside_key r)) (λ q. ap₂ ◌&&◌ (inner q) (ap (meets (outside_triples s z outsides 1) r) (rule_5_remaining q) ∙ rule_5_triples q r)) Z)))
