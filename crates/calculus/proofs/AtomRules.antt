-- Selects, and the semijoin and antijoin of S2 and S3.
use mathlib.Core.Path.{◌≡◌, refl, sym, ◌∙◌, ap, ap₂, subst}
use mathlib.Core.Bool.{Bool, not, ◌&&◌, ◌||◌, So}
use mathlib.Core.List.{List, [], ◌∷◌}
use Prim.Native.Nat.{ℕ, suc, ◌+◌, pred}
use native.Mathlib.Omega.{arith}
use lib.ListN.{length}
use Rattle.relations.specs.Columns.{column, meets}
use Rattle.relations.specs.Comparison.{holds}
use Rattle.relations.specs.Lists.{any, all, filter, All}
use Rattle.relations.specs.Machine.{run}
use Rattle.relations.specs.Nodes.{Node, semijoin, antijoin}
use Rattle.relations.specs.Plan.{value_at, value_of_node}
use Rattle.relations.specs.Rows.{Row}
use Rattle.relations.specs.Values.{Rows, Tables, Ascending, Wide}
use Rattle.relations.proofs.ListLaws.{filter_and, all_mono, any_cong, filter_true, any-filter, filter_same, all_cong, all_kept, all_split, all_test_map}
use Rattle.relations.proofs.ValueLaws.{ascending-filter, canonical-filter}
use Rattle.calculus.specs.Form.{NotInScope, GoodAtom}
use Rattle.calculus.specs.Leaves.{alone_on, compares_with_other}
use Rattle.calculus.specs.Meaning.{nothing_bound, bound, atom_holds}
use Rattle.calculus.specs.Question.{fixed, of_variable, Atom, compare}
use Rattle.calculus.specs.Scope.{entry, Scope, extend, column_of, environment_of}
use Rattle.calculus.specs.ShortRules.{last_number, select_node, select_nodes, triple_of, triples_of, restricted_range, short_rule2_nodes, short_rule3_nodes}
use Rattle.calculus.proofs.AtomLaws.{meets_triple, alone_atom, alone_known, compared_atom}
use Rattle.calculus.proofs.OperationValues.{semijoined, antijoined}
use Rattle.calculus.proofs.PlainRules.{Sound, Makes}
use Rattle.calculus.proofs.PlanValues.{after, last_value, after_append, after_cons, last_after_one, last_after_end, value_at_last, after_grows, value-kept, value_here}
use Rattle.calculus.proofs.ScopeLaws.{environment_extend, column_of-right}

module _ (tables : Tables) where
  pub select_step : (s : Scope) (made : List Rows) (p : ℕ) → Ascending (value_at made p) → (a : Atom) → GoodAtom s a → value_of_node tables made (select_node s p a) ≡ filter (λ r. atom_holds a (environment_of s r)) (value_at made p)
  select_step s made p asc (compare v a o (fixed c)) k = canonical-filter (λ r. holds o (column r (column_of s v a)) c.value) (value_at made p) asc ∙ filter_same (λ r. holds o (column r (column_of s v a)) c.value) (λ r. holds o (column (environment_of s r v) a) c.value) (λ r. ap (λ z. holds o z c.value) (column_of-right s r v a k)) (value_at made p)
  select_step s made p asc (compare v a o (of_variable u b)) k = canonical-filter (λ r. holds o (column r (column_of s v a)) (column r (column_of s u b))) (value_at made p) asc ∙ filter_same (λ r. holds o (column r (column_of s v a)) (column r (column_of s u b))) (λ r. holds o (column (environment_of s r v) a) (column (environment_of s r u) b)) (λ r. ap₂ (holds o) (column_of-right s r v a k.0) (column_of-right s r u b k.1)) (value_at made p)

  pub atom-rule : (s : Scope) (a : Atom) → GoodAtom s a → Sound tables s (λ p n. select_node s p a ∷ []) (λ r. atom_holds a (environment_of s r))
  atom-rule s a k made n p e l g = last_after_one tables made (select_node s p a) ∙ select_step s made p g.0 a k

  pub selects_rule : (s : Scope) (cs : List Atom) → All (GoodAtom s) cs → (made : List Rows) (n p : ℕ) → length made ≡ n → Ascending (last_value made) → value_at made p ≡ last_value made → last_value (after tables made (select_nodes s cs p n)) ≡ filter (λ r. all (λ a. atom_holds a (environment_of s r)) cs) (last_value made)
  unfolding run
  selects_rule s [] k made n p e asc h = sym (filter_true (last_value made))
  selects_rule s (a ∷ cs) k made n p e asc h =
      let x : Node = select_node s p a in
      let w1 : List Rows = after tables made (x ∷ []) in
      let asc_p : Ascending (value_at made p) = subst Ascending (sym h) asc in
      let r1 : last_value w1 ≡ filter (λ r. atom_holds a (environment_of s r)) (last_value made) = last_after_one tables made x ∙ (select_step s made p asc_p a k.0 ∙ ap (filter (λ r. atom_holds a (environment_of s r))) h) in
      let asc_1 : Ascending (last_value w1) = subst Ascending (sym r1) (ascending-filter (λ r. atom_holds a (environment_of s r)) (last_value made) asc) in
      ap last_value (after_cons tables made x (select_nodes s cs n (suc n))) ∙ (selects_rule s cs k.1 w1 (suc n) n (omega (arith, after_grows tables made n e (x ∷ []))) asc_1 (value_here tables made n e x ∙ sym (last_after_one tables made x)) ∙ (ap (filter (λ r. all (λ b. atom_holds b (environment_of s r)) cs)) r1 ∙ filter_and (λ r. atom_holds a (environment_of s r)) (λ r. all (λ b. atom_holds b (environment_of s r)) cs) (last_value made)))

  -- a variable's atoms alone, on a row of its range
  abbrev pub own_atoms_hold : ℕ → ℕ → List Atom → Row → Bool
  own_atoms_hold v w cs r = all (λ a. atom_holds a (environment_of (entry v w ∷ []) r)) (filter (alone_on v) cs)

  -- all atoms, on P's row and a row of the range
  abbrev pub all_atoms_hold : Scope → ℕ → List Atom → Row → Row → Bool
  all_atoms_hold s v cs p r = all (λ a. atom_holds a (bound (environment_of s p) v r)) cs

  module _ (s : Scope) (v w : ℕ) (new : NotInScope v s) (cs : List Atom) (good : All (GoodAtom (extend s v w)) cs) where
    -- the range's own tests on the range, the others in the triples: together, all the atoms
    both_tests : So (all (λ a. alone_on v a || compares_with_other v a) cs) → (p r : Row) → length r ≡ w → (own_atoms_hold v w cs r && meets (triples_of s v cs) p r) ≡ all_atoms_hold s v cs p r
    both_tests h p r e = ap₂ ◌&&◌ alone compared ∙ sym (all_split (alone_on v) (compares_with_other v) (λ a. atom_holds a (bound (environment_of s p) v r)) cs h)
      where
        alone : own_atoms_hold v w cs r ≡ all (λ a. atom_holds a (bound (environment_of s p) v r)) (filter (alone_on v) cs)
        alone = all_cong (λ a. atom_holds a (environment_of (entry v w ∷ []) r)) (λ a. atom_holds a (bound (environment_of s p) v r)) (filter (alone_on v) cs) (all_mono (λ a i. ap (atom_holds a) (environment_extend [] v w tt [] r refl e) ∙ alone_atom v a nothing_bound (environment_of s p) r i.0) (filter (alone_on v) cs) (all_kept (GoodAtom (extend s v w)) (alone_on v) cs good))

        compared : meets (triples_of s v cs) p r ≡ all (λ a. atom_holds a (bound (environment_of s p) v r)) (filter (compares_with_other v) cs)
        compared = all_test_map (meets_triple p r) (triple_of s v) (filter (compares_with_other v) cs) ∙ all_cong (λ a. meets_triple p r (triple_of s v a)) (λ a. atom_holds a (bound (environment_of s p) v r)) (filter (compares_with_other v) cs) (all_mono (λ a i. compared_atom s v w new a i.0 i.1 p r) (filter (compares_with_other v) cs) (all_kept (GoodAtom (extend s v w)) (compares_with_other v) cs good))

    -- what S2 to S5 write before their last nodes
    pub restricted_right : (T : ℕ → List Node) (R : Rows) → Makes tables T R → Ascending R → (made : List Rows) (n : ℕ) → length made ≡ n → last_value (after tables made (restricted_range v w cs (T n) n)) ≡ filter (own_atoms_hold v w cs) R
    restricted_right T R hT asc made n e =
        let x : List Node = T n in
        let q : ℕ = n + length x in
        let rows : last_value (after tables made x) ≡ R = (hT made n e).1 in
        let own : All (GoodAtom (entry v w ∷ [])) (filter (alone_on v) cs) = all_mono (λ a i. alone_known s v w new a i.0 i.1) (filter (alone_on v) cs) (all_kept (GoodAtom (extend s v w)) (alone_on v) cs good) in
        ap last_value (after_append tables made x (select_nodes (entry v w ∷ []) (filter (alone_on v) cs) (pred q) q)) ∙ (selects_rule (entry v w ∷ []) (filter (alone_on v) cs) own (after tables made x) q (pred q) (after_grows tables made n e x) (subst Ascending (sym rows) asc) (value_at_last tables made n e x) ∙ ap (filter (own_atoms_hold v w cs)) rows)

    found : (R : Rows) → Wide w R → So (all (λ a. alone_on v a || compares_with_other v a) cs) → (p : Row) → any (meets (triples_of s v cs) p) (filter (own_atoms_hold v w cs) R) ≡ any (all_atoms_hold s v cs p) R
    found R wide h p = any-filter (own_atoms_hold v w cs) (meets (triples_of s v cs) p) R ∙ any_cong (λ r. own_atoms_hold v w cs r && meets (triples_of s v cs) p r) (all_atoms_hold s v cs p) R (all_mono (λ r e. both_tests h p r e) R wide)

    pub short-rule_2 : (T : ℕ → List Node) (R : Rows) → Makes tables T R → Ascending R × Wide w R → So (all (λ a. alone_on v a || compares_with_other v a) cs) → Sound tables s (λ p n. short_rule2_nodes s v w cs (T n) p n) (λ p. any (all_atoms_hold s v cs p) R)
    short-rule_2 T R hT value h made n p e l g =
        let xs : List Node = restricted_range v w cs (T n) n in
        let Z : Rows = filter (own_atoms_hold v w cs) R in
        last_after_end tables made xs (semijoin p (last_number n xs) (triples_of s v cs)) ∙ (ap₂ (semijoined (triples_of s v cs)) (value-kept tables made n e xs p l) (value_at_last tables made n e xs ∙ restricted_right T R hT value.0 made n e) ∙ (canonical-filter (λ q. any (meets (triples_of s v cs) q) Z) (value_at made p) g.0 ∙ filter_same (λ q. any (meets (triples_of s v cs) q) Z) (λ q. any (all_atoms_hold s v cs q) R) (found R value.1 h) (value_at made p)))

    pub short-rule_3 : (T : ℕ → List Node) (R : Rows) → Makes tables T R → Ascending R × Wide w R → So (all (λ a. alone_on v a || compares_with_other v a) cs) → Sound tables s (λ p n. short_rule3_nodes s v w cs (T n) p n) (λ p. not (any (all_atoms_hold s v cs p) R))
    short-rule_3 T R hT value h made n p e l g =
        let xs : List Node = restricted_range v w cs (T n) n in
        let Z : Rows = filter (own_atoms_hold v w cs) R in
        last_after_end tables made xs (antijoin p (last_number n xs) (triples_of s v cs)) ∙ (ap₂ (antijoined (triples_of s v cs)) (value-kept tables made n e xs p l) (value_at_last tables made n e xs ∙ restricted_right T R hT value.0 made n e) ∙ (canonical-filter (λ q. not (any (meets (triples_of s v cs) q) Z)) (value_at made p) g.0 ∙ filter_same (λ q. not (any (meets (triples_of s v cs) q) Z)) (λ q. not (any (all_atoms_hold s v cs q) R)) (λ q. ap not (found R value.1 h q)) (value_at made p)))
