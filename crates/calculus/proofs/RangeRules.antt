-- Rules for what surrounds a condition: S1, a range operation, a chain of bindings, an alpha.
use mathlib.Core.Path.{◌≡◌, refl, sym, ◌∙◌, ap, ap₂, subst}
use mathlib.Core.Bool.{Bool, true, false, ◌&&◌, cond, So, false≢true}
use mathlib.Core.List.{List, [], ◌∷◌, ◌++◌, map, append-nil}
use Prim.Native.Nat.{ℕ, suc, ◌+◌, ◌<◌}
use native.Mathlib.Omega.{arith}
use lib.Dec.{eqb}
use borrow.Author.Tests.{eqb-true}
use lib.ListN.{length, length-append}
use Rattle.relations.specs.Columns.{Attribute, attribute, pick}
use Rattle.relations.specs.Lists.{filter}
use Rattle.relations.specs.Machine.{run}
use Rattle.relations.specs.Nodes.{Node, project, join}
use Rattle.relations.specs.Plan.{value_at, value_of_node}
use Rattle.relations.specs.Rows.{Row}
use Rattle.relations.specs.Values.{Rows, Tables, Ascending, Wide, canonical}
use Rattle.relations.proofs.BoolLaws.{and_left, and_right}
use Rattle.relations.proofs.ValueLaws.{canonical-ascending}
use Rattle.calculus.specs.Scope.{Scope, extend, columns_in, all_columns}
use Rattle.calculus.specs.ShortRules.{last_number, same_attributes, short_rule1_fits, project_nodes}
use Rattle.calculus.proofs.OperationValues.{projected, joined, pick-left}
use Rattle.calculus.proofs.PlainRules.{Makes}
use Rattle.calculus.proofs.PlanValues.{after, last_value, last_number_is, after_append, last_after_one, last_after_end, value_at_last, after_grows, value-kept, value_here}
use Rattle.calculus.proofs.RangeValues.{ValueOver, over-filter, over-join}
use Rattle.calculus.proofs.RuleNodes.{plain_sides, plain_binding, plain_alpha}

pub same_attributes-equal : (bs cs : List Attribute) → So (same_attributes bs cs) → bs ≡ cs
same_attributes-equal [] [] h = refl
same_attributes-equal [] (c ∷ cs) h = absurd (false≢true h)
same_attributes-equal (b ∷ bs) [] h = absurd (false≢true h)
same_attributes-equal (b ∷ bs) (c ∷ cs) h = ap₂ (λ n rest. attribute n ∷ rest) (eqb-true b.number c.number (and_left (eqb b.number c.number) (same_attributes bs cs) h)) (same_attributes-equal bs cs (and_right (eqb b.number c.number) (same_attributes bs cs) h))

-- a project on all columns changes nothing
pub project_all : (w : ℕ) (P : Rows) → Ascending P → Wide w P → projected (all_columns w) P ≡ P
project_all w P a h = ap canonical (same P h) ∙ canonical-ascending P a
  where
    same : (Q : Rows) → Wide w Q → map (pick (all_columns w)) Q ≡ Q
    same [] k = refl
    same (x ∷ Q) k = ap₂ ◌∷◌ (subst (λ l. pick (all_columns w) l ≡ x) (append-nil x) (pick-left w x [] k.0)) (same Q k.1)

module _ (tables : Tables) where
  -- two values and an operation on them
  pub two_rule : (N : ℕ → ℕ → Node) (op : Rows → Rows → Rows) → ((w : List Rows) (i j : ℕ) → value_of_node tables w (N i j) ≡ op (value_at w i) (value_at w j)) → (T U : ℕ → List Node) (A B G : Rows) → op A B ≡ G → Makes tables T A → Makes tables U B
      → Makes tables (plain_sides N T U) G
  two_rule N op st T U A B G q hT hU made n e =
      let x : List Node = T n in
      let y : List Node = U (n + length x) in
      let nd : Node = N (last_number n x) (last_number n (x ++ y)) in
      let pos : 0 < n + length x = omega (arith, (hT made n e).0) in
      let one : value_at (after tables made (x ++ y)) (last_number n x) ≡ A = ap (λ w. value_at w (last_number n x)) (after_append tables made x y) ∙ (value-kept tables (after tables made x) (n + length x) (after_grows tables made n e x) y (last_number n x) (omega (arith, last_number_is n x pos)) ∙ (value_at_last tables made n e x ∙ (hT made n e).1)) in
      let two : value_at (after tables made (x ++ y)) (last_number n (x ++ y)) ≡ B = value_at_last tables made n e (x ++ y) ∙ (ap last_value (after_append tables made x y) ∙ (hU (after tables made x) (n + length x) (after_grows tables made n e x)).1) in
      (omega (arith, length-append (x ++ y) (nd ∷ [])), last_after_end tables made (x ++ y) nd ∙ (st (after tables made (x ++ y)) (last_number n x) (last_number n (x ++ y)) ∙ (ap₂ op one two ∙ q)))

  pub project-nodes-right : (short : Bool) (w q : ℕ) (cs : List Attribute) (made : List Rows) → value_at made q ≡ last_value made → Ascending (last_value made) → Wide w (last_value made) → last_value (after tables made (project_nodes short w q cs)) ≡ projected cs (last_value made)
  unfolding run
  project-nodes-right short w q cs made h a k = go (short && short_rule1_fits w cs) (λ i. and_right short (short_rule1_fits w cs) i)
    where
      go : (b : Bool) → (So b → So (short_rule1_fits w cs)) → last_value (after tables made (cond b [] (project q cs ∷ []))) ≡ projected cs (last_value made)
      go true f = sym (ap (λ c. projected c (last_value made)) (same_attributes-equal cs (all_columns w) (f refl)) ∙ project_all w (last_value made) a k)
      go false f = last_after_one tables made (project q cs) ∙ ap (projected cs) h

  -- U p n, where p is the last node, makes an operation's value of it
  abbrev pub Ends : Scope → (ℕ → ℕ → List Node) → (Rows → Rows) → Type 0
  Ends s U op = (made : List Rows) (n p : ℕ) → length made ≡ n → p < n → value_at made p ≡ last_value made → ValueOver s (value_at made p) → last_value (after tables made (U p n)) ≡ op (value_at made p)

  pub bind-rule : (s : Scope) (v w : ℕ) (T : ℕ → List Node) (R : Rows) (U : ℕ → ℕ → List Node) (op : Rows → Rows) → Makes tables T R → Wide w R → Ends (extend s v w) U op
      → Ends s (plain_binding T U) (λ P. op (joined [] P R))
  bind-rule s v w T R U op hT wide hU made n p e l h g =
      let x : List Node = T n in
      let k : ℕ = n + length x in
      let j : Node = join p (last_number n x) [] in
      let w1 : List Rows = after tables made x in
      let e1 : length w1 ≡ k = after_grows tables made n e x in
      let w2 : List Rows = after tables w1 (j ∷ []) in
      let q : value_at w2 k ≡ joined [] (value_at made p) R = value_here tables w1 k e1 j ∙ ap₂ (joined []) (value-kept tables made n e x p l) (value_at_last tables made n e x ∙ (hT made n e).1) in
      ap last_value (after_append tables made (x ++ (j ∷ [])) (U k (suc k)) ∙ ap (λ u. after tables u (U k (suc k))) (after_append tables made x (j ∷ []))) ∙ (hU w2 (suc k) k (omega (arith, after_grows tables w1 k e1 (j ∷ []))) (omega arith) (value_here tables w1 k e1 j ∙ sym (last_after_one tables w1 j)) (subst (ValueOver (extend s v w)) (sym q) (over-join s v w (value_at made p) R g wide)) ∙ ap op q)

  pub alpha-rule : (short : Bool) (s s' : Scope) (T : ℕ → List Node) (R : Rows) (B W : ℕ → ℕ → List Node) (op : Rows → Rows) (F : Row → Bool) (cs : List Attribute) → Makes tables T R → ValueOver s R → Ends s B op → ValueOver s' (op R) → Ends s' W (filter F)
      → Makes tables (plain_alpha short s' cs T B W) (projected cs (filter F (op R)))
  alpha-rule short s s' T R B W op F cs hT g hB g' hW made n e =
      let x : List Node = T n in
      let y : List Node = B (last_number n x) (n + length x) in
      let xy : List Node = x ++ y in
      let z : List Node = W (last_number n xy) (n + length xy) in
      let xyz : List Node = xy ++ z in
      let pos : 0 < n + length x = omega (arith, (hT made n e).0) in
      let pos2 : 0 < n + length xy = omega (arith, pos, length-append x y) in
      let r1 : value_at (after tables made x) (last_number n x) ≡ R = value_at_last tables made n e x ∙ (hT made n e).1 in
      let r2 : last_value (after tables made xy) ≡ op R = ap last_value (after_append tables made x y) ∙ (hB (after tables made x) (n + length x) (last_number n x) (after_grows tables made n e x) (omega (arith, last_number_is n x pos)) (value_at_last tables made n e x) (subst (ValueOver s) (sym r1) g) ∙ ap op r1) in
      let r2' : value_at (after tables made xy) (last_number n xy) ≡ op R = value_at_last tables made n e xy ∙ r2 in
      let r3 : last_value (after tables made xyz) ≡ filter F (op R) = ap last_value (after_append tables made xy z) ∙ (hW (after tables made xy) (n + length xy) (last_number n xy) (after_grows tables made n e xy) (omega (arith, last_number_is n xy pos2)) (value_at_last tables made n e xy) (subst (ValueOver s') (sym r2') g') ∙ ap (filter F) r2') in
      let g3 : ValueOver s' (last_value (after tables made xyz)) = subst (ValueOver s') (sym r3) (over-filter s' F (op R) g') in
      let pr : List Node = project_nodes short (columns_in s') (last_number n xyz) cs in
      (omega (arith, (hT made n e).0, length-append xyz pr, length-append xy z, length-append x y), ap last_value (after_append tables made xyz pr) ∙ (project-nodes-right short (columns_in s') (last_number n xyz) cs (after tables made xyz) (value_at_last tables made n e xyz) g3.0 g3.1 ∙ ap (projected cs) r3))
