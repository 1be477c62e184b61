-- S5 as a law about any translations of the ranges of y and z.
use mathlib.Core.Path.{◌≡◌, refl, sym, ◌∙◌, ap, ap₂, subst}
use mathlib.Core.Bool.{Bool, true, false, not, ◌&&◌, ◌||◌, So}
use mathlib.Core.List.{List, [], ◌∷◌, ◌++◌}
use Prim.Native.Nat.{ℕ, suc, ◌+◌, ◌<◌, pred}
use native.Mathlib.Omega.{arith}
use lib.Dec.{eqb}
use lib.ListN.{length}
use Rattle.relations.specs.Columns.{Attribute, Triple, Pair, meets}
use Rattle.relations.specs.Lists.{any, all, filter, All}
use Rattle.relations.specs.Nodes.{Node, semijoin, antijoin, divide, unite}
use Rattle.relations.specs.Plan.{value_at}
use Rattle.relations.specs.Rows.{Row, same_row}
use Rattle.relations.specs.Values.{Rows, Tables, Ascending, Wide}
use Rattle.relations.proofs.ComparisonLaws.{eqb_symmetric}
use Rattle.relations.proofs.ListLaws.{all_mono, all_every, any_cong, any-filter, filter_same, all_cong, all_kept}
use Rattle.relations.proofs.ValueLaws.{ascending-filter, canonical-filter}
use Rattle.relations.proofs.WidthLaws.{wide-filter}
use Rattle.calculus.specs.Form.{NotInScope, GoodAtom}
use Rattle.calculus.specs.Leaves.{alone_on, equates_with, equates_outside}
use Rattle.calculus.specs.Meaning.{nothing_bound, bound, atom_holds}
use Rattle.calculus.specs.Question.{Atom}
use Rattle.calculus.specs.Scope.{entry, Scope, extend, environment_of}
use Rattle.calculus.specs.ShortRules.{last_number, project_nodes, restricted_range, outside_triples, short_rule5_nodes}
use Rattle.calculus.proofs.AtomLaws.{alone_atom}
use Rattle.calculus.proofs.AtomRules.{own_atoms_hold, restricted_right}
use Rattle.calculus.proofs.DivisionValue.{outside_columns, link_columns, outside_key, wanted_links, picked, pairs, rule_5_atoms, rule_5_value}
use Rattle.calculus.proofs.OperationValues.{projected, semijoined, antijoined, divided, united, united_filter}
use Rattle.calculus.proofs.PlainRules.{Sound, Makes}
use Rattle.calculus.proofs.PlanValues.{after, last_value, after_append, after_cons, last_after_one, value_at_last, after_grows, value-kept, value_here}
use Rattle.calculus.proofs.RangeRules.{project-nodes-right}
use Rattle.calculus.proofs.RangeValues.{ValueOver}
use Rattle.calculus.proofs.RuleNodes.{after_range}
use Rattle.calculus.proofs.ScopeLaws.{environment_extend}

module _ (tables : Tables) where
  -- O j p n, where node j holds y's range, makes the rows of node p for which every row of y's range meets G
  abbrev pub SoundOver : Scope → ℕ → (ℕ → ℕ → ℕ → List Node) → (Row → Row → Bool) → Type 0
  SoundOver s w O G = (made : List Rows) (n p j : ℕ) → length made ≡ n → p < n → j < n → ValueOver s (value_at made p) → Ascending (value_at made j) × Wide w (value_at made j) → last_value (after tables made (O j p n)) ≡ filter (λ r. all (G r) (value_at made j)) (value_at made p)

  pub over-rule : (s : Scope) (w : ℕ) (T : ℕ → List Node) (R : Rows) (O : ℕ → ℕ → ℕ → List Node) (G : Row → Row → Bool) → Makes tables T R → Ascending R × Wide w R → SoundOver s w O G → Sound tables s (after_range T O) (λ r. all (G r) R)
  over-rule s w T R O G hT wide hO made n p e l g =
      let x : List Node = T n in
      let k : ℕ = n + length x in
      let r1 : value_at (after tables made x) (pred k) ≡ R = value_at_last tables made n e x ∙ (hT made n e).1 in
      let kept : value_at (after tables made x) p ≡ value_at made p = value-kept tables made n e x p l in
      ap last_value (after_append tables made x (O (pred k) p k)) ∙ (hO (after tables made x) k p (pred k) (after_grows tables made n e x) (omega arith) (omega arith) (subst (ValueOver s) (sym kept) g) (subst (λ u. Ascending u × Wide w u) (sym r1) wide) ∙ ap₂ (λ u t. filter (λ r. all (G r) u) t) r1 kept)

-- the last variable of a scope is not the next one
pub last_differs : (s : Scope) (z y k : ℕ) → NotInScope z (extend s y k) → eqb y z ≡ false
last_differs s z y k new = eqb_symmetric y z ∙ go s new
  where
    go : (t : Scope) → NotInScope z (extend t y k) → eqb z y ≡ false
    go [] f = f.0
    go (entry x u ∷ t) f = go t f.1

module _ (tables : Tables) (s : Scope) (y k z w : ℕ) (new : NotInScope z (extend s y k)) (cs : List Atom) (good : All (GoodAtom (extend (extend s y k) z w)) cs) (kinds : So (all (λ a. alone_on z a || (equates_with z y a || equates_outside z y a)) cs)) where
  abbrev apart : eqb y z ≡ false
  apart = last_differs s z y k new

  -- a row of z's range agrees with P's row r and with y's row t
  abbrev agrees : Row → Row → Row → Bool
  agrees r t q = same_row (outside_columns s y k z w apart cs q) (outside_key s y k z w apart cs r) && same_row (link_columns s y k z w apart cs q) (wanted_links s y k z w apart cs t)

  -- all atoms, for P's row r, y's row t and z's row q
  abbrev pub both_hold : Row → Row → Row → Bool
  both_hold r t q = all (λ a. atom_holds a (bound (bound (environment_of s r) y t) z q)) cs

  agrees_is : (R : Rows) → Wide w R → (r t : Row) → any (agrees r t) (filter (own_atoms_hold tables z w cs) R) ≡ any (both_hold r t) R
  agrees_is R wide r t = any-filter (own_atoms_hold tables z w cs) (agrees r t) R ∙ any_cong (λ q. own_atoms_hold tables z w cs q && agrees r t q) (both_hold r t) R (all_mono (λ q i. ap (λ b. b && agrees r t q) (alone q i) ∙ sym (rule_5_atoms s y k z w apart cs kinds good r t q)) R wide)
    where
      alone : (q : Row) → length q ≡ w → own_atoms_hold tables z w cs q ≡ all (λ a. atom_holds a (bound (bound (environment_of s r) y t) z q)) (filter (alone_on z) cs)
      alone q i = all_cong (λ a. atom_holds a (environment_of (entry z w ∷ []) q)) (λ a. atom_holds a (bound (bound (environment_of s r) y t) z q)) (filter (alone_on z) cs) (all_mono (λ a g. ap (atom_holds a) (environment_extend [] z w tt [] q refl i) ∙ alone_atom z a nothing_bound (bound (environment_of s r) y t) q g.0) (filter (alone_on z) cs) (all_kept (GoodAtom (extend (extend s y k) z w)) (alone_on z) cs good))

  pub short-rule_5 : (T : ℕ → List Node) (R : Rows) → Makes tables T R → Ascending R × Wide w R → SoundOver tables s k (λ j p n. short_rule5_nodes s y j z w cs (T n) p n) (λ r t. any (both_hold r t) R)
  short-rule_5 T R hT value made n p j e l lj g hj =
      let P : Rows = value_at made p in
      let Y : Rows = value_at made j in
      let Z : Rows = filter (own_atoms_hold tables z w cs) R in
      let attributes : List Attribute = picked s y k z w apart cs in
      let ps : List Pair = pairs s y k z w apart cs in
      let ts : List Triple = outside_triples s z (filter (equates_outside z y) cs) 1 in
      let xs : List Node = restricted_range z w cs (T n) n in
      let rx : last_value (after tables made xs) ≡ Z = restricted_right tables (extend s y k) z w new cs good T R hT value.0 made n e in
      let pr : List Node = project_nodes true w (last_number n xs) attributes in
      let ys : List Node = xs ++ pr in
      let gz : Ascending Z × Wide w Z = (ascending-filter (own_atoms_hold tables z w cs) R value.0, wide-filter w (own_atoms_hold tables z w cs) R value.1) in
      let gx : Ascending (last_value (after tables made xs)) × Wide w (last_value (after tables made xs)) = subst (λ u. Ascending u × Wide w u) (sym rx) gz in
      let ry : last_value (after tables made ys) ≡ projected attributes Z = ap last_value (after_append tables made xs pr) ∙ (project-nodes-right tables true w (last_number n xs) attributes (after tables made xs) (value_at_last tables made n e xs) gx.0 gx.1 ∙ ap (projected attributes) rx) in
      let q : ℕ = n + length ys in
      let a : Node = divide (pred q) j ps in
      let b : Node = semijoin p q ts in
      let c : Node = antijoin p j [] in
      let d : Node = unite (suc q) (suc (suc q)) in
      let w1 : List Rows = after tables made ys in
      let e1 : length w1 ≡ q = after_grows tables made n e ys in
      let w2 : List Rows = after tables w1 (a ∷ []) in
      let e2 : length w2 ≡ suc q = omega (arith, after_grows tables w1 q e1 (a ∷ [])) in
      let w3 : List Rows = after tables w2 (b ∷ []) in
      let e3 : length w3 ≡ suc (suc q) = omega (arith, after_grows tables w2 (suc q) e2 (b ∷ [])) in
      let w4 : List Rows = after tables w3 (c ∷ []) in
      let p1 : value_at w1 p ≡ P = value-kept tables made n e ys p l in
      let p2 : value_at w2 p ≡ P = value-kept tables w1 q e1 (a ∷ []) p (omega arith) ∙ p1 in
      let p3 : value_at w3 p ≡ P = value-kept tables w2 (suc q) e2 (b ∷ []) p (omega arith) ∙ p2 in
      let j1 : value_at w1 j ≡ Y = value-kept tables made n e ys j lj in
      let j3 : value_at w3 j ≡ Y = value-kept tables w2 (suc q) e2 (b ∷ []) j (omega arith) ∙ (value-kept tables w1 q e1 (a ∷ []) j (omega arith) ∙ j1) in
      let D : Rows = divided ps (projected attributes Z) Y in
      let ha : value_at w2 q ≡ D = value_here tables w1 q e1 a ∙ ap₂ (divided ps) (value_at_last tables made n e ys ∙ ry) j1 in
      let hb : value_at w3 (suc q) ≡ filter (λ r. any (meets ts r) D) P = value_here tables w2 (suc q) e2 b ∙ (ap₂ (semijoined ts) p2 ha ∙ canonical-filter (λ r. any (meets ts r) D) P g.0) in
      let hc : value_at w4 (suc (suc q)) ≡ filter (λ r. not (any (meets [] r) Y)) P = value_here tables w3 (suc (suc q)) e3 c ∙ (ap₂ (antijoined []) p3 j3 ∙ canonical-filter (λ r. not (any (meets [] r) Y)) P g.0) in
      let hb4 : value_at w4 (suc q) ≡ filter (λ r. any (meets ts r) D) P = value-kept tables w3 (suc (suc q)) e3 (c ∷ []) (suc q) (omega arith) ∙ hb in
      let same : (r : Row) → (any (meets ts r) D || not (any (meets [] r) Y)) ≡ all (λ t. any (both_hold r t) R) Y = λ r. rule_5_value s y k z w apart cs Z Y r ∙ all_cong (λ t. any (agrees r t) Z) (λ t. any (both_hold r t) R) Y (all_every (agrees_is R value.1 r) Y) in
      ap last_value (after_append tables made ys (a ∷ b ∷ c ∷ d ∷ []) ∙ (after_cons tables w1 a (b ∷ c ∷ d ∷ []) ∙ (after_cons tables w2 b (c ∷ d ∷ []) ∙ after_cons tables w3 c (d ∷ [])))) ∙ (last_after_one tables w4 d ∙ (ap₂ united hb4 hc ∙ (united_filter (λ r. any (meets ts r) D) (λ r. not (any (meets [] r) Y)) P g.0 ∙ filter_same (λ r. any (meets ts r) D || not (any (meets [] r) Y)) (λ r. all (λ t. any (both_hold r t) R) Y) same P)))
