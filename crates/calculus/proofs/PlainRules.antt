-- The plain rules of translation, each as a law about any translations of its parts.
use mathlib.Core.Path.{◌≡◌, sym, ◌∙◌, ap, ap₂, subst}
use mathlib.Core.Bool.{Bool, not, ◌&&◌, ◌||◌}
use mathlib.Core.List.{List, [], ◌∷◌, ◌++◌}
use Prim.Native.Nat.{ℕ, suc, ◌+◌, ◌<◌, pred}
use native.Mathlib.Omega.{arith}
use lib.Dec.{leb}
use lib.ListN.{length, length-append}
use Rattle.relations.specs.Lists.{any, all, filter, how_many}
use Rattle.relations.specs.Nodes.{Node, project, join, unite, subtract, tally}
use Rattle.relations.specs.Operations.{join_candidates}
use Rattle.relations.specs.Plan.{value_at}
use Rattle.relations.specs.Rows.{Row}
use Rattle.relations.specs.Values.{Rows, Tables, Wide, Ascending}
use Rattle.relations.proofs.ListLaws.{filter_and, filter_same, all_not_any}
use Rattle.relations.proofs.ValueLaws.{ascending-canonical}
use Rattle.calculus.specs.Scope.{Scope, extend, columns_in, all_columns}
use Rattle.calculus.specs.ShortRules.{last_number}
use Rattle.calculus.proofs.OperationValues.{projected, joined, united, subtracted, united_filter, subtracted_filter, projected_join, tallied, tallied_join}
use Rattle.calculus.proofs.PlanValues.{after, last_value, last_number_is, after_append, after_cons, last_after_one, last_after_end, value_at_last, after_grows, value-kept, value_here}
use Rattle.calculus.proofs.RangeValues.{ValueOver, over-filter, over-join}
use Rattle.calculus.proofs.RuleNodes.{plain_and, plain_or, plain_not, plain_product, plain_some, plain_every, plain_at_least}

module _ (tables : Tables) where
  -- T p n, written after n nodes, makes the rows of node p that meet F
  abbrev pub Sound : Scope → (ℕ → ℕ → List Node) → (Row → Bool) → Type 0
  Sound s T F = (made : List Rows) (n p : ℕ) → length made ≡ n → p < n → ValueOver s (value_at made p) → last_value (after tables made (T p n)) ≡ filter F (value_at made p)

  -- T n, written after n nodes, makes G
  abbrev pub Makes : (ℕ → List Node) → Rows → Type 0
  Makes T G = (made : List Rows) (n : ℕ) → length made ≡ n → (0 < length (T n)) × (last_value (after tables made (T n)) ≡ G)

  pub and_rule : (s : Scope) (T U : ℕ → ℕ → List Node) (F G : Row → Bool) → Sound s T F → Sound s U G → Sound s (plain_and T U) (λ r. F r && G r)
  and_rule s T U F G hT hU made n p e l g =
      let x : List Node = T p n in
      let one : value_at (after tables made x) (last_number n x) ≡ filter F (value_at made p) = value_at_last tables made n e x ∙ hT made n p e l g in
      ap last_value (after_append tables made x (U (last_number n x) (n + length x))) ∙ (hU (after tables made x) (n + length x) (last_number n x) (after_grows tables made n e x) (omega (arith, last_number_is n x (omega arith))) (subst (ValueOver s) (sym one) (over-filter s F (value_at made p) g)) ∙ (ap (filter G) one ∙ filter_and F G (value_at made p)))

  pub or_rule : (s : Scope) (T U : ℕ → ℕ → List Node) (F G : Row → Bool) → Sound s T F → Sound s U G → Sound s (plain_or T U) (λ r. F r || G r)
  or_rule s T U F G hT hU made n p e l g =
      let x : List Node = T p n in
      let y : List Node = U p (n + length x) in
      let same : value_at (after tables made x) p ≡ value_at made p = value-kept tables made n e x p l in
      let one : value_at (after tables made (x ++ y)) (last_number n x) ≡ filter F (value_at made p) = ap (λ w. value_at w (last_number n x)) (after_append tables made x y) ∙ (value-kept tables (after tables made x) (n + length x) (after_grows tables made n e x) y (last_number n x) (omega (arith, last_number_is n x (omega arith))) ∙ (value_at_last tables made n e x ∙ hT made n p e l g)) in
      let two : value_at (after tables made (x ++ y)) (last_number n (x ++ y)) ≡ filter G (value_at made p) = value_at_last tables made n e (x ++ y) ∙ (ap last_value (after_append tables made x y) ∙ (hU (after tables made x) (n + length x) p (after_grows tables made n e x) (omega arith) (subst (ValueOver s) (sym same) g) ∙ ap (filter G) same)) in
      last_after_end tables made (x ++ y) (unite (last_number n x) (last_number n (x ++ y))) ∙ (ap₂ united one two ∙ united_filter F G (value_at made p) g.0)

  pub not_rule : (s : Scope) (T : ℕ → ℕ → List Node) (F : Row → Bool) → Sound s T F → Sound s (plain_not T) (λ r. not (F r))
  not_rule s T F hT made n p e l g =
      let x : List Node = T p n in
      last_after_end tables made x (subtract p (last_number n x)) ∙ (ap₂ subtracted (value-kept tables made n e x p l) (value_at_last tables made n e x ∙ hT made n p e l g) ∙ subtracted_filter F (value_at made p) g.0)

  -- the product with a range, and a translation on it
  pub product : (s : Scope) (v w : ℕ) (T : ℕ → List Node) (R : Rows) (U : ℕ → ℕ → List Node) (F : Row → Bool) → Makes T R → Wide w R → Sound (extend s v w) U F
      → (made : List Rows) (n p : ℕ) → length made ≡ n → p < n → ValueOver s (value_at made p)
      → (last_value (after tables made (plain_product T U p n)) ≡ filter F (joined [] (value_at made p) R))
      × (value_at (after tables made (plain_product T U p n)) (n + length (T n)) ≡ joined [] (value_at made p) R)
  product s v w T R U F hT wide hU made n p e l g =
      let x : List Node = T n in
      let k : ℕ = n + length x in
      let j : Node = join p (pred k) [] in
      let z : List Node = U k (suc k) in
      let w1 : List Rows = after tables made x in
      let e1 : length w1 ≡ k = after_grows tables made n e x in
      let w2 : List Rows = after tables w1 (j ∷ []) in
      let e2 : length w2 ≡ suc k = omega (arith, after_grows tables w1 k e1 (j ∷ [])) in
      let all1 : after tables made (x ++ (j ∷ z)) ≡ after tables w2 z = after_append tables made x (j ∷ z) ∙ after_cons tables w1 j z in
      let left : value_at w1 p ≡ value_at made p = value-kept tables made n e x p l in
      let right : value_at w1 (pred k) ≡ R = value_at_last tables made n e x ∙ (hT made n e).1 in
      let q : value_at w2 k ≡ joined [] (value_at made p) R = value_here tables w1 k e1 j ∙ ap₂ (joined []) left right in
      (ap last_value all1 ∙ (hU w2 (suc k) k e2 (omega arith) (subst (ValueOver (extend s v w)) (sym q) (over-join s v w (value_at made p) R g wide)) ∙ ap (filter F) q), ap (λ u. value_at u k) all1 ∙ (value-kept tables w2 (suc k) e2 z k (omega arith) ∙ q))

  pub some-rule : (s : Scope) (v w : ℕ) (T : ℕ → List Node) (R : Rows) (U : ℕ → ℕ → List Node) (F : Row → Bool) → Makes T R → Wide w R → Sound (extend s v w) U F
      → Sound s (plain_some s T U) (λ p. any (λ r. F (p ++ r)) R)
  some-rule s v w T R U F hT wide hU made n p e l g =
      let x : List Node = T n in
      let k : ℕ = n + length x in
      let z : List Node = U k (suc k) in
      let xs : List Node = x ++ (join p (pred k) [] ∷ z) in
      let tops : last_number (suc k) z ≡ last_number n xs = omega (arith, length-append x (join p (pred k) [] ∷ z), last_number_is n xs (omega (arith, length-append x (join p (pred k) [] ∷ z))), last_number_is (suc k) z (omega arith)) in
      last_after_end tables made xs (project (last_number (suc k) z) (all_columns (columns_in s))) ∙ (ap (λ i. projected (all_columns (columns_in s)) (value_at (after tables made xs) i)) tops ∙ (ap (projected (all_columns (columns_in s))) (value_at_last tables made n e xs ∙ (product s v w T R U F hT wide hU made n p e l g).0) ∙ projected_join (columns_in s) F (value_at made p) R g.0 g.1))

  pub every_rule : (s : Scope) (v w : ℕ) (T : ℕ → List Node) (R : Rows) (U : ℕ → ℕ → List Node) (F : Row → Bool) → Makes T R → Wide w R → Sound (extend s v w) U F
      → Sound s (plain_every s T U) (λ p. all (λ r. F (p ++ r)) R)
  every_rule s v w T R U F hT wide hU made n p e l g =
      let x : List Node = T n in
      let k : ℕ = n + length x in
      let z : List Node = U k (suc k) in
      let xs : List Node = x ++ (join p (pred k) [] ∷ z) in
      let t : ℕ = last_number (suc k) z in
      let tops : t ≡ last_number n xs = omega (arith, length-append x (join p (pred k) [] ∷ z), last_number_is n xs (omega (arith, length-append x (join p (pred k) [] ∷ z))), last_number_is (suc k) z (omega arith)) in
      let a : Node = subtract k t in
      let b : Node = project (suc t) (all_columns (columns_in s)) in
      let c : Node = subtract p (suc (suc t)) in
      let P : Rows = value_at made p in
      let Q : Rows = joined [] P R in
      let w3 : List Rows = after tables made xs in
      let e3 : length w3 ≡ suc t = omega (arith, after_grows tables made n e xs, length-append x (join p (pred k) [] ∷ z), last_number_is (suc k) z (omega arith)) in
      let w4 : List Rows = after tables w3 (a ∷ []) in
      let e4 : length w4 ≡ suc (suc t) = omega (arith, after_grows tables w3 (suc t) e3 (a ∷ [])) in
      let w5 : List Rows = after tables w4 (b ∷ []) in
      let e5 : length w5 ≡ suc (suc (suc t)) = omega (arith, after_grows tables w4 (suc (suc t)) e4 (b ∷ [])) in
      let got : value_at w3 t ≡ filter F Q = ap (value_at w3) tops ∙ (value_at_last tables made n e xs ∙ (product s v w T R U F hT wide hU made n p e l g).0) in
      let ha : value_at w4 (suc t) ≡ filter (λ r. not (F r)) Q = value_here tables w3 (suc t) e3 a ∙ (ap₂ subtracted (product s v w T R U F hT wide hU made n p e l g).1 got ∙ subtracted_filter F Q (ascending-canonical (join_candidates [] P R))) in
      let hb : value_at w5 (suc (suc t)) ≡ filter (λ q. any (λ r. not (F (q ++ r))) R) P = value_here tables w4 (suc (suc t)) e4 b ∙ (ap (projected (all_columns (columns_in s))) ha ∙ projected_join (columns_in s) (λ r. not (F r)) P R g.0 g.1) in
      let pt : p < suc t = omega (arith, last_number_is (suc k) z (omega arith)) in
      let pp : value_at w5 p ≡ P = value-kept tables w4 (suc (suc t)) e4 (b ∷ []) p (omega arith) ∙ (value-kept tables w3 (suc t) e3 (a ∷ []) p (omega arith) ∙ value-kept tables made n e xs p l) in
      ap last_value (after_append tables made xs (a ∷ b ∷ c ∷ []) ∙ (after_cons tables w3 a (b ∷ c ∷ []) ∙ after_cons tables w4 b (c ∷ []))) ∙ (last_after_one tables w5 c ∙ (ap₂ subtracted pp hb ∙ (subtracted_filter (λ q. any (λ r. not (F (q ++ r))) R) P g.0 ∙ filter_same (λ q. not (any (λ r. not (F (q ++ r))) R)) (λ q. all (λ r. F (q ++ r)) R) (λ q. all_not_any (λ r. F (q ++ r)) R) P)))

  pub at_least-rule : (least : ℕ) (s : Scope) (v w : ℕ) (T : ℕ → List Node) (R : Rows) (U : ℕ → ℕ → List Node) (F : Row → Bool) → Makes T R → Ascending R → Wide w R → Sound (extend s v w) U F
      → Sound s (plain_at_least least T U) (λ p. leb least (how_many (λ r. F (p ++ r)) R))
  at_least-rule least s v w T R U F hT ascending wide hU made n p e l g =
      let x : List Node = T n in
      let k : ℕ = n + length x in
      let z : List Node = U k (suc k) in
      let xs : List Node = x ++ (join p (pred k) [] ∷ z) in
      let tops : last_number (suc k) z ≡ last_number n xs = omega (arith, length-append x (join p (pred k) [] ∷ z), last_number_is n xs (omega (arith, length-append x (join p (pred k) [] ∷ z))), last_number_is (suc k) z (omega arith)) in
      let right : value_at (after tables made xs) (last_number (suc k) z) ≡ filter F (joined [] (value_at made p) R) = ap (value_at (after tables made xs)) tops ∙ (value_at_last tables made n e xs ∙ (product s v w T R U F hT wide hU made n p e l g).0) in
      last_after_end tables made xs (tally p (last_number (suc k) z) least) ∙ (ap₂ (tallied least) (value-kept tables made n e xs p l) right ∙ tallied_join least (columns_in s) F (value_at made p) R g.0 g.1 ascending)
