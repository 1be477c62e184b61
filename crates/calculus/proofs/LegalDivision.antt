-- S5 writes legal nodes: its pairs name columns of both sides, the left ones distinct, and a column remains.
use mathlib.Core.Path.{◌≡◌, refl, sym, ◌∙◌, ap, ap₂, subst}
use mathlib.Core.Bool.{true, So}
use mathlib.Core.List.{List, [], ◌∷◌, ◌++◌, map}
use Prim.Native.Nat.{ℕ, suc, ◌+◌, ◌≤◌, ◌<◌, pred}
use native.Mathlib.Omega.{arith}
use lib.ListN.{length, length-append, length-map, get_or-append}
use lib.Seq.{get_or_at}
use Rattle.relations.specs.Columns.{Attribute, Triple, Pair}
use Rattle.relations.specs.Legality.{between}
use Rattle.relations.specs.Limits.{triple_limit, pair_limit}
use Rattle.relations.specs.Lists.{filter, All}
use Rattle.relations.specs.Machine.{run}
use Rattle.relations.specs.Nodes.{Node, semijoin, antijoin, divide, unite}
use Rattle.relations.specs.Plan.{width_at, width_of_node}
use Rattle.relations.proofs.LegalityLaws.{Between, Inside, TripleInside, PairInside, LegalFacts, so_between}
use Rattle.relations.proofs.ListLaws.{all_mono, all_append, all_kept, all_map}
use Rattle.calculus.specs.Form.{NotInScope, GoodAtom}
use Rattle.calculus.specs.Leaves.{equates_with, equates_outside, own_attribute, other_variable, other_attribute}
use Rattle.calculus.specs.Question.{Atom}
use Rattle.calculus.specs.Scope.{Scope, extend, columns_in, column_of}
use Rattle.calculus.specs.ShortRules.{last_number, project_nodes, restricted_range, outside_triples, division_pairs, short_rule5_columns, short_rule5_nodes}
use Rattle.calculus.proofs.DivisionRule.{last_differs}
use Rattle.calculus.proofs.LegalPairs.{pairs-length, triples_length, triples_inside, link_inside, outside_inside, pair_right-inside, pairs-inside, pairs-distinct}
use Rattle.calculus.proofs.LegalPlans.{widths_after, Legal, widths-append, widths_grow, width-kept_at, legal_then, RangeFits, DivisionFits, one_then_other}
use Rattle.calculus.proofs.LegalShort.{projects_fits, restricted_fits}
use Rattle.calculus.proofs.PlanValues.{last_number_is}

module _ (columns : ℕ → ℕ) (relations : ℕ) where
  pub division_fits : (s : Scope) (y k z w : ℕ) → NotInScope y s → NotInScope z (extend s y k) → (T : ℕ → List Node) → RangeFits columns relations T w → (cs : List Atom) → All (GoodAtom (extend (extend s y k) z w)) cs → So (between 1 pair_limit (length (filter (equates_with z y) cs))) → So (between 1 triple_limit (length (filter (equates_outside z y) cs))) → DivisionFits columns relations s k (λ j p n. short_rule5_nodes s y j z w cs (T n) p n)
  unfolding run Legal
  division_fits s y k z w new-y new-z T hT cs ok many-links many-outsides made n p j e l lj hp hj =
      let t : Scope = extend s y k in
      let outsides : List Atom = filter (equates_outside z y) cs in
      let links : List Atom = filter (equates_with z y) cs in
      let few_outsides : Between 1 triple_limit (length outsides) = so_between 1 triple_limit (length outsides) many-outsides in
      let few-links : Between 1 pair_limit (length links) = so_between 1 pair_limit (length links) many-links in
      let ol : 1 ≤ length outsides = few_outsides.0 in
      let oh : length outsides ≤ triple_limit = few_outsides.1 in
      let ll : 1 ≤ length links = few-links.0 in
      let lh : length links ≤ pair_limit = few-links.1 in
      let attributes : List Attribute = short_rule5_columns z y cs in
      let cl : length attributes ≡ length outsides + length links = omega (arith, length-append (map (own_attribute z) outsides) (map (own_attribute z) links), length-map outsides (own_attribute z), length-map links (own_attribute z)) in
      let oi : All (λ a. Inside w (own_attribute z a) × Inside (columns_in s) (column_of s (other_variable z a) (other_attribute z a))) outsides = all_mono (λ a i. outside_inside s y k z w new-z a i.0 i.1) outsides (all_kept (GoodAtom (extend t z w)) (equates_outside z y) cs ok) in
      let li : All (λ a. Inside w (own_attribute z a)) links = all_mono (λ a i. link_inside t z y w new-z a i.0 i.1) links (all_kept (GoodAtom (extend t z w)) (equates_with z y) cs ok) in
      let columns_in_lem : All (Inside w) attributes = all_append (Inside w) (map (own_attribute z) outsides) (map (own_attribute z) links) (all_map (Inside w) (own_attribute z) outsides (all_mono (λ a i. i.0) outsides oi)) (all_map (Inside w) (own_attribute z) links li) in
      let xs : List Node = restricted_range z w cs (T n) n in
      let pr : List Node = project_nodes true w (last_number n xs) attributes in
      let ys : List Node = xs ++ pr in
      let ps : List Pair = division_pairs z links (suc (length outsides)) in
      let ts : List Triple = outside_triples s z outsides 1 in
      let f : (0 < length xs) × Legal columns relations made xs × (width_at (widths_after columns made xs) (last_number n xs) ≡ w) = restricted_fits columns relations t z w new-z T hT cs ok made n e in
      let pos : 0 < n + length xs = omega arith in
      let g : Legal columns relations (widths_after columns made xs) pr × (width_at (widths_after columns (widths_after columns made xs) pr) (last_number (n + length xs) pr) ≡ length attributes) = projects_fits columns relations true w attributes (omega arith) (omega arith) columns_in_lem (widths_after columns made xs) (n + length xs) (last_number n xs) (widths_grow columns relations made n e xs) (omega (arith, last_number_is n xs pos)) refl f.2 in
      let h : Legal columns relations made ys × (width_at (widths_after columns made ys) (last_number n xs) ≡ w) × (width_at (widths_after columns made ys) (last_number n ys) ≡ length attributes) = one_then_other columns relations made n e xs pr w (length attributes) pos f.1 f.2 g.0 g.1 in
      let q : ℕ = n + length ys in
      let a : Node = divide (pred q) j ps in
      let b : Node = semijoin p q ts in
      let c : Node = antijoin p j [] in
      let d : Node = unite (suc q) (suc (suc q)) in
      let w1 : List ℕ = widths_after columns made ys in
      let e1 : length w1 ≡ q = widths_grow columns relations made n e ys in
      let w2 : List ℕ = w1 ++ (width_of_node columns w1 a ∷ []) in
      let e2 : length w2 ≡ suc q = omega (arith, length-append w1 (width_of_node columns w1 a ∷ [])) in
      let w3 : List ℕ = w2 ++ (width_at w2 p ∷ []) in
      let e3 : length w3 ≡ suc (suc q) = omega (arith, length-append w2 (width_at w2 p ∷ [])) in
      let w4 : List ℕ = w3 ++ (width_at w3 p ∷ []) in
      let e4 : length w4 ≡ suc (suc (suc q)) = omega (arith, length-append w3 (width_at w3 p ∷ [])) in
      let pl : length ps ≡ length links = pairs-length z links (suc (length outsides)) in
      let tl : length ts ≡ length outsides = triples_length s z outsides 1 in
      let v1 : width_at w1 (pred q) ≡ length outsides + length links = h.2 ∙ cl in
      let v2 : width_at w2 q ≡ length outsides = get_or_at w1 (width_of_node columns w1 a) [] 0 q e1 ∙ omega (arith, v1, pl) in
      let p1 : width_at w1 p ≡ columns_in s = width-kept_at columns relations made n e ys p l ∙ hp in
      let p2 : width_at w2 p ≡ columns_in s = get_or-append w1 (width_of_node columns w1 a ∷ []) 0 p (omega arith) ∙ p1 in
      let p3 : width_at w3 p ≡ columns_in s = get_or-append w2 (width_at w2 p ∷ []) 0 p (omega arith) ∙ p2 in
      let s3 : width_at w3 (suc q) ≡ columns_in s = get_or_at w2 (width_at w2 p) [] 0 (suc q) e2 ∙ p2 in
      let s4 : width_at w4 (suc q) ≡ columns_in s = get_or-append w3 (width_at w3 p ∷ []) 0 (suc q) (omega arith) ∙ s3 in
      let t4 : width_at w4 (suc (suc q)) ≡ columns_in s = get_or_at w3 (width_at w3 p) [] 0 (suc (suc q)) e3 ∙ p3 in
      let y1 : width_at w1 j ≡ k = width-kept_at columns relations made n e ys j lj ∙ hj in
      let rights : All (λ a. Inside k (other_attribute z a)) links = all_mono (λ a i. pair_right-inside s y k z w new-y (last_differs s z y k new-z) a i.0 i.1) links (all_kept (GoodAtom (extend t z w)) (equates_with z y) cs ok) in
      let pi : All (PairInside (length outsides + length links) k) ps = pairs-inside z (length outsides + length links) k links (suc (length outsides)) (omega arith) (omega arith) rights in
      let la : LegalFacts relations w1 a = (omega arith, omega arith, (omega arith, omega arith), subst (λ i. All (PairInside i (width_at w1 j)) ps) (sym v1) (subst (λ i. All (PairInside (length outsides + length links) i) ps) (sym y1) pi), pairs-distinct z links (suc (length outsides)), omega (arith, v1, pl)) in
      let lb : LegalFacts relations w2 b = (omega arith, omega arith, omega arith, subst (λ i. All (TripleInside i (width_at w2 q)) ts) (sym p2) (subst (λ i. All (TripleInside (columns_in s) i) ts) (sym v2) (triples_inside s z (length outsides) outsides 1 (omega arith) (omega arith) (all_mono (λ a i. i.1) outsides oi)))) in
      let lc : LegalFacts relations w3 c = (omega arith, omega arith, omega arith, tt) in
      let ld : LegalFacts relations w4 d = (omega arith, omega arith, s4 ∙ sym t4) in
      let lens : n + length (ys ++ (a ∷ b ∷ c ∷ d ∷ [])) ≡ suc (suc (suc (suc q))) = omega (arith, length-append ys (a ∷ b ∷ c ∷ d ∷ [])) in
      let same : last_number n (ys ++ (a ∷ b ∷ c ∷ d ∷ [])) ≡ suc (suc (suc q)) = ap pred lens ∙ pred_suc (suc (suc (suc q))) in
      (legal_then columns relations made ys (a ∷ b ∷ c ∷ d ∷ []) h.0 (la, (lb, (lc, (ld, tt)))), ap₂ width_at (widths-append columns relations made ys (a ∷ b ∷ c ∷ d ∷ [])) same ∙ (get_or_at w4 (width_at w4 (suc q)) [] 0 (suc (suc (suc q))) e4 ∙ s4))
    where
      pred_suc : (i : ℕ) → pred (suc i) ≡ i
      pred_suc i = omega arith
