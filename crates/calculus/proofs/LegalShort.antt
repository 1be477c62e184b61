-- Selects, S1 to S4 and alphas write legal nodes.
use mathlib.Core.Path.{◌≡◌, refl, sym, ◌∙◌, ap, subst}
use mathlib.Core.Bool.{Bool, true, false, ◌&&◌, cond, So}
use mathlib.Core.List.{List, [], ◌∷◌, ◌++◌}
use Prim.Native.Nat.{ℕ, suc, ◌+◌, ◌≤◌, ◌<◌, pred}
use native.Mathlib.Nat.{add-zero}
use native.Mathlib.Omega.{arith}
use lib.ListN.{length, length-append, length-map}
use lib.Seq.{get_or_at}
use Rattle.relations.specs.Columns.{Attribute, Triple}
use Rattle.relations.specs.Limits.{column_limit, triple_limit}
use Rattle.relations.specs.Lists.{filter, All}
use Rattle.relations.specs.Machine.{run}
use Rattle.relations.specs.Nodes.{Node, project, semijoin, antijoin}
use Rattle.relations.specs.Plan.{width_at, width_of_node}
use Rattle.relations.proofs.BoolLaws.{and_right}
use Rattle.relations.proofs.LegalityLaws.{Inside, TripleInside, LegalFacts}
use Rattle.relations.proofs.ListLaws.{all_mono, all_kept, all_map}
use Rattle.calculus.specs.Form.{NotInScope, GoodAtom}
use Rattle.calculus.specs.Leaves.{alone_on, compares_with_other}
use Rattle.calculus.specs.Question.{fixed, of_variable, Atom, compare}
use Rattle.calculus.specs.Scope.{entry, Scope, extend, columns_in, all_columns}
use Rattle.calculus.specs.ShortRules.{last_number, select_node, select_nodes, short_rule1_fits, project_nodes, triple_of, triples_of, restricted_range}
use Rattle.calculus.proofs.AtomLaws.{alone_known}
use Rattle.calculus.proofs.LegalColumns.{column-inside, triple_inside_lem}
use Rattle.calculus.proofs.LegalPlans.{widths_after, Legal, widths_grow, width-kept_at, Fits, RangeFits, LastFits, one_then_other, end_fits, last_below, kept_below}
use Rattle.calculus.proofs.PlanValues.{last_number_is}
use Rattle.calculus.proofs.RangeRules.{same_attributes-equal}
use Rattle.calculus.proofs.RuleNodes.{plain_alpha}
use Rattle.calculus.proofs.ScopeLaws.{columns_length}

module _ (columns : ℕ → ℕ) (relations : ℕ) where
  pub select_legal : (s : Scope) (made : List ℕ) (p : ℕ) → p < length made → width_at made p ≡ columns_in s → (a : Atom) → GoodAtom s a → LegalFacts relations made (select_node s p a) × (width_of_node columns made (select_node s p a) ≡ columns_in s)
  select_legal s made p l h (compare v a o (fixed c)) k = ((l, column-inside s v a (width_at made p) h k), h)
  select_legal s made p l h (compare v a o (of_variable u b)) k = ((l, column-inside s v a (width_at made p) h k.0, column-inside s u b (width_at made p) h k.1), h)

  pub atom-fits : (s : Scope) (a : Atom) → GoodAtom s a → Fits columns relations s (λ p n. select_node s p a ∷ [])
  unfolding run Legal
  atom-fits s a k made n p e l h = end_fits columns relations made n e [] (select_node s p a) (columns_in s) tt (select_legal s made p (omega arith) h a k).0 (select_legal s made p (omega arith) h a k).1

  pub selects_fits : (s : Scope) (cs : List Atom) → All (GoodAtom s) cs → LastFits columns relations s (select_nodes s cs) (columns_in s)
  unfolding run Legal
  selects_fits s [] k made n p e l q h =
      let lens : n + 0 ≡ n = omega arith in
      let same : pred (n + 0) ≡ p = ap pred lens ∙ sym q in
      (tt, ap (width_at made) same ∙ h)
  selects_fits s (a ∷ cs) k made n p e l q h =
      let x : Node = select_node s p a in
      let w1 : List ℕ = made ++ (width_of_node columns made x ∷ []) in
      let e1 : length w1 ≡ suc n = omega (arith, length-append made (width_of_node columns made x ∷ [])) in
      let g : LegalFacts relations made x × (width_of_node columns made x ≡ columns_in s) = select_legal s made p (omega arith) h a k.0 in
      let r : Legal columns relations w1 (select_nodes s cs n (suc n)) × (width_at (widths_after columns w1 (select_nodes s cs n (suc n))) (last_number (suc n) (select_nodes s cs n (suc n))) ≡ columns_in s) = selects_fits s cs k.1 w1 (suc n) n e1 (omega arith) (omega arith) (get_or_at made (width_of_node columns made x) [] 0 n e ∙ g.1) in
      let lens : n + suc (length (select_nodes s cs n (suc n))) ≡ suc n + length (select_nodes s cs n (suc n)) = omega arith in
      ((g.0, r.0), ap (λ i. width_at (widths_after columns w1 (select_nodes s cs n (suc n))) (pred i)) lens ∙ r.1)

  pub projects_fits : (short : Bool) (w : ℕ) (cs : List Attribute) → 1 ≤ length cs → length cs ≤ column_limit → All (Inside w) cs → (made : List ℕ) (n p : ℕ) → length made ≡ n → p < n → p ≡ pred n → width_at made p ≡ w → Legal columns relations made (project_nodes short w p cs) × (width_at (widths_after columns made (project_nodes short w p cs)) (last_number n (project_nodes short w p cs)) ≡ length cs)
  unfolding run Legal
  projects_fits short w cs lo hi attributes_inside_lem made n p e l q h = go (short && short_rule1_fits w cs) (λ i. and_right short (short_rule1_fits w cs) i)
    where
      nothing : n + 0 ≡ n
      nothing = omega arith

      go : (b : Bool) → (So b → So (short_rule1_fits w cs)) → Legal columns relations made (cond b [] (project p cs ∷ [])) × (width_at (widths_after columns made (cond b [] (project p cs ∷ []))) (last_number n (cond b [] (project p cs ∷ []))) ≡ length cs)
      go true f = (tt, ap (λ i. width_at made (pred i)) nothing ∙ (ap (width_at made) (sym q) ∙ (h ∙ (sym (columns_length w 1) ∙ sym (ap length (same_attributes-equal cs (all_columns w) (f refl)))))))
      go false f = end_fits columns relations made n e [] (project p cs) (length cs) tt (omega arith, (lo, hi), subst (λ i. All (Inside i) cs) (sym h) attributes_inside_lem) refl

  pub restricted_fits : (s : Scope) (v w : ℕ) → NotInScope v s → (T : ℕ → List Node) → RangeFits columns relations T w → (cs : List Atom) → All (GoodAtom (extend s v w)) cs → RangeFits columns relations (λ n. restricted_range v w cs (T n) n) w
  restricted_fits s v w f T hT cs k made n e =
      let x : List Node = T n in
      let y : List Node = select_nodes (entry v w ∷ []) (filter (alone_on v) cs) (pred (n + length x)) (n + length x) in
      let a : (0 < length x) × Legal columns relations made x × (width_at (widths_after columns made x) (last_number n x) ≡ w) = hT made n e in
      let b : Legal columns relations (widths_after columns made x) y × (width_at (widths_after columns (widths_after columns made x) y) (last_number (n + length x) y) ≡ w + 0) = selects_fits (entry v w ∷ []) (filter (alone_on v) cs) (all_mono (λ c i. alone_known s v w f c i.0 i.1) (filter (alone_on v) cs) (all_kept (GoodAtom (extend s v w)) (alone_on v) cs k)) (widths_after columns made x) (n + length x) (pred (n + length x)) (widths_grow columns relations made n e x) (omega (arith, a.0)) refl (a.2 ∙ sym (add-zero w)) in
      let c : Legal columns relations made (x ++ y) × (width_at (widths_after columns made (x ++ y)) (last_number n x) ≡ w) × (width_at (widths_after columns made (x ++ y)) (last_number n (x ++ y)) ≡ w) = one_then_other columns relations made n e x y w w (omega (arith, a.0)) a.1 a.2 b.0 (b.1 ∙ add-zero w) in
      (omega (arith, a.0, length-append x y), c.0, c.2)

  pub semijoin-legal : (made : List ℕ) (i j : ℕ) (ts : List Triple) → i < length made → j < length made → length ts ≤ triple_limit → All (TripleInside (width_at made i) (width_at made j)) ts → LegalFacts relations made (semijoin i j ts) × (width_of_node columns made (semijoin i j ts) ≡ width_at made i)
  semijoin-legal made i j ts a b c d = ((a, b, c, d), refl)

  pub antijoin-legal : (made : List ℕ) (i j : ℕ) (ts : List Triple) → i < length made → j < length made → length ts ≤ triple_limit → All (TripleInside (width_at made i) (width_at made j)) ts → LegalFacts relations made (antijoin i j ts) × (width_of_node columns made (antijoin i j ts) ≡ width_at made i)
  antijoin-legal made i j ts a b c d = ((a, b, c, d), refl)

  -- the last node of S2, S3, S4
  pub halves_fit : (N : ℕ → ℕ → List Triple → Node) → ((made : List ℕ) (i j : ℕ) (ts : List Triple) → i < length made → j < length made → length ts ≤ triple_limit → All (TripleInside (width_at made i) (width_at made j)) ts → LegalFacts relations made (N i j ts) × (width_of_node columns made (N i j ts) ≡ width_at made i)) → (s : Scope) (v w : ℕ) → NotInScope v s → (T : ℕ → List Node) → RangeFits columns relations T w → (cs : List Atom) → All (GoodAtom (extend s v w)) cs → length (filter (compares_with_other v) cs) ≤ triple_limit
      → Fits columns relations s (λ p n. restricted_range v w cs (T n) n ++ (N p (last_number n (restricted_range v w cs (T n) n)) (triples_of s v cs) ∷ []))
  halves_fit N law s v w f T hT cs k not-many made n p e l h =
      let xs : List Node = restricted_range v w cs (T n) n in
      let ts : List Triple = triples_of s v cs in
      let a : (0 < length xs) × Legal columns relations made xs × (width_at (widths_after columns made xs) (last_number n xs) ≡ w) = restricted_fits s v w f T hT cs k made n e in
      let pp : width_at (widths_after columns made xs) p ≡ columns_in s = width-kept_at columns relations made n e xs p l ∙ h in
      let attributes_inside_lem : All (TripleInside (columns_in s) w) ts = all_map (TripleInside (columns_in s) w) (triple_of s v) (filter (compares_with_other v) cs) (all_mono (λ c i. triple_inside_lem s v w f c i.0 i.1) (filter (compares_with_other v) cs) (all_kept (GoodAtom (extend s v w)) (compares_with_other v) cs k)) in
      let g : LegalFacts relations (widths_after columns made xs) (N p (last_number n xs) ts) × (width_of_node columns (widths_after columns made xs) (N p (last_number n xs) ts) ≡ width_at (widths_after columns made xs) p) = law (widths_after columns made xs) p (last_number n xs) ts (kept_below columns relations made n e xs p l) (last_below columns relations made n e xs (omega (arith, a.0))) (omega (arith, not-many, length-map (filter (compares_with_other v) cs) (triple_of s v))) (subst (λ i. All (TripleInside i (width_at (widths_after columns made xs) (last_number n xs))) ts) (sym pp) (subst (λ i. All (TripleInside (columns_in s) i) ts) (sym a.2) attributes_inside_lem)) in
      end_fits columns relations made n e xs (N p (last_number n xs) ts) (columns_in s) a.1 g.0 (g.1 ∙ pp)

  pub alpha-fits : (short : Bool) (s s' : Scope) (w : ℕ) (T : ℕ → List Node) (B W : ℕ → ℕ → List Node) (cs : List Attribute) → columns_in s ≡ w → 1 ≤ length cs → length cs ≤ column_limit → All (Inside (columns_in s')) cs → RangeFits columns relations T w → LastFits columns relations s B (columns_in s') → LastFits columns relations s' W (columns_in s')
      → RangeFits columns relations (plain_alpha short s' cs T B W) (length cs)
  alpha-fits short s s' w T B W cs sw lo hi attributes_inside_lem hT hB hW made n e =
      let x : List Node = T n in
      let y : List Node = B (last_number n x) (n + length x) in
      let xy : List Node = x ++ y in
      let z : List Node = W (last_number n xy) (n + length xy) in
      let xyz : List Node = xy ++ z in
      let pr : List Node = project_nodes short (columns_in s') (last_number n xyz) cs in
      let a : (0 < length x) × Legal columns relations made x × (width_at (widths_after columns made x) (last_number n x) ≡ w) = hT made n e in
      let pos : 0 < n + length x = omega (arith, a.0) in
      let pos2 : 0 < n + length xy = omega (arith, pos, length-append x y) in
      let pos3 : 0 < n + length xyz = omega (arith, pos2, length-append xy z) in
      let b : Legal columns relations (widths_after columns made x) y × (width_at (widths_after columns (widths_after columns made x) y) (last_number (n + length x) y) ≡ columns_in s') = hB (widths_after columns made x) (n + length x) (last_number n x) (widths_grow columns relations made n e x) (omega (arith, last_number_is n x pos)) refl (a.2 ∙ sym sw) in
      let c : Legal columns relations made xy × (width_at (widths_after columns made xy) (last_number n x) ≡ w) × (width_at (widths_after columns made xy) (last_number n xy) ≡ columns_in s') = one_then_other columns relations made n e x y w (columns_in s') pos a.1 a.2 b.0 b.1 in
      let d : Legal columns relations (widths_after columns made xy) z × (width_at (widths_after columns (widths_after columns made xy) z) (last_number (n + length xy) z) ≡ columns_in s') = hW (widths_after columns made xy) (n + length xy) (last_number n xy) (widths_grow columns relations made n e xy) (omega (arith, last_number_is n xy pos2)) refl c.2 in
      let f : Legal columns relations made xyz × (width_at (widths_after columns made xyz) (last_number n xy) ≡ columns_in s') × (width_at (widths_after columns made xyz) (last_number n xyz) ≡ columns_in s') = one_then_other columns relations made n e xy z (columns_in s') (columns_in s') pos2 c.0 c.2 d.0 d.1 in
      let g : Legal columns relations (widths_after columns made xyz) pr × (width_at (widths_after columns (widths_after columns made xyz) pr) (last_number (n + length xyz) pr) ≡ length cs) = projects_fits short (columns_in s') cs lo hi attributes_inside_lem (widths_after columns made xyz) (n + length xyz) (last_number n xyz) (widths_grow columns relations made n e xyz) (omega (arith, last_number_is n xyz pos3)) refl f.2 in
      let h : Legal columns relations made (xyz ++ pr) × (width_at (widths_after columns made (xyz ++ pr)) (last_number n xyz) ≡ columns_in s') × (width_at (widths_after columns made (xyz ++ pr)) (last_number n (xyz ++ pr)) ≡ length cs) = one_then_other columns relations made n e xyz pr (columns_in s') (length cs) pos3 f.0 f.2 g.0 g.1 in
      (omega (arith, a.0, length-append xyz pr, length-append xy z, length-append x y), h.0, h.2)
