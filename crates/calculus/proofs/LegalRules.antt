-- The plain rules write legal nodes, if the translations of their parts do.
use mathlib.Core.Path.{◌≡◌, refl, sym, ◌∙◌, ap, ap₂, subst}
use mathlib.Core.Bool.{Bool, true, false}
use mathlib.Core.List.{List, [], ◌∷◌, ◌++◌}
use Prim.Native.Nat.{ℕ, suc, ◌+◌, ◌≤◌, ◌<◌, pred}
use native.Mathlib.Omega.{arith}
use lib.ListN.{length, length-append, get_or-append}
use lib.Seq.{get_or_at}
use Rattle.relations.specs.Columns.{Attribute}
use Rattle.relations.specs.Limits.{column_limit}
use Rattle.relations.specs.Lists.{All}
use Rattle.relations.specs.Machine.{run}
use Rattle.relations.specs.Nodes.{Node, project, join, unite, subtract, tally}
use Rattle.relations.specs.Plan.{width_at, width_of_node}
use Rattle.relations.proofs.LegalityLaws.{Inside, LegalFacts}
use Rattle.calculus.specs.Scope.{Scope, extend, columns_in, all_columns}
use Rattle.calculus.specs.ShortRules.{last_number}
use Rattle.calculus.proofs.LegalColumns.{columns_inside}
use Rattle.calculus.proofs.LegalPlans.{widths_after, Legal, widths-append, widths_grow, width-kept_at, legal_then, Fits, RangeFits, LastFits, DivisionFits, one_then_other, end_fits, first_below, last_below, kept_below}
use Rattle.calculus.proofs.PlanValues.{last_number_is}
use Rattle.calculus.proofs.RuleNodes.{plain_and, plain_or, plain_not, plain_product, plain_some, plain_every, after_range, plain_sides, plain_binding, plain_at_least}
use Rattle.calculus.proofs.ScopeLaws.{columns_extend, columns_length}

module _ (columns : ℕ → ℕ) (relations : ℕ) where
  pub choose_fits : (s : Scope) (b : Bool) (A B : ℕ → ℕ → List Node) → (b ≡ true → Fits columns relations s A) → (b ≡ false → Fits columns relations s B) → Fits columns relations s (λ p n. elim b [ true ↦ A p n | false ↦ B p n ])
  choose_fits s true A B f g = f refl
  choose_fits s false A B f g = g refl

  pub and_fits : (s : Scope) (T U : ℕ → ℕ → List Node) → Fits columns relations s T → Fits columns relations s U → Fits columns relations s (plain_and T U)
  and_fits s T U hT hU made n p e l h =
      let x : List Node = T p n in
      let y : List Node = U (last_number n x) (n + length x) in
      let a : Legal columns relations made x × (width_at (widths_after columns made x) (last_number n x) ≡ columns_in s) = hT made n p e l h in
      let b : Legal columns relations (widths_after columns made x) y × (width_at (widths_after columns (widths_after columns made x) y) (last_number (n + length x) y) ≡ columns_in s) = hU (widths_after columns made x) (n + length x) (last_number n x) (widths_grow columns relations made n e x) (omega (arith, last_number_is n x (omega arith))) a.1 in
      let lens : n + length (x ++ y) ≡ (n + length x) + length y = omega (arith, length-append x y) in
      let same : last_number n (x ++ y) ≡ last_number (n + length x) y = ap pred lens in
      (legal_then columns relations made x y a.0 b.0, ap₂ width_at (widths-append columns relations made x y) same ∙ b.1)

  pub or_fits : (s : Scope) (T U : ℕ → ℕ → List Node) → Fits columns relations s T → Fits columns relations s U → Fits columns relations s (plain_or T U)
  or_fits s T U hT hU made n p e l h =
      let x : List Node = T p n in
      let y : List Node = U p (n + length x) in
      let pos : 0 < n + length x = omega arith in
      let pos2 : 0 < n + length (x ++ y) = omega arith in
      let a : Legal columns relations made x × (width_at (widths_after columns made x) (last_number n x) ≡ columns_in s) = hT made n p e l h in
      let b : Legal columns relations (widths_after columns made x) y × (width_at (widths_after columns (widths_after columns made x) y) (last_number (n + length x) y) ≡ columns_in s) = hU (widths_after columns made x) (n + length x) p (widths_grow columns relations made n e x) (omega arith) (width-kept_at columns relations made n e x p l ∙ h) in
      let c : Legal columns relations made (x ++ y) × (width_at (widths_after columns made (x ++ y)) (last_number n x) ≡ columns_in s) × (width_at (widths_after columns made (x ++ y)) (last_number n (x ++ y)) ≡ columns_in s) = one_then_other columns relations made n e x y (columns_in s) (columns_in s) pos a.0 a.1 b.0 b.1 in
      end_fits columns relations made n e (x ++ y) (unite (last_number n x) (last_number n (x ++ y))) (columns_in s) c.0 (first_below columns relations made n e x y pos, last_below columns relations made n e (x ++ y) pos2, c.1 ∙ sym c.2) c.1

  pub not_fits : (s : Scope) (T : ℕ → ℕ → List Node) → Fits columns relations s T → Fits columns relations s (plain_not T)
  not_fits s T hT made n p e l h =
      let x : List Node = T p n in
      let pos : 0 < n + length x = omega arith in
      let a : Legal columns relations made x × (width_at (widths_after columns made x) (last_number n x) ≡ columns_in s) = hT made n p e l h in
      let pp : width_at (widths_after columns made x) p ≡ columns_in s = width-kept_at columns relations made n e x p l ∙ h in
      end_fits columns relations made n e x (subtract p (last_number n x)) (columns_in s) a.0 (kept_below columns relations made n e x p l, last_below columns relations made n e x pos, pp ∙ sym a.1) pp

  pub product_fits : (s : Scope) (v w : ℕ) (T : ℕ → List Node) (U : ℕ → ℕ → List Node) → columns_in s + w ≤ column_limit → RangeFits columns relations T w → Fits columns relations (extend s v w) U → (made : List ℕ) (n p : ℕ) → length made ≡ n → p < n → width_at made p ≡ columns_in s
      → Legal columns relations made (plain_product T U p n)
      × (width_at (widths_after columns made (plain_product T U p n)) (n + length (T n)) ≡ columns_in s + w)
      × (width_at (widths_after columns made (plain_product T U p n)) (last_number n (plain_product T U p n)) ≡ columns_in s + w)
  unfolding run Legal
  product_fits s v w T U lim hT hU made n p e l h =
      let x : List Node = T n in
      let k : ℕ = n + length x in
      let j : Node = join p (pred k) [] in
      let z : List Node = U k (suc k) in
      let w1 : List ℕ = widths_after columns made x in
      let e1 : length w1 ≡ k = widths_grow columns relations made n e x in
      let w2 : List ℕ = w1 ++ (width_of_node columns w1 j ∷ []) in
      let e2 : length w2 ≡ suc k = omega (arith, length-append w1 (width_of_node columns w1 j ∷ [])) in
      let a : (0 < length x) × Legal columns relations made x × (width_at w1 (last_number n x) ≡ w) = hT made n e in
      let pp : width_at w1 p ≡ columns_in s = width-kept_at columns relations made n e x p l ∙ h in
      let q : width_at w2 k ≡ columns_in s + w = get_or_at w1 (width_of_node columns w1 j) [] 0 k e1 ∙ ap₂ ◌+◌ pp a.2 in
      let b : Legal columns relations w2 z × (width_at (widths_after columns w2 z) (last_number (suc k) z) ≡ columns_in (extend s v w)) = hU w2 (suc k) k e2 (omega arith) (q ∙ sym (columns_extend s v w)) in
      let lj : LegalFacts relations w1 j = ((kept_below columns relations made n e x p l, omega (arith, e1, a.0), omega arith, tt), subst (λ i. i ≤ column_limit) (sym (ap₂ ◌+◌ pp a.2)) lim) in
      let lens : n + length (x ++ (j ∷ z)) ≡ suc k + length z = omega (arith, length-append x (j ∷ z)) in
      let same : last_number n (x ++ (j ∷ z)) ≡ last_number (suc k) z = ap pred lens in
      (legal_then columns relations made x (j ∷ z) a.1 (lj, b.0), ap (λ u. width_at u k) (widths-append columns relations made x (j ∷ z)) ∙ (width-kept_at columns relations w2 (suc k) e2 z k (omega arith) ∙ q), ap₂ width_at (widths-append columns relations made x (j ∷ z)) same ∙ (b.1 ∙ columns_extend s v w))

  pub some_fits : (s : Scope) (v w : ℕ) (T : ℕ → List Node) (U : ℕ → ℕ → List Node) → 1 ≤ columns_in s → columns_in s + w ≤ column_limit → RangeFits columns relations T w → Fits columns relations (extend s v w) U
      → Fits columns relations s (plain_some s T U)
  some_fits s v w T U one lim hT hU made n p e l h =
      let x : List Node = T n in
      let k : ℕ = n + length x in
      let z : List Node = U k (suc k) in
      let xs : List Node = x ++ (join p (pred k) [] ∷ z) in
      let lens : suc k + length z ≡ n + length xs = omega (arith, length-append x (join p (pred k) [] ∷ z)) in
      let tops : last_number (suc k) z ≡ last_number n xs = ap pred lens in
      let a : Legal columns relations made xs × (width_at (widths_after columns made xs) k ≡ columns_in s + w) × (width_at (widths_after columns made xs) (last_number n xs) ≡ columns_in s + w) = product_fits s v w T U lim hT hU made n p e l h in
      let wt : width_at (widths_after columns made xs) (last_number (suc k) z) ≡ columns_in s + w = ap (width_at (widths_after columns made xs)) tops ∙ a.2 in
      let cl : length (all_columns (columns_in s)) ≡ columns_in s = columns_length (columns_in s) 1 in
      end_fits columns relations made n e xs (project (last_number (suc k) z) (all_columns (columns_in s))) (columns_in s) a.0 (subst (λ i. i < length (widths_after columns made xs)) (sym tops) (last_below columns relations made n e xs (omega arith)), (omega arith, omega arith), subst (λ i. All (Inside i) (all_columns (columns_in s))) (sym wt) (columns_inside (columns_in s) 1 (columns_in s + w) (omega arith) (omega arith))) cl

  pub every_fits : (s : Scope) (v w : ℕ) (T : ℕ → List Node) (U : ℕ → ℕ → List Node) → 1 ≤ columns_in s → columns_in s + w ≤ column_limit → RangeFits columns relations T w → Fits columns relations (extend s v w) U
      → Fits columns relations s (plain_every s T U)
  unfolding run Legal
  every_fits s v w T U one lim hT hU made n p e l h =
      let x : List Node = T n in
      let k : ℕ = n + length x in
      let z : List Node = U k (suc k) in
      let xs : List Node = x ++ (join p (pred k) [] ∷ z) in
      let t : ℕ = last_number (suc k) z in
      let cs : List Attribute = all_columns (columns_in s) in
      let a : Node = subtract k t in
      let b : Node = project (suc t) cs in
      let c : Node = subtract p (suc (suc t)) in
      let lens : suc k + length z ≡ n + length xs = omega (arith, length-append x (join p (pred k) [] ∷ z)) in
      let tops : t ≡ last_number n xs = ap pred lens in
      let f : Legal columns relations made xs × (width_at (widths_after columns made xs) k ≡ columns_in s + w) × (width_at (widths_after columns made xs) (last_number n xs) ≡ columns_in s + w) = product_fits s v w T U lim hT hU made n p e l h in
      let ts : suc t ≡ suc k + length z = last_number_is (suc k) z (omega arith) in
      let w3 : List ℕ = widths_after columns made xs in
      let e3 : length w3 ≡ suc t = omega (arith, widths_grow columns relations made n e xs) in
      let w4 : List ℕ = w3 ++ (width_at w3 k ∷ []) in
      let e4 : length w4 ≡ suc (suc t) = omega (arith, length-append w3 (width_at w3 k ∷ [])) in
      let w5 : List ℕ = w4 ++ (length cs ∷ []) in
      let e5 : length w5 ≡ suc (suc (suc t)) = omega (arith, length-append w4 (length cs ∷ [])) in
      let wt : width_at w3 t ≡ columns_in s + w = ap (width_at w3) tops ∙ f.2 in
      let w4a : width_at w4 (suc t) ≡ columns_in s + w = get_or_at w3 (width_at w3 k) [] 0 (suc t) e3 ∙ f.1 in
      let w5b : width_at w5 (suc (suc t)) ≡ columns_in s = get_or_at w4 (length cs) [] 0 (suc (suc t)) e4 ∙ columns_length (columns_in s) 1 in
      let p3 : width_at w3 p ≡ columns_in s = width-kept_at columns relations made n e xs p l ∙ h in
      let p5 : width_at w5 p ≡ columns_in s = get_or-append w4 (length cs ∷ []) 0 p (omega arith) ∙ (get_or-append w3 (width_at w3 k ∷ []) 0 p (omega arith) ∙ p3) in
      let cl : length cs ≡ columns_in s = columns_length (columns_in s) 1 in
      let la : LegalFacts relations w3 a = (omega arith, omega arith, f.1 ∙ sym wt) in
      let lb : LegalFacts relations w4 b = (omega arith, (omega arith, omega arith), subst (λ i. All (Inside i) cs) (sym w4a) (columns_inside (columns_in s) 1 (columns_in s + w) (omega arith) (omega arith))) in
      let lc : LegalFacts relations w5 c = (omega arith, omega arith, p5 ∙ sym w5b) in
      let lens2 : n + length (xs ++ (a ∷ b ∷ c ∷ [])) ≡ suc (suc (suc (suc t))) = omega (arith, length-append xs (a ∷ b ∷ c ∷ [])) in
      let same : last_number n (xs ++ (a ∷ b ∷ c ∷ [])) ≡ suc (suc (suc t)) = ap pred lens2 ∙ pred_suc (suc (suc (suc t))) in
      (legal_then columns relations made xs (a ∷ b ∷ c ∷ []) f.0 (la, (lb, (lc, tt))), ap₂ width_at (widths-append columns relations made xs (a ∷ b ∷ c ∷ [])) same ∙ (get_or_at w5 (width_at w5 p) [] 0 (suc (suc (suc t))) e5 ∙ p5))
    where
      pred_suc : (i : ℕ) → pred (suc i) ≡ i
      pred_suc i = omega arith

  -- the product is wider than P, because the range has a column
  pub at_least-fits : (least : ℕ) (s : Scope) (v w : ℕ) (T : ℕ → List Node) (U : ℕ → ℕ → List Node) → 1 ≤ w → 1 ≤ least → columns_in s + w ≤ column_limit → RangeFits columns relations T w → Fits columns relations (extend s v w) U
      → Fits columns relations s (plain_at_least least T U)
  at_least-fits least s v w T U wide some-rows lim hT hU made n p e l h =
      let x : List Node = T n in
      let k : ℕ = n + length x in
      let z : List Node = U k (suc k) in
      let xs : List Node = x ++ (join p (pred k) [] ∷ z) in
      let lens : suc k + length z ≡ n + length xs = omega (arith, length-append x (join p (pred k) [] ∷ z)) in
      let tops : last_number (suc k) z ≡ last_number n xs = ap pred lens in
      let a : Legal columns relations made xs × (width_at (widths_after columns made xs) k ≡ columns_in s + w) × (width_at (widths_after columns made xs) (last_number n xs) ≡ columns_in s + w) = product_fits s v w T U lim hT hU made n p e l h in
      let right : width_at (widths_after columns made xs) (last_number (suc k) z) ≡ columns_in s + w = ap (width_at (widths_after columns made xs)) tops ∙ a.2 in
      let left : width_at (widths_after columns made xs) p ≡ columns_in s = width-kept_at columns relations made n e xs p l ∙ h in
      end_fits columns relations made n e xs (tally p (last_number (suc k) z) least) (columns_in s) a.0 (kept_below columns relations made n e xs p l, subst (λ i. i < length (widths_after columns made xs)) (sym tops) (last_below columns relations made n e xs (omega arith)), omega (arith, left, right), some-rows) left

  pub over-fits : (s : Scope) (k : ℕ) (T : ℕ → List Node) (O : ℕ → ℕ → ℕ → List Node) → RangeFits columns relations T k → DivisionFits columns relations s k O → Fits columns relations s (after_range T O)
  over-fits s k T O hT hO made n p e l h =
      let x : List Node = T n in
      let i : ℕ = n + length x in
      let y : List Node = O (pred i) p i in
      let a : (0 < length x) × Legal columns relations made x × (width_at (widths_after columns made x) (last_number n x) ≡ k) = hT made n e in
      let b : Legal columns relations (widths_after columns made x) y × (width_at (widths_after columns (widths_after columns made x) y) (last_number i y) ≡ columns_in s) = hO (widths_after columns made x) i p (pred i) (widths_grow columns relations made n e x) (omega arith) (omega (arith, a.0)) (width-kept_at columns relations made n e x p l ∙ h) a.2 in
      let c : Legal columns relations made (x ++ y) × (width_at (widths_after columns made (x ++ y)) (last_number n x) ≡ k) × (width_at (widths_after columns made (x ++ y)) (last_number n (x ++ y)) ≡ columns_in s) = one_then_other columns relations made n e x y k (columns_in s) (omega arith) a.1 a.2 b.0 b.1 in
      (c.0, c.2)

  pub two_fits : (N : ℕ → ℕ → Node) → ((made : List ℕ) (i j : ℕ) → i < length made → j < length made → width_at made i ≡ width_at made j → LegalFacts relations made (N i j) × (width_of_node columns made (N i j) ≡ width_at made i)) → (T U : ℕ → List Node) (a b : ℕ) → a ≡ b → RangeFits columns relations T a → RangeFits columns relations U b
      → RangeFits columns relations (plain_sides N T U) a
  two_fits N law T U a b q hT hU made n e =
      let x : List Node = T n in
      let y : List Node = U (n + length x) in
      let f : (0 < length x) × Legal columns relations made x × (width_at (widths_after columns made x) (last_number n x) ≡ a) = hT made n e in
      let g : (0 < length y) × Legal columns relations (widths_after columns made x) y × (width_at (widths_after columns (widths_after columns made x) y) (last_number (n + length x) y) ≡ b) = hU (widths_after columns made x) (n + length x) (widths_grow columns relations made n e x) in
      let pos : 0 < n + length x = omega (arith, f.0) in
      let pos2 : 0 < n + length (x ++ y) = omega (arith, pos, length-append x y) in
      let c : Legal columns relations made (x ++ y) × (width_at (widths_after columns made (x ++ y)) (last_number n x) ≡ a) × (width_at (widths_after columns made (x ++ y)) (last_number n (x ++ y)) ≡ b) = one_then_other columns relations made n e x y a b pos f.1 f.2 g.1 g.2 in
      let nd : Node = N (last_number n x) (last_number n (x ++ y)) in
      let k : LegalFacts relations (widths_after columns made (x ++ y)) nd × (width_of_node columns (widths_after columns made (x ++ y)) nd ≡ width_at (widths_after columns made (x ++ y)) (last_number n x)) = law (widths_after columns made (x ++ y)) (last_number n x) (last_number n (x ++ y)) (first_below columns relations made n e x y pos) (last_below columns relations made n e (x ++ y) pos2) (c.1 ∙ (q ∙ sym c.2)) in
      let r : Legal columns relations made ((x ++ y) ++ (nd ∷ [])) × (width_at (widths_after columns made ((x ++ y) ++ (nd ∷ []))) (last_number n ((x ++ y) ++ (nd ∷ []))) ≡ a) = end_fits columns relations made n e (x ++ y) nd a c.0 k.0 (k.1 ∙ c.1) in
      (omega (arith, length-append (x ++ y) (nd ∷ [])), r.0, r.1)

  pub bind-fits : (s : Scope) (v w u : ℕ) (T : ℕ → List Node) (U : ℕ → ℕ → List Node) → columns_in s + w ≤ column_limit → RangeFits columns relations T w → LastFits columns relations (extend s v w) U u → LastFits columns relations s (plain_binding T U) u
  bind-fits s v w u T U lim hT hU made n p e l q h =
      let x : List Node = T n in
      let k : ℕ = n + length x in
      let j : Node = join p (last_number n x) [] in
      let xj : List Node = x ++ (j ∷ []) in
      let f : (0 < length x) × Legal columns relations made x × (width_at (widths_after columns made x) (last_number n x) ≡ w) = hT made n e in
      let pp : width_at (widths_after columns made x) p ≡ columns_in s = width-kept_at columns relations made n e x p l ∙ h in
      let sum : width_of_node columns (widths_after columns made x) j ≡ columns_in s + w = ap₂ ◌+◌ pp f.2 in
      let g : Legal columns relations made xj × (width_at (widths_after columns made xj) (last_number n xj) ≡ columns_in s + w) = end_fits columns relations made n e x j (columns_in s + w) f.1 ((kept_below columns relations made n e x p l, last_below columns relations made n e x (omega (arith, f.0)), omega arith, tt), subst (λ i. i ≤ column_limit) (sym sum) lim) sum in
      let lens : n + length xj ≡ suc k = omega (arith, length-append x (j ∷ [])) in
      let e2 : length (widths_after columns made xj) ≡ suc k = widths_grow columns relations made n e xj ∙ lens in
      let at_k : last_number n xj ≡ k = ap pred lens ∙ pred_suc k in
      let r : Legal columns relations (widths_after columns made xj) (U k (suc k)) × (width_at (widths_after columns (widths_after columns made xj) (U k (suc k))) (last_number (suc k) (U k (suc k))) ≡ u) = hU (widths_after columns made xj) (suc k) k e2 (omega arith) (sym (pred_suc k)) (ap (width_at (widths_after columns made xj)) (sym at_k) ∙ (g.1 ∙ sym (columns_extend s v w))) in
      let lens2 : n + length (xj ++ U k (suc k)) ≡ suc k + length (U k (suc k)) = omega (arith, length-append xj (U k (suc k))) in
      let same : last_number n (xj ++ U k (suc k)) ≡ last_number (suc k) (U k (suc k)) = ap pred lens2 in
      (legal_then columns relations made xj (U k (suc k)) g.0 r.0, ap₂ width_at (widths-append columns relations made xj (U k (suc k))) same ∙ r.1)
    where
      pred_suc : (i : ℕ) → pred (suc i) ≡ i
      pred_suc i = omega arith
