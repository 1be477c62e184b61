-- Widths and legality while a plan grows; what it is that a translation's nodes are legal.
use mathlib.Core.Path.{◌≡◌, refl, ◌∙◌, ap, ap₂}
use mathlib.Core.Bool.{So}
use mathlib.Core.List.{List, [], ◌∷◌, ◌++◌}
use Prim.Native.Nat.{ℕ, suc, ◌+◌, ◌<◌, pred}
use native.Mathlib.Omega.{arith}
use lib.ListN.{length, length-append}
use lib.Seq.{get_or_at}
use Rattle.relations.specs.Legality.{legal_node, legal_nodes}
use Rattle.relations.specs.Machine.{run}
use Rattle.relations.specs.Nodes.{Node}
use Rattle.relations.specs.Plan.{width_at, width_of_node}
use Rattle.relations.proofs.BoolLaws.{and_both}
use Rattle.relations.proofs.LegalityLaws.{LegalFacts, legal-holds}
use Rattle.relations.proofs.MachineLaws.{run-append, run_length, run-keeps}
use Rattle.calculus.specs.Scope.{Scope, columns_in}
use Rattle.calculus.specs.ShortRules.{last_number}
use Rattle.calculus.proofs.PlanValues.{last_number_is}

-- the widths after more nodes
abbrev pub widths_after : (ℕ → ℕ) → List ℕ → List Node → List ℕ
widths_after columns made nodes = run (width_of_node columns) made nodes

module _ (columns : ℕ → ℕ) (relations : ℕ) where
  -- every node is legal, as facts
  unfoldable pub Legal : List ℕ → List Node → Type 0
  Legal made [] = Unit {0}
  Legal made (node ∷ nodes) = LegalFacts relations made node × Legal (made ++ (width_of_node columns made node ∷ [])) nodes

  pub legal-nodes : (made : List ℕ) (nodes : List Node) → Legal made nodes → So (legal_nodes columns relations made nodes)
  unfolding Legal legal_nodes
  legal-nodes made [] h = refl
  legal-nodes made (node ∷ nodes) h = and_both (legal_node relations made node) (legal_nodes columns relations (made ++ (width_of_node columns made node ∷ [])) nodes) (legal-holds relations made node h.0) (legal-nodes (made ++ (width_of_node columns made node ∷ [])) nodes h.1)

  pub widths-append : (made : List ℕ) (xs ys : List Node) → widths_after columns made (xs ++ ys) ≡ widths_after columns (widths_after columns made xs) ys
  widths-append made xs ys = run-append (width_of_node columns) made xs ys

  pub widths_grow : (made : List ℕ) (n : ℕ) → length made ≡ n → (xs : List Node) → length (widths_after columns made xs) ≡ n + length xs
  widths_grow made n e xs = run_length (width_of_node columns) made xs ∙ ap (λ k. k + length xs) e

  pub width-kept_at : (made : List ℕ) (n : ℕ) → length made ≡ n → (xs : List Node) (j : ℕ) → j < n → width_at (widths_after columns made xs) j ≡ width_at made j
  width-kept_at made n e xs j h = run-keeps (width_of_node columns) 0 made xs j (omega arith)

  pub legal_then : (made : List ℕ) (xs ys : List Node) → Legal made xs → Legal (widths_after columns made xs) ys → Legal made (xs ++ ys)
  unfolding run Legal
  legal_then made [] ys h k = k
  legal_then made (x ∷ xs) ys h k = (h.0, legal_then (made ++ (width_of_node columns made x ∷ [])) xs ys h.1 k)

  -- xs, then one node: its value stands at the end
  pub width_at_end : (made : List ℕ) (n : ℕ) → length made ≡ n → (xs : List Node) (x : Node) → width_at (widths_after columns made (xs ++ (x ∷ []))) (n + length xs) ≡ width_of_node columns (widths_after columns made xs) x
  unfolding run
  width_at_end made n e xs x = ap (λ u. width_at u (n + length xs)) (widths-append made xs (x ∷ [])) ∙ get_or_at (widths_after columns made xs) (width_of_node columns (widths_after columns made xs) x) [] 0 (n + length xs) (widths_grow made n e xs)

  pub legal_end : (made : List ℕ) (xs : List Node) (x : Node) → Legal made xs → LegalFacts relations (widths_after columns made xs) x → Legal made (xs ++ (x ∷ []))
  unfolding Legal
  legal_end made xs x h k = legal_then made xs (x ∷ []) h (k, tt)

  -- T p n is legal, and what it makes is as wide as the scope; and so for a range
  abbrev pub Fits : Scope → (ℕ → ℕ → List Node) → Type 0
  Fits s T = (made : List ℕ) (n p : ℕ) → length made ≡ n → p < n → width_at made p ≡ columns_in s → Legal made (T p n) × (width_at (widths_after columns made (T p n)) (last_number n (T p n)) ≡ columns_in s)

  abbrev pub RangeFits : (ℕ → List Node) → ℕ → Type 0
  RangeFits T w = (made : List ℕ) (n : ℕ) → length made ≡ n → (0 < length (T n)) × Legal made (T n) × (width_at (widths_after columns made (T n)) (last_number n (T n)) ≡ w)

  -- T p n where p is the last node
  abbrev pub LastFits : Scope → (ℕ → ℕ → List Node) → ℕ → Type 0
  LastFits s U w = (made : List ℕ) (n p : ℕ) → length made ≡ n → p < n → p ≡ pred n → width_at made p ≡ columns_in s → Legal made (U p n) × (width_at (widths_after columns made (U p n)) (last_number n (U p n)) ≡ w)

  abbrev pub DivisionFits : Scope → ℕ → (ℕ → ℕ → ℕ → List Node) → Type 0
  DivisionFits s k O = (made : List ℕ) (n p j : ℕ) → length made ≡ n → p < n → j < n → width_at made p ≡ columns_in s → width_at made j ≡ k → Legal made (O j p n) × (width_at (widths_after columns made (O j p n)) (last_number n (O j p n)) ≡ columns_in s)

  -- two lists of nodes, one after the other
  pub one_then_other : (made : List ℕ) (n : ℕ) → length made ≡ n → (x y : List Node) (a b : ℕ) → 0 < n + length x → Legal made x → width_at (widths_after columns made x) (last_number n x) ≡ a → Legal (widths_after columns made x) y → width_at (widths_after columns (widths_after columns made x) y) (last_number (n + length x) y) ≡ b → Legal made (x ++ y) × (width_at (widths_after columns made (x ++ y)) (last_number n x) ≡ a) × (width_at (widths_after columns made (x ++ y)) (last_number n (x ++ y)) ≡ b)
  one_then_other made n e x y a b pos lx hx ly hy =
      let lens : n + length (x ++ y) ≡ (n + length x) + length y = omega (arith, length-append x y) in
      let same : last_number n (x ++ y) ≡ last_number (n + length x) y = ap pred lens in
      (legal_then made x y lx ly, ap (λ u. width_at u (last_number n x)) (widths-append made x y) ∙ (width-kept_at (widths_after columns made x) (n + length x) (widths_grow made n e x) y (last_number n x) (omega (arith, last_number_is n x pos)) ∙ hx), ap₂ width_at (widths-append made x y) same ∙ hy)

  -- one more node at the end
  pub end_fits : (made : List ℕ) (n : ℕ) → length made ≡ n → (xs : List Node) (x : Node) (w : ℕ) → Legal made xs → LegalFacts relations (widths_after columns made xs) x → width_of_node columns (widths_after columns made xs) x ≡ w → Legal made (xs ++ (x ∷ [])) × (width_at (widths_after columns made (xs ++ (x ∷ []))) (last_number n (xs ++ (x ∷ []))) ≡ w)
  end_fits made n e xs x w h k q =
      let lens : n + length (xs ++ (x ∷ [])) ≡ suc (n + length xs) = omega (arith, length-append xs (x ∷ [])) in
      let same : last_number n (xs ++ (x ∷ [])) ≡ n + length xs = ap pred lens ∙ pred_suc (n + length xs) in
      (legal_end made xs x h k, ap (width_at (widths_after columns made (xs ++ (x ∷ [])))) same ∙ (width_at_end made n e xs x ∙ q))
    where
      pred_suc : (i : ℕ) → pred (suc i) ≡ i
      pred_suc i = omega arith

  pub first_below : (made : List ℕ) (n : ℕ) → length made ≡ n → (x y : List Node) → 0 < n + length x → last_number n x < length (widths_after columns made (x ++ y))
  first_below made n e x y pos = omega (arith, last_number_is n x pos, widths_grow made n e (x ++ y), length-append x y)

  pub last_below : (made : List ℕ) (n : ℕ) → length made ≡ n → (x : List Node) → 0 < n + length x → last_number n x < length (widths_after columns made x)
  last_below made n e x pos = omega (arith, last_number_is n x pos, widths_grow made n e x)

  pub kept_below : (made : List ℕ) (n : ℕ) → length made ≡ n → (x : List Node) (p : ℕ) → p < n → p < length (widths_after columns made x)
  kept_below made n e x p l = omega (arith, widths_grow made n e x)
