-- The heavy operations counted in a plan's words are those of its nodes. Assumes nothing.
use Prim.Native.Nat.{ℕ, zero, suc, ◌+◌, ◌-◌, ◌≤◌, ◌<◌}
use mathlib.Core.Path.{◌≡◌, refl, ap, ◌∙◌}
use mathlib.Core.Bool.{Bool, true, false, cond, So}
use mathlib.Core.List.{List, [], ◌∷◌, ◌++◌, append_assoc}
use native.Mathlib.Omega.{arith}
use lib.ListN.{length, get_or, drop}
use lib.Seq.{sets, sets-eq, drop-drop, drop-cons, drop_at}
use Rattle.relations.specs.Limits.{plan_node_words}
use Rattle.relations.specs.Lists.{flat, filter}
use Rattle.relations.specs.Nodes.{Node, heavy_number, weight_of}
use Rattle.relations.specs.Plan.{width_of_node, heavy_node, heavy}
use Rattle.relations.specs.Legality.{legal_node, legal_nodes}
use Rattle.relations.specs.PlanWords.{node_words}
use Rattle.relations.proofs.BoolLaws.{and_left, and_right}
use Rattle.relations.proofs.LegalityLaws.{legal-count}
use Rattle.relations.proofs.PlanWordsBack.{words_size}
use Rattle.emission.specs.HeavyCount.{heavy_in}

pub weight_small : (operation : ℕ) → weight_of (heavy_number operation) ≤ 1
weight_small operation = go (heavy_number operation)
  where
    go : (b : Bool) → weight_of b ≤ 1
    go true = omega arith
    go false = omega arith

pub heavy_none : (words : List ℕ) (left : ℕ) → left ≡ 0 → heavy_in left words ≡ 0
unfolding heavy_in
heavy_none words left e = rw e

-- one node of the loop: the words before it are counted

pub heavy_step : (words : List ℕ) (at left weight : ℕ) → 0 < left → at < length words → weight ≡ weight_of (heavy_number (get_or words at 0)) → heavy_in left (drop at words) ≡ weight + heavy_in (left - 1) (drop (at + plan_node_words) words)
unfolding heavy_in
heavy_step words at zero weight some inside e = absurd (omega arith)
heavy_step words at (suc left) weight some inside e =
    let head : get_or (drop at words) 0 0 ≡ get_or words at 0 = ap (λ (l : List ℕ). get_or l 0 0) (drop-cons words at 0 inside) in
    let next : drop plan_node_words (drop at words) ≡ drop (at + plan_node_words) words = drop-drop plan_node_words at words in
    let one : suc left - 1 ≡ left = omega arith in
    rw (head, next, one, e)

heavy-more : (node : Node) (nodes : List Node) → weight_of (heavy_node node) + heavy nodes ≡ heavy (node ∷ nodes)
heavy-more node nodes = go (heavy_node node)
  where
    go : (b : Bool) → weight_of b + length (filter heavy_node nodes) ≡ length (cond b (node ∷ filter heavy_node nodes) (filter heavy_node nodes))
    go true = omega arith
    go false = omega arith

module _ (columns : ℕ → ℕ) (relations : ℕ) where
  heavy-words : (made : List ℕ) (nodes : List Node) (rest : List ℕ) → So (legal_nodes columns relations made nodes) → heavy_in (length nodes) (flat node_words nodes ++ rest) ≡ heavy nodes
  unfolding heavy_in legal_nodes
  heavy-words made [] rest legal = refl
  heavy-words made (node ∷ nodes) rest legal =
      let more : List ℕ = made ++ (width_of_node columns made node ∷ []) in
      let size : length (node_words node) ≡ plan_node_words = words_size node (legal-count relations made node (and_left (legal_node relations made node) (legal_nodes columns relations more nodes) legal)) in
      let apart : (node_words node ++ flat node_words nodes) ++ rest ≡ node_words node ++ (flat node_words nodes ++ rest) = append_assoc (node_words node) (flat node_words nodes) rest in
      let behind : drop plan_node_words (node_words node ++ (flat node_words nodes ++ rest)) ≡ flat node_words nodes ++ rest = drop_at (node_words node) (flat node_words nodes ++ rest) plan_node_words size in
      let others : heavy_in (length nodes) (flat node_words nodes ++ rest) ≡ heavy nodes = heavy-words more nodes rest (and_right (legal_node relations made node) (legal_nodes columns relations more nodes) legal) in
      rw (apart, behind, others) (heavy-more node nodes)

  -- a plan written at the front of a buffer
  pub heavy-written : (plan : List ℕ) (nodes : List Node) → length (flat node_words nodes) ≤ length plan → So (legal_nodes columns relations [] nodes) → heavy_in (length nodes) (sets plan 0 (flat node_words nodes)) ≡ heavy nodes
  heavy-written plan nodes room legal =
      ap (heavy_in (length nodes)) (sets-eq (flat node_words nodes) plan 0 (omega (arith, room)))
      ∙ heavy-words [] nodes (drop (0 + length (flat node_words nodes)) plan) legal
