-- Every value of a legal plan has a column and at most as many as the limit.
use mathlib.Core.Bool.{So}
use mathlib.Core.List.{List, [], ◌∷◌, ◌++◌}
use Prim.Native.Nat.{ℕ, zero, suc, ◌<◌}
use native.Mathlib.Omega.{arith}
use lib.ListN.{length}
use Rattle.relations.specs.Limits.{column_limit, plan_node_limit}
use Rattle.relations.specs.Lists.{All}
use Rattle.relations.specs.Nodes.{Node, load, project, select_constant, select_attribute, join, semijoin, antijoin, divide, unite, intersect, subtract, tally}
use Rattle.relations.specs.Machine.{run}
use Rattle.relations.specs.Plan.{width_at, width_of_node}
use Rattle.relations.specs.Legality.{between, legal_node, legal_nodes, legal_plan, WidthsNarrow}
use Rattle.relations.proofs.BoolLaws.{and_left, and_right}
use Rattle.relations.proofs.ListLaws.{all_append}
use Rattle.relations.proofs.MachineLaws.{run_length}
use Rattle.relations.proofs.LegalityLaws.{Between, LegalFacts, legal_facts}

abbrev Narrow : ℕ → Type 0
Narrow width = Between 1 column_limit width

narrow_at : (made : List ℕ) → All Narrow made → (place : ℕ) → place < length made → Narrow (width_at made place)
narrow_at [] h place below = absurd (omega arith)
narrow_at (w ∷ made) h zero below = h.0
narrow_at (w ∷ made) h (suc place) below = narrow_at made h.1 place (omega arith)

module _ (columns : ℕ → ℕ) (relations : ℕ) (stored : (relation : ℕ) → relation < relations → Between 1 column_limit (columns relation)) where
  narrow_node : (made : List ℕ) → All Narrow made → (node : Node) → LegalFacts relations made node → Narrow (width_of_node columns made node)
  narrow_node made h (load relation) k = stored relation k
  narrow_node made h (project left attributes) k = k.1
  narrow_node made h (select_constant left a operator c) k = narrow_at made h left k.0
  narrow_node made h (select_attribute left a operator b) k = narrow_at made h left k.0
  narrow_node made h (join left right triples) k =
      let one : Narrow (width_at made left) = narrow_at made h left k.0.0 in
      (omega (arith, one.0), k.1)
  narrow_node made h (semijoin left right triples) k = narrow_at made h left k.0
  narrow_node made h (antijoin left right triples) k = narrow_at made h left k.0
  narrow_node made h (divide left right pairs) k =
      let whole : Narrow (width_at made left) = narrow_at made h left k.0 in
      (omega (arith, k.5), omega (arith, whole.1))
  narrow_node made h (unite left right) k = narrow_at made h left k.0
  narrow_node made h (intersect left right) k = narrow_at made h left k.0
  narrow_node made h (subtract left right) k = narrow_at made h left k.0
  narrow_node made h (tally left right least) k = narrow_at made h left k.0

  narrow-run : (made : List ℕ) → All Narrow made → (nodes : List Node) → So (legal_nodes columns relations made nodes) → All Narrow (run (width_of_node columns) made nodes)
  unfolding run legal_nodes
  narrow-run made h [] k = h
  narrow-run made h (node ∷ nodes) k =
      let more : List ℕ = made ++ (width_of_node columns made node ∷ []) in
      let legal : LegalFacts relations made node = legal_facts relations made node (and_left (legal_node relations made node) (legal_nodes columns relations more nodes) k) in
      narrow-run more (all_append Narrow made (width_of_node columns made node ∷ []) h (narrow_node made h node legal, tt)) nodes (and_right (legal_node relations made node) (legal_nodes columns relations more nodes) k)

  pub widths-narrow : (plan : List Node) → So (legal_plan columns relations plan) → WidthsNarrow columns plan
  widths-narrow plan h = record { narrow = λ place below. narrow_at (run (width_of_node columns) [] plan) (narrow-run [] tt plan (and_right (between 1 plan_node_limit (length plan)) (legal_nodes columns relations [] plan) h)) place (omega (arith, run_length (width_of_node columns) [] plan)) }
