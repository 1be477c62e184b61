-- What the inner steps of judging a node promise, of a node that is decoded but for its list. No promise of `judge_plan` or `run` mentions any of it:
-- `legal_node` promises relations' `legal_node`, and `judge_node` its `width_of_node`, of the node that the words read as.
use Rattle.std.specs.Prelude.{ℕ, ◌+◌, ◌≡◌, Bool, true, ◌&&◌, List, ltb, drop}
use Rattle.relations.specs.Limits.{head_words}
use Rattle.relations.specs.Lists.{all}
use Rattle.relations.specs.Nodes as nodes
use Rattle.relations.specs.Plan.{width_at, width_of_node}
use Rattle.relations.specs.Legality.{between, distinct, lower, legal_node}
use Rattle.plan_reading.specs.Decoding.{spaced, Head, node_head}
use Rattle.plan_reading.specs.declared.nodes.PlanNode.{PlanNode}

-- a legal node has this head
abbrev pub HeadOfLegal : ℕ → List ℕ → Head → Type 0
HeadOfLegal relations made head = (node : nodes.Node) × (node_head node ≡ head) × (legal_node relations made node ≡ true)

-- relations' width of every node that has this head, so one number where some node has it: a list has no part in it
abbrev pub WidthOfHead : (ℕ → ℕ) → List ℕ → Head → ℕ → Type 0
WidthOfHead columns made head width = (node : nodes.Node) → node_head node ≡ head → width ≡ width_of_node columns made node

-- the list's attributes are on their sides: a left one at the front of every `step` words, its right one `across` words behind it
abbrev pub attributes_inside : (step across : ℕ) → List ℕ → PlanNode → List ℕ → Bool
attributes_inside step across made node words =
    all (between 1 (width_at made node.left)) (spaced step node.count (drop head_words words))
    && all (between 1 (width_at made node.right)) (spaced step node.count (drop (head_words + across) words))

-- 5, 6 and 7: both references lower, every triple's attributes on their sides
abbrev pub triples_legal : List ℕ → PlanNode → List ℕ → Bool
triples_legal made node words = lower made node.left && (lower made node.right && attributes_inside 3 2 made node words)

-- 8: the same of pairs; left attributes distinct; at least one left column remains
abbrev pub pairs_legal : List ℕ → PlanNode → List ℕ → Bool
pairs_legal made node words =
    lower made node.left
    && (lower made node.right
    && (attributes_inside 2 1 made node words
    && (distinct (spaced 2 node.count (drop head_words words)) && ltb node.count (width_at made node.left))))
