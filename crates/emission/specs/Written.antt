-- What a call leaves that appends nodes to a plan: their words at their places, all else as it was, and how many nodes there are now. Assumes nothing.
use Rattle.std.specs.Prelude.{ℕ, ◌+◌, ◌*◌, ◌≤◌, ◌≡◌, List, length}
use Rattle.std.proofs.lemmas.List.Edits.{sets}
use Rattle.relations.specs.Limits.{plan_node_limit, plan_node_words}
use Rattle.relations.specs.Lists.{flat}
use Rattle.relations.specs.Nodes.{Node}
use Rattle.relations.specs.PlanWords.{node_words}

-- so many nodes more fit behind the first n
pub record Room (plan : List ℕ) (n more : ℕ) : Type 0 where
  pub nodes : n + more ≤ plan_node_limit
  pub buffer : plan_node_limit * plan_node_words ≤ length plan

pub record Written (before : List ℕ) (n : ℕ) (nodes : List Node) (after : List ℕ) (count : ℕ) : Type 0 where
  pub words : after ≡ sets before (n * plan_node_words) (flat node_words nodes)
  pub whole : length (flat node_words nodes) ≡ length nodes * plan_node_words
  pub counted : count ≡ n + length nodes
