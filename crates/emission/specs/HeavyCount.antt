-- The heavy operations of a plan, by its words. Assumes nothing.
use Rattle.std.specs.Prelude.{ℕ, zero, suc, ◌+◌, List, get_or, drop}
use Rattle.relations.specs.Limits.{plan_node_words}
use Rattle.relations.specs.Nodes.{heavy_number, weight_of}

-- among so many nodes from the front
unfoldable pub heavy_in : ℕ → List ℕ → ℕ
heavy_in zero words = 0
heavy_in (suc nodes) words = weight_of (heavy_number (get_or words 0 0)) + heavy_in nodes (drop plan_node_words words)
