-- How large the numbers of a call can be, whatever it is lent: each of them is far below what a word can tell. Proved in proofs/RunBounds.
use Rattle.std.specs.Prelude.{◌≤◌}
use Rattle.relations.specs.Limits.{column_limit, plan_node_limit, word_limit}
use Rattle.running.specs.RunCall.{RunNumbers}

pub record Bounded (numbers : RunNumbers) : Type 0 where
  pub place : numbers.place ≤ plan_node_limit
  pub nodes : numbers.nodes ≤ plan_node_limit
  pub heavy : numbers.heavy ≤ plan_node_limit
  pub room : numbers.room ≤ word_limit
  pub width : numbers.width ≤ column_limit
  pub rows : numbers.rows ≤ word_limit
