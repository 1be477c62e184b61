-- The question as a tree. Document 01, "The question", the table of kinds; the comments give each kind's number.
use Rattle.std.specs.Prelude.{List, ℕ, ◌+◌, length}
use Rattle.relations.specs.Comparison.{Operator}
use Rattle.relations.specs.Columns.{Attribute, Constant}

-- "An atom's operand is an attribute of a variable or a constant."
pub data Operand : Type 0 where
  fixed : Constant → Operand
  of_variable : ℕ → Attribute → Operand

-- 8 and 9: a variable, its attribute, an operator, an operand
pub data Atom : Type 0 where
  compare : ℕ → Attribute → Operator → Operand → Atom

-- 3: a variable's whole row, or one attribute of it
pub data Target : Type 0 where
  whole_row : ℕ → Target
  one_attribute : ℕ → Attribute → Target

mutual
  pub data Range : Type 0 where
    -- 1: a relation
    table : ℕ → Range
    -- 2: targets; the first binding's variable and range, the next bindings; a condition or none
    alpha : List Target → ℕ → Range → Bindings → MaybeCondition → Range
    -- 5, 6, 7
    range_or range_and range_and_not : Range → Range → Range

  -- 4: the bindings behind the first, each a variable and its range
  pub data Bindings : Type 0 where
    no_more : Bindings
    bind : ℕ → Range → Bindings → Bindings

  pub data MaybeCondition : Type 0 where
    no_condition : MaybeCondition
    on_condition : Condition → MaybeCondition

  pub data Condition : Type 0 where
    atom : Atom → Condition
    -- 10, 11, 12
    condition_and condition_or : Condition → Condition → Condition
    condition_not : Condition → Condition
    -- 13, 14: a variable, its range, a condition
    for_some for_every : ℕ → Range → Condition → Condition
    -- 16: a variable, its range, a condition, how many rows at least
    for_at_least : ℕ → Range → Condition → ℕ → Condition

-- the nodes of the question's table that a tree stands for, those of targets and bindings included
unfoldable mutual
  pub range_nodes : Range → ℕ
  range_nodes (table relation) = 1
  range_nodes (alpha targets variable range bindings restriction) = 2 + length targets + range_nodes range + binding_nodes bindings + maybe_nodes restriction
  range_nodes (range_or a b) = range_nodes a + range_nodes b + 1
  range_nodes (range_and a b) = range_nodes a + range_nodes b + 1
  range_nodes (range_and_not a b) = range_nodes a + range_nodes b + 1

  pub binding_nodes : Bindings → ℕ
  binding_nodes no_more = 0
  binding_nodes (bind variable range bindings) = range_nodes range + 1 + binding_nodes bindings

  pub maybe_nodes : MaybeCondition → ℕ
  maybe_nodes no_condition = 0
  maybe_nodes (on_condition f) = condition_nodes f

  pub condition_nodes : Condition → ℕ
  condition_nodes (atom a) = 1
  condition_nodes (condition_and f g) = condition_nodes f + condition_nodes g + 1
  condition_nodes (condition_or f g) = condition_nodes f + condition_nodes g + 1
  condition_nodes (condition_not f) = condition_nodes f + 1
  condition_nodes (for_some variable range f) = range_nodes range + 1 + condition_nodes f
  condition_nodes (for_every variable range f) = range_nodes range + condition_nodes f + 1
  condition_nodes (for_at_least variable range f least) = range_nodes range + 1 + condition_nodes f
