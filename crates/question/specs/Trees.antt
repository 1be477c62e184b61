-- A question's table as a tree, and that tree as `calculus` reads it. Assumes nothing.
-- The trees of all nodes below n are one list, each made from those before it.
use Rattle.std.specs.Prelude.{ℕ, zero, suc, ◌+◌, List, [], ◌∷◌, ◌++◌, get_or}
use Rattle.relations.specs.Comparison.{equal}
use Rattle.terms.specs.Terms.{operator_in}
use Rattle.relations.specs.Columns.{attribute, constant}
use Rattle.calculus.specs.Question as calculus
use Rattle.nodes.specs.Nodes.{node_at, node_count}
use Rattle.nodes.specs.declared.node.Operand.{Operand}
use Rattle.nodes.specs.declared.node.Operand.TheVariants.{Of, Fixed}
use Rattle.nodes.specs.declared.node.Atom.{Atom}
use Rattle.nodes.specs.declared.node.Combination.{Combination}
use Rattle.nodes.specs.declared.node.Combination.TheVariants as combination
use Rattle.nodes.specs.declared.node.Connective.{Connective}
use Rattle.nodes.specs.declared.node.Connective.TheVariants as connective
use Rattle.nodes.specs.declared.node.Quantifier.{Quantifier}
use Rattle.nodes.specs.declared.node.Quantifier.TheVariants as quantifier
use Rattle.nodes.specs.declared.node.Binder.{Binder}
use Rattle.nodes.specs.declared.node.Binder.TheVariants.{Binding, Quantifies}
use Rattle.nodes.specs.declared.node.Form.{Form}
use Rattle.nodes.specs.declared.node.Form.TheVariants.{Table, Alpha, Target, Binds, Combines, Compares, Connects, IllFormed}

-- a node's number and form, and the trees of the nodes that its a, b and c name
pub data Tree : Type 0 where
  nothing : Tree
  branch : ℕ → Form → Tree → Tree → Tree → Tree

-- the tree that a reference names, among the trees of the nodes in order; 0 names none
abbrev pub named : List Tree → ℕ → Tree
named trees zero = nothing
named trees (suc i) = get_or trees i nothing

module _ (words : List ℕ) where
  abbrev pub grown : ℕ → List Tree → Tree
  grown i below = branch i (node_at words i).form (named below (node_at words i).a) (named below (node_at words i).b) (named below (node_at words i).c)

  unfoldable pub trees_below : ℕ → List Tree
  trees_below zero = []
  trees_below (suc n) = trees_below n ++ (grown n (trees_below n) ∷ [])

  -- the tree that a reference names
  unfoldable pub tree_of : ℕ → Tree
  tree_of zero = nothing
  tree_of (suc i) = grown i (trees_below i)

  -- the question: the last node's tree
  abbrev pub question_tree : Tree
  question_tree = tree_of (node_count words)

unfoldable pub tree_nodes : Tree → ℕ
tree_nodes nothing = 0
tree_nodes (branch i form a b c) = tree_nodes a + tree_nodes b + tree_nodes c + 1

-- What a tree is as a part of `calculus`' question, whatever its place asks for; sorts that do not fit give something that refusal 2 shuts out.
pub record Reading : Type 0 where
  pub targets : List calculus.Target
  pub range : calculus.Range
  pub bindings : calculus.Bindings
  pub restriction : calculus.MaybeCondition
  pub condition : calculus.Condition

abbrev pub operand_of : Operand → calculus.Operand
operand_of (Of variable number) = calculus.of_variable variable (attribute number.0)
operand_of (Fixed value) = calculus.fixed (constant value.0)

abbrev pub atom_of : Atom → calculus.Atom
atom_of atom = calculus.compare atom.variable (attribute atom.attribute.0) (operator_in atom.operator) (operand_of atom.operand)

-- "b attribute (0 = whole row)"
abbrev pub target_of : (variable number : ℕ) → calculus.Target
target_of variable zero = calculus.whole_row variable
target_of variable (suc n) = calculus.one_attribute variable (attribute (suc n))

abbrev pub no_condition : calculus.Condition
no_condition = calculus.condition_not (calculus.atom (calculus.compare 0 (attribute 0) equal (calculus.fixed (constant 0))))

abbrev pub blank : Reading
blank = record { targets = []; range = calculus.table 0; bindings = calculus.no_more; restriction = calculus.no_condition; condition = no_condition }

abbrev pub some_targets : List calculus.Target → Reading
some_targets targets = record { targets = targets; range = calculus.table 0; bindings = calculus.no_more; restriction = calculus.no_condition; condition = no_condition }

abbrev pub a_range : calculus.Range → Reading
a_range range = record { targets = []; range = range; bindings = calculus.no_more; restriction = calculus.no_condition; condition = no_condition }

abbrev pub some_bindings : calculus.Bindings → Reading
some_bindings bindings = record { targets = []; range = calculus.table 0; bindings = bindings; restriction = calculus.no_condition; condition = no_condition }

abbrev pub a_condition : calculus.Condition → Reading
a_condition condition = record { targets = []; range = calculus.table 0; bindings = calculus.no_more; restriction = calculus.on_condition condition; condition = condition }

-- an alpha has a first binding
abbrev pub alpha_of : List calculus.Target → calculus.Bindings → calculus.MaybeCondition → calculus.Range
alpha_of targets calculus.no_more restriction = calculus.table 0
alpha_of targets (calculus.bind variable range bindings) restriction = calculus.alpha targets variable range bindings restriction

abbrev pub combined : Combination → (left right : calculus.Range) → calculus.Range
combined combination.Or left right = calculus.range_or left right
combined combination.And left right = calculus.range_and left right
combined combination.AndNot left right = calculus.range_and_not left right

abbrev pub connected : Connective → (left right : calculus.Condition) → calculus.Condition
connected connective.And left right = calculus.condition_and left right
connected connective.Or left right = calculus.condition_or left right
connected connective.Not left right = calculus.condition_not left

abbrev pub quantified : Quantifier → ℕ → calculus.Range → calculus.Condition → calculus.Condition
quantified quantifier.Some variable range condition = calculus.for_some variable range condition
quantified quantifier.Every variable range condition = calculus.for_every variable range condition
quantified (quantifier.AtLeast least) variable range condition = calculus.for_at_least variable range condition least

abbrev pub binder_reading : Binder → ℕ → (b c : Reading) → Reading
binder_reading Binding variable b c = some_bindings (calculus.bind variable b.range c.bindings)
binder_reading (Quantifies quantifier) variable b c = a_condition (quantified quantifier variable b.range c.condition)

-- a node's reading, from those of its a, b and c
abbrev pub reading_of : Form → (a b c : Reading) → Reading
reading_of (Table relation) a b c = a_range (calculus.table relation)
reading_of Alpha a b c = a_range (alpha_of a.targets b.bindings c.restriction)
reading_of (Target variable number) a b c = some_targets (target_of variable number.0 ∷ c.targets)
reading_of (Binds variable binder) a b c = binder_reading binder variable b c
reading_of (Combines combination) a b c = a_range (combined combination a.range b.range)
reading_of (Compares atom) a b c = a_condition (calculus.atom (atom_of atom))
reading_of (Connects connective) a b c = a_condition (connected connective a.condition b.condition)
reading_of IllFormed a b c = blank

unfoldable pub reading : Tree → Reading
reading nothing = blank
reading (branch i form a b c) = reading_of form (reading a) (reading b) (reading c)

-- the question of a table
abbrev pub question_of : List ℕ → calculus.Range
question_of words = (reading (question_tree words)).range
