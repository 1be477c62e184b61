-- The node that an operation on two values makes, and what its list must be. Assumes nothing.
use Rattle.std.specs.Prelude.{ℕ, []}
use Rattle.relations.specs.Nodes.{Node, semijoin, antijoin, divide, unite, intersect, subtract, Operation, operation_of_node, operation_number}
use Rattle.relations.specs.PlanWords.{shape_of}
use Rattle.emission.specs.NodeLists.{triples_in, pairs_in, ListsTriples, ListsPairs, node_list}
use Rattle.emission.specs.declared.node_list.NodeList.{NodeList}
use Rattle.nodes.specs.declared.node.Combination.{Combination}
use Rattle.nodes.specs.declared.node.Combination.TheVariants.{Or, And, AndNot}
use Rattle.emission.specs.declared.emit.Linking.{Linking}
use Rattle.emission.specs.declared.emit.Linking.TheVariants.{Semijoin, Antijoin, Divide}

abbrev pub paired : Combination → ℕ → ℕ → Node
paired Or left right = unite left right
paired And left right = intersect left right
paired AndNot left right = subtract left right

abbrev pub combination_number : Combination → ℕ
combination_number how = operation_number (operation_of_node (paired how 0 0))

abbrev pub linked : Linking → ℕ → ℕ → NodeList → Node
linked Semijoin left right list = semijoin left right (triples_in list)
linked Antijoin left right list = antijoin left right (triples_in list)
linked Divide left right list = divide left right (pairs_in list)

abbrev pub linking_operation : Linking → Operation
linking_operation how = operation_of_node (linked how 0 0 (node_list []))

abbrev pub linking_number : Linking → ℕ
linking_number how = operation_number (linking_operation how)

-- the list words of each one counted
abbrev pub linking_unit : Linking → ℕ
linking_unit how = (shape_of (linking_operation how)).unit

abbrev pub ListsFor : Linking → NodeList → Type 0
ListsFor Semijoin list = ListsTriples list
ListsFor Antijoin list = ListsTriples list
ListsFor Divide list = ListsPairs list
