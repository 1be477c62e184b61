-- The select that an attribute, an operator and what it is compared with make. Assumes nothing.
use Rattle.std.specs.Prelude.{ℕ}
use Rattle.relations.specs.Columns.{attribute, constant}
use Rattle.relations.specs.Nodes.{Node, select_constant, select_attribute}
use Rattle.terms.specs.Terms.{operator_in}
use Rattle.terms.specs.declared.operator.Operator.{Operator}
use Rattle.emission.specs.declared.emit.Comparand.{Comparand}
use Rattle.emission.specs.declared.emit.Comparand.TheVariants.{Attribute, Constant}

abbrev pub selecting : ℕ → ℕ → Operator → Comparand → Node
selecting left number operator (Attribute other) = select_attribute left (attribute number) (operator_in operator) (attribute other.0)
selecting left number operator (Constant value) = select_constant left (attribute number) (operator_in operator) (constant value.0)
