-- An atom read with its operand known. Assumes nothing.
use Prim.Native.Nat.{ℕ, ◌≤◌}
use mathlib.Core.Path.{◌≡◌, ap}
use mathlib.Core.Bool.{Bool, true, false, cond}
use lib.Dec.{eqb}
use Rattle.relations.specs.Limits.{column_limit}
use Rattle.relations.specs.Columns.{Attribute, attribute}
use Rattle.terms.specs.Terms.{operator_in}
use Rattle.calculus.specs.Question.{compare}
use Rattle.calculus.specs.Question as calculus
use Rattle.calculus.specs.Leaves.{other_attribute}
use Rattle.question.specs.Trees.{operand_of, atom_of}
use Rattle.nodes.specs.declared.node.Operand.{Operand}
use Rattle.nodes.specs.declared.node.Operand.TheVariants.{Of, Fixed}
use Rattle.nodes.specs.declared.node.Atom.{Atom}
use Rattle.conditions.specs.Atoms.{OperandNarrow, AtomNarrow, sides_of}
use Rattle.conditions.specs.declared.atom.Sides.{Sides}

abbrev pub with_operand : Atom → Operand → calculus.Atom
with_operand atom operand = compare atom.variable (attribute atom.attribute.0) (operator_in atom.operator) (operand_of operand)

pub read : (atom : Atom) {operand : Operand} → atom.operand ≡ operand → atom_of atom ≡ with_operand atom operand
read atom e = ap (with_operand atom) e
