-- An atom's attributes are small enough to be written; an atom by its sides. Assumes nothing.
use Rattle.std.specs.Prelude.{ℕ, ◌≤◌}
use Rattle.relations.specs.Limits.{column_limit}
use Rattle.calculus.specs.Question as calculus
use Rattle.calculus.specs.Leaves.{own_attribute, other_variable, other_attribute}
use Rattle.nodes.specs.declared.node.Operand.{Operand}
use Rattle.nodes.specs.declared.node.Operand.TheVariants.{Of, Fixed}
use Rattle.nodes.specs.declared.node.Atom.{Atom}
use Rattle.conditions.specs.declared.atom.Sides.{Sides}

abbrev pub OperandNarrow : Operand → Type 0
OperandNarrow (Of variable attribute) = attribute.0 ≤ column_limit
OperandNarrow (Fixed constant) = Unit {0}

pub record AtomNarrow (atom : Atom) : Type 0 where
  pub attribute : atom.attribute.0 ≤ column_limit
  pub operand : OperandNarrow atom.operand

abbrev pub sides_of : ℕ → calculus.Atom → Sides
sides_of z atom = record { own = record { 0 = (own_attribute z atom).number }; variable = other_variable z atom; other = record { 0 = (other_attribute z atom).number } }
