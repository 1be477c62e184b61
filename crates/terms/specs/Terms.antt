-- What the code's attributes, constants and operators stand for. Assumes nothing.
use Rattle.relations.specs.Comparison as comparison
use Rattle.relations.specs.Columns as columns
use Rattle.terms.specs.declared.attribute.Attribute.{Attribute}
use Rattle.terms.specs.declared.constant.Constant.{Constant}
use Rattle.terms.specs.declared.operator.Operator.{Operator}
use Rattle.terms.specs.declared.operator.Operator.TheVariants.{Equal, NotEqual, Less, AtMost, Greater, AtLeast}

abbrev pub attribute_in : Attribute → columns.Attribute
attribute_in a = columns.attribute a.0

abbrev pub constant_in : Constant → columns.Constant
constant_in c = columns.constant c.0

abbrev pub operator_in : Operator → comparison.Operator
operator_in Equal = comparison.equal
operator_in NotEqual = comparison.not_equal
operator_in Less = comparison.less
operator_in AtMost = comparison.at_most
operator_in Greater = comparison.greater
operator_in AtLeast = comparison.at_least
