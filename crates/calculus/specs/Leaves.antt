-- And-trees and or-trees of atoms, and the kinds of atoms that the short rules look for. Document 01, "Translation"; RULINGS 12 and 13.
use Rattle.std.specs.Prelude.{Bool, true, false, not, ◌&&◌, ◌||◌, cond, List, [], ◌∷◌, ◌++◌, ℕ, eqb}
use Rattle.relations.specs.Comparison.{Operator, equal, not_equal, less, at_most, greater, at_least, opposite}
use Rattle.relations.specs.Columns.{Attribute}
use Rattle.calculus.specs.Question.{Operand, fixed, of_variable, Atom, compare, Condition, atom, condition_and, condition_or, condition_not, for_some, for_every, for_at_least}

-- "A lone atom is a tree."
abbrev pub is_and_tree : Condition → Bool
is_and_tree (atom a) = true
is_and_tree (condition_and f g) = is_and_tree f && is_and_tree g
is_and_tree (condition_or f g) = false
is_and_tree (condition_not f) = false
is_and_tree (for_some variable range f) = false
is_and_tree (for_every variable range f) = false
is_and_tree (for_at_least variable range f least) = false

abbrev pub is_or_tree : Condition → Bool
is_or_tree (atom a) = true
is_or_tree (condition_and f g) = false
is_or_tree (condition_or f g) = is_or_tree f && is_or_tree g
is_or_tree (condition_not f) = false
is_or_tree (for_some variable range f) = false
is_or_tree (for_every variable range f) = false
is_or_tree (for_at_least variable range f least) = false

-- "Leaves are taken left to right."
abbrev pub leaves : Condition → List Atom
leaves (atom a) = a ∷ []
leaves (condition_and f g) = leaves f ++ leaves g
leaves (condition_or f g) = leaves f ++ leaves g
leaves (condition_not f) = []
leaves (for_some variable range f) = []
leaves (for_every variable range f) = []
leaves (for_at_least variable range f least) = []

-- the atom with its operator turned to the opposite
abbrev pub opposite_atom : Atom → Atom
opposite_atom (compare variable a operator operand) = compare variable a (opposite operator) operand

-- an atom on x alone
abbrev pub alone_on : ℕ → Atom → Bool
alone_on x (compare variable a operator (fixed c)) = eqb variable x
alone_on x (compare variable a operator (of_variable other b)) = eqb variable x && eqb other x

-- an atom that compares x with another variable
abbrev pub compares_with_other : ℕ → Atom → Bool
compares_with_other x (compare variable a operator (fixed c)) = false
compares_with_other x (compare variable a operator (of_variable other b)) = cond (eqb variable x) (not (eqb other x)) (eqb other x)

abbrev pub is_equal : Operator → Bool
is_equal equal = true
is_equal not_equal = false
is_equal less = false
is_equal at_most = false
is_equal greater = false
is_equal at_least = false

-- a variable and an operand are z and y, in either order
abbrev pub are_both : ℕ → ℕ → ℕ → Operand → Bool
are_both z y variable (fixed c) = false
are_both z y variable (of_variable other b) = (eqb variable z && eqb other y) || (eqb variable y && eqb other z)

-- z = y (S5)
abbrev pub equates_with : ℕ → ℕ → Atom → Bool
equates_with z y (compare variable a operator operand) = is_equal operator && are_both z y variable operand

-- z = a variable outside (S5)
abbrev pub equates_outside : ℕ → ℕ → Atom → Bool
equates_outside z y (compare variable a operator operand) = is_equal operator && (compares_with_other z (compare variable a operator operand) && not (are_both z y variable operand))

-- of an atom that compares z with another variable: z's attribute, the other variable, the other's attribute
abbrev pub own_attribute : ℕ → Atom → Attribute
own_attribute z (compare variable a operator (fixed c)) = a
own_attribute z (compare variable a operator (of_variable other b)) = cond (eqb variable z) a b

abbrev pub other_variable : ℕ → Atom → ℕ
other_variable z (compare variable a operator (fixed c)) = variable
other_variable z (compare variable a operator (of_variable other b)) = cond (eqb variable z) other variable

abbrev pub other_attribute : ℕ → Atom → Attribute
other_attribute z (compare variable a operator (fixed c)) = a
other_attribute z (compare variable a operator (of_variable other b)) = cond (eqb variable z) b a
