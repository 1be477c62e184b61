-- The shortened mode's rules S1 to S6: when each fits, and the nodes that it writes. Document 01, "Translation"; RULINGS 11 to 14.
-- A rule gets the nodes of its ranges already written; n nodes stand before them, and P is node p.
use Rattle.std.specs.Prelude.{Bool, true, false, ◌&&◌, ◌||◌, cond, List, [], ◌∷◌, ◌++◌, map, ℕ, suc, ◌+◌, pred, leb, eqb, length}
use Rattle.relations.specs.Limits.{triple_limit, pair_limit}
use Rattle.relations.specs.Lists.{all, filter}
use Rattle.relations.specs.Comparison.{equal, turned}
use Rattle.relations.specs.Columns.{Attribute, attribute, Triple, Pair}
use Rattle.relations.specs.Nodes.{Node, project, select_constant, select_attribute, semijoin, antijoin, divide, unite}
use Rattle.relations.specs.Legality.{between}
use Rattle.calculus.specs.Question.{fixed, of_variable, Atom, compare, Condition, atom, condition_and, condition_or, condition_not, for_some, for_every, for_at_least}
use Rattle.calculus.specs.Scope.{entry, Scope, column_of, all_columns}
use Rattle.calculus.specs.Leaves.{is_and_tree, is_or_tree, leaves, opposite_atom, alone_on, compares_with_other, equates_with, equates_outside, own_attribute, other_variable, other_attribute}

-- the number of the last of the nodes, written after n others: what they are worth is its value
abbrev pub last_number : ℕ → List Node → ℕ
last_number n nodes = pred (n + length nodes)

-- Atom: select. A select keeps the atom's sides.
abbrev pub select_node : Scope → ℕ → Atom → Node
select_node s p (compare variable a operator (fixed c)) = select_constant p (column_of s variable a) operator c
select_node s p (compare variable a operator (of_variable other b)) = select_attribute p (column_of s variable a) operator (column_of s other b)

-- a select for each atom, each on the value before
abbrev pub select_nodes : Scope → List Atom → ℕ → ℕ → List Node
select_nodes s [] p n = []
select_nodes s (a ∷ atoms) p n = select_node s p a ∷ select_nodes s atoms n (suc n)

-- S1. "A project on all columns in order is not written."

abbrev pub same_attributes : List Attribute → List Attribute → Bool
same_attributes [] [] = true
same_attributes [] (b ∷ bs) = false
same_attributes (a ∷ rest) [] = false
same_attributes (a ∷ rest) (b ∷ bs) = eqb a.number b.number && same_attributes rest bs

abbrev pub short_rule1_fits : ℕ → List Attribute → Bool
short_rule1_fits width attributes = same_attributes attributes (all_columns width)

-- a project of node p, which is so wide; not written where S1 fits
abbrev pub project_nodes : Bool → ℕ → ℕ → List Attribute → List Node
project_nodes short width p attributes = cond (short && short_rule1_fits width attributes) [] (project p attributes ∷ [])

-- S2. "Some x" whose and-tree has only atoms, each on x alone or comparing x with another variable, the latter at most 8: range, a select for each atom on x alone, semijoin from P.

-- "atoms of S2's kinds and number"
abbrev pub short_rule2_atoms : ℕ → List Atom → Bool
short_rule2_atoms x atoms = all (λ a. alone_on x a || compares_with_other x a) atoms && leb (length (filter (compares_with_other x) atoms)) triple_limit

abbrev pub short_rule2_fits : ℕ → Condition → Bool
short_rule2_fits x f = is_and_tree f && short_rule2_atoms x (leaves f)

-- "A triple has P's column on the left; the operator is turned when the sides are."
abbrev pub triple_of : Scope → ℕ → Atom → Triple
triple_of s x (compare variable a operator (fixed c)) = record { left = a; operator = operator; right = a }
triple_of s x (compare variable a o (of_variable other b)) = cond (eqb variable x) (record { left = column_of s other b; operator = turned o; right = a }) (record { left = column_of s variable a; operator = o; right = b })

abbrev pub triples_of : Scope → ℕ → List Atom → List Triple
triples_of s x atoms = map (triple_of s x) (filter (compares_with_other x) atoms)

-- the range of x, then a select for each atom on x alone
abbrev pub restricted_range : ℕ → ℕ → List Atom → List Node → ℕ → List Node
restricted_range x width atoms range n = range ++ select_nodes (entry x width ∷ []) (filter (alone_on x) atoms) (last_number n range) (n + length range)

abbrev pub short_rule2_nodes : Scope → ℕ → ℕ → List Atom → List Node → ℕ → ℕ → List Node
short_rule2_nodes s x width atoms range p n =
    let restricted = restricted_range x width atoms range n in
    restricted ++ (semijoin p (last_number n restricted) (triples_of s x atoms) ∷ [])

-- S3. Not directly above a "some" that S2 fits: the same with an antijoin.

abbrev pub short_rule3_fits : Condition → Bool
short_rule3_fits (atom a) = false
short_rule3_fits (condition_and f g) = false
short_rule3_fits (condition_or f g) = false
short_rule3_fits (condition_not f) = false
short_rule3_fits (for_some x range f) = short_rule2_fits x f
short_rule3_fits (for_every x range f) = false
short_rule3_fits (for_at_least x range f least) = false

abbrev pub short_rule3_nodes : Scope → ℕ → ℕ → List Atom → List Node → ℕ → ℕ → List Node
short_rule3_nodes s x width atoms range p n =
    let restricted = restricted_range x width atoms range n in
    restricted ++ (antijoin p (last_number n restricted) (triples_of s x atoms) ∷ [])

-- S4. "Every x" whose or-tree has only atoms of S2's kinds and number: range, selects and antijoin, every operator turned to its opposite.

abbrev pub short_rule4_fits : ℕ → Condition → Bool
short_rule4_fits x f = is_or_tree f && short_rule2_atoms x (leaves f)

abbrev pub short_rule4_nodes : Scope → ℕ → ℕ → List Atom → List Node → ℕ → ℕ → List Node
short_rule4_nodes s x width atoms range p n = short_rule3_nodes s x width (map opposite_atom atoms) range p n

-- S5. "Every y" directly above "some z" whose and-tree has only atoms: on z alone; z = y; z = a variable outside; 1 to 8 of each of the last two.

abbrev pub short_rule5_atoms : ℕ → ℕ → List Atom → Bool
short_rule5_atoms z y atoms = all (λ a. alone_on z a || (equates_with z y a || equates_outside z y a)) atoms && (between 1 pair_limit (length (filter (equates_with z y) atoms)) && between 1 triple_limit (length (filter (equates_outside z y) atoms)))

abbrev pub short_rule5_fits : ℕ → Condition → Bool
short_rule5_fits y (atom a) = false
short_rule5_fits y (condition_and f g) = false
short_rule5_fits y (condition_or f g) = false
short_rule5_fits y (condition_not f) = false
short_rule5_fits y (for_some z range f) = is_and_tree f && short_rule5_atoms z y (leaves f)
short_rule5_fits y (for_every z range f) = false
short_rule5_fits y (for_at_least z range f least) = false

-- semijoin triples (P's column, =, i), i from the number given
abbrev pub outside_triples : Scope → ℕ → List Atom → ℕ → List Triple
outside_triples s z [] i = []
outside_triples s z (a ∷ atoms) i = record { left = column_of s (other_variable z a) (other_attribute z a); operator = equal; right = attribute i } ∷ outside_triples s z atoms (suc i)

-- division pairs (i, y's attribute), i from the number given
abbrev pub division_pairs : ℕ → List Atom → ℕ → List Pair
division_pairs z [] i = []
division_pairs z (a ∷ atoms) i = record { left = attribute i; right = other_attribute z a } ∷ division_pairs z atoms (suc i)

-- "project to z's attribute in each outside atom and then in each y atom, repeats kept"
abbrev pub short_rule5_columns : ℕ → ℕ → List Atom → List Attribute
short_rule5_columns z y atoms = map (own_attribute z) (filter (equates_outside z y) atoms) ++ map (own_attribute z) (filter (equates_with z y) atoms)

-- y's range is node k and stands before these: "range of z, selects, project .., division by y's range, semijoin from P, antijoin of P by y's range with count 0, union"
abbrev pub short_rule5_nodes : Scope → ℕ → ℕ → ℕ → ℕ → List Atom → List Node → ℕ → ℕ → List Node
short_rule5_nodes s y k z width atoms range p n =
    let restricted = restricted_range z width atoms range n in
    let outside = filter (equates_outside z y) atoms in
    let dividend = restricted ++ project_nodes true width (last_number n restricted) (short_rule5_columns z y atoms) in
    let q = n + length dividend in
    dividend ++ (divide (pred q) k (division_pairs z (filter (equates_with z y) atoms) (suc (length outside))) ∷ semijoin p q (outside_triples s z outside 1) ∷ antijoin p k [] ∷ unite (suc q) (suc (suc q)) ∷ [])

-- S6. Not directly above an atom: one select, opposite operator.

abbrev pub short_rule6_fits : Condition → Bool
short_rule6_fits (atom a) = true
short_rule6_fits (condition_and f g) = false
short_rule6_fits (condition_or f g) = false
short_rule6_fits (condition_not f) = false
short_rule6_fits (for_some x range f) = false
short_rule6_fits (for_every x range f) = false
short_rule6_fits (for_at_least x range f least) = false

abbrev pub short_rule6_nodes : Scope → ℕ → Atom → List Node
short_rule6_nodes s p a = select_node s p (opposite_atom a) ∷ []
