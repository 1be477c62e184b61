-- Document 01, "The question": the node that six words spell, and its form (refusal 2). Assumes nothing.
use Rattle.std.specs.Prelude.{ℕ, ◌+◌, ◌*◌, ◌-◌, ◌/◌, ◌<◌, List, Bool, true, false, cond, ◌&&◌, get_or, length, leb, eqb}
use Rattle.relations.specs.Comparison as comparison
use Rattle.relations.specs.Limits.{question_node_words, variable_count}
use Rattle.terms.specs.declared.operator.Operator.{Operator}
use Rattle.terms.specs.declared.operator.Operator.TheVariants.{Equal, NotEqual, Less, AtMost, Greater, AtLeast}
use Rattle.nodes.specs.Kinds.{fields_of, words_fit, reference_in}
use Rattle.nodes.specs.declared.node.Operand.{Operand}
use Rattle.nodes.specs.declared.node.Operand.TheVariants.{Of, Fixed}
use Rattle.nodes.specs.declared.node.Combination.TheVariants as combination
use Rattle.nodes.specs.declared.node.Connective.TheVariants as connective
use Rattle.nodes.specs.declared.node.Quantifier.TheVariants as quantifier
use Rattle.nodes.specs.declared.node.Binder.TheVariants.{Binding, Quantifies}
use Rattle.nodes.specs.declared.node.Form.{Form}
use Rattle.nodes.specs.declared.node.Form.TheVariants.{Table, Alpha, Target, Binds, Combines, Compares, Connects, IllFormed}
use Rattle.nodes.specs.declared.node.Node.{Node}

-- how many whole nodes there are
abbrev pub node_count : List ℕ → ℕ
node_count words = length words / question_node_words

-- "A reference is node number plus one and points to a lower node": the kind of the node that a reference of node i names, or 0, which is no kind
unfoldable pub kind_named : List ℕ → ℕ → ℕ → ℕ
kind_named words i reference =
    cond (leb 1 reference && leb reference i) (get_or words ((reference - 1) * question_node_words) 0) 0

-- the operator as the code has it
abbrev pub coded : comparison.Operator → Operator
coded comparison.equal = Equal
coded comparison.not_equal = NotEqual
coded comparison.less = Less
coded comparison.at_most = AtMost
coded comparison.greater = Greater
coded comparison.at_least = AtLeast

abbrev pub compares : (variable attribute operator : ℕ) → Operand → Form
compares variable attribute operator operand = Compares (record { variable = variable; attribute = record { 0 = attribute }; operator = coded (comparison.operator_named operator); operand = operand })

-- the table of kinds: what the words of a kind say, but for the nodes that they name
unfoldable pub form_of : (kind a b c d e : ℕ) → Form
form_of kind a b c d e =
    cond (eqb kind 1) (Table a)
    (cond (eqb kind 2) Alpha
    (cond (eqb kind 3) (Target a (record { 0 = b }))
    (cond (eqb kind 4) (Binds a Binding)
    (cond (eqb kind 5) (Combines combination.Or)
    (cond (eqb kind 6) (Combines combination.And)
    (cond (eqb kind 7) (Combines combination.AndNot)
    (cond (eqb kind 8) (compares a b c (Fixed (record { 0 = d })))
    (cond (eqb kind 9) (compares a b c (Of d (record { 0 = e })))
    (cond (eqb kind 10) (Connects connective.And)
    (cond (eqb kind 11) (Connects connective.Or)
    (cond (eqb kind 12) (Connects connective.Not)
    (cond (eqb kind 13) (Binds a (Quantifies quantifier.Some))
    (cond (eqb kind 14) (Binds a (Quantifies quantifier.Every))
    (cond (eqb kind 16) (Binds a (Quantifies (quantifier.AtLeast d)))
    IllFormed))))))))))))))

-- word j of node i
abbrev pub word_of : List ℕ → ℕ → ℕ → ℕ
word_of words i j = get_or words (i * question_node_words + j) 0

-- the node that six words spell, at node i
abbrev pub formed : List ℕ → ℕ → (kind a b c d e : ℕ) → Node
formed words i kind a b c d e =
    cond (words_fit (kind_named words i) (fields_of kind) a b c d e)
    (record { form = form_of kind a b c d e; a = reference_in (fields_of kind).a a; b = reference_in (fields_of kind).b b; c = reference_in (fields_of kind).c c })
    (record { form = IllFormed; a = 0; b = 0; c = 0 })

-- node i of the table
unfoldable pub node_at : List ℕ → ℕ → Node
node_at words i =
    formed words i (get_or words (i * question_node_words) 0) (word_of words i 1) (word_of words i 2) (word_of words i 3) (word_of words i 4) (word_of words i 5)

abbrev pub is_ill_formed : Form → Bool
is_ill_formed (Table relation) = false
is_ill_formed Alpha = false
is_ill_formed (Target variable attribute) = false
is_ill_formed (Binds variable binder) = false
is_ill_formed (Combines combination) = false
is_ill_formed (Compares atom) = false
is_ill_formed (Connects connective) = false
is_ill_formed IllFormed = true

-- the variables that a node speaks of are there
abbrev pub OperandVariableFits : Operand → Type 0
OperandVariableFits (Of variable attribute) = variable < variable_count
OperandVariableFits (Fixed constant) = Unit {0}

abbrev pub VariablesFit : Form → Type 0
VariablesFit (Table relation) = Unit {0}
VariablesFit Alpha = Unit {0}
VariablesFit (Target variable attribute) = variable < variable_count
VariablesFit (Binds variable binder) = variable < variable_count
VariablesFit (Combines combination) = Unit {0}
VariablesFit (Compares atom) = (atom.variable < variable_count) × OperandVariableFits atom.operand
VariablesFit (Connects connective) = Unit {0}
VariablesFit IllFormed = Unit {0}
