-- The leaves that the code collects, and the atoms of `calculus` that they stand for. Assumes nothing.
use Rattle.std.specs.Prelude.{ℕ, ◌+◌, ◌*◌, ◌≤◌, ◌<◌, ◌≡◌, Bool, cond, List, [], ◌∷◌, ◌++◌, map, length, get_or, take, replicate}
use Rattle.std.proofs.lemmas.List.Edits.{sets}
use Rattle.relations.specs.Limits.{question_node_limit, question_node_words}
use Rattle.calculus.specs.Question as calculus
use Rattle.calculus.specs.Leaves.{is_and_tree, is_or_tree, opposite_atom}
use Rattle.terms.specs.declared.operator.Operator.TheVariants.{Equal}
use Rattle.nodes.specs.Nodes.{node_at}
use Rattle.question.specs.Trees.{Tree, nothing, branch, tree_of, reading, atom_of}
use Rattle.nodes.specs.declared.node.Operand.TheVariants.{Fixed}
use Rattle.nodes.specs.declared.node.Atom.{Atom}
use Rattle.nodes.specs.declared.node.Form.{Form}
use Rattle.nodes.specs.declared.node.Form.TheVariants.{Table, Alpha, Target, Binds, Combines, Compares, Connects, IllFormed}
use Rattle.conditions.specs.declared.leaves.Leaves.{Leaves}

abbrev pub empty_atom : Atom
empty_atom = record { variable = 0; attribute = record { 0 = 0 }; operator = Equal; operand = Fixed (record { 0 = 0 }) }

-- a node's atom; a node of another form has the empty one
abbrev pub atom_in : Form → Atom
atom_in (Table relation) = empty_atom
atom_in Alpha = empty_atom
atom_in (Target variable attribute) = empty_atom
atom_in (Binds variable binder) = empty_atom
atom_in (Combines combination) = empty_atom
atom_in (Compares atom) = atom
atom_in (Connects connective) = empty_atom
atom_in IllFormed = empty_atom

abbrev pub leaf_of : Form → calculus.Atom
leaf_of form = atom_of (atom_in form)

-- the numbers of a tree's leaves, left to right: those of the two sides of an "and" or an "or", else its own if it is an atom

abbrev pub numbers_below : calculus.Condition → ℕ → List ℕ → List ℕ → List ℕ
numbers_below (calculus.atom a) number first second = number ∷ []
numbers_below (calculus.condition_and f g) number first second = first ++ second
numbers_below (calculus.condition_or f g) number first second = first ++ second
numbers_below (calculus.condition_not f) number first second = []
numbers_below (calculus.for_some variable range f) number first second = []
numbers_below (calculus.for_every variable range f) number first second = []
numbers_below (calculus.for_at_least variable range f least) number first second = []

unfoldable pub leaf_numbers : Tree → List ℕ
leaf_numbers nothing = []
leaf_numbers (branch number form a b c) = numbers_below (reading (branch number form a b c)).condition number (leaf_numbers a) (leaf_numbers b)

unfoldable pub no_leaves : Leaves
no_leaves = record { numbers = replicate question_node_limit 0; count = 0 }

abbrev pub numbers_in : Leaves → List ℕ
numbers_in leaves = take leaves.count leaves.numbers

-- more leaves behind those there are
unfoldable pub with_leaves : Leaves → List ℕ → Leaves
with_leaves leaves more = record { numbers = sets leaves.numbers leaves.count more; count = leaves.count + length more }

-- "or" above every leaf and nothing else, or "and"
abbrev pub is_tree : Bool → calculus.Condition → Bool
is_tree disjoined f = cond disjoined (is_or_tree f) (is_and_tree f)

module _ (words : List ℕ) where
  abbrev pub leaf_numbered : ℕ → calculus.Atom
  leaf_numbered number = leaf_of (node_at words number).form

  -- the atom of a leaf, or its opposite
  abbrev pub leaf_at : Bool → ℕ → calculus.Atom
  leaf_at opposite number = cond opposite (opposite_atom (leaf_numbered number)) (leaf_numbered number)

  abbrev pub atoms_of : Bool → List ℕ → List calculus.Atom
  atoms_of opposite numbers = map (leaf_at opposite) numbers

  pub record LeavesFit (numbers : List ℕ) : Type 0 where
    pub few : length numbers ≤ question_node_limit
    pub inside : (i : ℕ) → i < length numbers → get_or numbers i 0 * question_node_words + question_node_words ≤ length words

  -- a reference's leaves can be collected behind others
  pub record Collectable (reference : ℕ) (leaves : Leaves) : Type 0 where
    pub named : 1 ≤ reference
    pub inside : reference * question_node_words ≤ length words
    pub whole : length leaves.numbers ≡ question_node_limit
    pub room : leaves.count + length (leaf_numbers (tree_of words reference)) ≤ question_node_limit
