-- Nodes of another sort than the one asked for: what they read as. Assumes nothing.
use Prim.Native.Nat.{ℕ}
use mathlib.Core.Path.{◌≡◌, refl}
use mathlib.Core.Bool.{Bool, true, false, cond}
use mathlib.Core.List.{List, []}
use native.Mathlib.Omega.{arith}
use Rattle.calculus.specs.Question as calculus
use Rattle.calculus.specs.Question.{table, on_condition}
use Rattle.calculus.specs.Scope as scopes
use Rattle.calculus.specs.Form.{GoodCondition}
use Rattle.question.specs.Trees.{Tree, nothing, branch, tree_of, Reading, reading, reading_of}
use Rattle.nodes.specs.declared.node.Quantifier.TheVariants.{Some, Every, AtLeast}
use Rattle.nodes.specs.declared.node.Binder.TheVariants.{Binding, Quantifies}
use Rattle.nodes.specs.declared.node.Form.{Form}
use Rattle.nodes.specs.declared.node.Form.TheVariants.{Table, Alpha, Target, Binds, Combines, Compares, Connects, IllFormed}
use Rattle.nodes.specs.declared.node.Atom.{Atom}
use Rattle.nodes.specs.declared.node.Binder.{Binder}
use Rattle.nodes.specs.declared.node.Combination.{Combination}
use Rattle.nodes.specs.declared.node.Connective.{Connective}
use Rattle.terms.specs.declared.attribute.Attribute.{Attribute}
use Rattle.conditions.specs.Readings.{restriction_at, condition_at}
use Rattle.conditions.specs.Leaves.{numbers_below, is_tree}

-- a node that is no range reads as relation 0
pub no_range : (form : Form) (a b c : Reading) → ((relation : ℕ) → form ≡ Table relation → ⊥) → (form ≡ Alpha → ⊥) → ((combination : Combination) → form ≡ Combines combination → ⊥) → (reading_of form a b c).range ≡ table 0
no_range (Table relation) a b c no_table no_alpha no_ranges = absurd (no_table relation refl)
no_range Alpha a b c no_table no_alpha no_ranges = absurd (no_alpha refl)
no_range (Target variable attribute) a b c no_table no_alpha no_ranges = refl
no_range (Binds variable Binding) a b c no_table no_alpha no_ranges = refl
no_range (Binds variable (Quantifies quantifier)) a b c no_table no_alpha no_ranges = refl
no_range (Combines combination) a b c no_table no_alpha no_ranges = absurd (no_ranges combination refl)
no_range (Compares atom) a b c no_table no_alpha no_ranges = refl
no_range (Connects connective) a b c no_table no_alpha no_ranges = refl
no_range IllFormed a b c no_table no_alpha no_ranges = refl

-- a node that is no target reads as none
pub no_targets : (form : Form) (a b c : Reading) → ((variable : ℕ) (attribute : Attribute) → form ≡ Target variable attribute → ⊥) → (reading_of form a b c).targets ≡ []
no_targets (Table relation) a b c no_target = refl
no_targets Alpha a b c no_target = refl
no_targets (Target variable attribute) a b c no_target = absurd (no_target variable attribute refl)
no_targets (Binds variable Binding) a b c no_target = refl
no_targets (Binds variable (Quantifies quantifier)) a b c no_target = refl
no_targets (Combines combination) a b c no_target = refl
no_targets (Compares atom) a b c no_target = refl
no_targets (Connects connective) a b c no_target = refl
no_targets IllFormed a b c no_target = refl

-- a node that is neither an atom, joined nor a binder reads as no condition
pub no_restriction : (form : Form) (a b c : Reading) → ((variable : ℕ) (binder : Binder) → form ≡ Binds variable binder → ⊥) → ((atom : Atom) → form ≡ Compares atom → ⊥) → ((connective : Connective) → form ≡ Connects connective → ⊥) → (reading_of form a b c).restriction ≡ calculus.no_condition
no_restriction (Table relation) a b c no_binder no_atom not_joined = refl
no_restriction Alpha a b c no_binder no_atom not_joined = refl
no_restriction (Target variable attribute) a b c no_binder no_atom not_joined = refl
no_restriction (Binds variable binder) a b c no_binder no_atom not_joined = absurd (no_binder variable binder refl)
no_restriction (Combines combination) a b c no_binder no_atom not_joined = refl
no_restriction (Compares atom) a b c no_binder no_atom not_joined = absurd (no_atom atom refl)
no_restriction (Connects connective) a b c no_binder no_atom not_joined = absurd (not_joined connective refl)
no_restriction IllFormed a b c no_binder no_atom not_joined = refl

-- a condition that has no leaves and is no tree
pub record NoLeaves (f : calculus.Condition) : Type 0 where
  pub no_numbers : (number : ℕ) (first second : List ℕ) → numbers_below f number first second ≡ []
  pub no_tree : (disjoined : Bool) → is_tree disjoined f ≡ false

neither : (disjoined : Bool) → cond disjoined false false ≡ false
neither true = refl
neither false = refl

pub not_leaves : (f : calculus.Condition) → NoLeaves (calculus.condition_not f)
not_leaves f = record { no_numbers = λ number first second. refl; no_tree = neither }

-- as one that is neither an atom nor joined is
pub no_leaves : (form : Form) (a b c : Reading) → ((atom : Atom) → form ≡ Compares atom → ⊥) → ((connective : Connective) → form ≡ Connects connective → ⊥) → NoLeaves (reading_of form a b c).condition
no_leaves (Table relation) a b c no_atom not_joined = not_leaves _
no_leaves Alpha a b c no_atom not_joined = not_leaves _
no_leaves (Target variable attribute) a b c no_atom not_joined = not_leaves _
no_leaves (Binds variable Binding) a b c no_atom not_joined = not_leaves _
no_leaves (Binds variable (Quantifies Some)) a b c no_atom not_joined = record { no_numbers = λ number first second. refl; no_tree = neither }
no_leaves (Binds variable (Quantifies Every)) a b c no_atom not_joined = record { no_numbers = λ number first second. refl; no_tree = neither }
no_leaves (Binds variable (Quantifies (AtLeast least))) a b c no_atom not_joined = record { no_numbers = λ number first second. refl; no_tree = neither }
no_leaves (Combines combination) a b c no_atom not_joined = not_leaves _
no_leaves (Compares atom) a b c no_atom not_joined = absurd (no_atom atom refl)
no_leaves (Connects connective) a b c no_atom not_joined = absurd (not_joined connective refl)
no_leaves IllFormed a b c no_atom not_joined = not_leaves _

-- A condition of good form is read from a condition's node: the others read as "not" of an atom without a column.
module _ (columns : ℕ → ℕ) (relations : ℕ) (s : scopes.Scope) where
  reads_condition : (form : Form) (a b c : Reading) → GoodCondition columns relations (reading_of form a b c).condition s → (reading_of form a b c).restriction ≡ on_condition (reading_of form a b c).condition
  unfolding GoodCondition
  reads_condition (Table relation) a b c g = absurd (omega (arith, g.0))
  reads_condition Alpha a b c g = absurd (omega (arith, g.0))
  reads_condition (Target variable attribute) a b c g = absurd (omega (arith, g.0))
  reads_condition (Binds variable Binding) a b c g = absurd (omega (arith, g.0))
  reads_condition (Binds variable (Quantifies quantifier)) a b c g = refl
  reads_condition (Combines combination) a b c g = absurd (omega (arith, g.0))
  reads_condition (Compares atom) a b c g = refl
  reads_condition (Connects connective) a b c g = refl
  reads_condition IllFormed a b c g = absurd (omega (arith, g.0))

  tree_condition : (tree : Tree) → GoodCondition columns relations (reading tree).condition s → (reading tree).restriction ≡ on_condition (reading tree).condition
  unfolding reading GoodCondition
  tree_condition nothing g = absurd (omega (arith, g.0))
  tree_condition (branch i form a b c) g = reads_condition form (reading a) (reading b) (reading c) g

  pub restriction-good : (words : List ℕ) (reference : ℕ) → GoodCondition columns relations (condition_at words reference) s → restriction_at words reference ≡ on_condition (condition_at words reference)
  restriction-good words reference g = tree_condition (tree_of words reference) g
