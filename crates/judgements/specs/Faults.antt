-- Document 01, refusals 5 and 6: the scope in which each node stands, the faults that it can have there, and the lowest node at fault.
-- Scopes and widths are `calculus`': for each variable in scope, from left to right, the width of its rows. Assumes nothing.
use Rattle.std.specs.Prelude.{ℕ, ◌+◌, List, [], ◌∷◌, Bool, false, cond, not, ◌&&◌, ◌||◌, ltb, eqb}
use Rattle.relations.specs.Limits.{column_limit}
use Rattle.calculus.specs.Scope.{Scope, entry, extend, columns_in, width_in}
use Rattle.calculus.specs.Form.{targets_width, width_of_range, scope_of_bindings}
use Rattle.catalogue.specs.Stored.{columns_of}
use Rattle.nodes.specs.Nodes.{node_count, node_at}
use Rattle.nodes.specs.References.{lowest}
use Rattle.question.specs.Trees.{Tree, nothing, branch, reading, question_tree}
use Rattle.nodes.specs.declared.node.Form.{Form}
use Rattle.nodes.specs.declared.node.Form.TheVariants.{Table, Alpha, Target, Binds, Combines, Compares, Connects, IllFormed}
use Rattle.question.specs.Judgement.{count_ok, is_alpha, lowest_ill_formed, last_node, lowest_not_once, lowest_unknown}
use Rattle.nodes.specs.declared.node.Operand.{Operand}
use Rattle.nodes.specs.declared.node.Operand.TheVariants.{Of, Fixed}
use Rattle.std.specs.Prelude.{Ok, Err}
use Rattle.question.specs.Judgement.{Judgement}
use Rattle.question.specs.declared.judgement.Refusal.TheVariants.{WrongCount, BrokenForm, NotATree, UnknownRelation, Unbound, Unfit}

abbrev pub in_scope : Scope → ℕ → Bool
in_scope [] variable = false
in_scope (entry x width ∷ s) variable = eqb variable x || in_scope s variable

-- The scope that a node's b sees, where the node stands in s. "A range sees no variable of its surroundings", and an alpha's
-- first binding none.
abbrev pub bound_sees : Form → Scope → Scope
bound_sees (Table relation) s = s
bound_sees Alpha s = []
bound_sees (Target variable attribute) s = s
bound_sees (Binds variable binder) s = []
bound_sees (Combines combination) s = []
bound_sees (Compares atom) s = s
bound_sees (Connects connective) s = s
bound_sees IllFormed s = s

abbrev pub operand_unbound : Scope → Operand → Bool
operand_unbound s (Of variable attribute) = not (in_scope s variable)
operand_unbound s (Fixed constant) = false

abbrev pub operand_unfit : Scope → Operand → Bool
operand_unfit s (Of variable attribute) = ltb (width_in s variable) attribute.0
operand_unfit s (Fixed constant) = false

module _ (columns : ℕ → ℕ) where
  -- the width of a range, and what a chain of bindings binds, by the trees of their first nodes
  abbrev pub width_of : Tree → ℕ
  width_of range = width_of_range columns (reading range).range

  abbrev pub bound_by : Tree → Scope
  bound_by bindings = scope_of_bindings columns (reading bindings).bindings []

  -- The scope that its a and c see, behind b: an alpha's targets and condition see what all its bindings bind;
  -- "along a chain each binding's variable and columns join those bound before it", as a quantifier's do for its condition.
  abbrev pub others_see : Form → (b : Tree) → Scope → Scope
  others_see (Table relation) b s = s
  others_see Alpha b s = bound_by b
  others_see (Target variable attribute) b s = s
  others_see (Binds variable binder) b s = extend s variable (width_of b)
  others_see (Combines combination) b s = []
  others_see (Compares atom) b s = s
  others_see (Connects connective) b s = s
  others_see IllFormed b s = s

  -- Node j of a tree, which stands in s, has the fault in the scope in which node j stands.
  unfoldable pub fault_at : (Form → (a b : Tree) → Scope → Bool) → Tree → Scope → ℕ → Bool
  fault_at fault nothing s j = false
  fault_at fault (branch i form a b c) s j =
      (eqb i j && fault form a b s) || (fault_at fault a (others_see form b s) j || (fault_at fault b (bound_sees form s) j || fault_at fault c (others_see form b s) j))

  -- 5: "variable not in scope, or bound while in scope"
  abbrev pub unbound : Form → (a b : Tree) → Scope → Bool
  unbound (Table relation) a b s = false
  unbound Alpha a b s = false
  unbound (Target variable attribute) a b s = not (in_scope s variable)
  unbound (Binds variable binder) a b s = in_scope s variable
  unbound (Combines combination) a b s = false
  unbound (Compares atom) a b s = not (in_scope s atom.variable) || operand_unbound s atom.operand
  unbound (Connects connective) a b s = false
  unbound IllFormed a b s = false

  -- 6: "range sides differ in width; attribute beyond its variable; columns in scope, or an alpha's width, over 32"
  abbrev pub unfit : Form → (a b : Tree) → Scope → Bool
  unfit (Table relation) a b s = false
  unfit Alpha a b s = ltb column_limit (targets_width (bound_by b) (reading a).targets)
  unfit (Target variable attribute) a b s = ltb (width_in s variable) attribute.0
  unfit (Binds variable binder) a b s = ltb column_limit (columns_in s + width_of b)
  unfit (Combines combination) a b s = not (eqb (width_of a) (width_of b))
  unfit (Compares atom) a b s = ltb (width_in s atom.variable) atom.attribute.0 || operand_unfit s atom.operand
  unfit (Connects connective) a b s = false
  unfit IllFormed a b s = false

module _ (catalogue words : List ℕ) where
  -- "lowest node"
  abbrev pub lowest_unbound : ℕ
  lowest_unbound = lowest (λ i. fault_at (columns_of catalogue) (unbound (columns_of catalogue)) (question_tree words) [] i) (node_count words)

  -- "lowest: range, user, binder, alpha"
  abbrev pub lowest_unfit : ℕ
  lowest_unfit = lowest (λ i. fault_at (columns_of catalogue) (unfit (columns_of catalogue)) (question_tree words) [] i) (node_count words)

  -- lines 1 to 6, in their order
  unfoldable pub judged_question : Judgement
  judged_question =
      cond (count_ok words)
      (cond (ltb (lowest_ill_formed words) (node_count words)) (Err (BrokenForm (lowest_ill_formed words)))
      (cond (ltb (lowest_not_once words) (last_node words)) (Err (NotATree (lowest_not_once words)))
      (cond (is_alpha (node_at words (last_node words)).form)
      (cond (ltb (lowest_unknown catalogue words) (node_count words)) (Err (UnknownRelation (lowest_unknown catalogue words)))
      (cond (ltb lowest_unbound (node_count words)) (Err (Unbound lowest_unbound))
      (cond (ltb lowest_unfit (node_count words)) (Err (Unfit lowest_unfit))
      (Ok tt))))
      (Err (NotATree (last_node words))))))
      (Err WrongCount)
