-- A table with no ill-formed node and no unknown relation is a tree whose parts are all of the sorts that their places ask for. Assumes nothing.
use mathlib.Core.Path.{◌≡◌, refl}
use mathlib.Core.Bool.{Bool, true, false, cond, ◌&&◌, true≢false, false≢true}
use mathlib.Core.List.{List}
use mathlib.Core.Logic.{◌⊎◌, inl, inr, ⊎_elim}
use Prim.Native.Nat.{ℕ, zero, suc, ◌*◌, ◌-◌, ◌≤◌, ◌<◌}
use native.Mathlib.Omega.{arith}
use lib.Dec.{ltb, leb, eqb}
use lib.ListN.{get_or}
use borrow.Author.Tests.{leb-true, leb-false, ltb-true, eqb-true, le-leb}
use Rattle.relations.specs.Limits.{column_limit, question_node_limit, question_node_words, variable_count, operator_count}
use Rattle.relations.proofs.BoolLaws.{and_left, and_right, or_cases, true_or_false}
use Rattle.terms.specs.declared.attribute.Attribute.{Attribute}
use Rattle.nodes.specs.Kinds.{is_of, fields_of, words_fit}
use Rattle.nodes.specs.Nodes.{kind_named, form_of, node_at, word_of, is_ill_formed}
use Rattle.question.specs.Trees.{Tree, nothing, branch, tree_of}
use Rattle.question.specs.Judgement.{is_unknown}
use Rattle.nodes.specs.declared.kinds.Sort.{Sort}
use Rattle.nodes.specs.declared.kinds.Sort.TheVariants as sort
use Rattle.nodes.specs.declared.node.Operand.TheVariants.{Of}
use Rattle.nodes.specs.declared.node.Atom.{Atom}
use Rattle.nodes.specs.declared.node.Combination.{Combination}
use Rattle.nodes.specs.declared.node.Connective.{Connective}
use Rattle.nodes.specs.declared.node.Connective.TheVariants.{And, Or, Not}
use Rattle.nodes.specs.declared.node.Quantifier.{Quantifier}
use Rattle.nodes.specs.declared.node.Binder.TheVariants.{Binding, Quantifies}
use Rattle.nodes.specs.declared.node.Form.{Form}
use Rattle.nodes.specs.declared.node.Form.TheVariants.{Table, Alpha, Target, Binds, Combines, Compares, Connects, IllFormed}
use Rattle.nodes.specs.declared.node.Node.{Node}
use Rattle.nodes.proofs.Forms.{Part, none, must, may, parts_of, operand_fits, atom_fits, quantifier_fits, form_fits, part_fits, node_fits, lower, first_of, no_kind}
use Rattle.question.proofs.TreeLaws.{tree_is, tree_of_none}

-- the connectives of two conditions
pub data Joins : Connective → Type 0 where
  and_joins : Joins And
  or_joins : Joins Or

-- trees of each sort, whose nodes have numbers below the limit
module _ (relations : ℕ) where
  mutual
    pub data RangeTree : Tree → Type 0 where
      table_tree : {i relation : ℕ} → relation < relations → RangeTree (branch i (Table relation) nothing nothing nothing)
      alpha_tree : {i : ℕ} {x y z : Tree} → i < question_node_limit → TargetTree x → BindingTree y → ConditionIfAny z → RangeTree (branch i Alpha x y z)
      combined_tree : {i : ℕ} {k : Combination} {x y : Tree} → i < question_node_limit → RangeTree x → RangeTree y → RangeTree (branch i (Combines k) x y nothing)

    pub data TargetTree : Tree → Type 0 where
      target_tree : {i v : ℕ} {a : Attribute} {z : Tree} → i < question_node_limit → v < variable_count → a.0 ≤ column_limit → TargetsIfAny z → TargetTree (branch i (Target v a) nothing nothing z)

    pub data TargetsIfAny : Tree → Type 0 where
      no_target : TargetsIfAny nothing
      more_targets : {x : Tree} → TargetTree x → TargetsIfAny x

    pub data BindingTree : Tree → Type 0 where
      binding_tree : {i v : ℕ} {y z : Tree} → i < question_node_limit → v < variable_count → RangeTree y → BindingsIfAny z → BindingTree (branch i (Binds v Binding) nothing y z)

    pub data BindingsIfAny : Tree → Type 0 where
      no_binding : BindingsIfAny nothing
      more_bindings : {x : Tree} → BindingTree x → BindingsIfAny x

    pub data ConditionTree : Tree → Type 0 where
      atom_tree : {i : ℕ} {atom : Atom} → i < question_node_limit → atom_fits atom ≡ true → ConditionTree (branch i (Compares atom) nothing nothing nothing)
      joined_tree : {i : ℕ} {k : Connective} {x y : Tree} → i < question_node_limit → Joins k → ConditionTree x → ConditionTree y → ConditionTree (branch i (Connects k) x y nothing)
      not_tree : {i : ℕ} {x : Tree} → i < question_node_limit → ConditionTree x → ConditionTree (branch i (Connects Not) x nothing nothing)
      quantifier_tree : {i v : ℕ} {q : Quantifier} {y z : Tree} → i < question_node_limit → v < variable_count → quantifier_fits q ≡ true → RangeTree y → ConditionTree z → ConditionTree (branch i (Binds v (Quantifies q)) nothing y z)

    pub data ConditionIfAny : Tree → Type 0 where
      without_condition : ConditionIfAny nothing
      with_condition : {x : Tree} → ConditionTree x → ConditionIfAny x

  abbrev pub TreeOf : Sort → Tree → Type 0
  TreeOf sort.Target tree = TargetTree tree
  TreeOf sort.Binding tree = BindingTree tree
  TreeOf sort.Range tree = RangeTree tree
  TreeOf sort.Condition tree = ConditionTree tree

  -- what stands where a part is asked for
  abbrev PartTree : Part → Tree → Type 0
  PartTree none tree = tree ≡ nothing
  PartTree (must s) tree = TreeOf s tree
  PartTree (may s) tree = (tree ≡ nothing) ⊎ TreeOf s tree

-- an atom's two sides
pub atom_sides : (atom : Atom) → atom_fits atom ≡ true → (operand_fits (Of atom.variable atom.attribute) ≡ true) × (operand_fits atom.operand ≡ true)
atom_sides atom fits =
    let left : Bool = operand_fits (Of atom.variable atom.attribute) in
    (and_left left (operand_fits atom.operand) fits, and_right left (operand_fits atom.operand) fits)

-- the sort of a form; an ill-formed one is of none
abbrev pub sort_of : Form → Sort
sort_of (Table relation) = sort.Range
sort_of Alpha = sort.Range
sort_of (Target variable attribute) = sort.Target
sort_of (Binds variable Binding) = sort.Binding
sort_of (Binds variable (Quantifies quantifier)) = sort.Condition
sort_of (Combines combination) = sort.Range
sort_of (Compares atom) = sort.Condition
sort_of (Connects connective) = sort.Condition
sort_of IllFormed = sort.Condition

-- a kind is of one sort only
Only : ℕ → Sort → Type 0
Only kind mine = (s : Sort) → is_of s kind ≡ true → mine ≡ s

no : {C : Type 0} → false ≡ true → C
no h = absurd (false≢true h)

only : (kind : ℕ) (mine : Sort) → (is_of sort.Target kind ≡ true → mine ≡ sort.Target) → (is_of sort.Binding kind ≡ true → mine ≡ sort.Binding) → (is_of sort.Range kind ≡ true → mine ≡ sort.Range)
    → (is_of sort.Condition kind ≡ true → mine ≡ sort.Condition) → Only kind mine
unfolding Only
only kind mine t b r c sort.Target h = t h
only kind mine t b r c sort.Binding h = b h
only kind mine t b r c sort.Range h = r h
only kind mine t b r c sort.Condition h = c h

-- a node that is spelled well is of its kind's sort
Keeps : ℕ → Form → Type 0
Keeps kind form = is_ill_formed form ≡ false → Only kind (sort_of form)

keeps_one : (kind n : ℕ) (form rest : Form) → Only n (sort_of form) → Keeps kind rest → Keeps kind (cond (eqb kind n) form rest)
unfolding Keeps
keeps_one kind n form rest own keep =
    ⊎_elim (λ (t : eqb kind n ≡ true). rw t (λ h. rw (eqb-true kind n t) own)) (λ (f : eqb kind n ≡ false). rw f keep) (true_or_false (eqb kind n))

keeps_none : (kind : ℕ) → Keeps kind IllFormed
unfolding Keeps
keeps_none kind h = absurd (true≢false h)

form_sort : (kind a b c d e : ℕ) → Keeps kind (form_of kind a b c d e)
unfolding form_of
form_sort kind a b c d e =
    keeps_one kind 1 _ _ (only _ _ no no (λ h. refl) no)
    (keeps_one kind 2 _ _ (only _ _ no no (λ h. refl) no)
    (keeps_one kind 3 _ _ (only _ _ (λ h. refl) no no no)
    (keeps_one kind 4 _ _ (only _ _ no (λ h. refl) no no)
    (keeps_one kind 5 _ _ (only _ _ no no (λ h. refl) no)
    (keeps_one kind 6 _ _ (only _ _ no no (λ h. refl) no)
    (keeps_one kind 7 _ _ (only _ _ no no (λ h. refl) no)
    (keeps_one kind 8 _ _ (only _ _ no no no (λ h. refl))
    (keeps_one kind 9 _ _ (only _ _ no no no (λ h. refl))
    (keeps_one kind 10 _ _ (only _ _ no no no (λ h. refl))
    (keeps_one kind 11 _ _ (only _ _ no no no (λ h. refl))
    (keeps_one kind 12 _ _ (only _ _ no no no (λ h. refl))
    (keeps_one kind 13 _ _ (only _ _ no no no (λ h. refl))
    (keeps_one kind 14 _ _ (only _ _ no no no (λ h. refl))
    (keeps_one kind 16 _ _ (only _ _ no no no (λ h. refl))
    (keeps_none kind)))))))))))))))

formed_sort : (fit : Bool) (kind : ℕ) (node : Node) → Keeps kind node.form → Keeps kind (cond fit node (record { form = IllFormed; a = 0; b = 0; c = 0 })).form
formed_sort true kind node keep = keep
formed_sort false kind node keep = keeps_none kind

sort_kept : (words : List ℕ) (i : ℕ) → is_ill_formed (node_at words i).form ≡ false → (s : Sort) → is_of s (get_or words (i * question_node_words) 0) ≡ true → sort_of (node_at words i).form ≡ s
unfolding node_at Keeps Only
sort_kept words i =
    let kind : ℕ = get_or words (i * question_node_words) 0 in
    let w : ℕ → ℕ = word_of words i in
    formed_sort (words_fit (kind_named words i) (fields_of kind) (w 1) (w 2) (w 3) (w 4) (w 5)) kind _ (form_sort kind (w 1) (w 2) (w 3) (w 4) (w 5))

module _ (relations : ℕ) {z : Tree} where
  targets_if_any : (z ≡ nothing) ⊎ TargetTree relations z → TargetsIfAny relations z
  targets_if_any (inl e) = rw e no_target
  targets_if_any (inr t) = more_targets t

  bindings_if_any : (z ≡ nothing) ⊎ BindingTree relations z → BindingsIfAny relations z
  bindings_if_any (inl e) = rw e no_binding
  bindings_if_any (inr b) = more_bindings b

  condition_if_any : (z ≡ nothing) ⊎ ConditionTree relations z → ConditionIfAny relations z
  condition_if_any (inl e) = rw e without_condition
  condition_if_any (inr f) = with_condition f

-- a node is of its sort where its parts are of the sorts that its form asks for
module _ (relations i : ℕ) (small : i < question_node_limit) (x y z : Tree) where
  node_sorted : (form : Form) → is_ill_formed form ≡ false → is_unknown relations form ≡ false → form_fits form ≡ true
      → PartTree relations (parts_of form).a x → PartTree relations (parts_of form).b y → PartTree relations (parts_of form).c z → TreeOf relations (sort_of form) (branch i form x y z)
  node_sorted (Table relation) f u w a b c = rw (a, b, c) (table_tree (leb-false relations relation u))
  node_sorted Alpha f u w a b c = alpha_tree small a b (condition_if_any relations c)
  node_sorted (Target v n) f u w a b c =
      let one : Bool = ltb v variable_count in
      let two : Bool = leb n.0 column_limit in
      rw (a, b) (target_tree small (ltb-true v variable_count (and_left one two w)) (leb-true n.0 column_limit (and_right one two w)) (targets_if_any relations c))
  node_sorted (Binds v Binding) f u w a b c = rw a (binding_tree small (ltb-true v variable_count w) b (bindings_if_any relations c))
  node_sorted (Binds v (Quantifies q)) f u w a b c =
      let one : Bool = quantifier_fits q in
      let two : Bool = ltb v variable_count in
      rw a (quantifier_tree small (ltb-true v variable_count (and_right one two w)) (and_left one two w) b c)
  node_sorted (Combines k) f u w a b c = rw c (combined_tree small a b)
  node_sorted (Compares atom) f u w a b c = rw (a, b, c) (atom_tree small w)
  node_sorted (Connects And) f u w a b c = rw c (joined_tree small and_joins a b)
  node_sorted (Connects Or) f u w a b c = rw c (joined_tree small or_joins a b)
  node_sorted (Connects Not) f u w a b c = rw (b, c) (not_tree small a)
  node_sorted IllFormed f u w a b c = absurd (true≢false f)

module _ (words : List ℕ) (relations n : ℕ) (few : n ≤ question_node_limit) (formed : (i : ℕ) → i < n → is_ill_formed (node_at words i).form ≡ false) (known : (i : ℕ) → i < n → is_unknown relations (node_at words i).form ≡ false) where
  abbrev SortedAt : ℕ → Type 0
  SortedAt i = TreeOf relations (sort_of (node_at words i).form) (tree_of words (suc i))

  module _ (i : ℕ) (h : i < n) (below : (j : ℕ) → j < i → SortedAt j) where
    -- what a reference names is of the sort that is asked for
    named_sorted : (s : Sort) (reference : ℕ) → is_of s (kind_named words i reference) ≡ true → TreeOf relations s (tree_of words reference)
    unfolding kind_named
    named_sorted s zero e = absurd (omega (arith, (lower words i 0 (is_of s) (no_kind s) e).0))
    named_sorted s (suc j) e =
        let l : suc j ≤ i = (lower words i (suc j) (is_of s) (no_kind s) e).1 in
        let same : suc j - 1 ≡ j = omega arith in
        let k : is_of s (get_or words (j * question_node_words) 0) ≡ true = rw (le-leb 1 (suc j) (omega arith), le-leb (suc j) i l, same) at e in
        rw (← sort_kept words j (formed j (omega arith)) s k) (below j l)

    part_sorted : (part : Part) (reference : ℕ) → part_fits (kind_named words i) part reference ≡ true → PartTree relations part (tree_of words reference)
    part_sorted none reference e = rw (eqb-true reference 0 e) (tree_of_none words)
    part_sorted (must s) reference e = named_sorted s reference e
    part_sorted (may s) reference e =
        ⊎_elim (λ (z : eqb reference 0 ≡ true). inl (rw (eqb-true reference 0 z) (tree_of_none words))) (λ (k : is_of s (kind_named words i reference) ≡ true). inr (named_sorted s reference k))
        (or_cases (eqb reference 0) (is_of s (kind_named words i reference)) e)

    sorted_here : SortedAt i
    sorted_here =
        let node : Node = node_at words i in
        let it = node_fits words i in
        rw (tree_is words i)
        (node_sorted relations i (omega arith) _ _ _ node.form (formed i h) (known i h) it.words-fit (part_sorted (parts_of node.form).a node.a it.a_fits) (part_sorted (parts_of node.form).b node.b it.b_fits) (part_sorted (parts_of node.form).c node.c it.c_fits))

  sorted_below : (bound i : ℕ) → i < bound → bound ≤ n → SortedAt i
  sorted_below zero i h k = absurd (omega arith)
  sorted_below (suc bound) i h k = sorted_here i (omega arith) (λ j l. sorted_below bound j (omega arith) (omega arith))

  -- the tree of every node is of the sort of its form
  pub sorted : (i : ℕ) → i < n → SortedAt i
  sorted i h = sorted_below n i h (omega arith)
