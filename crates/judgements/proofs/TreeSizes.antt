-- Where every node but the last is referred to exactly once, the last node's tree has as many nodes as the table;
-- and `calculus` counts the nodes of a sorted tree as they are. Assumes nothing.
use mathlib.Core.Path.{◌≡◌, refl, sym, ◌∙◌, ap, ap₂}
use mathlib.Core.Bool.{true, false, cond}
use mathlib.Core.Logic.{◌⊎◌, inl, inr}
use mathlib.Core.List.{List, [], ◌∷◌, ◌++◌}
use Prim.Native.Nat.{ℕ, zero, suc, ◌+◌, ◌*◌, ◌≤◌, ◌<◌}
use native.Mathlib.Omega.{arith}
use lib.Dec.{eqb}
use lib.ListN.{length}
use borrow.Author.Tests.{eqb-true, eqb-false, ne_eqb}
use Rattle.relations.specs.Lists.{All}
use Rattle.relations.proofs.BoolLaws.{true_or_false}
use Rattle.relations.proofs.ListLaws.{all_append, all_mono}
use Rattle.calculus.specs.Question.{Target, MaybeCondition, on_condition, range_nodes, binding_nodes, maybe_nodes, condition_nodes}
use Rattle.nodes.specs.Nodes.{node_at}
use Rattle.nodes.specs.References.{reference_list, references_to, hit, seen}
use Rattle.question.specs.Trees.{Tree, tree_of, tree_nodes, alpha_of, reading}
use Rattle.nodes.proofs.Forms.{node_lower}
use Rattle.question.proofs.TreeLaws.{tree_is}
use Rattle.judgements.proofs.SortedTrees.{RangeTree, table_tree, alpha_tree, combined_tree, TargetTree, target_tree, TargetsIfAny, no_target, more_targets, BindingTree, binding_tree, BindingsIfAny, no_binding, more_bindings, ConditionTree, atom_tree, joined_tree, not_tree, quantifier_tree, ConditionIfAny, without_condition, with_condition}
use Rattle.judgements.proofs.KindsAlike.{combined-nodes, joined-nodes, quantified-nodes}

-- the sum of f over the references 1 to n, and over a list of references
abbrev sum_to : (ℕ → ℕ) → ℕ → ℕ
sum_to f zero = 0
sum_to f (suc n) = sum_to f n + f (suc n)

abbrev sum_of : (ℕ → ℕ) → List ℕ → ℕ
sum_of f [] = 0
sum_of f (x ∷ xs) = f x + sum_of f xs

sum-append : (f : ℕ → ℕ) (xs ys : List ℕ) → sum_of f (xs ++ ys) ≡ sum_of f xs + sum_of f ys
sum-append f [] ys = omega arith
sum-append f (x ∷ xs) ys = omega (arith, sum-append f xs ys)

sum_same : (f g : ℕ → ℕ) (n : ℕ) → ((i : ℕ) → i < n → f (suc i) ≡ g (suc i)) → sum_to f n ≡ sum_to g n
sum_same f g zero h = refl
sum_same f g (suc n) h = ap₂ ◌+◌ (sum_same f g n (λ i k. h i (omega arith))) (h n (omega arith))

sum_add : (f g : ℕ → ℕ) (n : ℕ) → sum_to (λ i. f i + g i) n ≡ sum_to f n + sum_to g n
sum_add f g zero = omega arith
sum_add f g (suc n) = omega (arith, sum_add f g n)

-- how often a reference stands in a list
abbrev times : ℕ → List ℕ → ℕ
times c [] = 0
times c (x ∷ xs) = cond (eqb x c) 1 0 + times c xs

seen_times : (xs : List ℕ) (j : ℕ) → seen xs j ≡ times (suc j) xs
unfolding seen
seen_times [] j = refl
seen_times (x ∷ xs) j = ap (λ (k : ℕ). hit x j + k) (seen_times xs j)

-- one reference's share
share_beyond : (f : ℕ → ℕ) (x n : ℕ) → n < x → sum_to (λ c. cond (eqb x c) 1 0 * f c) n ≡ 0
share_beyond f x zero h = refl
share_beyond f x (suc n) h = rw (ne_eqb x (suc n) (λ e. omega arith)) (omega (arith, share_beyond f x n (omega arith)))

share_none : (f : ℕ → ℕ) (n : ℕ) → sum_to (λ c. cond (eqb 0 c) 1 0 * f c) n ≡ 0
share_none f zero = refl
share_none f (suc n) = rw (ne_eqb 0 (suc n) (λ e. omega arith)) (omega (arith, share_none f n))

share : (f : ℕ → ℕ) (x n : ℕ) → 1 ≤ x → x ≤ n → sum_to (λ c. cond (eqb x c) 1 0 * f c) n ≡ f x
share f x zero p h = absurd (omega arith)
share f x (suc n) p h = go (true_or_false (eqb x (suc n))) (λ k. share f x n p k)
  where
    go : (eqb x (suc n) ≡ true) ⊎ (eqb x (suc n) ≡ false) → (x ≤ n → sum_to (λ c. cond (eqb x c) 1 0 * f c) n ≡ f x) → sum_to (λ c. cond (eqb x c) 1 0 * f c) n + cond (eqb x (suc n)) 1 0 * f (suc n) ≡ f x
    go (inl e) ih = rw e (omega (arith, share_beyond f x n (omega (arith, eqb-true x (suc n) e)), ap f (eqb-true x (suc n) e)))
    go (inr e) ih = rw e (omega (arith, ih (below (eqb-false x (suc n) e))))
      where
        below : (x ≡ suc n → ⊥) → x ≤ n
        below g = omega arith

any_share : (f : ℕ → ℕ) → f 0 ≡ 0 → (x n : ℕ) → x ≤ n → f x ≡ sum_to (λ c. cond (eqb x c) 1 0 * f c) n
any_share f z zero n h = z ∙ sym (share_none f n)
any_share f z (suc x) n h = sym (share f (suc x) n (omega arith) h)

by_times : (f : ℕ → ℕ) → f 0 ≡ 0 → (n : ℕ) (xs : List ℕ) → All (λ x. x ≤ n) xs → sum_of f xs ≡ sum_to (λ c. times c xs * f c) n
by_times f z n [] h = sym (zeros n)
  where
    zeros : (k : ℕ) → sum_to (λ c. 0 * f c) k ≡ 0
    zeros zero = refl
    zeros (suc k) = omega (arith, zeros k)
by_times f z n (x ∷ xs) h =
    ap₂ ◌+◌ (any_share f z x n h.0) (by_times f z n xs h.1)
    ∙ sym (sum_add (λ c. cond (eqb x c) 1 0 * f c) (λ c. times c xs * f c) n)
    ∙ sum_same (λ c. cond (eqb x c) 1 0 * f c + times c xs * f c) (λ c. (cond (eqb x c) 1 0 + times c xs) * f c) n (λ i k. omega arith)

module _ (words : List ℕ) where
  abbrev nodes_of : ℕ → ℕ
  nodes_of reference = tree_nodes (tree_of words reference)

  none_small : nodes_of 0 ≡ 0
  unfolding tree_nodes tree_of
  none_small = refl

  node_size : (i : ℕ) → nodes_of (suc i) ≡ sum_of nodes_of (reference_list (node_at words i)) + 1
  unfolding tree_nodes
  node_size i = rw (tree_is words i) (omega arith)

  total_size : (n : ℕ) → sum_to nodes_of n ≡ n + sum_of nodes_of (references_to words n)
  unfolding references_to
  total_size zero = refl
  total_size (suc n) = omega (arith, total_size n, node_size n, sum-append nodes_of (references_to words n) (reference_list (node_at words n)))

  all_lower : (n : ℕ) → All (λ x. x ≤ n) (references_to words (suc n))
  unfolding references_to
  all_lower zero = let l = node_lower words 0 in all_append (λ x. x ≤ 0) [] (reference_list (node_at words 0)) tt (l.a_lower, (l.b_lower, (l.c_lower, tt)))
  all_lower (suc n) =
      let l = node_lower words (suc n) in
      all_append (λ x. x ≤ suc n) (references_to words (suc n)) (reference_list (node_at words (suc n))) (all_mono (λ x h. omega arith) (references_to words (suc n)) (all_lower n)) (l.a_lower, (l.b_lower, (l.c_lower, tt)))

  pub whole-table : (last : ℕ) → ((j : ℕ) → j < last → seen (references_to words (suc last)) j ≡ 1) → tree_nodes (tree_of words (suc last)) ≡ suc last
  whole-table last once =
      let refs : List ℕ = references_to words (suc last) in
      omega (
        arith,
        total_size (suc last),
        by_times nodes_of none_small last refs (all_lower last),
        sum_same (λ c. times c refs * nodes_of c) nodes_of last (λ i k. rw (sym (seen_times refs i) ∙ once i k) (omega arith)),
      )

module _ {relations : ℕ} where
  -- a condition that may stand alone is the condition
  pub restriction_is : {tree : Tree} → ConditionTree relations tree → (reading tree).restriction ≡ on_condition (reading tree).condition
  unfolding reading
  restriction_is (atom_tree i h) = refl
  restriction_is (joined_tree i k f g) = refl
  restriction_is (not_tree i f) = refl
  restriction_is (quantifier_tree i v fits r f) = refl

  -- an alpha's first binding is one of its bindings
  alpha-nodes : {tree : Tree} → BindingTree relations tree → (targets : List Target) (restriction : MaybeCondition)
      → range_nodes (alpha_of targets (reading tree).bindings restriction) ≡ length targets + binding_nodes (reading tree).bindings + maybe_nodes restriction + 1
  unfolding range_nodes reading
  alpha-nodes (binding_tree i v r bs) targets restriction = omega arith

  mutual
    unfolding range_nodes tree_nodes reading

    pub range-nodes : {tree : Tree} → RangeTree relations tree → range_nodes (reading tree).range ≡ tree_nodes tree
    range-nodes (table_tree h) = refl
    range-nodes (alpha_tree {x = x} {y = y} {z = z} i ts b c) =
        omega (arith, alpha-nodes b (reading x).targets (reading z).restriction, binding_nodes_lem b, targets-nodes ts, maybe_nodes_lem c)
    range-nodes (combined_tree {k = k} {x = x} {y = y} i r s) = omega (arith, combined-nodes k (reading x).range (reading y).range, range-nodes r, range-nodes s)

    targets-nodes : {tree : Tree} → TargetTree relations tree → length (reading tree).targets ≡ tree_nodes tree
    targets-nodes (target_tree i v a ts) = omega (arith, more-targets ts)

    more-targets : {tree : Tree} → TargetsIfAny relations tree → length (reading tree).targets ≡ tree_nodes tree
    more-targets no_target = refl
    more-targets (more_targets ts) = targets-nodes ts

    binding_nodes_lem : {tree : Tree} → BindingTree relations tree → binding_nodes (reading tree).bindings ≡ tree_nodes tree
    binding_nodes_lem (binding_tree i v r bs) = omega (arith, range-nodes r, bindings-nodes bs)

    bindings-nodes : {tree : Tree} → BindingsIfAny relations tree → binding_nodes (reading tree).bindings ≡ tree_nodes tree
    bindings-nodes no_binding = refl
    bindings-nodes (more_bindings b) = binding_nodes_lem b

    condition-nodes : {tree : Tree} → ConditionTree relations tree → condition_nodes (reading tree).condition ≡ tree_nodes tree
    condition-nodes (atom_tree i h) = refl
    condition-nodes (joined_tree {x = x} {y = y} i k f g) = omega (arith, joined-nodes k (reading x).condition (reading y).condition, condition-nodes f, condition-nodes g)
    condition-nodes (not_tree i f) = omega (arith, condition-nodes f)
    condition-nodes (quantifier_tree {v = v} {q = q} {y = y} {z = z} i small fits r f) = omega (arith, quantified-nodes q v (reading y).range (reading z).condition, range-nodes r, condition-nodes f)

    maybe_nodes_lem : {tree : Tree} → ConditionIfAny relations tree → maybe_nodes (reading tree).restriction ≡ tree_nodes tree
    maybe_nodes_lem without_condition = refl
    maybe_nodes_lem (with_condition f) = ap maybe_nodes (restriction_is f) ∙ condition-nodes f
