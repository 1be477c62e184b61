-- A reference's tree is its node over the trees of that node's references. Assumes nothing.
use mathlib.Core.Path.{◌≡◌, refl, ◌∙◌}
use mathlib.Core.List.{List, [], ◌∷◌}
use mathlib.Core.Logic.{⊎_elim}
use Prim.Native.Nat.{ℕ, zero, suc, ◌-◌, ◌≤◌, ◌<◌}
use native.Mathlib.Nat.{eq-or-lt_of_le}
use native.Mathlib.Omega.{arith}
use lib.ListN.{length, get_or, length-append, get_or-append}
use lib.Seq.{get_or_at}
use Rattle.nodes.specs.Nodes.{kind_named, node_at, VariablesFit}
use Rattle.nodes.specs.declared.node.Node.{Node}
use Rattle.question.specs.Trees.{nothing, branch, named, grown, trees_below, tree_of}
use Rattle.nodes.proofs.Forms.{parts_of, part_fits, node_fits, node_lower, node_variables}
use Rattle.nodes.specs.declared.node.Form.{Form}
use Rattle.nodes.specs.declared.node.Form.TheVariants.{Binds}
use Rattle.nodes.specs.declared.node.Binder.{Binder}
use Rattle.nodes.specs.declared.node.Binder.TheVariants.{Binding, Quantifies}
use borrow.Author.Tests.{eqb-true}
use mathlib.Core.Bool.{true}

module _ (words : List ℕ) where
  trees_length : (n : ℕ) → length (trees_below words n) ≡ n
  unfolding trees_below
  trees_length zero = refl
  trees_length (suc n) = omega (arith, length-append (trees_below words n) (grown words n (trees_below words n) ∷ []), trees_length n)

  trees_at : (n i : ℕ) → i < n → get_or (trees_below words n) i nothing ≡ tree_of words (suc i)
  unfolding trees_below tree_of
  trees_at zero i h = absurd (omega arith)
  trees_at (suc n) i h =
      ⊎_elim
      (λ (e : i ≡ n). rw e (get_or_at (trees_below words n) (grown words n (trees_below words n)) [] nothing n (trees_length n)))
      (λ (l : i < n). get_or-append (trees_below words n) (grown words n (trees_below words n) ∷ []) nothing i (omega (arith, trees_length n)) ∙ trees_at n i l)
      (eq-or-lt_of_le {n = i} {m = n} (omega arith))

  named_is : (n reference : ℕ) → reference ≤ n → named (trees_below words n) reference ≡ tree_of words reference
  unfolding tree_of
  named_is n zero h = refl
  named_is n (suc i) h = trees_at n i h

  pub tree_is : (i : ℕ) → tree_of words (suc i) ≡ branch i (node_at words i).form (tree_of words (node_at words i).a) (tree_of words (node_at words i).b) (tree_of words (node_at words i).c)
  unfolding tree_of
  tree_is i =
      let l = node_lower words i in
      rw (named_is i (node_at words i).a l.a_lower, named_is i (node_at words i).b l.b_lower, named_is i (node_at words i).c l.c_lower)

  pub tree_of_reference : (reference : ℕ) → 1 ≤ reference
      → tree_of words reference ≡ branch (reference - 1) (node_at words (reference - 1)).form (tree_of words (node_at words (reference - 1)).a) (tree_of words (node_at words (reference - 1)).b) (tree_of words (node_at words (reference - 1)).c)
  tree_of_reference zero h = absurd (omega arith)
  tree_of_reference (suc i) h =
      let e : suc i - 1 ≡ i = omega arith in
      rw e (tree_is i)

  pub tree_of_none : tree_of words 0 ≡ nothing
  unfolding tree_of
  tree_of_none = refl

-- what a node refers to is lower than the node
pub record Lower (reference : ℕ) (node : Node) : Type 0 where
  pub a : node.a < reference
  pub b : node.b < reference
  pub c : node.c < reference

pub lower_parts : (words : List ℕ) (reference : ℕ) → (reference ≡ 0 → ⊥) → {node : Node} → node ≡ node_at words (reference - 1) → Lower reference node
lower_parts words reference some e =
    let l = node_lower words (reference - 1) in
    rw e (record { a = omega arith; b = omega arith; c = omega arith })

-- what the code knows of a reference's node in the case of its form
pub record Stands (words : List ℕ) (reference : ℕ) (node : Node) (form : Form) : Type 0 where
  pub tree : tree_of words reference ≡ branch (reference - 1) form (tree_of words node.a) (tree_of words node.b) (tree_of words node.c)
  pub form_is : (node_at words (reference - 1)).form ≡ form
  pub variables : VariablesFit form
  pub part_a : part_fits (kind_named words (reference - 1)) (parts_of form).a node.a ≡ true

pub stands : (words : List ℕ) (reference : ℕ) → (reference ≡ 0 → ⊥) → {node : Node} {form : Form} → node ≡ node_at words (reference - 1) → node.form ≡ form → Stands words reference node form
stands words reference some e f =
    rw (← f, e) (record {
      tree = tree_of_reference words reference (omega arith);
      form_is = refl;
      variables = node_variables words (reference - 1);
      part_a = (node_fits words (reference - 1)).a_fits;
    })

-- a binder refers to nothing in its a
pub binds_alone : (words : List ℕ) (reference : ℕ) {node : Node} (variable : ℕ) (binder : Binder) → Stands words reference node (Binds variable binder) → tree_of words node.a ≡ nothing
binds_alone words reference variable Binding it = rw (eqb-true _ 0 it.part_a, tree_of_none words)
binds_alone words reference variable (Quantifies quantifier) it = rw (eqb-true _ 0 it.part_a, tree_of_none words)
