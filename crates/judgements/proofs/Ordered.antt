-- The numbers of a table's tree fall from each node to its parts. Assumes nothing.
use mathlib.Core.Path.{◌≡◌, sym}
use mathlib.Core.Bool.{Bool, true, ◌&&◌, ◌||◌, true≢false}
use mathlib.Core.Logic.{⊎_elim}
use mathlib.Core.List.{List}
use Prim.Native.Nat.{ℕ, zero, suc, ◌≤◌, ◌<◌}
use native.Mathlib.Omega.{arith}
use lib.Dec.{eqb}
use borrow.Author.Tests.{eqb-true}
use Rattle.relations.proofs.BoolLaws.{and_left, or_cases}
use Rattle.calculus.specs.Scope.{Scope}
use Rattle.nodes.specs.Nodes.{node_at}
use Rattle.question.specs.Trees.{Tree, nothing, branch, tree_of}
use Rattle.judgements.specs.Faults.{bound_sees, others_see, fault_at}
use Rattle.nodes.specs.declared.node.Form.{Form}
use Rattle.nodes.specs.declared.node.Node.{Node}
use Rattle.nodes.proofs.Forms.{node_lower}
use Rattle.question.proofs.TreeLaws.{tree_is, tree_of_none}

abbrev pub Ordered : ℕ → Tree → Type 0
Ordered n nothing = Unit {0}
Ordered n (branch i form x y z) = (i < n) × Ordered i x × Ordered i y × Ordered i z

weaken : (n m : ℕ) (tree : Tree) → n ≤ m → Ordered n tree → Ordered m tree
weaken n m nothing h o = tt
weaken n m (branch i form x y z) h o = (let l : i < n = o.0 in omega arith, o.1, o.2, o.3)

module _ (words : List ℕ) where
  ordered_below : (bound reference : ℕ) → reference ≤ bound → Ordered reference (tree_of words reference)
  ordered_below zero zero h = rw (tree_of_none words) tt
  ordered_below zero (suc i) h = absurd (omega arith)
  ordered_below (suc bound) zero h = rw (tree_of_none words) tt
  ordered_below (suc bound) (suc i) h =
      let l = node_lower words i in
      let part : (reference : ℕ) → reference ≤ i → Ordered i (tree_of words reference) = λ reference k. weaken reference i (tree_of words reference) k (ordered_below bound reference (omega arith)) in
      let node : Node = node_at words i in
      rw (tree_is words i) (omega arith, part node.a l.a_lower, part node.b l.b_lower, part node.c l.c_lower)

  pub ordered : (reference : ℕ) → Ordered reference (tree_of words reference)
  ordered reference = ordered_below reference reference (omega arith)

-- so no node of it beyond its last is at fault
pub fault_within : (columns : ℕ → ℕ) (fault : Form → (a b : Tree) → Scope → Bool) (n : ℕ) (tree : Tree) (s : Scope) (j : ℕ) → Ordered n tree → fault_at columns fault tree s j ≡ true → j < n
unfolding fault_at
fault_within columns fault n nothing s j o h = absurd (true≢false (sym h))
fault_within columns fault n (branch i form x y z) s j o h =
    let own : Bool = eqb i j && fault form x y s in
    let fx : Bool = fault_at columns fault x (others_see columns form y s) j in
    let fy : Bool = fault_at columns fault y (bound_sees form s) j in
    let fz : Bool = fault_at columns fault z (others_see columns form y s) j in
    let l : i < n = o.0 in
    ⊎_elim (λ (e : own ≡ true). omega (arith, eqb-true i j (and_left (eqb i j) (fault form x y s) e)))
    (λ (e : (fx || (fy || fz)) ≡ true).
    ⊎_elim (λ (e1 : fx ≡ true). omega (arith, fault_within columns fault i x (others_see columns form y s) j o.1 e1))
    (λ (e2 : (fy || fz) ≡ true).
    ⊎_elim (λ (e3 : fy ≡ true). omega (arith, fault_within columns fault i y (bound_sees form s) j o.2 e3))
    (λ (e4 : fz ≡ true). omega (arith, fault_within columns fault i z (others_see columns form y s) j o.3 e4))
    (or_cases fy fz e2))
    (or_cases fx (fy || fz) e))
    (or_cases own (fx || (fy || fz)) h)
