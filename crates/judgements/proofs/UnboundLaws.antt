-- Refusal 5: the walk finds the lowest node that is at fault in the scope in which it stands. Assumes nothing.
use mathlib.Core.Path.{◌≡◌, refl, sym, ◌∙◌, ap, ap₂}
use mathlib.Core.Bool.{Bool, true, false, not, ◌||◌, false≢true}
use mathlib.Core.Logic.{◌⊎◌, inl, inr}
use mathlib.Core.List.{[], ◌∷◌}
use Prim.Native.Nat.{ℕ, zero, suc, ◌<◌}
use native.Mathlib.Omega.{arith}
use lib.Dec.{ltb, eqb}
use lib.ListN.{length, length-replicate, get_or-replicate}
use borrow.Author.Tests.{eqb-true, eqb-false, ne_eqb, lt-ltb, le-ltb}
use Rattle.relations.specs.Limits.{question_node_limit, variable_count}
use Rattle.relations.proofs.BoolLaws.{true_or_false}
use Rattle.std.proofs.Math.Bool.{or-true, or-false, or_assoc}
use Rattle.calculus.specs.Scope as scopes
use Rattle.calculus.specs.Scope.{entry, extend}
use Rattle.calculus.specs.Form.{width_of_range, scope_of_bindings}
use Rattle.nodes.specs.Nodes.{OperandVariableFits}
use Rattle.nodes.specs.References.{lowest}
use Rattle.question.specs.Trees.{Tree, nothing, branch, reading}
use Rattle.node_judging.specs.declared.scope.Scope.{Scope as Kept}
use Rattle.node_judging.specs.Steps.{width_kept, no_widths, bound_width, bind, operand_unbound_at, step_of}
use Rattle.question.specs.Walk.{lowest_of, walk}
use Rattle.judgements.specs.Faults.{in_scope, bound_sees, others_see, operand_unbound, width_of, bound_by, fault_at, unbound}
use Rattle.nodes.specs.declared.node.Operand.{Operand}
use Rattle.nodes.specs.declared.node.Operand.TheVariants.{Of, Fixed}
use Rattle.nodes.specs.declared.node.Atom.{Atom}
use Rattle.nodes.specs.declared.node.Connective.TheVariants.{Not}
use Rattle.nodes.specs.declared.node.Binder.TheVariants.{Binding, Quantifies}
use Rattle.nodes.specs.declared.node.Form.{Form}
use Rattle.nodes.specs.declared.node.Form.TheVariants.{Table, Alpha, Target, Binds, Combines, Compares, Connects}
use Rattle.nodes.proofs.Forms.{atom_fits, variables_fit}
use Rattle.judgements.proofs.SortedTrees.{RangeTree, table_tree, alpha_tree, combined_tree, TargetTree, target_tree, TargetsIfAny, no_target, more_targets, BindingTree, binding_tree, BindingsIfAny, no_binding, more_bindings, ConditionTree, atom_tree, joined_tree, not_tree, quantifier_tree, ConditionIfAny, without_condition, with_condition}
use Rattle.judgements.proofs.ScopesShown.{bind-length, kept-bound, kept_other}
use Rattle.judgements.proofs.GoodForm.{found_at_b, found_beside}
use Rattle.judgements.proofs.LowestLaws.{lowest_none, node_lowest}

-- the walk's scope has a width for exactly the variables in scope
record Names (scope : Kept) (s : scopes.Scope) : Type 0 where
  named : (v : ℕ) → v < variable_count → ltb 0 (width_kept scope v) ≡ in_scope s v
  room : length scope.widths ≡ variable_count

names_empty : Names no_widths []
names_empty = record { named = λ v h. le-ltb 0 (width_kept no_widths v) (let z : width_kept no_widths v ≡ 0 = get_or-replicate variable_count v 0 0 (omega arith) in omega arith); room = length-replicate {A = ℕ} variable_count 0 }

in_extended : (s : scopes.Scope) (v w u : ℕ) → in_scope (extend s v w) u ≡ (in_scope s u || eqb u v)
in_extended [] v w u = or-false (eqb u v)
in_extended (entry x k ∷ s) v w u = ap (λ (b : Bool). eqb u x || b) (in_extended s v w u) ∙ sym (or_assoc (eqb u x) (in_scope s u) (eqb u v))

names_bind : {scope : Kept} {s : scopes.Scope} (v w k : ℕ) → Names scope s → v < variable_count → Names (bind scope v w) (extend s v k)
names_bind {scope} {s} v w k names small =
    record { named = λ u h. go u h (true_or_false (eqb u v)) (in_extended s v k u); room = bind-length scope v w ∙ names.room }
  where
    go : (u : ℕ) → u < variable_count → (eqb u v ≡ true) ⊎ (eqb u v ≡ false) → in_scope (extend s v k) u ≡ (in_scope s u || eqb u v) → ltb 0 (width_kept (bind scope v w) u) ≡ in_scope (extend s v k) u
    go u h (inl e) q =
        let g : width_kept (bind scope v w) u ≡ bound_width w = rw (eqb-true u v e) (kept-bound scope v w small names.room) in
        lt-ltb 0 (width_kept (bind scope v w) u) (omega (arith, g)) ∙ sym (q ∙ rw e (or-true (in_scope s u)))
    go u h (inr e) q = rw (kept_other scope v w u (eqb-false u v e)) (names.named u h ∙ sym (q ∙ rw e (or-false (in_scope s u))))

zero_or_more : (n : ℕ) → eqb n 0 ≡ not (ltb 0 n)
zero_or_more zero = refl
zero_or_more (suc n) = rw (ne_eqb (suc n) 0 (λ e. omega arith), lt-ltb 0 (suc n) (omega arith))

module _ {scope : Kept} {s : scopes.Scope} (names : Names scope s) where
  operand_same : (operand : Operand) → OperandVariableFits operand → operand_unbound_at scope operand ≡ operand_unbound s operand
  operand_same (Of v a) small = zero_or_more (width_kept scope v) ∙ ap not (names.named v small)
  operand_same (Fixed c) small = refl

  atom_same : (columns : ℕ → ℕ) (atom : Atom) → atom_fits atom ≡ true → (step_of scope (Compares atom)).unbound ≡ unbound columns (Compares atom) nothing nothing s
  atom_same columns atom fits =
      let small = variables_fit (Compares atom) fits in
      ap₂ ◌||◌ (operand_same (Of atom.variable atom.attribute) small.0) (operand_same atom.operand small.1)

module _ (columns : ℕ → ℕ) (relations : ℕ) where
  -- the lowest fault of a tree that stands in s
  abbrev pub lowest_in : Tree → scopes.Scope → ℕ
  lowest_in tree s = lowest (λ j. fault_at columns (unbound columns) tree s j) question_node_limit

  none_in : (scope : Kept) (s : scopes.Scope) → (walk columns nothing scope).unbound ≡ lowest_in nothing s
  unfolding walk fault_at
  none_in scope s = sym (lowest_none question_node_limit)

  -- a node, from its own fault and its parts
  node_in_lem : (i : ℕ) (form : Form) (x y z : Tree) (scope : Kept) (s : scopes.Scope) → ((step_of scope form).unbound ≡ true → i < question_node_limit)
      → (step_of scope form).unbound ≡ unbound columns form x y s
      → (found_beside columns form scope y x).unbound ≡ lowest_in x (others_see columns form y s)
      → (found_at_b columns form scope y).unbound ≡ lowest_in y (bound_sees form s)
      → (found_beside columns form scope y z).unbound ≡ lowest_in z (others_see columns form y s)
      → (walk columns (branch i form x y z) scope).unbound ≡ lowest_in (branch i form x y z) s
  unfolding walk fault_at
  node_in_lem i form x y z scope s small same a b c =
      ap (λ (fault : Bool). lowest_of fault i (found_beside columns form scope y x).unbound (found_at_b columns form scope y).unbound (found_beside columns form scope y z).unbound) same
      ∙ node_lowest (unbound columns form x y s) i
      (λ j. fault_at columns (unbound columns) x (others_see columns form y s) j)
      (λ j. fault_at columns (unbound columns) y (bound_sees form s) j)
      (λ j. fault_at columns (unbound columns) z (others_see columns form y s) j) (λ e. small (same ∙ e)) a b c

  mutual
    unfolding width_of_range reading walk

    -- a range sees nothing, so it may stand anywhere
    pub range_in : {tree : Tree} → RangeTree relations tree → (scope : Kept) (s : scopes.Scope) → (walk columns tree scope).unbound ≡ lowest_in tree s
    range_in (table_tree {i = i} {relation = relation} h) scope s = node_in_lem i (Table relation) nothing nothing nothing scope s (λ e. absurd (false≢true e)) refl (none_in scope s) (none_in scope s) (none_in scope s)
    range_in (alpha_tree {i = i} {x = x} {y = y} {z = z} small ts bs f) scope s =
        let bound : Kept = (walk columns y no_widths).scope in
        let B = binding_in bs no_widths [] names_empty in
        node_in_lem i Alpha x y z scope s (λ e. small) refl (target_in ts bound (bound_by columns y) B.1) B.0 (maybe_in f bound (bound_by columns y) B.1)
    range_in (combined_tree {i = i} {k = k} {x = x} {y = y} small r t) scope s = node_in_lem i (Combines k) x y nothing scope s (λ e. small) refl (range_in r scope []) (range_in t scope []) (none_in scope [])

    target_in : {tree : Tree} → TargetTree relations tree → (scope : Kept) (s : scopes.Scope) → Names scope s → (walk columns tree scope).unbound ≡ lowest_in tree s
    target_in (target_tree {i = i} {v = v} {a = a} {z = z} small inside limit ts) scope s names =
        node_in_lem i (Target v a) nothing nothing z scope s (λ e. small) (operand_same names (Of v a) inside) (none_in scope s) (none_in scope s) (targets_in ts scope s names)

    targets_in : {tree : Tree} → TargetsIfAny relations tree → (scope : Kept) (s : scopes.Scope) → Names scope s → (walk columns tree scope).unbound ≡ lowest_in tree s
    targets_in no_target scope s names = none_in scope s
    targets_in (more_targets ts) scope s names = target_in ts scope s names

    binding_in : {tree : Tree} → BindingTree relations tree → (scope : Kept) (s : scopes.Scope) → Names scope s → ((walk columns tree scope).unbound ≡ lowest_in tree s) × Names (walk columns tree scope).scope (scope_of_bindings columns (reading tree).bindings s)
    binding_in (binding_tree {i = i} {v = v} {y = y} {z = z} small inside r bs) scope s names =
        let w : ℕ = (walk columns y scope).width in
        let next : scopes.Scope = extend s v (width_of columns y) in
        let B = bindings_in bs (bind scope v w) next (names_bind v w (width_of columns y) names inside) in
        (node_in_lem i (Binds v Binding) nothing y z scope s (λ e. small) (names.named v inside) (none_in (bind scope v w) _) (range_in r scope []) B.0, B.1)

    bindings_in : {tree : Tree} → BindingsIfAny relations tree → (scope : Kept) (s : scopes.Scope) → Names scope s → ((walk columns tree scope).unbound ≡ lowest_in tree s) × Names (walk columns tree scope).scope (scope_of_bindings columns (reading tree).bindings s)
    bindings_in no_binding scope s names = (none_in scope s, names)
    bindings_in (more_bindings b) scope s names = binding_in b scope s names

    condition_in : {tree : Tree} → ConditionTree relations tree → (scope : Kept) (s : scopes.Scope) → Names scope s → (walk columns tree scope).unbound ≡ lowest_in tree s
    condition_in (atom_tree {i = i} {atom = atom} small fits) scope s names = node_in_lem i (Compares atom) nothing nothing nothing scope s (λ e. small) (atom_same names columns atom fits) (none_in scope s) (none_in scope s) (none_in scope s)
    condition_in (joined_tree {i = i} {k = k} {x = x} {y = y} small joins f g) scope s names = node_in_lem i (Connects k) x y nothing scope s (λ e. small) refl (condition_in f scope s names) (condition_in g scope s names) (none_in scope s)
    condition_in (not_tree {i = i} {x = x} small f) scope s names = node_in_lem i (Connects Not) x nothing nothing scope s (λ e. small) refl (condition_in f scope s names) (none_in scope s) (none_in scope s)
    condition_in (quantifier_tree {i = i} {v = v} {q = q} {y = y} {z = z} small inside fits r f) scope s names =
        let w : ℕ = (walk columns y scope).width in
        let next : scopes.Scope = extend s v (width_of columns y) in
        node_in_lem i (Binds v (Quantifies q)) nothing y z scope s (λ e. small) (names.named v inside) (none_in (bind scope v w) _) (range_in r scope []) (condition_in f (bind scope v w) next (names_bind v w (width_of columns y) names inside))

    maybe_in : {tree : Tree} → ConditionIfAny relations tree → (scope : Kept) (s : scopes.Scope) → Names scope s → (walk columns tree scope).unbound ≡ lowest_in tree s
    maybe_in without_condition scope s names = none_in scope s
    maybe_in (with_condition f) scope s names = condition_in f scope s names
