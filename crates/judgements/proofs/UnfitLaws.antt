-- Refusal 6: where no node is at fault by 5, the walk finds the lowest node that is at fault by 6 in the scope in which it stands.
-- The walk counts widths only up to 33. That hides a fault only above a lower one: a range wider than 32 has an alpha at fault in it. Assumes nothing.
use mathlib.Core.Path.{◌≡◌, refl, sym, ◌∙◌, ap, ap₂}
use mathlib.Core.Bool.{Bool, true, false, not, ◌||◌, false≢true}
use mathlib.Core.Logic.{◌⊎◌, inl, inr}
use mathlib.Core.List.{List, [], ◌∷◌}
use Prim.Native.Nat.{ℕ, zero, suc, ◌+◌, ◌≤◌, ◌<◌, min}
use native.Mathlib.Omega.{arith}
use lib.Dec.{ltb, leb, eqb}
use lib.ListN.{length, length-replicate, get_or-replicate}
use borrow.Author.Tests.{eqb-true, eqb-false, ne_eqb, ltb-true, ltb-false, leb-true}
use Rattle.relations.specs.Limits.{column_limit, question_node_limit, variable_count}
use Rattle.relations.specs.Lists.{All}
use Rattle.relations.proofs.BoolLaws.{true_or_false}
use Rattle.relations.proofs.ListLaws.{all_append}
use Rattle.calculus.specs.Question as calculus
use Rattle.calculus.specs.Scope as scopes
use Rattle.calculus.specs.Scope.{entry, extend, columns_in}
use Rattle.calculus.specs.Form.{NotInScope, width_of_range, scope_of_bindings}
use Rattle.calculus.specs.Form as form
use Rattle.calculus.proofs.ScopeLaws.{columns_extend}
use Rattle.nodes.specs.References.{lowest}
use Rattle.question.specs.Trees.{Tree, nothing, branch, target_of, alpha_of, combined, reading}
use Rattle.node_judging.specs.declared.scope.Scope.{Scope as Kept}
use Rattle.node_judging.specs.Steps.{width_kept, columns_kept, no_widths, add_widths, bound_width, bind, operand_unfit_at, target_width_kept, Found, Step, step_of}
use Rattle.question.specs.Walk.{lowest_of, walk}
use Rattle.judgements.specs.Faults.{bound_sees, others_see, operand_unfit, width_of, bound_by, fault_at, unfit}
use Rattle.nodes.specs.declared.node.Operand.{Operand}
use Rattle.nodes.specs.declared.node.Operand.TheVariants.{Of, Fixed}
use Rattle.nodes.specs.declared.node.Atom.{Atom}
use Rattle.nodes.specs.declared.node.Connective.TheVariants.{Not}
use Rattle.nodes.specs.declared.node.Binder.TheVariants.{Binding, Quantifies}
use Rattle.nodes.specs.declared.node.Form.{Form}
use Rattle.nodes.specs.declared.node.Form.TheVariants.{Table, Alpha, Target, Binds, Combines, Compares, Connects}
use Rattle.nodes.proofs.Forms.{operand_fits, atom_fits, first_of, third_of}
use Rattle.judgements.proofs.SortedTrees.{RangeTree, table_tree, alpha_tree, combined_tree, TargetTree, target_tree, TargetsIfAny, no_target, more_targets, BindingTree, binding_tree, BindingsIfAny, no_binding, more_bindings, ConditionTree, atom_tree, joined_tree, not_tree, quantifier_tree, ConditionIfAny, without_condition, with_condition, atom_sides}
use Rattle.judgements.proofs.KindsAlike.{combined-width}
use Rattle.judgements.proofs.ScopesShown.{HasWidth, fresh, width-extend, bind-length, kept-bound, kept_other}
use Rattle.judgements.proofs.GoodForm.{no_fault, found_at_b, found_beside}
use Rattle.judgements.proofs.LowestLaws.{lowest_none, node_lowest, same_ltb}
use Rattle.judgements.proofs.Ordered.{Ordered}

-- two widths are the same, or both over 32
abbrev Alike : ℕ → ℕ → Type 0
Alike a b = min (suc column_limit) a ≡ min (suc column_limit) b

-- the walk's scope has the widths of the scope, as far as they are counted
record Wide (scope : Kept) (s : scopes.Scope) : Type 0 where
  shown : (v : ℕ) → v < variable_count → Alike (width_kept scope v) (scopes.width_in s v)
  room : length scope.widths ≡ variable_count
  all_columns_lem : Alike (columns_kept scope) (columns_in s)
  have_widths : All HasWidth s

wide_empty : Wide no_widths []
wide_empty =
    record {
      shown = λ v h. ap (λ (n : ℕ). min (suc column_limit) n) (let z : width_kept no_widths v ≡ 0 = get_or-replicate variable_count v 0 0 (omega arith) in z);
      room = length-replicate {A = ℕ} variable_count 0;
      all_columns_lem = refl;
      have_widths = tt;
    }

same_over : (a b : ℕ) → Alike a b → ltb column_limit a ≡ ltb column_limit b
same_over a b e = same_ltb column_limit a column_limit b (λ h. omega (arith, h, e)) (λ h. omega (arith, h, e))

-- a binder's variable was new: no fault by 5
new_variable : {scope : Kept} {s : scopes.Scope} → Wide scope s → (v : ℕ) → v < variable_count → ltb 0 (width_kept scope v) ≡ false → NotInScope v s
new_variable {scope} {s} wide v small h = fresh v s wide.have_widths (omega (arith, wide.shown v small, ltb-false 0 (width_kept scope v) h))

counted : (a w : ℕ) → Alike (add_widths a w) (a + w)
unfolding add_widths
counted a w = omega arith

alike_left : (a b w : ℕ) → Alike a b → Alike (a + w) (b + w)
alike_left a b w e = omega arith

alike_right : (b w k : ℕ) → Alike w k → Alike (b + w) (b + k)
alike_right b w k e = omega arith

add_alike : (a b w k : ℕ) → Alike a b → Alike w k → Alike (add_widths a w) (b + k)
add_alike a b w k e f = counted a w ∙ alike_left a b w e ∙ alike_right b w k f

bound_alike : (w k : ℕ) → 1 ≤ w → Alike w k → Alike (bound_width w) k
bound_alike w k some alike = omega arith

some_alike : (w k : ℕ) → 1 ≤ w → Alike w k → 1 ≤ k
some_alike w k some alike = omega arith

wide-bind : {scope : Kept} {s : scopes.Scope} (v w k : ℕ) → Wide scope s → v < variable_count → NotInScope v s → 1 ≤ w → Alike w k → Wide (bind scope v w) (extend s v k)
wide-bind {scope} {s} v w k wide small new some alike =
    record {
      shown = λ u h. go u h (true_or_false (eqb u v));
      room = bind-length scope v w ∙ wide.room;
      all_columns_lem = rw (columns_extend s v k) (add_alike (columns_kept scope) (columns_in s) w k wide.all_columns_lem alike);
      have_widths = all_append HasWidth s (entry v k ∷ []) wide.have_widths (some_alike w k some alike, tt);
    }
  where
    go : (u : ℕ) → u < variable_count → (eqb u v ≡ true) ⊎ (eqb u v ≡ false) → Alike (width_kept (bind scope v w) u) (scopes.width_in (extend s v k) u)
    go u h (inl e) =
        let a : width_kept (bind scope v w) u ≡ bound_width w = rw (eqb-true u v e) (kept-bound scope v w small wide.room) in
        let b : scopes.width_in (extend s v k) u ≡ k = width-extend s v k u new ∙ rw e in
        rw (a, b) (bound_alike w k some alike)
    go u h (inr e) =
        let a : width_kept (bind scope v w) u ≡ width_kept scope u = kept_other scope v w u (eqb-false u v e) in
        let b : scopes.width_in (extend s v k) u ≡ scopes.width_in s u = width-extend s v k u new ∙ rw e in
        rw (a, b) (wide.shown u h)

module _ {scope : Kept} {s : scopes.Scope} (wide : Wide scope s) where
  attribute_same : (v a : ℕ) → v < variable_count → a ≤ column_limit → ltb (width_kept scope v) a ≡ ltb (scopes.width_in s v) a
  attribute_same v a small few = same_ltb (width_kept scope v) a (scopes.width_in s v) a (λ h. omega (arith, h, wide.shown v small)) (λ h. omega (arith, h, wide.shown v small))

  operand_same : (operand : Operand) → operand_fits operand ≡ true → operand_unfit_at scope operand ≡ operand_unfit s operand
  operand_same (Of v a) fits =
      let x : Bool = ltb v variable_count in
      let y : Bool = leb 1 a.0 in
      let z : Bool = leb a.0 column_limit in
      attribute_same v a.0 (ltb-true v variable_count (first_of x y z fits)) (leb-true a.0 column_limit (third_of x y z fits))
  operand_same (Fixed c) fits = refl

  atom_same : (columns : ℕ → ℕ) (atom : Atom) → atom_fits atom ≡ true → (step_of scope (Compares atom)).unfit 0 0 ≡ unfit columns (Compares atom) nothing nothing s
  atom_same columns atom fits =
      let sides = atom_sides atom fits in
      ap₂ ◌||◌ (operand_same (Of atom.variable atom.attribute) sides.0) (operand_same atom.operand sides.1)

  target_columns_lem : (v a : ℕ) → v < variable_count → Alike (target_width_kept scope v a) (form.target_width s (target_of v a))
  target_columns_lem v zero small = wide.shown v small
  target_columns_lem v (suc n) small = rw (ne_eqb (suc n) 0 (λ e. omega arith))

  columns_same : (w k : ℕ) → Alike w k → ltb column_limit (add_widths (columns_kept scope) w) ≡ ltb column_limit (columns_in s + k)
  columns_same w k alike = same_over (add_widths (columns_kept scope) w) (columns_in s + k) (add_alike (columns_kept scope) (columns_in s) w k wide.all_columns_lem alike)

-- a target takes some column
taken_some : (scope : Kept) (v a : ℕ) → eqb (width_kept scope v) 0 ≡ false → 1 ≤ target_width_kept scope v a
taken_some scope v zero bound = let n : width_kept scope v ≡ 0 → ⊥ = eqb-false (width_kept scope v) 0 bound in omega arith
taken_some scope v (suc n) bound = rw (ne_eqb (suc n) 0 (λ e. omega arith)) (omega arith)

-- the targets' columns, as the walk counts them
counts : (a b k l : ℕ) → Alike a k → b ≡ min (suc column_limit) l → add_widths a b ≡ min (suc column_limit) (k + l)
unfolding add_widths
counts a b k l e f = omega arith

some_more : (a b : ℕ) → 1 ≤ a → 1 ≤ add_widths a b
unfolding add_widths
some_more a b h = omega arith

-- a fault of a node hides behind a lower one of its parts
hidden : (f g : Bool) (i a b c : ℕ) → (f ≡ g) ⊎ ((i < question_node_limit) × ((a < i) ⊎ (b < i))) → lowest_of f i a b c ≡ lowest_of g i a b c
hidden f g i a b c (inl e) = rw e
hidden true true i a b c (inr h) = refl
hidden false false i a b c (inr h) = refl
hidden true false i a b c (inr (small, inl h)) = omega arith
hidden true false i a b c (inr (small, inr h)) = omega arith
hidden false true i a b c (inr (small, inl h)) = omega arith
hidden false true i a b c (inr (small, inr h)) = omega arith

own_lowest : (f : Bool) (i a b c : ℕ) → f ≡ true → lowest_of f i a b c ≤ i
own_lowest true i a b c h = omega arith
own_lowest false i a b c h = absurd (false≢true h)

part-lowest : (f : Bool) (i a b c : ℕ) → lowest_of f i a b c ≤ a
part-lowest f i a b c = omega arith

module _ (columns : ℕ → ℕ) (relations : ℕ) where
  abbrev pub lowest_in : Tree → scopes.Scope → ℕ
  lowest_in tree s = lowest (λ j. fault_at columns (unfit columns) tree s j) question_node_limit

  -- no node of the tree is at fault by 5
  abbrev Bound : Found → Type 0
  Bound found = question_node_limit ≤ found.unbound

  record BoundNode (step : Step) (a b c : Found) : Type 0 where
    here : step.unbound ≡ false
    bound_a : Bound a
    bound_b : Bound b
    bound_c : Bound c

  bound_node : (i : ℕ) (form : Form) (x y z : Tree) (scope : Kept) → i < question_node_limit → Bound (walk columns (branch i form x y z) scope)
      → BoundNode (step_of scope form) (found_beside columns form scope y x) (found_at_b columns form scope y) (found_beside columns form scope y z)
  unfolding walk
  bound_node i form x y z scope small bound =
      let n = no_fault (step_of scope form).unbound i (found_beside columns form scope y x).unbound (found_at_b columns form scope y).unbound (found_beside columns form scope y z).unbound small bound in
      record { here = n.clear; bound_a = n.none_a; bound_b = n.none_b; bound_c = n.none_c }

  none_in : (scope : Kept) (s : scopes.Scope) → (walk columns nothing scope).unfit ≡ lowest_in nothing s
  unfolding walk fault_at
  none_in scope s = sym (lowest_none question_node_limit)

  -- a node, from its own fault and its parts
  node_in_lem : (i : ℕ) (form : Form) (x y z : Tree) (scope : Kept) (s : scopes.Scope) → (unfit columns form x y s ≡ true → i < question_node_limit)
      → ((step_of scope form).unfit (found_beside columns form scope y x).width (found_at_b columns form scope y).width ≡ unfit columns form x y s)
      ⊎ ((i < question_node_limit) × (((found_beside columns form scope y x).unfit < i) ⊎ ((found_at_b columns form scope y).unfit < i)))
      → (found_beside columns form scope y x).unfit ≡ lowest_in x (others_see columns form y s)
      → (found_at_b columns form scope y).unfit ≡ lowest_in y (bound_sees form s)
      → (found_beside columns form scope y z).unfit ≡ lowest_in z (others_see columns form y s)
      → (walk columns (branch i form x y z) scope).unfit ≡ lowest_in (branch i form x y z) s
  unfolding walk fault_at
  node_in_lem i form x y z scope s small same p q r =
      let a : Found = found_beside columns form scope y x in
      let b : Found = found_at_b columns form scope y in
      hidden ((step_of scope form).unfit a.width b.width) (unfit columns form x y s) i a.unfit b.unfit (found_beside columns form scope y z).unfit same
      ∙ node_lowest (unfit columns form x y s) i
      (λ j. fault_at columns (unfit columns) x (others_see columns form y s) j)
      (λ j. fault_at columns (unfit columns) y (bound_sees form s) j)
      (λ j. fault_at columns (unfit columns) z (others_see columns form y s) j) small p q r

  -- what is shown of each sort
  pub record RangeIn (bound : ℕ) (tree : Tree) (found : Found) (s : scopes.Scope) : Type 0 where
    pub unfit_is : found.unfit ≡ lowest_in tree s
    alike : Alike found.width (width_of columns tree)
    some : 1 ≤ found.width
    -- the width is the width, or a node of the tree is at fault
    exact : (found.width ≡ width_of columns tree) ⊎ (found.unfit < bound)

  record BindingsIn (tree : Tree) (found : Found) (s : scopes.Scope) : Type 0 where
    unfit_is : found.unfit ≡ lowest_in tree s
    wide_after : Wide found.scope (scope_of_bindings columns (reading tree).bindings s)

  record TargetsIn (tree : Tree) (found : Found) (s : scopes.Scope) : Type 0 where
    unfit_is : found.unfit ≡ lowest_in tree s
    wide : found.width ≡ min (suc column_limit) (form.targets_width s (reading tree).targets)

  alpha-wide : {tree : Tree} → BindingTree relations tree → (targets : List calculus.Target) (restriction : calculus.MaybeCondition)
      → width_of_range columns (alpha_of targets (reading tree).bindings restriction) ≡ form.targets_width (scope_of_bindings columns (reading tree).bindings []) targets
  unfolding width_of_range reading
  alpha-wide (binding_tree i v r bs) targets restriction = refl

  -- widths that differ, or a part at fault
  sides_same : {i : ℕ} {x y : Tree} {a b : Found} {s t : scopes.Scope} → i < question_node_limit → RangeIn i x a s → RangeIn i y b t
      → (not (eqb a.width b.width) ≡ not (eqb (width_of columns x) (width_of columns y))) ⊎ ((i < question_node_limit) × ((a.unfit < i) ⊎ (b.unfit < i)))
  sides_same {i} {x} {y} {a} {b} small r t = go r.exact t.exact
    where
      go : (a.width ≡ width_of columns x) ⊎ (a.unfit < i) → (b.width ≡ width_of columns y) ⊎ (b.unfit < i)
          → (not (eqb a.width b.width) ≡ not (eqb (width_of columns x) (width_of columns y))) ⊎ ((i < question_node_limit) × ((a.unfit < i) ⊎ (b.unfit < i)))
      go (inl e) (inl f) = inl (ap₂ (λ (v w : ℕ). not (eqb v w)) e f)
      go (inl e) (inr l) = inr (small, inr l)
      go (inr l) q = inr (small, inl l)

  -- a range operation has its left side's width
  side_exact : (fault : Bool) {bound i w k a : ℕ} (b c : ℕ) → i < bound → (w ≡ k) ⊎ (a < i) → (w ≡ k) ⊎ (lowest_of fault i a b c < bound)
  side_exact fault b c l (inl e) = inl e
  side_exact fault {bound} {i} {w} {k} {a} b c l (inr h) = inr (omega (arith, l, h, part-lowest fault i a b c))

  alpha_exact : {bound i w : ℕ} (k a b c : ℕ) → i < bound → w ≡ min (suc column_limit) k → (w ≡ k) ⊎ (lowest_of (ltb column_limit w) i a b c < bound)
  alpha_exact {bound} {i} {w} k a b c l e = go (true_or_false (ltb column_limit w))
    where
      go : (ltb column_limit w ≡ true) ⊎ (ltb column_limit w ≡ false) → (w ≡ k) ⊎ (lowest_of (ltb column_limit w) i a b c < bound)
      go (inl t) = inr (omega (arith, l, own_lowest (ltb column_limit w) i a b c t))
      go (inr f) = inl (omega (arith, e, ltb-false column_limit w f))

  module _ (has-columns : (relation : ℕ) → relation < relations → 1 ≤ columns relation) where
    mutual
      unfolding width_of_range reading walk

      pub range_in : {tree : Tree} → RangeTree relations tree → (bound : ℕ) → Ordered bound tree → (scope : Kept) (s : scopes.Scope) → Bound (walk columns tree scope) → RangeIn bound tree (walk columns tree scope) s
      range_in (table_tree {i = i} {relation = relation} h) bound o scope s free =
          record { unfit_is = node_in_lem i (Table relation) nothing nothing nothing scope s (λ e. absurd (false≢true e)) (inl refl) (none_in scope s) (none_in scope s) (none_in scope s); alike = refl; some = has-columns relation h; exact = inl refl }
      range_in (alpha_tree {i = i} {x = x} {y = y} {z = z} small ts bs f) bound o scope s free =
          let b : Found = walk columns y no_widths in
          let a : Found = walk columns x b.scope in
          let c : Found = walk columns z b.scope in
          let n = bound_node i Alpha x y z scope small free in
          let B = binding_in bs i o.2 no_widths [] wide_empty n.bound_b in
          let T = target_in ts i o.1 b.scope (bound_by columns y) B.wide_after n.bound_a in
          let k : ℕ = form.targets_width (bound_by columns y) (reading x).targets in
          let e : a.width ≡ min (suc column_limit) k = T.wide in
          let w : width_of_range columns (alpha_of (reading x).targets (reading y).bindings (reading z).restriction) ≡ k = alpha-wide bs (reading x).targets (reading z).restriction in
          record {
            unfit_is =
                node_in_lem i Alpha x y z scope s (λ h. small) (inl (same_ltb column_limit a.width column_limit k (λ h. omega (arith, h, e)) (λ h. omega (arith, h, e))))
                T.unfit_is B.unfit_is (maybe_in f i o.3 b.scope (bound_by columns y) B.wide_after n.bound_c);
            alike = omega (arith, e, w);
            some = target_wide ts b.scope n.bound_a;
            exact = rw w (alpha_exact k a.unfit b.unfit c.unfit o.0 e);
          }
      range_in (combined_tree {i = i} {k = k} {x = x} {y = y} small r t) bound o scope s free =
          let n = bound_node i (Combines k) x y nothing scope small free in
          let R = range_in r i o.1 scope [] n.bound_a in
          let S = range_in t i o.2 scope [] n.bound_b in
          let fault : Bool = not (eqb (walk columns x scope).width (walk columns y scope).width) in
          let w : width_of_range columns (combined k (reading x).range (reading y).range) ≡ width_of columns x = combined-width columns k (reading x).range (reading y).range in
          record {
            unfit_is = node_in_lem i (Combines k) x y nothing scope s (λ h. small) (sides_same small R S) R.unfit_is S.unfit_is (none_in scope []);
            alike = rw w R.alike;
            some = R.some;
            exact = rw w (side_exact fault (walk columns y scope).unfit (walk columns nothing scope).unfit o.0 R.exact);
          }

      target_wide : {tree : Tree} → TargetTree relations tree → (scope : Kept) → Bound (walk columns tree scope) → 1 ≤ (walk columns tree scope).width
      target_wide (target_tree {i = i} {v = v} {a = a} {z = z} small inside limit ts) scope free =
          let n = bound_node i (Target v a) nothing nothing z scope small free in
          some_more (target_width_kept scope v a.0) (walk columns z scope).width (taken_some scope v a.0 n.here)

      target_in : {tree : Tree} → TargetTree relations tree → (bound : ℕ) → Ordered bound tree → (scope : Kept) (s : scopes.Scope) → Wide scope s → Bound (walk columns tree scope) → TargetsIn tree (walk columns tree scope) s
      target_in (target_tree {i = i} {v = v} {a = a} {z = z} small inside limit ts) bound o scope s wide free =
          let n = bound_node i (Target v a) nothing nothing z scope small free in
          let T = targets_in ts i o.3 scope s wide n.bound_c in
          record {
            unfit_is = node_in_lem i (Target v a) nothing nothing z scope s (λ e. small) (inl (attribute_same wide v a.0 inside limit)) (none_in scope s) (none_in scope s) T.unfit_is;
            wide = counts (target_width_kept scope v a.0) (walk columns z scope).width (form.target_width s (target_of v a.0)) (form.targets_width s (reading z).targets) (target_columns_lem wide v a.0 inside) T.wide;
          }

      targets_in : {tree : Tree} → TargetsIfAny relations tree → (bound : ℕ) → Ordered bound tree → (scope : Kept) (s : scopes.Scope) → Wide scope s → Bound (walk columns tree scope) → TargetsIn tree (walk columns tree scope) s
      targets_in no_target bound o scope s wide free = record { unfit_is = none_in scope s; wide = refl }
      targets_in (more_targets ts) bound o scope s wide free = target_in ts bound o scope s wide free

      binding_in : {tree : Tree} → BindingTree relations tree → (bound : ℕ) → Ordered bound tree → (scope : Kept) (s : scopes.Scope) → Wide scope s → Bound (walk columns tree scope) → BindingsIn tree (walk columns tree scope) s
      binding_in (binding_tree {i = i} {v = v} {y = y} {z = z} small inside r bs) bound o scope s wide free =
          let w : ℕ = (walk columns y scope).width in
          let next : scopes.Scope = extend s v (width_of columns y) in
          let n = bound_node i (Binds v Binding) nothing y z scope small free in
          let R = range_in r i o.2 scope [] n.bound_b in
          let B = bindings_in bs i o.3 (bind scope v w) next (wide-bind v w (width_of columns y) wide inside (new_variable wide v inside n.here) R.some R.alike) n.bound_c in
          record { unfit_is = node_in_lem i (Binds v Binding) nothing y z scope s (λ e. small) (inl (columns_same wide w (width_of columns y) R.alike)) (none_in (bind scope v w) _) R.unfit_is B.unfit_is; wide_after = B.wide_after }

      bindings_in : {tree : Tree} → BindingsIfAny relations tree → (bound : ℕ) → Ordered bound tree → (scope : Kept) (s : scopes.Scope) → Wide scope s → Bound (walk columns tree scope) → BindingsIn tree (walk columns tree scope) s
      bindings_in no_binding bound o scope s wide free = record { unfit_is = none_in scope s; wide_after = wide }
      bindings_in (more_bindings b) bound o scope s wide free = binding_in b bound o scope s wide free

      condition_in : {tree : Tree} → ConditionTree relations tree → (bound : ℕ) → Ordered bound tree → (scope : Kept) (s : scopes.Scope) → Wide scope s → Bound (walk columns tree scope) → (walk columns tree scope).unfit ≡ lowest_in tree s
      condition_in (atom_tree {i = i} {atom = atom} small fits) bound o scope s wide free =
          node_in_lem i (Compares atom) nothing nothing nothing scope s (λ e. small) (inl (atom_same wide columns atom fits)) (none_in scope s) (none_in scope s) (none_in scope s)
      condition_in (joined_tree {i = i} {k = k} {x = x} {y = y} small joins f g) bound o scope s wide free =
          let n = bound_node i (Connects k) x y nothing scope small free in
          node_in_lem i (Connects k) x y nothing scope s (λ e. small) (inl refl) (condition_in f i o.1 scope s wide n.bound_a) (condition_in g i o.2 scope s wide n.bound_b) (none_in scope s)
      condition_in (not_tree {i = i} {x = x} small f) bound o scope s wide free =
          let n = bound_node i (Connects Not) x nothing nothing scope small free in
          node_in_lem i (Connects Not) x nothing nothing scope s (λ e. small) (inl refl) (condition_in f i o.1 scope s wide n.bound_a) (none_in scope s) (none_in scope s)
      condition_in (quantifier_tree {i = i} {v = v} {q = q} {y = y} {z = z} small inside fits r f) bound o scope s wide free =
          let w : ℕ = (walk columns y scope).width in
          let next : scopes.Scope = extend s v (width_of columns y) in
          let n = bound_node i (Binds v (Quantifies q)) nothing y z scope small free in
          let R = range_in r i o.2 scope [] n.bound_b in
          let F = condition_in f i o.3 (bind scope v w) next (wide-bind v w (width_of columns y) wide inside (new_variable wide v inside n.here) R.some R.alike) n.bound_c in
          node_in_lem i (Binds v (Quantifies q)) nothing y z scope s (λ e. small) (inl (columns_same wide w (width_of columns y) R.alike)) (none_in (bind scope v w) _) R.unfit_is F

      maybe_in : {tree : Tree} → ConditionIfAny relations tree → (bound : ℕ) → Ordered bound tree → (scope : Kept) (s : scopes.Scope) → Wide scope s → Bound (walk columns tree scope) → (walk columns tree scope).unfit ≡ lowest_in tree s
      maybe_in without_condition bound o scope s wide free = none_in scope s
      maybe_in (with_condition f) bound o scope s wide free = condition_in f bound o scope s wide free
