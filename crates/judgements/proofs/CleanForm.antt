-- A sorted tree in `calculus`' good form is one in which the walk finds no fault: the converse of GoodForm, whose widths it uses. Assumes nothing.
use mathlib.Core.Path.{◌≡◌, refl, sym, ◌∙◌}
use mathlib.Core.Bool.{Bool, true, false, not, ◌||◌, true≢false}
use mathlib.Core.List.{List, [], ◌∷◌}
use Prim.Native.Nat.{ℕ, zero, suc, ◌+◌, ◌≤◌, ◌<◌}
use native.Mathlib.Omega.{arith}
use lib.Dec.{ltb, leb, eqb}
use borrow.Author.Tests.{ltb-true, le-ltb, ne_eqb, eq-eqb}
use Rattle.relations.specs.Limits.{column_limit, question_node_limit, variable_count}
use Rattle.relations.specs.Lists.{All}
use Rattle.relations.specs.Comparison.{Operator}
use Rattle.terms.specs.Terms.{operator_in}
use Rattle.relations.specs.Columns.{attribute}
use Rattle.calculus.specs.Question as calculus
use Rattle.calculus.specs.Scope as scopes
use Rattle.calculus.specs.Scope.{entry, extend, columns_in}
use Rattle.calculus.specs.Form.{NotInScope, Known, GoodAtom, GoodTarget, width_of_range, scope_of_bindings, GoodRange, GoodBindings, GoodMaybe, GoodCondition}
use Rattle.calculus.specs.Form as form
use Rattle.question.specs.Trees.{Tree, nothing, branch, operand_of, target_of, atom_of, alpha_of, reading}
use Rattle.node_judging.specs.declared.scope.Scope.{Scope as Kept}
use Rattle.node_judging.specs.Steps.{width_kept, columns_kept, no_widths, add_widths, bind, operand_unbound_at, operand_unfit_at, Found, Step, step_of}
use Rattle.question.specs.Walk.{lowest_of, walk}
use Rattle.nodes.specs.declared.node.Operand.{Operand}
use Rattle.nodes.specs.declared.node.Operand.TheVariants.{Of, Fixed}
use Rattle.nodes.specs.declared.node.Atom.{Atom}
use Rattle.nodes.specs.declared.node.Connective.TheVariants.{Not}
use Rattle.nodes.specs.declared.node.Binder.TheVariants.{Binding, Quantifies}
use Rattle.nodes.specs.declared.node.Form.{Form}
use Rattle.nodes.specs.declared.node.Form.TheVariants.{Table, Alpha, Target, Binds, Combines, Compares, Connects}
use Rattle.nodes.proofs.Forms.{operand_fits, atom_fits, first_of, variables_fit}
use Rattle.judgements.proofs.SortedTrees.{RangeTree, table_tree, alpha_tree, combined_tree, TargetTree, target_tree, TargetsIfAny, no_target, more_targets, BindingTree, binding_tree, BindingsIfAny, no_binding, more_bindings, ConditionTree, atom_tree, joined_tree, not_tree, quantifier_tree, ConditionIfAny, without_condition, with_condition, atom_sides}
use Rattle.judgements.proofs.KindsAlike.{combined-good, joined-good, quantified_parts}
use Rattle.judgements.proofs.ScopesShown.{Shows, shows_empty}
use Rattle.judgements.proofs.TreeSizes.{restriction_is}
use Rattle.judgements.proofs.GoodForm.{Clean, found_at_b, found_beside, RangeGood, range-good, target_good, binding_good, binder}

none_lower : (fault : Bool) (i a b c : ℕ) → fault ≡ false → question_node_limit ≤ a → question_node_limit ≤ b → question_node_limit ≤ c → question_node_limit ≤ lowest_of fault i a b c
none_lower true i a b c h p q r = absurd (true≢false h)
none_lower false i a b c h p q r = omega arith

-- no fault at a node, and none below it
clean_at : (columns : ℕ → ℕ) (i : ℕ) (form : Form) (x y z : Tree) (scope : Kept)
    → (step_of scope form).unbound ≡ false
    → (step_of scope form).unfit (found_beside columns form scope y x).width (found_at_b columns form scope y).width ≡ false
    → Clean (found_beside columns form scope y x) → Clean (found_at_b columns form scope y) → Clean (found_beside columns form scope y z)
    → Clean (walk columns (branch i form x y z) scope)
unfolding walk
clean_at columns i form x y z scope bound fit p q r =
    let step : Step = step_of scope form in
    let a : Found = found_beside columns form scope y x in
    let b : Found = found_at_b columns form scope y in
    let c : Found = found_beside columns form scope y z in
    record {
      bound = none_lower step.unbound i a.unbound b.unbound c.unbound bound p.bound q.bound r.bound;
      fit = none_lower (step.unfit a.width b.width) i a.unfit b.unfit c.unfit fit p.fit q.fit r.fit;
    }

clean_none : (columns : ℕ → ℕ) (scope : Kept) → Clean (walk columns nothing scope)
unfolding walk
clean_none columns scope = record { bound = omega arith; fit = omega arith }

-- a variable that is not in scope has no width
absent : (v : ℕ) (s : scopes.Scope) → NotInScope v s → scopes.width_in s v ≡ 0
absent v [] h = refl
absent v (entry x w ∷ s) h = rw h.0 (absent v s h.1)

both_clear : (a b : Bool) → a ≡ false → b ≡ false → (a || b) ≡ false
both_clear true b h k = h
both_clear false b h k = k

module _ {scope : Kept} {s : scopes.Scope} (shows : Shows scope s) where
  not_bound : (v : ℕ) → v < variable_count → NotInScope v s → ltb 0 (width_kept scope v) ≡ false
  not_bound v small new = le-ltb 0 (width_kept scope v) (omega (arith, shows.shown v small, absent v s new))

  in_scope_lem : (v : ℕ) → v < variable_count → 1 ≤ scopes.width_in s v → eqb (width_kept scope v) 0 ≡ false
  in_scope_lem v small h = ne_eqb (width_kept scope v) 0 (λ e. omega (arith, e, shows.shown v small))

  has_attribute : (v a : ℕ) → v < variable_count → a ≤ scopes.width_in s v → ltb (width_kept scope v) a ≡ false
  has_attribute v a small h = le-ltb (width_kept scope v) a (omega (arith, shows.shown v small))

  -- an atom's operand, and the atom
  record OperandClean (v a : ℕ) (operand : Operand) : Type 0 where
    known : Known s v a
    operand-bound : operand_unbound_at scope operand ≡ false
    operand_fit : operand_unfit_at scope operand ≡ false

  clean_operand : (v a : ℕ) (operator : Operator) (operand : Operand) → operand_fits operand ≡ true → GoodAtom s (calculus.compare v (attribute a) operator (operand_of operand)) → OperandClean v a operand
  clean_operand v a operator (Of other b) fits good =
      let small : other < variable_count = ltb-true other variable_count (first_of (ltb other variable_count) (leb 1 b.0) (leb b.0 column_limit) fits) in
      record { known = good.0; operand-bound = in_scope_lem other small (omega (arith, good.1.0, good.1.1)); operand_fit = has_attribute other b.0 small good.1.1 }
  clean_operand v a operator (Fixed c) fits good = record { known = good; operand-bound = refl; operand_fit = refl }

  record AtomClean (atom : Atom) : Type 0 where
    atom-bound : (step_of scope (Compares atom)).unbound ≡ false
    atom-fit : (step_of scope (Compares atom)).unfit 0 0 ≡ false

  clean_atom : (atom : Atom) → atom_fits atom ≡ true → GoodAtom s (atom_of atom) → AtomClean atom
  clean_atom atom fits good =
      let small : atom.variable < variable_count = (variables_fit (Compares atom) fits).0 in
      let o = clean_operand atom.variable atom.attribute.0 (operator_in atom.operator) atom.operand (atom_sides atom fits).1 good in
      record {
        atom-bound = both_clear (eqb (width_kept scope atom.variable) 0) (operand_unbound_at scope atom.operand) (in_scope_lem atom.variable small (omega (arith, o.known.0, o.known.1))) o.operand-bound;
        atom-fit = both_clear (ltb (width_kept scope atom.variable) atom.attribute.0) (operand_unfit_at scope atom.operand) (has_attribute atom.variable atom.attribute.0 small o.known.1) o.operand_fit;
      }

  record TargetClean (v a : ℕ) : Type 0 where
    target_bound : eqb (width_kept scope v) 0 ≡ false
    target_fit : ltb (width_kept scope v) a ≡ false

  clean_target : (v a : ℕ) → v < variable_count → GoodTarget s (target_of v a) → TargetClean v a
  clean_target v zero small good = record { target_bound = in_scope_lem v small good; target_fit = has_attribute v 0 small (omega arith) }
  clean_target v (suc n) small good = record { target_bound = in_scope_lem v small (omega (arith, good.0, good.1)); target_fit = has_attribute v (suc n) small good.1 }

  -- a binder's columns fit
  columns_fit : (width w : ℕ) → w ≡ width → columns_in s + w ≤ column_limit → ltb column_limit (add_widths (columns_kept scope) width) ≡ false
  unfolding add_widths
  columns_fit width w e h = le-ltb column_limit (add_widths (columns_kept scope) width) (omega (arith, e, h, shows.all_columns_lem))

module _ (columns : ℕ → ℕ) (relations : ℕ) where
  -- an alpha's first binding is one of its bindings
  record AlphaParts (targets : List calculus.Target) (bindings : calculus.Bindings) (restriction : calculus.MaybeCondition) : Type 0 where
    good-bindings : GoodBindings columns relations bindings []
    good-restriction : GoodMaybe columns relations restriction (scope_of_bindings columns bindings [])
    good-targets : All (GoodTarget (scope_of_bindings columns bindings [])) targets
    narrow : form.targets_width (scope_of_bindings columns bindings []) targets ≤ column_limit

  alpha_parts : {tree : Tree} → BindingTree relations tree → (targets : List calculus.Target) (restriction : calculus.MaybeCondition)
      → GoodRange columns relations (alpha_of targets (reading tree).bindings restriction) → AlphaParts targets (reading tree).bindings restriction
  unfolding GoodRange width_of_range reading
  alpha_parts (binding_tree i v r bs) targets restriction good =
      record { good-bindings = (tt, good.0, good.1, omega (arith, good.4)); good-restriction = good.2; good-targets = good.3; narrow = good.6 }

  module _ (has-columns : (relation : ℕ) → relation < relations → 1 ≤ columns relation) where
    same_widths : {a b : calculus.Range} {v w : ℕ} → RangeGood columns relations a v → RangeGood columns relations b w → width_of_range columns a ≡ width_of_range columns b → not (eqb v w) ≡ false
    same_widths {v = v} {w = w} r t h = rw (eq-eqb v w (sym r.wide ∙ h ∙ t.wide))

    -- a binder, whose range is clean
    record BinderClean (v : ℕ) (y : Tree) (scope : Kept) (s : scopes.Scope) : Type 0 where
      binder_bound : ltb 0 (width_kept scope v) ≡ false
      binder_fit : ltb column_limit (add_widths (columns_kept scope) (walk columns y scope).width) ≡ false
      next-shown : Shows (bind scope v (walk columns y scope).width) (extend s v (width_of_range columns (reading y).range))

    binder_clean : {v : ℕ} {y : Tree} {scope : Kept} {s : scopes.Scope} → v < variable_count → RangeTree relations y → Shows scope s → Clean (walk columns y scope) → NotInScope v s
        → columns_in s + width_of_range columns (reading y).range ≤ column_limit → BinderClean v y scope s
    binder_clean {v} {y} {scope} inside r shows clean new few =
        let R = range-good columns relations has-columns r scope clean in
        let bound = not_bound shows v inside new in
        let fit = columns_fit shows (walk columns y scope).width (width_of_range columns (reading y).range) R.wide few in
        record { binder_bound = bound; binder_fit = fit; next-shown = (binder columns relations v inside shows R bound fit).shows_next }

    mutual
      unfolding GoodRange width_of_range reading walk

      pub range_clean : {tree : Tree} → RangeTree relations tree → (scope : Kept) → GoodRange columns relations (reading tree).range → Clean (walk columns tree scope)
      range_clean (table_tree {i = i} {relation = relation} h) scope good = clean_at columns i (Table relation) nothing nothing nothing scope refl refl (clean_none columns scope) (clean_none columns scope) (clean_none columns scope)
      range_clean (alpha_tree {i = i} {x = x} {y = y} {z = z} small ts bs f) scope good =
          let bound : Kept = (walk columns y no_widths).scope in
          let P = alpha_parts bs (reading x).targets (reading z).restriction good in
          let s : scopes.Scope = scope_of_bindings columns (reading y).bindings [] in
          let cy = binding_clean bs no_widths [] shows_empty P.good-bindings in
          let B = binding_good columns relations has-columns bs no_widths [] shows_empty cy in
          let cx = target_clean ts bound s B.shows_after P.good-targets in
          let T = target_good columns relations has-columns ts bound s B.shows_after cx in
          let w : (walk columns x bound).width ≤ column_limit = omega (arith, T.wide, P.narrow) in
          clean_at columns i Alpha x y z scope refl (le-ltb column_limit (walk columns x bound).width w) cx cy (maybe_clean f bound s B.shows_after P.good-restriction)
      range_clean (combined_tree {i = i} {k = k} {x = x} {y = y} small r t) scope good =
          let G : GoodRange columns relations (reading x).range × GoodRange columns relations (reading y).range × (width_of_range columns (reading x).range ≡ width_of_range columns (reading y).range) = rw (combined-good columns relations k (reading x).range (reading y).range) at good in
          let cx = range_clean r scope G.0 in
          let cy = range_clean t scope G.1 in
          clean_at columns i (Combines k) x y nothing scope refl (same_widths (range-good columns relations has-columns r scope cx) (range-good columns relations has-columns t scope cy) G.2) cx cy (clean_none columns scope)

      target_clean : {tree : Tree} → TargetTree relations tree → (scope : Kept) (s : scopes.Scope) → Shows scope s → All (GoodTarget s) (reading tree).targets → Clean (walk columns tree scope)
      target_clean (target_tree {i = i} {v = v} {a = a} {z = z} small inside limit ts) scope s shows good =
          let t = clean_target shows v a.0 inside good.0 in
          clean_at columns i (Target v a) nothing nothing z scope t.target_bound t.target_fit (clean_none columns scope) (clean_none columns scope) (targets_clean ts scope s shows good.1)

      targets_clean : {tree : Tree} → TargetsIfAny relations tree → (scope : Kept) (s : scopes.Scope) → Shows scope s → All (GoodTarget s) (reading tree).targets → Clean (walk columns tree scope)
      targets_clean no_target scope s shows good = clean_none columns scope
      targets_clean (more_targets ts) scope s shows good = target_clean ts scope s shows good

      binding_clean : {tree : Tree} → BindingTree relations tree → (scope : Kept) (s : scopes.Scope) → Shows scope s → GoodBindings columns relations (reading tree).bindings s → Clean (walk columns tree scope)
      binding_clean (binding_tree {i = i} {v = v} {y = y} {z = z} small inside r bs) scope s shows good =
          let cy = range_clean r scope good.1 in
          let B = binder_clean inside r shows cy good.0 good.3 in
          clean_at columns i (Binds v Binding) nothing y z scope B.binder_bound B.binder_fit (clean_none columns (bind scope v (walk columns y scope).width)) cy
          (bindings_clean bs (bind scope v (walk columns y scope).width) (extend s v (width_of_range columns (reading y).range)) B.next-shown good.2)

      bindings_clean : {tree : Tree} → BindingsIfAny relations tree → (scope : Kept) (s : scopes.Scope) → Shows scope s → GoodBindings columns relations (reading tree).bindings s → Clean (walk columns tree scope)
      bindings_clean no_binding scope s shows good = clean_none columns scope
      bindings_clean (more_bindings b) scope s shows good = binding_clean b scope s shows good

      condition_clean : {tree : Tree} → ConditionTree relations tree → (scope : Kept) (s : scopes.Scope) → Shows scope s → GoodCondition columns relations (reading tree).condition s → Clean (walk columns tree scope)
      condition_clean (atom_tree {i = i} {atom = atom} small fit) scope s shows good =
          let t = clean_atom shows atom fit good in
          clean_at columns i (Compares atom) nothing nothing nothing scope t.atom-bound t.atom-fit (clean_none columns scope) (clean_none columns scope) (clean_none columns scope)
      condition_clean (joined_tree {i = i} {k = k} {x = x} {y = y} small joins f g) scope s shows good =
          let G : GoodCondition columns relations (reading x).condition s × GoodCondition columns relations (reading y).condition s = rw (joined-good columns relations joins (reading x).condition (reading y).condition s) at good in
          clean_at columns i (Connects k) x y nothing scope refl refl (condition_clean f scope s shows G.0) (condition_clean g scope s shows G.1) (clean_none columns scope)
      condition_clean (not_tree {i = i} {x = x} small f) scope s shows good =
          clean_at columns i (Connects Not) x nothing nothing scope refl refl (condition_clean f scope s shows good) (clean_none columns scope) (clean_none columns scope)
      condition_clean (quantifier_tree {i = i} {v = v} {q = q} {y = y} {z = z} small inside fits r f) scope s shows good =
          let next : scopes.Scope = extend s v (width_of_range columns (reading y).range) in
          let G = quantified_parts columns relations q v (reading y).range (reading z).condition s good in
          let cy = range_clean r scope G.1 in
          let B = binder_clean inside r shows cy G.0 G.3 in
          clean_at columns i (Binds v (Quantifies q)) nothing y z scope B.binder_bound B.binder_fit (clean_none columns (bind scope v (walk columns y scope).width)) cy
          (condition_clean f (bind scope v (walk columns y scope).width) next B.next-shown G.2)

      maybe_clean : {tree : Tree} → ConditionIfAny relations tree → (scope : Kept) (s : scopes.Scope) → Shows scope s → GoodMaybe columns relations (reading tree).restriction s → Clean (walk columns tree scope)
      maybe_clean without_condition scope s shows good = clean_none columns scope
      maybe_clean (with_condition f) scope s shows good = condition_clean f scope s shows (rw (restriction_is f) at good)
