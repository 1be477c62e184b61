-- A sorted tree in which the walk finds no fault is in `calculus`' good form, and the walk's widths are its widths. Assumes nothing.
use mathlib.Core.Path.{◌≡◌, refl, sym, ◌∙◌}
use mathlib.Core.Bool.{Bool, true, false, not, ◌||◌, true≢false}
use mathlib.Core.List.{List, []}
use Prim.Native.Nat.{ℕ, zero, suc, ◌+◌, ◌≤◌, ◌<◌, min}
use native.Mathlib.Omega.{arith}
use lib.Dec.{ltb, leb, eqb}
use lib.ListN.{length}
use borrow.Author.Tests.{ltb-true, ltb-false, leb-true, eqb-true, eqb-false, ne_eqb, not-false}
use Rattle.relations.specs.Limits.{column_limit, question_node_limit, variable_count}
use Rattle.relations.specs.Lists.{All}
use Rattle.relations.specs.Comparison.{Operator}
use Rattle.terms.specs.Terms.{operator_in}
use Rattle.relations.specs.Columns.{attribute}
use Rattle.calculus.specs.Question as calculus
use Rattle.calculus.specs.Scope as scopes
use Rattle.calculus.specs.Scope.{extend, columns_in}
use Rattle.calculus.specs.Form.{NotInScope, Known, GoodAtom, GoodTarget, width_of_range, scope_of_bindings, GoodRange, GoodBindings, GoodMaybe, GoodCondition}
use Rattle.calculus.specs.Form as form
use Rattle.calculus.proofs.ScopeLaws.{targets-width}
use Rattle.calculus.proofs.LegalColumns.{targets_columns}
use Rattle.question.specs.Trees.{Tree, nothing, branch, operand_of, target_of, atom_of, alpha_of, reading}
use Rattle.node_judging.specs.declared.scope.Scope.{Scope as Kept}
use Rattle.node_judging.specs.Steps.{width_kept, columns_kept, no_widths, add_widths, bind, operand_unfit_at, target_width_kept, Found, Step, step_of}
use Rattle.question.specs.Walk.{lowest_of, walk}
use Rattle.nodes.specs.declared.node.Operand.{Operand}
use Rattle.nodes.specs.declared.node.Operand.TheVariants.{Of, Fixed}
use Rattle.nodes.specs.declared.node.Atom.{Atom}
use Rattle.nodes.specs.declared.node.Connective.TheVariants.{Not}
use Rattle.nodes.specs.declared.node.Binder.TheVariants.{Binding, Quantifies}
use Rattle.nodes.specs.declared.node.Form.{Form}
use Rattle.nodes.specs.declared.node.Form.TheVariants.{Alpha, Target, Binds, Combines, Compares, Connects}
use Rattle.nodes.proofs.Forms.{operand_fits, atom_fits, first_of, second_of}
use Rattle.judgements.proofs.SortedTrees.{RangeTree, table_tree, alpha_tree, combined_tree, TargetTree, target_tree, TargetsIfAny, no_target, more_targets, BindingTree, binding_tree, BindingsIfAny, no_binding, more_bindings, ConditionTree, atom_tree, joined_tree, not_tree, quantifier_tree, ConditionIfAny, without_condition, with_condition, atom_sides}
use Rattle.judgements.proofs.KindsAlike.{combined-width, combined-good, joined-good, quantified-good}
use Rattle.judgements.proofs.ScopesShown.{Shows, shows_empty, fresh, shows_bind}
use Rattle.judgements.proofs.TreeSizes.{restriction_is}

-- a walk that found no fault
pub record Clean (found : Found) : Type 0 where
  pub bound : question_node_limit ≤ found.unbound
  pub fit : question_node_limit ≤ found.unfit

pub record NoFault (fault : Bool) (a b c : ℕ) : Type 0 where
  pub clear : fault ≡ false
  pub none_a : question_node_limit ≤ a
  pub none_b : question_node_limit ≤ b
  pub none_c : question_node_limit ≤ c

pub no_fault : (fault : Bool) (i a b c : ℕ) → i < question_node_limit → question_node_limit ≤ lowest_of fault i a b c → NoFault fault a b c
no_fault true i a b c h k = absurd (omega arith)
no_fault false i a b c h k = record { clear = refl; none_a = omega arith; none_b = omega arith; none_c = omega arith }

-- what the walk finds at a node's b, and at its a or c, which see what b gave
module _ (columns : ℕ → ℕ) (form : Form) (scope : Kept) where
  abbrev pub found_at_b : (b : Tree) → Found
  found_at_b b = walk columns b (step_of scope form).opening

  abbrev pub found_beside : (b part : Tree) → Found
  found_beside b part = walk columns part ((step_of scope form).inside (found_at_b b))

-- neither at a node nor below it
record CleanNode (step : Step) (a b c : Found) : Type 0 where
  bound_here : step.unbound ≡ false
  fit_here : step.unfit a.width b.width ≡ false
  clean_a : Clean a
  clean_b : Clean b
  clean_c : Clean c

clean_branch : (columns : ℕ → ℕ) {i : ℕ} (form : Form) (x y z : Tree) (scope : Kept) → i < question_node_limit → Clean (walk columns (branch i form x y z) scope)
    → CleanNode (step_of scope form) (found_beside columns form scope y x) (found_at_b columns form scope y) (found_beside columns form scope y z)
unfolding walk
clean_branch columns {i} form x y z scope small clean =
    let step : Step = step_of scope form in
    let a : Found = found_beside columns form scope y x in
    let b : Found = found_at_b columns form scope y in
    let c : Found = found_beside columns form scope y z in
    let u = no_fault step.unbound i a.unbound b.unbound c.unbound small clean.bound in
    let w = no_fault (step.unfit a.width b.width) i a.unfit b.unfit c.unfit small clean.fit in
    record {
      bound_here = u.clear;
      fit_here = w.clear;
      clean_a = record { bound = u.none_a; fit = w.none_a };
      clean_b = record { bound = u.none_b; fit = w.none_b };
      clean_c = record { bound = u.none_c; fit = w.none_c };
    }

or_clear : (a b : Bool) → (a || b) ≡ false → (a ≡ false) × (b ≡ false)
or_clear true b h = absurd (true≢false h)
or_clear false b h = (refl, h)

-- a variable that is in scope, with the attribute that is asked for
module _ {scope : Kept} {s : scopes.Scope} (shows : Shows scope s) where
  in_scope_lem : (v : ℕ) → v < variable_count → eqb (width_kept scope v) 0 ≡ false → 1 ≤ scopes.width_in s v
  in_scope_lem v small h = let n : width_kept scope v ≡ 0 → ⊥ = eqb-false (width_kept scope v) 0 h in omega (arith, shows.shown v small)

  has_attribute : (v a : ℕ) → v < variable_count → ltb (width_kept scope v) a ≡ false → a ≤ scopes.width_in s v
  has_attribute v a small h = omega (arith, shows.shown v small, ltb-false (width_kept scope v) a h)

  new_variable : (v : ℕ) → v < variable_count → ltb 0 (width_kept scope v) ≡ false → NotInScope v s
  new_variable v small h = fresh v s shows.have_widths (omega (arith, shows.shown v small, ltb-false 0 (width_kept scope v) h))

  good-operand : (v a : ℕ) (operator : Operator) (operand : Operand) → Known s v a → operand_fits operand ≡ true → operand_unfit_at scope operand ≡ false → GoodAtom s (calculus.compare v (attribute a) operator (operand_of operand))
  good-operand v a operator (Of other b) known fit unfit =
      let x : Bool = ltb other variable_count in
      let y : Bool = leb 1 b.0 in
      let z : Bool = leb b.0 column_limit in
      (known, (leb-true 1 b.0 (second_of x y z fit), has_attribute other b.0 (ltb-true other variable_count (first_of x y z fit)) unfit))
  good-operand v a operator (Fixed c) known fit unfit = known

  good-atom : (atom : Atom) → atom_fits atom ≡ true → (step_of scope (Compares atom)).unfit 0 0 ≡ false → GoodAtom s (atom_of atom)
  good-atom atom fit unfit =
      let v : Bool = ltb atom.variable variable_count in
      let a : Bool = leb 1 atom.attribute.0 in
      let b : Bool = leb atom.attribute.0 column_limit in
      let sides = atom_sides atom fit in
      let split = or_clear (ltb (width_kept scope atom.variable) atom.attribute.0) (operand_unfit_at scope atom.operand) unfit in
      good-operand atom.variable atom.attribute.0 (operator_in atom.operator) atom.operand
      (leb-true 1 atom.attribute.0 (second_of v a b sides.0), has_attribute atom.variable atom.attribute.0 (ltb-true atom.variable variable_count (first_of v a b sides.0)) split.0)
      sides.1 split.1

  -- one target, a whole row or an attribute
  good_target : (v a : ℕ) → v < variable_count → eqb (width_kept scope v) 0 ≡ false → ltb (width_kept scope v) a ≡ false → GoodTarget s (target_of v a)
  good_target v zero small bound fit = in_scope_lem v small bound
  good_target v (suc n) small bound fit = (omega arith, has_attribute v (suc n) small fit)

  target_columns_lem : (v a : ℕ) → v < variable_count → target_width_kept scope v a ≡ form.target_width s (target_of v a)
  target_columns_lem v zero small = shows.shown v small
  target_columns_lem v (suc n) small = rw (ne_eqb (suc n) 0 (λ e. omega arith))

-- a sum of widths that is no more than 32 is the sum
adds_up : (a b : ℕ) → add_widths a b ≤ column_limit → a + b ≤ column_limit
unfolding add_widths
adds_up a b h = omega arith

-- the targets' columns, as the walk counts them
counts : (a b k l : ℕ) → a ≡ k → b ≡ min (suc column_limit) l → add_widths a b ≡ min (suc column_limit) (k + l)
unfolding add_widths
counts a b k l e f = omega arith

some_target : {relations : ℕ} {tree : Tree} → TargetTree relations tree → 1 ≤ length (reading tree).targets
unfolding reading
some_target (target_tree i v a ts) = omega arith

module _ (columns : ℕ → ℕ) (relations : ℕ) where
  -- an alpha's first binding is one of its bindings
  record AlphaGood (range : calculus.Range) (width : ℕ) : Type 0 where
    alpha-good : GoodRange columns relations range
    alpha-wide : width_of_range columns range ≡ width

  alpha_of_lem : {tree : Tree} → BindingTree relations tree → (targets : List calculus.Target) (restriction : calculus.MaybeCondition)
      → GoodBindings columns relations (reading tree).bindings []
      → GoodMaybe columns relations restriction (scope_of_bindings columns (reading tree).bindings [])
      → All (GoodTarget (scope_of_bindings columns (reading tree).bindings [])) targets
      → 1 ≤ length targets
      → form.targets_width (scope_of_bindings columns (reading tree).bindings []) targets ≤ column_limit
      → AlphaGood (alpha_of targets (reading tree).bindings restriction) (form.targets_width (scope_of_bindings columns (reading tree).bindings []) targets)
  unfolding GoodRange width_of_range reading
  alpha_of_lem (binding_tree i v r bs) targets restriction b f ts some narrow =
      record { alpha-good = (b.1, b.2, f, ts, omega (arith, b.3), some, narrow); alpha-wide = refl }

  -- what is shown of each sort
  pub record RangeGood (range : calculus.Range) (width : ℕ) : Type 0 where
    pub good : GoodRange columns relations range
    pub wide : width_of_range columns range ≡ width
    pub some : 1 ≤ width

  pub record BindingsGood (bindings : calculus.Bindings) (s : scopes.Scope) (after : Kept) : Type 0 where
    pub good : GoodBindings columns relations bindings s
    pub shows_after : Shows after (scope_of_bindings columns bindings s)

  pub record TargetsGood (targets : List calculus.Target) (s : scopes.Scope) (width : ℕ) : Type 0 where
    pub good : All (GoodTarget s) targets
    pub wide : width ≡ min (suc column_limit) (form.targets_width s targets)

  -- a binder: the variable is new, its columns fit, and what follows is shown
  pub record BinderGood (v : ℕ) (range : calculus.Range) (scope : Kept) (s : scopes.Scope) (width : ℕ) : Type 0 where
    pub is_new : NotInScope v s
    pub fits : columns_in s + width_of_range columns range ≤ column_limit
    pub shows_next : Shows (bind scope v width) (extend s v (width_of_range columns range))

  pub binder : {scope : Kept} {s : scopes.Scope} {range : calculus.Range} {width : ℕ} (v : ℕ) → v < variable_count → Shows scope s → RangeGood range width
      → ltb 0 (width_kept scope v) ≡ false → ltb column_limit (add_widths (columns_kept scope) width) ≡ false → BinderGood v range scope s width
  binder {scope} {s} {range} {width} v small shows r new fit =
      let narrow : add_widths (columns_kept scope) width ≤ column_limit = ltb-false column_limit (add_widths (columns_kept scope) width) fit in
      let n : NotInScope v s = new_variable shows v small new in
      record {
        is_new = n;
        fits = omega (arith, adds_up (columns_kept scope) width narrow, shows.all_columns_lem, r.wide);
        shows_next = rw r.wide (shows_bind v width shows small n r.some narrow);
      }

  same_widths : {a b : calculus.Range} {v w : ℕ} → RangeGood a v → RangeGood b w → not (eqb v w) ≡ false → width_of_range columns a ≡ width_of_range columns b
  same_widths {v = v} {w = w} r t h = r.wide ∙ eqb-true v w (not-false (eqb v w) h) ∙ sym t.wide

  module _ (has-columns : (relation : ℕ) → relation < relations → 1 ≤ columns relation) where
    mutual
      unfolding GoodRange width_of_range reading walk

      pub range-good : {tree : Tree} → RangeTree relations tree → (scope : Kept) → Clean (walk columns tree scope) → RangeGood (reading tree).range (walk columns tree scope).width
      range-good (table_tree {relation = relation} h) scope clean = record { good = h; wide = refl; some = has-columns relation h }
      range-good (alpha_tree {x = x} {y = y} {z = z} small ts bs f) scope clean =
          let bound : Kept = (walk columns y no_widths).scope in
          let s : scopes.Scope = scope_of_bindings columns (reading y).bindings [] in
          let n = clean_branch columns Alpha x y z scope small clean in
          let B = binding_good bs no_widths [] shows_empty n.clean_b in
          let T = target_good ts bound s B.shows_after n.clean_a in
          let l : 1 ≤ length (reading x).targets = some_target ts in
          let w : (walk columns x bound).width ≤ column_limit = ltb-false column_limit (walk columns x bound).width n.fit_here in
          let A = alpha_of_lem bs (reading x).targets (reading z).restriction B.good (maybe_good f bound s B.shows_after n.clean_c) T.good l (omega (arith, T.wide)) in
          record { good = A.alpha-good; wide = A.alpha-wide ∙ omega (arith, T.wide); some = omega (arith, T.wide, (targets_columns s (reading x).targets l T.good).0, targets-width s (reading x).targets) }
      range-good (combined_tree {k = k} {x = x} {y = y} small r t) scope clean =
          let n = clean_branch columns (Combines k) x y nothing scope small clean in
          let R = range-good r scope n.clean_a in
          let S = range-good t scope n.clean_b in
          record { good = rw (combined-good columns relations k (reading x).range (reading y).range) (R.good, S.good, same_widths R S n.fit_here); wide = combined-width columns k (reading x).range (reading y).range ∙ R.wide; some = R.some }

      pub target_good : {tree : Tree} → TargetTree relations tree → (scope : Kept) (s : scopes.Scope) → Shows scope s → Clean (walk columns tree scope) → TargetsGood (reading tree).targets s (walk columns tree scope).width
      target_good (target_tree {v = v} {a = a} {z = z} small inside limit ts) scope s shows clean =
          let n = clean_branch columns (Target v a) nothing nothing z scope small clean in
          let T = targets-good ts scope s shows n.clean_c in
          record {
            good = (good_target shows v a.0 inside n.bound_here n.fit_here, T.good);
            wide = counts (target_width_kept scope v a.0) (walk columns z scope).width (form.target_width s (target_of v a.0)) (form.targets_width s (reading z).targets) (target_columns_lem shows v a.0 inside) T.wide;
          }

      targets-good : {tree : Tree} → TargetsIfAny relations tree → (scope : Kept) (s : scopes.Scope) → Shows scope s → Clean (walk columns tree scope) → TargetsGood (reading tree).targets s (walk columns tree scope).width
      targets-good no_target scope s shows clean = record { good = tt; wide = refl }
      targets-good (more_targets ts) scope s shows clean = target_good ts scope s shows clean

      pub binding_good : {tree : Tree} → BindingTree relations tree → (scope : Kept) (s : scopes.Scope) → Shows scope s → Clean (walk columns tree scope) → BindingsGood (reading tree).bindings s (walk columns tree scope).scope
      binding_good (binding_tree {v = v} {y = y} {z = z} small inside r bs) scope s shows clean =
          let n = clean_branch columns (Binds v Binding) nothing y z scope small clean in
          let R = range-good r scope n.clean_b in
          let K = binder v inside shows R n.bound_here n.fit_here in
          let B = bindings-good bs (bind scope v (walk columns y scope).width) (extend s v (width_of_range columns (reading y).range)) K.shows_next n.clean_c in
          record { good = (K.is_new, R.good, B.good, K.fits); shows_after = B.shows_after }

      bindings-good : {tree : Tree} → BindingsIfAny relations tree → (scope : Kept) (s : scopes.Scope) → Shows scope s → Clean (walk columns tree scope) → BindingsGood (reading tree).bindings s (walk columns tree scope).scope
      bindings-good no_binding scope s shows clean = record { good = tt; shows_after = shows }
      bindings-good (more_bindings b) scope s shows clean = binding_good b scope s shows clean

      condition-good : {tree : Tree} → ConditionTree relations tree → (scope : Kept) (s : scopes.Scope) → Shows scope s → Clean (walk columns tree scope) → GoodCondition columns relations (reading tree).condition s
      condition-good (atom_tree {atom = atom} small fit) scope s shows clean =
          let n = clean_branch columns (Compares atom) nothing nothing nothing scope small clean in
          good-atom shows atom fit n.fit_here
      condition-good (joined_tree {k = k} {x = x} {y = y} small joins f g) scope s shows clean =
          let n = clean_branch columns (Connects k) x y nothing scope small clean in
          rw (joined-good columns relations joins (reading x).condition (reading y).condition s) (condition-good f scope s shows n.clean_a, condition-good g scope s shows n.clean_b)
      condition-good (not_tree {x = x} small f) scope s shows clean =
          let n = clean_branch columns (Connects Not) x nothing nothing scope small clean in
          condition-good f scope s shows n.clean_a
      condition-good (quantifier_tree {v = v} {q = q} {y = y} {z = z} small inside fits r f) scope s shows clean =
          let n = clean_branch columns (Binds v (Quantifies q)) nothing y z scope small clean in
          let R = range-good r scope n.clean_b in
          let K = binder v inside shows R n.bound_here n.fit_here in
          let next = condition-good f (bind scope v (walk columns y scope).width) (extend s v (width_of_range columns (reading y).range)) K.shows_next n.clean_c in
          quantified-good columns relations q v (reading y).range (reading z).condition s fits (omega (arith, R.some, R.wide)) (K.is_new, R.good, next, K.fits)

      maybe_good : {tree : Tree} → ConditionIfAny relations tree → (scope : Kept) (s : scopes.Scope) → Shows scope s → Clean (walk columns tree scope) → GoodMaybe columns relations (reading tree).restriction s
      maybe_good without_condition scope s shows clean = tt
      maybe_good (with_condition f) scope s shows clean = rw (restriction_is f) (condition-good f scope s shows clean)
