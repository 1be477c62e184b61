use mathlib.Core.Path.{refl}
use native.Mathlib.Omega.{arith}
use Prim.Native.Nat.{◌-◌}
use Rattle.catalogue.specs.Stored.{columns_of}
use Rattle.question.specs.Trees.{tree_of}
use Rattle.question.proofs.TreeLaws.{lower_parts, stands, binds_alone, tree_of_none}
use Rattle.question.proofs.WalkLaws.{none_walked, none_bound, alpha-walked, binder_walked, node_walked, binding_walked, other_walked, other_bound}
use Rattle.question.proofs.walking.+walk_walk_bindings.Goals as goal

pub walk-returns-then-reference-eq0 : goal.walk-returns-then-reference-eq0
walk-returns-then-reference-eq0 t c = rw (c.if-reference-eq0.true, tree_of_none c.args.words.now) (none_walked (columns_of c.args.catalogue.now) c.args.scope.now c.args.lowest.now)

pub walk-walk_bindings-requires : goal.walk-walk_bindings-requires
walk-walk_bindings-requires t c = let l = lower_parts c.args.words.now c.args.reference c.if-reference-eq0.false c.decode-node.ensures in (omega arith, omega arith)

pub walk-walk-a-requires : goal.walk-walk-a-requires
walk-walk-a-requires t c = let l = lower_parts c.args.words.now c.args.reference c.if-reference-eq0.false c.decode-node.ensures in (omega arith, omega arith)

pub walk-walk-requires : goal.walk-walk-requires
walk-walk-requires t c = let l = lower_parts c.args.words.now c.args.reference c.if-reference-eq0.false c.decode-node.ensures in (omega arith, omega arith)

pub walk-walk-b-requires : goal.walk-walk-b-requires
walk-walk-b-requires t c = let l = lower_parts c.args.words.now c.args.reference c.if-reference-eq0.false c.decode-node.ensures in (omega arith, omega arith)

pub walk-walk-c-requires : goal.walk-walk-c-requires
walk-walk-c-requires t c = let l = lower_parts c.args.words.now c.args.reference c.if-reference-eq0.false c.decode-node.ensures in (omega arith, omega arith)

pub walk-walk-b-requires-in_default : goal.walk-walk-b-requires-in_default
walk-walk-b-requires-in_default t c = let l = lower_parts c.args.words.now c.args.reference c.if-reference-eq0.false c.decode-node.ensures in (omega arith, omega arith)

pub walk-walk-a-requires-in_default : goal.walk-walk-a-requires-in_default
walk-walk-a-requires-in_default t c = let l = lower_parts c.args.words.now c.args.reference c.if-reference-eq0.false c.decode-node.ensures in (omega arith, omega arith)

pub walk-walk-c-requires-in_default : goal.walk-walk-c-requires-in_default
walk-walk-c-requires-in_default t c = let l = lower_parts c.args.words.now c.args.reference c.if-reference-eq0.false c.decode-node.ensures in (omega arith, omega arith)

pub walk_bindings-walk-width-requires : goal.walk_bindings-walk-width-requires
walk_bindings-walk-width-requires t c = let l = lower_parts c.args.words.now c.args.reference c.if-reference-eq0.false c.decode-node.ensures in (omega arith, omega arith)

pub walk_bindings-walk_bindings-requires : goal.walk_bindings-walk_bindings-requires
walk_bindings-walk_bindings-requires t c = let l = lower_parts c.args.words.now c.args.reference c.if-reference-eq0.false c.decode-node.ensures in (omega arith, omega arith)

pub walk-bounds-scope-variable : goal.walk-bounds-scope-variable
walk-bounds-scope-variable t c = (stands c.args.words.now c.args.reference c.if-reference-eq0.false c.decode-node.ensures c.in-Binds.is).variables

pub walk-bind-requires : goal.walk-bind-requires
walk-bind-requires t c = (stands c.args.words.now c.args.reference c.if-reference-eq0.false c.decode-node.ensures c.in-Binds.is).variables

pub walk-bounds-scope-variable-in-Binds : goal.walk-bounds-scope-variable-in-Binds
walk-bounds-scope-variable-in-Binds t c = (stands c.args.words.now c.args.reference c.if-reference-eq0.false c.decode-node.ensures c.in-Binds.is).variables

pub walk-returns-in-Alpha : goal.walk-returns-in-Alpha
walk-returns-in-Alpha t c = let it = stands c.args.words.now c.args.reference c.if-reference-eq0.false c.decode-node.ensures c.in-Alpha.is in
    rw it.tree (alpha-walked (columns_of c.args.catalogue.now) c.args.scope.now c.args.lowest.now (c.args.reference - 1) _ _ _ c.empty-own.ensures c.walk_bindings.ensures c.walk-a.ensures c.walk.ensures (rw it.form_is at c.judge_at.ensures))

pub walk-returns-in-Binds : goal.walk-returns-in-Binds
walk-returns-in-Binds t c = let it = stands c.args.words.now c.args.reference c.if-reference-eq0.false c.decode-node.ensures c.in-Binds.is in
    rw it.tree (binder_walked (columns_of c.args.catalogue.now) c.args.scope.now c.args.lowest.now (c.args.reference - 1) c.in-Binds.variable c.in-Binds.binder _ _ _ (binds_alone c.args.words.now c.args.reference c.in-Binds.variable c.in-Binds.binder it) c.walk-b.ensures c.bind.ensures c.walk-c.ensures refl (rw it.form_is at c.judge_at-in-Binds.ensures))

pub walk-returns-in_default : goal.walk-returns-in_default
walk-returns-in_default t c = let it = stands c.args.words.now c.args.reference c.if-reference-eq0.false c.decode-node.ensures refl in
    rw it.tree (node_walked (columns_of c.args.catalogue.now) c.args.scope.now c.args.lowest.now (c.args.reference - 1) c.decode-node.result.form _ _ _ c.in_default.not-Alpha c.in_default.not-Binds c.walk-b-in_default.ensures c.walk-a-in_default.ensures c.walk-c-in_default.ensures (rw it.form_is at c.judge_at-in_default.ensures))

pub walk_bindings-bind-requires : goal.walk_bindings-bind-requires
walk_bindings-bind-requires t c = (stands c.args.words.now c.args.reference c.if-reference-eq0.false c.decode-node.ensures c.in-Binds.is).variables

pub walk_bindings-returns-in-Binds : goal.walk_bindings-returns-in-Binds
walk_bindings-returns-in-Binds t c = let it = stands c.args.words.now c.args.reference c.if-reference-eq0.false c.decode-node.ensures c.in-Binds.is in
    rw it.tree (binding_walked (columns_of c.args.catalogue.now) c.args.scope.now c.args.lowest.now (c.args.reference - 1) c.in-Binds.variable c.in-Binds.binder _ _ _ (binds_alone c.args.words.now c.args.reference c.in-Binds.variable c.in-Binds.binder it) c.walk-width.ensures (rw it.form_is at c.judge_at.ensures) c.bind.ensures c.walk_bindings.ensures)

pub walk_bindings-returns-in_default : goal.walk_bindings-returns-in_default
walk_bindings-returns-in_default t c = let it = stands c.args.words.now c.args.reference c.if-reference-eq0.false c.decode-node.ensures refl in
    other_walked (columns_of c.args.catalogue.now) c.args.scope.now c.args.lowest.now (tree_of c.args.words.now c.args.reference)
    (rw it.tree (other_bound (columns_of c.args.catalogue.now) c.args.scope.now (c.args.reference - 1) c.decode-node.result.form _ _ _ c.in_default.not-Binds)) c.walk.ensures

pub walk_bindings-returns-then-reference-eq0 : goal.walk_bindings-returns-then-reference-eq0
walk_bindings-returns-then-reference-eq0 t c = rw (c.if-reference-eq0.true, tree_of_none c.args.words.now) (none_bound (columns_of c.args.catalogue.now) c.args.scope.now c.args.lowest.now)
