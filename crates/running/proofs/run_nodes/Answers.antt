use Prim.Native.Nat.{◌<◌}
use mathlib.Core.List.{◌++◌}
use mathlib.Core.Path.{◌≡◌, refl, sym, ap, ◌∙◌}
use native.Mathlib.Omega.{arith}
use lib.ListN.{length}
use lib.Seq.{length-take-le}
use Rattle.std.proofs.Common.{rules, Result, Err}
use Rattle.std.proofs.lemmas.Result.{err_from_is_err_and}
use Rattle.std.specs.Iterator.Adapters.{enumerate_source}
use Rattle.std.specs.Slice.Iter.{chunks_exact_rest}
use Rattle.relations.specs.Limits.{plan_node_words}
use Rattle.running.specs.declared.RunRefusal.TheVariants.{NoRoom}
use Rattle.running.proofs.RunLaws.{Running, nodes-few, more, running_start, running-legal, running_off, running-fits, running_on, running-heavy, running_end}
use Rattle.running.proofs.run_nodes.Goals as goal
use Rattle.running.proofs.run_nodes.Goals.{In-Some}

-- the words of the plan's next node are in front of those that are left
so_far : (c : In-Some) → Running c.args.catalogue.now c.args.tables.now c.args.plan.now c.args.nodes (length c.args.work.now) c.loop-place.values c.loop-place.heavy c.loop-place.out c.in-Some.place (c.in-Some.words.now ++ chunks_exact_rest (enumerate_source c.next.new.self)) c.loop-place.work
so_far c = let s = c.in-Some.ensures.steps in rw (s.1, ← s.0.1.0) c.loop-place.invariant.3

sized : (c : In-Some) → length c.in-Some.words.now ≡ plan_node_words
sized c = c.in-Some.ensures.steps.0.1.1 ∙ c.loop-place.invariant.2

pub loop-place-init : goal.loop-place-init
loop-place-init c = (
  search rules,
  search rules,
  search rules,
  rw (c.into_iter-place-iterator.ensures.into_iter_gives, c.enumerate-place-items.ensures.count, c.enumerate-place-items.ensures.source, c.chunks_exact.ensures.rest) (running_start c.args.catalogue.now c.args.tables.now c.args.plan.now c.args.nodes c.requires.0 c.requires.1 _ _ refl c.requires.2),
)

-- the place is one of the table's
inside : (c : In-Some) → (c.in-Some.place < c.args.nodes) × (c.in-Some.place < length c.loop-place.values)
inside c = let here = more c.args.catalogue.now c.args.tables.now c.args.plan.now c.args.nodes c.requires.0 c.requires.1 _ _ (sized c) (so_far c) in (here, omega (arith, here, (nodes-few c.args.catalogue.now c.args.tables.now c.args.plan.now c.args.nodes c.requires.0 c.requires.1).1, c.loop-place.invariant.3.long))

pub slice_bounds-values-end : goal.slice_bounds-values-end
slice_bounds-values-end c = omega (arith, (inside (goal.at.slice_bounds-values-end c).In-Some).1)

pub slice_bounds-run_node-end : goal.slice_bounds-run_node-end
slice_bounds-run_node-end c = sym (length-take-le c.in-Some.place c.loop-place.values (omega (arith, (inside (goal.at.slice_bounds-run_node-end c).In-Some).1)))

pub run_node-requires : goal.run_node-requires
run_node-requires c = let d = (goal.at.run_node-requires c).In-Some in (sized d, c.requires.0, running-legal c.args.catalogue.now c.args.tables.now c.args.plan.now c.args.nodes c.requires.0 c.requires.1 _ _ (sized d) (so_far d), (so_far d).stand)

err_is : {T E : Type 0} {one other : E} → ◌≡◌ {A = Result T E} (Err one) (Err other) → one ≡ other
err_is e = cc

pub returns-in_err-made : goal.returns-in_err-made
returns-in_err-made c =
    let d = (goal.at.returns-in_err-made c).In-Some in
    let p = err_from_is_err_and c.from_residual.result c.from_residual.ensures.1 in
    let refused : c.from_residual.result ≡ Err (NoRoom c.in-Some.place) = p.1 ∙ ap Err (p.2 ∙ err_is (c.in_err-made.ensures.value ∙ rw c.in_err-made.ensures.ok_part)) in
    rw refused (running_off c.args.catalogue.now c.args.tables.now c.args.plan.now c.args.nodes c.requires.0 c.requires.1 _ _ (sized d) (so_far d) c.run_node.ensures c.in_err-made.ensures.ok_part)

pub overflow_mul-out : goal.overflow_mul-out
overflow_mul-out c = let d = (goal.at.overflow_mul-out c).In-Some in omega (arith, running-fits c.args.catalogue.now c.args.tables.now c.args.plan.now c.args.nodes c.requires.0 c.requires.1 _ _ (sized d) (so_far d) c.run_node.ensures c.in_ok-made.ensures.ok_part, c.loop-place.invariant.3.size)

pub overflow_add-out : goal.overflow_add-out
overflow_add-out c = let d = (goal.at.overflow_add-out c).In-Some in omega (arith, running-fits c.args.catalogue.now c.args.tables.now c.args.plan.now c.args.nodes c.requires.0 c.requires.1 _ _ (sized d) (so_far d) c.run_node.ensures c.in_ok-made.ensures.ok_part, c.loop-place.invariant.3.size)

pub overflow_add-heavy : goal.overflow_add-heavy
overflow_add-heavy c = let d = (goal.at.overflow_add-heavy c).In-Some in omega (arith, running-heavy c.args.catalogue.now c.args.tables.now c.args.plan.now c.args.nodes c.requires.0 c.requires.1 _ _ (sized d) (so_far d) c.run_node.ensures c.in_ok-made.ensures.ok_part)

pub loop-place-preserved : goal.loop-place-preserved
loop-place-preserved c =
    let d = (goal.at.loop-place-preserved c).In-Some in
    let s = c.in-Some.ensures.steps in (
      search rules,
      search rules,
      s.0.0 ∙ c.loop-place.invariant.2,
      rw (s.2, ← s.1) (running_on c.args.catalogue.now c.args.tables.now c.args.plan.now c.args.nodes c.requires.0 c.requires.1 _ _ (sized d) (so_far d) c.run_node.ensures c.in_ok-made.ensures.ok_part),
    )

pub overflow_sub-result : goal.overflow_sub-result
overflow_sub-result c = omega (arith, (nodes-few c.args.catalogue.now c.args.tables.now c.args.plan.now c.args.nodes c.requires.0 c.requires.1).0)

pub offset_bounds-values-nodes : goal.offset_bounds-values-nodes
offset_bounds-values-nodes c = omega (arith, (nodes-few c.args.catalogue.now c.args.tables.now c.args.plan.now c.args.nodes c.requires.0 c.requires.1).1)

pub bounds-values-nodes : goal.bounds-values-nodes
bounds-values-nodes c = omega (arith, (nodes-few c.args.catalogue.now c.args.tables.now c.args.plan.now c.args.nodes c.requires.0 c.requires.1).0, (nodes-few c.args.catalogue.now c.args.tables.now c.args.plan.now c.args.nodes c.requires.0 c.requires.1).1, c.loop-place.invariant.3.long)

pub returns : goal.returns
returns c = running_end c.args.catalogue.now c.args.tables.now c.args.plan.now c.args.nodes c.requires.0 c.requires.1 c.loop-place.invariant.3 (omega (arith, c.in-None.ensures.steps.0.1.0, c.loop-place.invariant.2))
