use Prim.Native.Nat.{◌/◌}
use mathlib.Core.List.{◌++◌}
use mathlib.Core.Path.{◌≡◌, sym, ap, ◌∙◌}
use native.Mathlib.Omega.{arith}
use lib.ListN.{length}
use Rattle.std.proofs.Common.{rules, Err}
use Rattle.std.proofs.lemmas.Result.{err_from_is_err_and}
use Rattle.std.specs.Iterator.Adapters.{enumerate_source}
use Rattle.std.specs.Slice.Iter.{chunks_exact_rest}
use Rattle.relations.specs.Limits.{plan_node_words}
use Rattle.plan_reading.specs.Judging.{plan_numbers, illegal_at}
use Rattle.plan_reading.proofs.JudgeLaws.{JudgedSoFar, judge_onward, judge_stopped, judge_ended, judge_sized}
use Rattle.plan_reading.proofs.judging.judge_plan.Goals as goal
use Rattle.plan_reading.proofs.judging.judge_plan.Goals.{In-Some}

-- the words of the plan's next node are in front of those that are left
so_far : (c : In-Some) → JudgedSoFar c.args.catalogue.now c.args.plan.now c.loop-place.widths (length c.args.plan.now / plan_node_words) c.in-Some.place (c.in-Some.words.now ++ chunks_exact_rest (enumerate_source c.next.new.self))
so_far c = let s = c.in-Some.ensures.steps in rw (s.1, ← s.0.1.0) c.loop-place.invariant.3

sized : (c : In-Some) → length c.in-Some.words.now ≡ plan_node_words
sized c = c.in-Some.ensures.steps.0.1.1 ∙ c.loop-place.invariant.2

pub returns-in_err-widths : goal.returns-in_err-widths
returns-in_err-widths c =
    let p = err_from_is_err_and c.from_residual.result c.from_residual.ensures.1 in
    let refused : c.from_residual.result ≡ illegal_at c.in-Some.place = p.1 ∙ ap Err p.2 ∙ c.in_err-widths.ensures.value ∙ rw c.in_err-widths.ensures.ok_part in
    ap plan_numbers
    (refused
    ∙ sym
    (judge_sized c.args.catalogue.now c.args.plan.now c.if-plan-ne0.false c.if-nodes-lt1.false c.if-nodes-gt-PLAN_NODES.false
    ∙ judge_stopped _ _ _ _ _ (omega arith) _ _ (sized (goal.at.returns-in_err-widths c).In-Some) (so_far (goal.at.returns-in_err-widths c).In-Some) (sym c.judge_node.ensures ∙ c.in_err-widths.ensures.ok_part)))

pub loop-place-preserved : goal.loop-place-preserved
loop-place-preserved c =
    let s = c.in-Some.ensures.steps in (
      search rules,
      search rules,
      s.0.0 ∙ c.loop-place.invariant.2,
      rw (s.2, ← s.1) (judge_onward _ _ _ _ _ (omega arith) _ _ (sized (goal.at.loop-place-preserved c).In-Some) (so_far (goal.at.loop-place-preserved c).In-Some) _ (sym c.judge_node.ensures ∙ c.in_ok-widths.ensures.ok_part)),
    )

pub returns : goal.returns
returns c =
    ap plan_numbers
    (sym
    (judge_sized c.args.catalogue.now c.args.plan.now c.if-plan-ne0.false c.if-nodes-lt1.false c.if-nodes-gt-PLAN_NODES.false
    ∙ judge_ended _ _ _ _ _ (omega arith) _ c.loop-place.invariant.3 (omega (arith, c.in-None.ensures.steps.0.1.0, c.loop-place.invariant.2))))
