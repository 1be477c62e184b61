use mathlib.Core.Path.{◌∙◌}
use Prim.Native.Nat.{◌-◌}
use Rattle.conditions.specs.Readings.{reading_at}
use Rattle.conditions.proofs.Readings.{named, made_is, targets_is, targets_none}
use Rattle.conditions.proofs.OtherNodes.{no_targets}
use Rattle.plan_steps.proofs.TargetLaws.{targets_start, next-lower, target_ready, targets_on, none_left}
use native.Mathlib.Omega.{arith}
use Rattle.plan_steps.proofs.targets.targets_from.Goals as goal

pub loop-at-init : goal.loop-at-init
loop-at-init c = targets_start c.requires c.new-list.ensures

pub extend_by_target-requires : goal.extend_by_target-requires
extend_by_target-requires c = target_ready c.loop-at.invariant (named c.loop-at-test.true) (made_is c.args.words.now (c.loop-at.at - 1) c.in-Target.is c.decode-node.ensures) c.requires.fits

pub loop-at-smaller : goal.loop-at-smaller
loop-at-smaller c = next-lower c.loop-at.invariant (named c.loop-at-test.true) (made_is c.args.words.now (c.loop-at.at - 1) c.in-Target.is c.decode-node.ensures)

pub loop-at-preserved : goal.loop-at-preserved
loop-at-preserved c = targets_on c.loop-at.invariant (named c.loop-at-test.true) (made_is c.args.words.now (c.loop-at.at - 1) c.in-Target.is c.decode-node.ensures) c.extend_by_target.ensures

pub returns-after-loop-at : goal.returns-after-loop-at
returns-after-loop-at c = none_left c.loop-at.invariant (targets_none c.args.words.now (omega arith))

pub returns-in_default : goal.returns-in_default
returns-in_default c = let words = c.args.words.now in
    none_left c.loop-at.invariant (targets_is words c.loop-at.at c.decode-node.result (named c.loop-at-test.true) c.decode-node.ensures ∙ no_targets c.decode-node.result.form (reading_at words c.decode-node.result.a) (reading_at words c.decode-node.result.b) (reading_at words c.decode-node.result.c) c.in_default.not-Target)
