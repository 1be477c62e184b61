use Rattle.plan_steps.proofs.TargetLaws.{TargetsLeft}
use Rattle.plan_steps.proofs.targets.targets_from.Given as goal

abbrev pub invariant-loop-at : goal.invariant-loop-at
invariant-loop-at l = TargetsLeft l.words l.scope l.reference l.at l.list

abbrev pub decreases-loop-at : goal.decreases-loop-at
decreases-loop-at l = l.at
