use Rattle.std.proofs.Common.{◌≡◌, ◌+◌, ◌*◌, ◌-◌, drop}
use Rattle.relations.specs.Lists.{all}
use Rattle.relations.specs.Legality.{between}
use Rattle.plan_reading.specs.Decoding.{spaced}
use Rattle.plan_reading.proofs.nodes.within.Given as goal

-- The words asked for pass if those from `place` on do.
abbrev pub invariant-loop-place : goal.invariant-loop-place
invariant-loop-place l =
    all (between 1 l.most) (spaced l.step l.count (drop l.from l.words))
    ≡ all (between 1 l.most) (spaced l.step (l.count - l.place) (drop (l.from + l.step * l.place) l.words))
