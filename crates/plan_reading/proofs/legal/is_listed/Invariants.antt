use Rattle.std.proofs.Common.{◌≡◌, ◌+◌, ◌*◌, ◌-◌, drop}
use Rattle.relations.specs.Columns.{listed}
use Rattle.plan_reading.specs.Decoding.{spaced}
use Rattle.plan_reading.proofs.legal.is_listed.Given as goal

-- The number is listed if it is among the attributes from `place` on.
abbrev pub invariant-loop-place : goal.invariant-loop-place
invariant-loop-place l =
    listed l.number (spaced 2 l.count (drop l.from l.words))
    ≡ listed l.number (spaced 2 (l.count - l.place) (drop (l.from + 2 * l.place) l.words))
