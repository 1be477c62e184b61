use Rattle.std.proofs.Common.{◌≡◌, ◌+◌, ◌*◌, ◌-◌, drop}
use Rattle.relations.specs.Legality.{distinct}
use Rattle.plan_reading.specs.Decoding.{spaced}
use Rattle.plan_reading.proofs.legal.distinct_lefts.Given as goal

-- The attributes are distinct if those from `place` on are.
abbrev pub invariant-loop-place : goal.invariant-loop-place
invariant-loop-place l =
    distinct (spaced 2 l.count (drop l.from l.words))
    ≡ distinct (spaced 2 (l.count - l.place) (drop (l.from + 2 * l.place) l.words))
