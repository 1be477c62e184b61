use mathlib.Core.Path.{◌≡◌}
use Rattle.relations.specs.Values.{Ascending}
use Rattle.values.specs.Words.{rows_of, end}
use Rattle.tallying.proofs.CountSteps.{Counting}
use Rattle.tallying.proofs.count_begun.Given as goal

abbrev pub invariant-loop-rest : goal.invariant-loop-rest
invariant-loop-rest l = (l.rest.width ≡ l.initial.rest.width) × (end l.rest ≡ end l.initial.rest) × Ascending (rows_of l.rest l.work) × Counting l.left (rows_of l.initial.rest l.work) l.count (rows_of l.rest l.work)

abbrev pub decreases-loop-rest : goal.decreases-loop-rest
decreases-loop-rest l = l.rest.rows
