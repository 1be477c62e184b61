use Rattle.std.proofs.Common.{◌≡◌}
use Rattle.std.specs.Iterator.Adapters.{enumerate_source, enumerate_count}
use Rattle.std.specs.Slice.Iter.{chunks_exact_rest, chunks_exact_size}
use Rattle.relations.specs.Limits.{plan_node_words}
use Rattle.plan_reading.proofs.JudgeLaws.{JudgedSoFar}
use Rattle.plan_reading.proofs.judging.judge_plan.Given as goal

abbrev pub invariant-loop-place : goal.invariant-loop-place
invariant-loop-place l =
    goal.iterator-loop-place.can_next l.place-iterator
    × goal.iterator-loop-place.is_finite l.place-iterator
    × (chunks_exact_size (enumerate_source l.place-iterator) ≡ plan_node_words)
    × JudgedSoFar l.catalogue l.plan l.widths l.nodes (enumerate_count l.place-iterator) (chunks_exact_rest (enumerate_source l.place-iterator))
