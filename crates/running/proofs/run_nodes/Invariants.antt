use Rattle.std.proofs.Common.{◌≡◌, length}
use Rattle.std.specs.Iterator.Adapters.{enumerate_source, enumerate_count}
use Rattle.std.specs.Slice.Iter.{chunks_exact_rest, chunks_exact_size}
use Rattle.relations.specs.Limits.{plan_node_words}
use Rattle.running.proofs.RunLaws.{Running}
use Rattle.running.proofs.run_nodes.Given as goal

abbrev pub invariant-loop-place : goal.invariant-loop-place
invariant-loop-place l =
    goal.iterator-loop-place.can_next l.place-iterator
    × goal.iterator-loop-place.is_finite l.place-iterator
    × (chunks_exact_size (enumerate_source l.place-iterator) ≡ plan_node_words)
    × Running l.catalogue l.tables l.plan l.nodes (length l.initial.work) l.values l.heavy l.out (enumerate_count l.place-iterator) (chunks_exact_rest (enumerate_source l.place-iterator)) l.work
