use mathlib.Core.Path.{◌≡◌}
use Prim.Native.Nat.{◌≤◌}
use lib.ListN.{length, take}
use Rattle.std.specs.Slice.Iter.{chunks_exact_rest, chunks_exact_size}
use Rattle.relations.specs.Lists.{All}
use Rattle.relations.specs.Limits.{column_limit}
use Rattle.relations.specs.Columns.{left_numbers}
use Rattle.division.specs.Divisions.{pairs_of, with_pairs}
use Rattle.division.proofs.divide.partner_row.Given as goal

abbrev pub invariant-loop-words : goal.invariant-loop-words
invariant-loop-words l =
    goal.iterator-loop-words.can_next l.words-iterator
    × goal.iterator-loop-words.is_finite l.words-iterator
    × (chunks_exact_size l.words-iterator ≡ 2)
    × (length l.made ≡ column_limit)
    × All (λ number. (1 ≤ number) × (number ≤ length l.t)) (left_numbers (pairs_of (chunks_exact_rest l.words-iterator)))
    × (with_pairs (pairs_of l.pairs) l.t l.r ≡ with_pairs (pairs_of (chunks_exact_rest l.words-iterator)) (take (length l.t) l.made) l.r)
