use Rattle.std.proofs.Common.{◌≡◌, ◌+◌, ◌*◌, ◌%◌, ◌≤◌, length}
use Rattle.std.specs.Slice.Iter.{chunks_exact_rest, chunks_exact_size}
use Rattle.catalogue.specs.Judging.{pairs_ok, catalogue_words}
use Rattle.catalogue.proofs.judging.judge_catalogue.Given as goal

-- The catalogue's pairs are ok if those that are left are, and its words are `words` and those of the pairs left. A pair that is ok has at most 131,072 words.
abbrev pub invariant-loop-pair : goal.invariant-loop-pair
invariant-loop-pair l = record {
  pairs : chunks_exact_size l.pair-iterator ≡ 2;
  even : length (chunks_exact_rest l.pair-iterator) % 2 ≡ 0;
  room : l.words + 65536 * length (chunks_exact_rest l.pair-iterator) ≤ 65536 * length l.catalogue;
  ok : pairs_ok l.catalogue ≡ pairs_ok (chunks_exact_rest l.pair-iterator);
  sum : catalogue_words l.catalogue ≡ l.words + catalogue_words (chunks_exact_rest l.pair-iterator);
}
