use Rattle.std.proofs.Common.{◌≡◌, ◌&&◌, ◌+◌, ◌/◌, ◌≤◌, length, take}
use Rattle.relations.specs.Rows.{Row}
use Rattle.relations.specs.Columns.{meets}
use Rattle.operations.specs.Lists.{triples_of}
use Rattle.partners.specs.Sieves.{sifts}
use Rattle.partners.proofs.sieve.fill.Given as goal

abbrev pub invariant-loop-words : goal.invariant-loop-words
invariant-loop-words l = record {
  size : l.words-iterator.size ≡ 3;
  fits : l.made + length l.words-iterator.rest.now / 3 ≤ length l.room;
  same : (right : Row) → (sifts (take l.made l.room) right && meets (triples_of l.words-iterator.rest.now) l.row right) ≡ meets (triples_of l.triples) l.row right;
}
