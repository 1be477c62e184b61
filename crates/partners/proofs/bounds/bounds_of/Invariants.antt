use Rattle.std.proofs.Common.{◌≡◌, length}
use Rattle.partners.proofs.BoundSteps.{Begins}
use Rattle.partners.proofs.bounds.bounds_of.Given as goal

abbrev pub invariant-loop-k : goal.invariant-loop-k
invariant-loop-k l = record {
  begins : Begins l.sieve l.width l.lows;
  same : l.highs ≡ l.lows;
  many : length l.lows ≡ l.k;
}
