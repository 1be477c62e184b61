use Prim.Native.Nat.{◌+◌}
use mathlib.Core.Path.{◌≡◌}
use lib.ListN.{get_or}
use lib.Dec.{eqb}
use Rattle.sorting.specs.Numbers.{all_below}
use Rattle.ordering.specs.Offering.{leads}
use Rattle.ordering.proofs.sorted.leads.Given as goal

abbrev pub invariant-loop-i : goal.invariant-loop-i
invariant-loop-i l = leads l.count l.width l.list ≡ all_below (λ i. eqb (get_or l.list i 0) (i + 1)) l.i
