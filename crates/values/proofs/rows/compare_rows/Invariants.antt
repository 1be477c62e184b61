use lib.ListN.{drop}
use mathlib.Core.Path.{◌≡◌}
use Rattle.values.specs.Orders.{order_of}
use Rattle.values.proofs.rows.compare_rows.Given as goal

abbrev pub invariant-loop-i : goal.invariant-loop-i
invariant-loop-i l = order_of l.a l.b ≡ order_of (drop l.i l.a) (drop l.i l.b)
