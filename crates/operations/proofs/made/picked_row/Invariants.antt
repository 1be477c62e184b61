use Rattle.relations.specs.Columns.{attribute, pick}
use Rattle.operations.specs.Aside.{aside}
use lib.ListN.{take}
use mathlib.Core.List.{map}
use mathlib.Core.Path.{◌≡◌}
use Rattle.operations.proofs.made.picked_row.Given as goal

abbrev pub invariant-loop-i : goal.invariant-loop-i
invariant-loop-i l = l.made ≡ aside (pick (map attribute (take l.i l.columns)) l.row)
