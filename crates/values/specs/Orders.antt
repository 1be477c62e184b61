-- What a comparison of two rows answers.
use Rattle.std.specs.Prelude.{cond}
use Rattle.relations.specs.Rows.{Row, row_before, same_row}
use Rattle.std.specs.declared.cmp.Ordering.{Ordering}
use Rattle.std.specs.declared.cmp.Ordering.TheVariants.{Less, Equal, Greater}

abbrev pub order_of : Row → Row → Ordering
order_of a b = cond (row_before a b) Less (cond (same_row a b) Equal Greater)
