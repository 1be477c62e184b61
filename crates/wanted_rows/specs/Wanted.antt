-- The left rows that meet triples with some right row, or with none.
use Rattle.std.specs.Prelude.{Bool, not, cond, List}
use Rattle.relations.specs.Lists.{any, filter}
use Rattle.relations.specs.Rows.{Row}
use Rattle.relations.specs.Values.{Rows}
use Rattle.relations.specs.Columns.{Triple, meets}

-- a row meets the triples with some right row, or, where that is not wanted, with none
abbrev pub wanted_row : Bool → List Triple → Rows → Row → Bool
wanted_row wanted triples right row = cond wanted (any (meets triples row) right) (not (any (meets triples row) right))

abbrev pub wanted_rows : Bool → List Triple → Rows → Rows → Rows
wanted_rows wanted triples left right = filter (wanted_row wanted triples right) left
