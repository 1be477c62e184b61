-- What a left row leaves of the right rows that were still to come.
use Rattle.std.specs.Prelude.{◌≡◌, Bool, List, ℕ, leb, length}
use Rattle.std.proofs.Math.Bool.{So}
use Rattle.relations.specs.Lists.{how_many}
use Rattle.relations.specs.Rows.{Row, row_before, begins}
use Rattle.relations.specs.Values.{Ascending}
use Rattle.values.specs.Words.{rows_of, end}
use Rattle.values.specs.declared.rows.Value.{Value}

-- whether it begins enough of them; and the last of them, among which is every one that a later left row begins
pub record Counts (least : ℕ) (left : Row) (right : Value) (work : List ℕ) (begun : Bool) (rest : Value) : Type 0 where
  pub enough : begun ≡ leb least (how_many (begins left) (rows_of right work))
  pub wide : rest.width ≡ right.width
  pub ends : end rest ≡ end right
  pub ascending : Ascending (rows_of rest work)
  pub later : (next : Row) → length next ≡ length left → So (row_before left next) → how_many (begins next) (rows_of right work) ≡ how_many (begins next) (rows_of rest work)
