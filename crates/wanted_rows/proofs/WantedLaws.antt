-- The wanted rows, one left row at a time, while their value is filled: left and right rows stand in front of it and stay. Assumes nothing.
use mathlib.Core.Path.{◌≡◌, ap₂}
use mathlib.Core.Bool.{Bool}
use mathlib.Core.List.{List, [], ◌∷◌}
use Prim.Native.Nat.{ℕ, ◌+◌, ◌≤◌}
use Rattle.relations.specs.Rows.{Row}
use Rattle.relations.specs.Values.{Rows}
use Rattle.relations.specs.Columns.{Triple}
use Rattle.values.specs.Words.{row_in, rows_of, end}
use Rattle.values.specs.declared.rows.Value.{Value}
use Rattle.values.proofs.FillLaws.{Filled, filled_rows}
use Rattle.operations.proofs.FillSteps.{filled_row}
use Rattle.wanted_rows.specs.Wanted.{wanted_rows}

pub wanted_now : {w out rows made : ℕ} {all todo : Rows} {before now : List ℕ} → Filled w out rows made all todo before now → (wanted : Bool) (triples : List Triple) (at width : ℕ) (right : Value) → at + width ≤ out → end right ≤ out
    → wanted_rows wanted triples (row_in now at width ∷ []) (rows_of right now) ≡ wanted_rows wanted triples (row_in before at width ∷ []) (rows_of right before)
wanted_now f wanted triples at width right ahead beside =
    ap₂ (λ (row : Row) (others : Rows). wanted_rows wanted triples (row ∷ []) others) (filled_row f at width ahead) (filled_rows f right.width right.rows right.base beside)
