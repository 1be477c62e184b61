use Rattle.operations.proofs.FillSteps.{builds_by}
use Rattle.values.proofs.RowsLaws.{row_inside}
use Rattle.relations.specs.Columns.{attribute, column, pick}
use Rattle.operations.proofs.MadeLaws.{aside_taken}
use lib.ListN.{length, take, length-map}
use mathlib.Core.List.{[], ◌∷◌, map}
use mathlib.Core.Path.{ap, ◌∙◌}
use Prim.Native.Nat.{ℕ}
use native.Mathlib.Omega.{arith}
use Rattle.operations.proofs.project.place_picked.Goals as goal

pub returns : goal.returns
returns c = let s = c.args in let n : ℕ = length s.columns.now in
    builds_by (ap (λ r. r ∷ []) (row_inside c.picked_row-picked.result 0 n (omega arith) ∙ ap (take n) c.picked_row-picked.ensures ∙ aside_taken (pick (map attribute s.columns.now) c.row.result.now) n (length-map (map attribute s.columns.now) (λ a. column c.row.result.now a) ∙ length-map s.columns.now attribute) (omega arith) ∙ ap (pick (map attribute s.columns.now)) c.row.ensures))
    c.place_row.ensures
