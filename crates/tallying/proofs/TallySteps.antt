-- The left rows one after another: what is counted for one, and what is still to come. Assumes nothing.
use mathlib.Core.Path.{◌≡◌, sym, ap, ap₂, ◌∙◌}
use mathlib.Core.Bool.{Bool, cond, So}
use mathlib.Core.List.{List, [], ◌∷◌, ◌++◌}
use Prim.Native.Nat.{ℕ, ◌+◌, ◌*◌, ◌≤◌, ◌<◌}
use native.Mathlib.Omega.{arith}
use lib.Dec.{leb}
use lib.ListN.{length}
use Rattle.relations.specs.Lists.{how_many, All}
use Rattle.relations.specs.Rows.{Row, row_before, begins}
use Rattle.relations.specs.Values.{Rows, Ascending}
use Rattle.relations.specs.Operations.{tally_candidates}
use Rattle.relations.proofs.ListLaws.{all_mono, all_zip, filter_cong}
use Rattle.values.specs.Words.{row_in, rows_of, end}
use Rattle.values.specs.Building.{Builds}
use Rattle.values.specs.declared.rows.Value.{Value}
use Rattle.std.specs.Prelude.{Option, Some, None}
use Rattle.values.proofs.RowsLaws.{length_row}
use Rattle.values.proofs.FillLaws.{Filled, filled_rows, filled_on, filled_off}
use Rattle.operations.proofs.FillSteps.{filled_row}
use Rattle.operations.proofs.RowSteps.{rows_from, rows_from_next, rows_from_wide, filter_next, row_ends}
use Rattle.tallying.specs.Counts.{Counts}

-- A left row, and the left rows behind it with the right rows that it leaves.
module _ (least : ℕ) (left : Value) (i : ℕ) (work : List ℕ) (more : i < left.rows) (inside : end left ≤ length work) (ascends : Ascending (rows_from left i work)) (right : Value) {enough : Bool} {rest : Value} (g : Counts least (row_in work (left.base + i * left.width) left.width) right work enough rest) where
  abbrev first : Row
  first = row_in work (left.base + i * left.width) left.width

  abbrev behind : Rows
  behind = rows_from left (i + 1) work

  both : Ascending (first ∷ behind)
  both = rw (rows_from_next left i work more inside) at ascends

  same_width : length first ≡ left.width
  same_width = length_row work (left.base + i * left.width) left.width (omega (arith, row_ends left i work more inside))

  -- a left row behind begins as many of the right rows that are left as of all
  same_behind : All (λ next. leb least (how_many (begins next) (rows_of right work)) ≡ leb least (how_many (begins next) (rows_of rest work))) behind
  same_behind =
      all_mono (λ next h. ap (leb least) (g.later next (h.0 ∙ sym same_width) h.1)) behind
      (all_zip (λ next. length next ≡ left.width) (λ next. So (row_before first next)) behind (rows_from_wide left (i + 1) work (omega arith) inside) both.0)

  pub ascends_behind : Ascending (rows_from left (i + 1) work)
  ascends_behind = both.1

  tally_step : tally_candidates least (rows_from left i work) (rows_of right work) ≡ cond enough (first ∷ []) [] ++ tally_candidates least behind (rows_of rest work)
  tally_step =
      filter_next left i work more inside (λ row. leb least (how_many (begins row) (rows_of right work)))
      ∙ ap₂ ◌++◌ (ap (λ (kept : Bool). cond kept (first ∷ []) []) (sym g.enough))
      (filter_cong (λ row. leb least (how_many (begins row) (rows_of right work))) (λ row. leb least (how_many (begins row) (rows_of rest work))) behind same_behind)

-- A turn of the loop. Left and right rows stand in front of the value that is filled, so what was counted and placed now holds of the words before.
module _ (least : ℕ) (left : Value) (i : ℕ) (right : Value) {out made : ℕ} {all : Rows} {before now : List ℕ} (f : Filled left.width out 0 made all (tally_candidates least (rows_from left i before) (rows_of right before)) before now)
    (more : i < left.rows) (ahead : end left ≤ out) (beside : end right ≤ out) (ascends : Ascending (rows_from left i before)) {enough : Bool} {rest : Value} (g : Counts least (row_in now (left.base + i * left.width) left.width) right now enough rest) where
  inside : end left ≤ length before
  inside = omega (arith, f.fits, f.size)

  row_then : row_in now (left.base + i * left.width) left.width ≡ row_in before (left.base + i * left.width) left.width
  row_then = filled_row f (left.base + i * left.width) left.width (omega (arith, row_ends left i before more inside))

  rest_then : rows_of rest now ≡ rows_of rest before
  rest_then = filled_rows f rest.width rest.rows rest.base (omega (arith, g.ends))

  counts_then : Counts least (row_in before (left.base + i * left.width) left.width) right before enough rest
  counts_then =
      let all_then : rows_of right now ≡ rows_of right before = filled_rows f right.width right.rows right.base beside in
      record {
        enough = rw (row_then, all_then) at g.enough;
        wide = g.wide;
        ends = g.ends;
        ascending = rw rest_then at g.ascending;
        later = rw (row_then, all_then, rest_then) at g.later;
      }

  pub rest_ascends : Ascending (rows_of rest before)
  rest_ascends = counts_then.ascending

  pub left_ascends : Ascending (rows_from left (i + 1) before)
  left_ascends = ascends_behind least left i before more inside ascends right counts_then

  module _ {after : List ℕ} {r : Option ℕ} (b : Builds left.width out made (cond enough (row_in now (left.base + i * left.width) left.width ∷ []) []) now after r) where
    abbrev to_come : Rows
    to_come = tally_candidates least (rows_from left (i + 1) before) (rows_of rest before)

    todo : tally_candidates least (rows_from left i before) (rows_of right before) ≡ cond enough (row_in now (left.base + i * left.width) left.width ∷ []) [] ++ to_come
    todo = tally_step least left i before more inside ascends right counts_then ∙ ap (λ (row : Row). cond enough (row ∷ []) [] ++ to_come) (sym row_then)

    pub turn_on : (n : ℕ) → r ≡ Some n → Filled left.width out 0 n all (tally_candidates least (rows_from left (i + 1) before) (rows_of rest before)) before after
    turn_on n q = filled_on f to_come todo b n q

    pub turn_off : r ≡ None → Builds left.width out 0 all before after None
    turn_off q = filled_off f to_come todo b q
