use mathlib.Core.Path.{sym, ◌∙◌}
use Prim.Native.Nat.{◌+◌, ◌*◌}
use Rattle.values.specs.Words.{row_in, rows_of}
use Rattle.std.specs.Fn.{FnReturnsAt}
use Rattle.operations.proofs.RowSteps.{rows_from, rows_from_start, rows_from_end, rows_from_next}
use Rattle.operations.proofs.TestLaws.{kept_start, kept_end, kept_past, kept_on, kept_off}
use native.Mathlib.Omega.{arith}
use Rattle.operations.proofs.keep.keep.Goals as goal
use Rattle.operations.proofs.keep.keep.Goals.{then-passes+in_ok-rows, else-passes}

pub loop-i-init : goal.loop-i-init
loop-i-init g c = let s = c.args in kept_start _ s.value.width (rows_of s.value s.front.now) (rows_from s.value 0 s.front.now) s.behind.now (sym (rows_from_start s.value s.front.now))

pub returns-in_err-rows : goal.returns-in_err-rows
returns-in_err-rows g c = let s = c.args in let l = c.loop-i in let v = s.value in
    let told : FnReturnsAt g.F.Fn s.passes (row_in s.front.now (v.base + l.i * v.width) v.width) c.passes.result = record { shown = c.row.result; shows = c.row.ensures; says = record { met = c.passes.ensures } } in
    λ test says. rw c.from_residual.ensures
    (kept_off l.invariant (rows_from v (l.i + 1) s.front.now) (rows_from_next v l.i s.front.now (omega arith) c.requires.2)
    (λ t answers. sym (answers _ _ told) ∙ c.if-passes.true)
    c.place_row.ensures c.in_err-rows.was test says)

pub loop-i-preserved : goal.loop-i-preserved
loop-i-preserved g c = let s = c.args in let l = c.loop-i in let v = s.value in
    let told : FnReturnsAt g.F.Fn s.passes (row_in s.front.now (v.base + l.i * v.width) v.width) c.passes.result = record { shown = c.row.result; shows = c.row.ensures; says = record { met = c.passes.ensures } } in
    let next = rows_from_next v l.i s.front.now (omega arith) c.requires.2 in
    elim c.if-passes.branch [
      | then-passes+in_ok-rows w ↦ rw (w.behind-is, w.rows-is) (kept_on l.invariant (rows_from v (l.i + 1) s.front.now) next
          (λ t answers. sym (answers _ _ told) ∙ w.if-passes.true)
          w.place_row.ensures w.in_ok-rows.rows w.in_ok-rows.was)
      | else-passes w ↦ rw (w.behind-is, w.rows-is) (kept_past l.invariant (rows_from v (l.i + 1) s.front.now) next
          (λ t answers. sym (answers _ _ told) ∙ w.if-passes.false))
    ]

pub returns : goal.returns
returns g c = let s = c.args in let l = c.loop-i in λ test says. kept_end l.invariant (rows_from_end s.value l.i s.front.now (omega arith)) test says
