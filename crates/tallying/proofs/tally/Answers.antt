use mathlib.Core.Path.{refl, sym, ap, ◌∙◌}
use Rattle.relations.specs.Values.{Rows}
use Rattle.relations.specs.Operations.{tally_candidates}
use Rattle.values.specs.Words.{rows_of}
use Rattle.values.proofs.FillLaws.{filled_none, filled_by, filled_end, filled_rows}
use Rattle.operations.proofs.RowSteps.{rows_from, rows_from_start, rows_from_end, row_ends}
use Rattle.tallying.proofs.TallySteps.{rest_ascends, left_ascends, turn_on, turn_off}
use native.Mathlib.Omega.{arith}
use Rattle.tallying.proofs.tally.Goals as goal

pub loop-i-init : goal.loop-i-init
loop-i-init c = let s = c.args in let p = c.requires in let d = s.work.now in (
  refl,
  p.4,
  rw (rows_from_start s.left d) p.5,
  p.6,
  filled_by (filled_none s.left.width s.out (tally_candidates s.least (rows_of s.left d) (rows_of s.right d)) d p.3) (tally_candidates s.least (rows_from s.left 0 d) (rows_of s.right d)) (ap (λ (rows : Rows). tally_candidates s.least rows (rows_of s.right d)) (sym (rows_from_start s.left d))),
)

pub count_begun-enough-requires : goal.count_begun-enough-requires
count_begun-enough-requires c = let s = c.args in let p = c.requires in let l = c.loop-i in let i = l.invariant in let f = i.4 in
    (omega (arith, f.fits, f.size, row_ends s.left l.i s.work.now (omega arith) (omega arith)), rw i.0 p.1, omega (arith, i.1, f.fits), rw (filled_rows f l.rest.width l.rest.rows l.rest.base i.1) i.3)

pub returns-in_err-rows : goal.returns-in_err-rows
returns-in_err-rows c = let s = c.args in let l = c.loop-i in let i = l.invariant in
    rw c.from_residual.ensures (turn_off s.least s.left l.i l.rest i.4 (omega arith) c.requires.2 i.1 i.2 c.count_begun-enough.ensures c.keep_if.ensures c.in_err-rows.was)

pub loop-i-preserved : goal.loop-i-preserved
loop-i-preserved c = let s = c.args in let l = c.loop-i in let i = l.invariant in let g = c.count_begun-enough.ensures in (
  g.wide ∙ i.0,
  omega (arith, g.ends, i.1),
  left_ascends s.least s.left l.i l.rest i.4 (omega arith) c.requires.2 i.1 i.2 g,
  rest_ascends s.least s.left l.i l.rest i.4 (omega arith) c.requires.2 i.1 i.2 g,
  turn_on s.least s.left l.i l.rest i.4 (omega arith) c.requires.2 i.1 i.2 g c.keep_if.ensures c.in_ok-rows.rows c.in_ok-rows.was,
)

pub returns : goal.returns
returns c = let s = c.args in let l = c.loop-i in
    filled_end l.invariant.4 (ap (λ (rows : Rows). tally_candidates s.least rows (rows_of l.rest s.work.now)) (rows_from_end s.left l.i s.work.now (omega arith)))
