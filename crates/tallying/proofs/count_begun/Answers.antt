use mathlib.Core.Path.{◌≡◌, sym, ap, ◌∙◌}
use Prim.Native.Nat.{◌≤◌}
use lib.ListN.{length}
use Rattle.values.specs.Words.{row_in, end}
use Rattle.values.proofs.RowsLaws.{length_row, times_step}
use Rattle.values.proofs.BoundLaws.{ascending-next}
use Rattle.tallying.proofs.CountSteps.{counting_equal, counting_greater, counting_less, counting_enough, counting_through, counts_made}
use native.Mathlib.Omega.{arith}
use Rattle.tallying.proofs.count_begun.Goals as goal
use Rattle.tallying.proofs.count_begun.Goals.{in-Equal, in-Greater, then-loop-rest-test+else-count-least, else-loop-rest-test}

pub returns-in-Less : goal.returns-in-Less
returns-in-Less c = let s = c.args in let p = c.requires in let l = c.loop-rest in let i = l.invariant in let v = l.rest in let left = c.row-left.result.now in
    let e : length left ≡ s.width = ap length c.row-left.ensures ∙ length_row s.work.now s.at s.width p.0 in
    counts_made s.least s.rest.now v s.work.now c.row-left.ensures i.0 i.1 i.2 i.3
    (counting_less v.width v.rows v.base s.work.now i.3 (omega arith) (omega (arith, i.1)) (omega (arith, i.0)) (c.row.ensures ∙ ap (row_in s.work.now v.base) (sym e)) c.compare_rows.ensures s.least c.in-Less.is c.if-count-least.true i.2)

pub loop-rest-preserved : goal.loop-rest-preserved
loop-rest-preserved c = let s = c.args in let l = c.loop-rest in let i = l.invariant in let v = l.rest in let left = c.row-left.result.now in
    let e : length left ≡ s.width = ap length c.row-left.ensures ∙ length_row s.work.now s.at s.width c.requires.0 in
    let inside : end v ≤ length s.work.now = omega (arith, i.1) in
    let seen : c.row.result.now ≡ row_in s.work.now v.base (length left) = c.row.ensures ∙ ap (row_in s.work.now v.base) (sym e) in (
      i.0,
      omega (arith, i.1, times_step v.rows v.width (omega arith)),
      ascending-next v.width v.rows v.base s.work.now inside (omega arith) i.2,
      elim c.match-compare_rows.branch [
        | in-Equal w ↦ counting_equal v.width v.rows v.base s.work.now i.3 (omega arith) inside (omega (arith, i.0)) seen c.compare_rows.ensures w.in-Equal.is w.count-is
        | in-Greater w ↦ counting_greater v.width v.rows v.base s.work.now i.3 (omega arith) inside (omega (arith, i.0)) seen c.compare_rows.ensures w.in-Greater.is w.count-is
      ],
    )

pub returns : goal.returns
returns c = let s = c.args in let l = c.loop-rest in let i = l.invariant in
    counts_made s.least s.rest.now l.rest s.work.now c.row-left.ensures i.0 i.1 i.2 i.3 (elim c.loop-rest-test.branch [
      | then-loop-rest-test+else-count-least w ↦ counting_enough i.3 s.least (omega (arith, w.if-count-least.false))
      | else-loop-rest-test w ↦ counting_through l.rest s.work.now i.3 s.least (omega (arith, w.loop-rest-test.false))
    ])
