use Rattle.std.proofs.Common.{sym, ◌∙◌, arith}
use Rattle.values.proofs.OrderLaws.{order_less, order_greater, order_on, order_by_length}
use Rattle.values.proofs.rows.compare_rows.Goals as goal

pub returns-then-a-i : goal.returns-then-a-i
returns-then-a-i c = let l = c.loop-i in sym (l.invariant ∙ order_less c.args.a.now c.args.b.now l.i (omega (arith, c.min-i-end.ensures)) (omega (arith, c.min-i-end.ensures)) (omega arith))

pub returns-then-b-i : goal.returns-then-b-i
returns-then-b-i c = let l = c.loop-i in sym (l.invariant ∙ order_greater c.args.a.now c.args.b.now l.i (omega (arith, c.min-i-end.ensures)) (omega (arith, c.min-i-end.ensures)) (omega arith))

pub loop-i-preserved : goal.loop-i-preserved
loop-i-preserved c = let l = c.loop-i in l.invariant ∙ order_on c.args.a.now c.args.b.now l.i (omega (arith, c.min-i-end.ensures)) (omega (arith, c.min-i-end.ensures)) (omega arith) (omega arith)

pub returns : goal.returns
returns c = let l = c.loop-i in let e = c.min-i-end.ensures in let stop = l.auto.i-end in
    c.cmp.ensures ∙ sym (l.invariant ∙ order_by_length c.args.a.now c.args.b.now l.i (omega (arith, e, stop)) (omega (arith, e, stop)) (omega (arith, e)))
