use mathlib.Core.Path.{ap, ◌∙◌}
use Prim.Native.Nat.{◌+◌, ◌*◌, ◌-◌}
use mathlib.Core.List.{◌++◌}
use Rattle.relations.specs.Rows.{Row, row_before}
use Rattle.values.specs.Words.{row_in}
use Rattle.values.proofs.RowsLaws.{times_step, length_row}
use Rattle.joining.proofs.JoinLaws.{behind_none, behind-left, behind-right, not_behind, told_less, told_equal, told_greater}
use native.Mathlib.Omega.{arith}
use Rattle.joining.proofs.join.comes_last.Goals as goal

pub returns-then-made-eq0 : goal.returns-then-made-eq0
returns-then-made-eq0 c = let s = c.args in behind_none (row_in s.work.now s.pair.left s.pair.width ++ row_in s.work.now s.pair.right s.pair.more) (s.pair.width + s.pair.more) s.made s.out s.work.now c.if-made-eq0.true

pub overflow_mul-last : goal.overflow_mul-last
overflow_mul-last c = let s = c.args in omega (arith, times_step s.made (s.pair.width + s.pair.more) (omega arith))

pub overflow_add-last-2 : goal.overflow_add-last-2
overflow_add-last-2 c = let s = c.args in omega (arith, times_step s.made (s.pair.width + s.pair.more) (omega arith))

pub overflow_add-last-in-Equal : goal.overflow_add-last-in-Equal
overflow_add-last-in-Equal c = let s = c.args in omega (arith, times_step s.made (s.pair.width + s.pair.more) (omega arith))

pub returns-in-Less : goal.returns-in-Less
returns-in-Less c = let s = c.args in let p = c.requires in let w = s.work.now in
    behind-left (row_in w s.pair.left s.pair.width) (row_in w s.pair.right s.pair.more) s.pair.width s.pair.more s.made s.out w p.2 p.3 (omega arith) (length_row w s.pair.left s.pair.width p.0)
    (told_less c.row-first.result.now c.row.result.now c.compare_rows.ensures c.row-first.ensures c.row.ensures c.in-Less.is)

pub returns-in-Equal : goal.returns-in-Equal
returns-in-Equal c = let s = c.args in let p = c.requires in let w = s.work.now in
    c.stands_before.ensures ∙ ap (λ (r : Row). row_before (row_in w (s.out + (s.made - 1) * (s.pair.width + s.pair.more) + s.pair.width) s.pair.more) r) c.row-in-Equal.ensures
    ∙ behind-right (row_in w s.pair.left s.pair.width) (row_in w s.pair.right s.pair.more) s.pair.width s.pair.more s.made s.out w p.2 p.3 (omega arith)
    (told_equal c.row-first.result.now c.row.result.now c.compare_rows.ensures c.row-first.ensures c.row.ensures c.in-Equal.is)

pub returns-in-Greater : goal.returns-in-Greater
returns-in-Greater c = let s = c.args in let p = c.requires in let w = s.work.now in
    not_behind (row_in w s.pair.left s.pair.width) (row_in w s.pair.right s.pair.more) s.pair.width s.pair.more s.made s.out w p.2 p.3 (omega arith) (length_row w s.pair.left s.pair.width p.0)
    (told_greater c.row-first.result.now c.row.result.now c.compare_rows.ensures c.row-first.ensures c.row.ensures c.in-Greater.is)
