use Rattle.values.proofs.FillLaws.{filled_still}
use Rattle.operations.proofs.keep.keep_if.Goals as goal

pub returns-else-kept : goal.returns-else-kept
returns-else-kept c = let s = c.args in let v = s.value in let p = c.requires in rw c.if-kept.false (filled_still v.width v.base v.rows s.work.now p.2 p.3)
