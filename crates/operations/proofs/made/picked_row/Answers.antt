use Rattle.operations.proofs.MadeLaws.{pick_suc}
use native.Mathlib.Omega.{arith}
use Rattle.operations.proofs.made.picked_row.Goals as goal

pub loop-i-preserved : goal.loop-i-preserved
loop-i-preserved c = let l = c.loop-i in pick_suc l.made c.args.columns.now c.args.row.now l.i c.column_of.result (omega arith) l.invariant c.column_of.ensures
