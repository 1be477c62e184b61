use Rattle.ordering.proofs.AscendLaws.{copied_makes, copied_full}
use native.Mathlib.Omega.{arith}
use Rattle.ordering.proofs.ascending.copy_ascending.Goals as goal

pub returns-then-work-out : goal.returns-then-work-out
returns-then-work-out c = let a = c.args in copied_full a.stored a.out a.tables.now a.work.now c.requires.0 c.requires.1 c.requires.3 (omega arith)

pub returns : goal.returns
returns c = let a = c.args in copied_makes a.stored a.out a.tables.now a.work.now c.requires.0 c.requires.1 c.requires.3 (omega arith) c.write_row.ensures
