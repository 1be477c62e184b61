use Rattle.operations.proofs.MadeLaws.{two_runs}
use Rattle.values.proofs.RowsLaws.{length_row}
use Rattle.values.specs.Words.{row_in}
use Rattle.operations.proofs.made.pair_row.Goals as goal

pub returns : goal.returns
returns c = let s = c.args in let l = s.work.now in
    rw (c.write_row-2.ensures, c.write_row.ensures)
    (two_runs (row_in l s.left s.width) (row_in l s.right s.more) s.width (length_row l s.left s.width c.requires.1))
