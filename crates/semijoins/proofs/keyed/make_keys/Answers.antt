use Rattle.semijoins.proofs.TriedLaws.{keyed, keys_none}
use Rattle.semijoins.proofs.keyed.make_keys.Goals as goal

pub returns-in_err-rows : goal.returns-in_err-rows
returns-in_err-rows c = rw c.from_residual.ensures (keys_none c.requires.4 (rw c.in_err-rows.was at c.project.ensures))

pub returns : goal.returns
returns c = keyed c.args.columns.now c.requires.3 c.requires.4 (rw c.in_ok-rows.was at c.project.ensures)
