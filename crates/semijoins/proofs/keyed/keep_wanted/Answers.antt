use Rattle.values.proofs.MakeLaws.{builds_makes}
use Rattle.semijoins.proofs.keyed.keep_wanted.Goals as goal

pub returns-in-None : goal.returns-in-None
returns-in-None c = let p = c.requires in let e = c.in-None.ensures in rw e at (builds_makes (rw e p.2) (rw e p.5) c.keep_by_rows.ensures c.finish.ensures)
