use borrow.Author.Tests.{eq-eqb, ne_eqb}
use Rattle.bundle_writing.proofs.put_mode.Goals as goal

pub returns-then-mode-eq0 : goal.returns-then-mode-eq0
returns-then-mode-eq0 c = rw (eq-eqb _ 0 c.if-mode-eq0.true) c.put_bytes.ensures

pub returns-else-mode-eq0 : goal.returns-else-mode-eq0
returns-else-mode-eq0 c = rw (ne_eqb _ 0 c.if-mode-eq0.false) c.put_bytes-else-mode-eq0.ensures
