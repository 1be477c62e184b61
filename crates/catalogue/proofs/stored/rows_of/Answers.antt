use borrow.Author.Tests.{lt-ltb, le-ltb}
use Rattle.catalogue.proofs.stored.rows_of.Goals as goal

pub returns-then-relation-catalogue : goal.returns-then-relation-catalogue
returns-then-relation-catalogue c = simp (lt-ltb _ _ c.if-relation-catalogue.true)

pub returns-else-relation-catalogue : goal.returns-else-relation-catalogue
returns-else-relation-catalogue c = simp (le-ltb _ _ c.if-relation-catalogue.false)
