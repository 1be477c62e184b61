use Rattle.std.proofs.Common.{sym, ◌∙◌, length}
use borrow.Author.Tests.{eqb-true}
use Rattle.values.specs.Words.{rows_of}
use Rattle.partners.proofs.BoundSteps.{none_before-nothing}
use Rattle.partners.proofs.finding.rows_before.Goals as goal

pub returns-then-is_empty : goal.returns-then-is_empty
returns-then-is_empty c = let s = c.args in sym (none_before-nothing s.bound.now (rows_of s.value s.work.now) (eqb-true (length s.bound.now) 0 (sym c.is_empty.ensures ∙ c.if-is_empty.true)))
