use mathlib.Core.Path.{◌∙◌}
use lib.Dec.{eqb}
use borrow.Author.Tests.{tests}
use Rattle.std.proofs.Common.{rules}
use Rattle.std.proofs.lemmas.Iterator.{YieldsList-from_slice}
use Rattle.std.proofs.lemmas.Iterator.Search.{all_from_yields_List}
use Rattle.relations.specs.Columns.{attribute, column}
use Rattle.division.proofs.DivisionLaws.{same_kept}
use Rattle.division.proofs.divide.same_columns.Goals as goal

pub returns : goal.returns
returns c = let s = c.args in
    all_from_yields_List (λ number. eqb (column s.a.now (attribute number)) (column s.b.now (attribute number))) _ _ c.all.result c.all.ensures.ran (YieldsList-from_slice s.columns.now cc) (λ x b q k. search (rules, tests))
    ∙ same_kept s.columns.now s.a.now s.b.now
