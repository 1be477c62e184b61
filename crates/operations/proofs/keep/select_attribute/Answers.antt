use mathlib.Core.Bool.{Bool}
use Rattle.relations.specs.Rows.{Row}
use Rattle.std.proofs.Common.{rules}
use Rattle.relations.specs.Comparison.{holds}
use Rattle.relations.specs.Columns.{column}
use Rattle.terms.specs.Terms.{attribute_in, operator_in}
use Rattle.operations.proofs.TestLaws.{split_built}
use Rattle.operations.proofs.keep.select_attribute.Goals as goal

pub returns : goal.returns
returns c = let s = c.args in let p = c.requires in let cut = c.split_at_mut-front.ensures in
    let test : Row → Bool = λ row. holds (operator_in s.operator) (column row (attribute_in s.attribute)) (column row (attribute_in s.other)) in
    split_built s.left s.out s.work.now test p.1 p.2 cut.front cut.back
    (c.keep.ensures test (λ row r says. search rules))
