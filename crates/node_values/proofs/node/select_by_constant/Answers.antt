use mathlib.Core.Path.{ap, ◌∙◌}
use lib.ListN.{get_or}
use Rattle.relations.specs.Comparison.{Operator, operator_named}
use Rattle.relations.specs.Columns as meaning
use Rattle.relations.specs.Operations.{select_constant_candidates}
use Rattle.values.specs.Words.{rows_of}
use Rattle.terms.specs.Terms.{operator_in, constant_in}
use Rattle.operations.proofs.FillSteps.{builds_by}
use Rattle.node_values.proofs.node.select_by_constant.Goals as goal

pub returns : goal.returns
returns c = let s = c.args in let rows = rows_of s.left s.work.now in let first = meaning.attribute (get_or s.list.now 0 0) in let last = constant_in c.constant_at-constant.result in
    builds_by
    (ap (λ (a : meaning.Attribute). select_constant_candidates a (operator_in c.from-operator.result) last rows) c.attribute_at-attribute.ensures
    ∙ ap (λ (o : Operator). select_constant_candidates first o last rows) c.from-operator.ensures
    ∙ ap (λ (k : meaning.Constant). select_constant_candidates first (operator_named (get_or s.list.now 1 0)) k rows) c.constant_at-constant.ensures)
    c.select_constant.ensures
