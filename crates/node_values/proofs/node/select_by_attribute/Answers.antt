use mathlib.Core.Path.{ap}
use Rattle.values.specs.Words.{rows_of}
use Rattle.relations.specs.Operations.{select_attribute_candidates}
use Rattle.relations.specs.Columns as meaning
use Rattle.operations.proofs.FillSteps.{builds_by}
use Rattle.node_values.proofs.node.select_by_attribute.Goals as goal

pub returns : goal.returns
returns c = let s = c.args in
    builds_by (ap (λ (t : meaning.Triple). select_attribute_candidates t.left t.operator t.right (rows_of s.left s.work.now)) c.triple_at-triple.ensures) c.select_attribute.ensures
