use Rattle.std.proofs.Common.{sym, ap, List, [], ◌∷◌}
use Rattle.relations.specs.Columns.{Attribute}
use Rattle.relations.specs.Nodes.{project}
use Rattle.calculus.specs.Scope.{all_columns}
use Rattle.emission.proofs.NodeListLaws.{first-listed, names_attributes, lists_attributes}
use Rattle.emission.proofs.WrittenLaws.{written_as}
use Rattle.emission.proofs.emit.project_first.Goals as goal

pub project-requires : goal.project-requires
project-requires c = (c.requires.0, lists_attributes (all_columns c.args.columns) (first-listed c.args.columns c.requires.1 c.new-first.ensures c.extend_columns.ensures))

pub returns : goal.returns
returns c =
    written_as
    (ap (λ (l : List Attribute). project c.args.left l ∷ []) (sym (names_attributes (all_columns c.args.columns) (first-listed c.args.columns c.requires.1 c.new-first.ensures c.extend_columns.ensures))))
    c.project.ensures
