use Prim.Native.Nat.{ℕ, ◌-◌}
use mathlib.Core.Path.{sym, ap, ◌∙◌}
use mathlib.Core.List.{List}
use lib.ListN.{length-map}
use Rattle.relations.specs.Columns.{Attribute}
use Rattle.relations.specs.Lists.{flat}
use Rattle.calculus.specs.Scope.{target_columns}
use Rattle.calculus.specs.ShortRules.{project_nodes}
use Rattle.conditions.specs.Readings.{targets_at}
use Rattle.conditions.specs.Scopes.{scope_of}
use Rattle.emission.specs.declared.node_list.NodeList.{NodeList}
use Rattle.emission.proofs.NodeListLaws.{names_attributes, lists_attributes}
use Rattle.emission.proofs.WrittenLaws.{written_as}
use Rattle.plan_steps.proofs.targets.write_targets.Goals as goal

pub write_project-count-requires : goal.write_project-count-requires
write_project-count-requires c = (lists_attributes (flat (target_columns (scope_of c.args.scope.now)) (targets_at c.args.words.now c.args.target)) c.targets_from-columns.ensures, c.requires.2)

pub returns : goal.returns
returns c =
    let columns : List Attribute = flat (target_columns (scope_of c.args.scope.now)) (targets_at c.args.words.now c.args.target) in
    let listed = c.targets_from-columns.ensures in
    record {
      written =
          written_as
          (ap (λ (width : ℕ). project_nodes c.args.short width (c.args.n - 1) columns) (sym c.columns_in.ensures) ∙ ap (project_nodes c.args.short c.columns_in.result (c.args.n - 1)) (sym (names_attributes columns listed)))
          c.write_project-count.ensures;
      width = ap (λ (l : NodeList). l.used) listed ∙ length-map columns (λ (a : Attribute). a.number);
    }
