use Rattle.short_rules.proofs.ListLaws.{triple_none}
use Rattle.emission.proofs.NodeListLaws.{grown_none}
use Rattle.emission.specs.NodeLists.{grown_by}
use Rattle.conditions.specs.Scopes.{scope_of}
use Rattle.question.specs.Trees.{atom_of}
use mathlib.Core.Path.{sym, ap, ◌∙◌}
use Rattle.short_rules.proofs.lists.extend_by_triple.Goals as goal

pub returns-then-not-compares_with_other : goal.returns-then-not-compares_with_other
returns-then-not-compares_with_other c =
    sym (grown_none c.args.list.now) ∙ ap (grown_by c.args.list.now) (sym (triple_none (scope_of c.args.scope.now) c.args.x (atom_of c.args.atom) (sym c.compares_with_other.ensures ∙ c.if-not-compares_with_other.true)))
