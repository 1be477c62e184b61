use Rattle.std.proofs.Common.{◌+◌, ◌≤◌, false}
use Rattle.relations.specs.Lists.{flat, filter}
use Rattle.relations.specs.PlanWords.{triple_words}
use Rattle.calculus.specs.Leaves.{equates_outside}
use Rattle.calculus.specs.ShortRules.{outside_triples}
use Rattle.conditions.specs.Scopes.{scope_of}
use Rattle.conditions.specs.Leaves.{atoms_of}
use Rattle.emission.specs.NodeLists.{node_list}
use Rattle.emission.proofs.NodeListLaws.{Grows}
use Rattle.short_rules.proofs.LeafSteps.{rest}
use Rattle.short_rules.proofs.lists.outside_triples.Given as goal

abbrev pub invariant-loop-number : goal.invariant-loop-number
invariant-loop-number l = (l.column ≤ 1 + l.number-index)
    × Grows l.list (flat triple_words (outside_triples (scope_of l.scope) l.z (filter (equates_outside l.z l.y) (rest l.words false l.leaves l.number-index)) l.column)) (node_list (flat triple_words (outside_triples (scope_of l.scope) l.z (filter (equates_outside l.z l.y) (atoms_of l.words false l.leaves)) 1)))
