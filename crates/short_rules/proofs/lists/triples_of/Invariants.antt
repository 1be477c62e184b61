use Rattle.relations.specs.Lists.{flat}
use Rattle.relations.specs.PlanWords.{triple_words}
use Rattle.calculus.specs.ShortRules.{triples_of}
use Rattle.conditions.specs.Scopes.{scope_of}
use Rattle.conditions.specs.Leaves.{atoms_of}
use Rattle.emission.specs.NodeLists.{node_list}
use Rattle.emission.proofs.NodeListLaws.{Grows}
use Rattle.short_rules.proofs.LeafSteps.{rest}
use Rattle.short_rules.proofs.lists.triples_of.Given as goal

abbrev pub invariant-loop-number : goal.invariant-loop-number
invariant-loop-number l = Grows l.list (flat triple_words (triples_of (scope_of l.scope) l.x (rest l.words l.opposite l.leaves l.number-index))) (node_list (flat triple_words (triples_of (scope_of l.scope) l.x (atoms_of l.words l.opposite l.leaves))))
