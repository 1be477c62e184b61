use Rattle.std.proofs.Common.{◌+◌, ◌≤◌, false}
use Rattle.relations.specs.Lists.{flat, filter}
use Rattle.relations.specs.PlanWords.{pair_words}
use Rattle.calculus.specs.Leaves.{equates_with}
use Rattle.calculus.specs.ShortRules.{division_pairs}
use Rattle.conditions.specs.Leaves.{atoms_of}
use Rattle.emission.specs.NodeLists.{node_list}
use Rattle.emission.proofs.NodeListLaws.{Grows}
use Rattle.short_rules.proofs.LeafSteps.{rest}
use Rattle.short_rules.proofs.lists.division_pairs.Given as goal

abbrev pub invariant-loop-number : goal.invariant-loop-number
invariant-loop-number l = (l.column ≤ l.first + l.number-index)
    × Grows l.list (flat pair_words (division_pairs l.z (filter (equates_with l.z l.y) (rest l.words false l.leaves l.number-index)) l.column)) (node_list (flat pair_words (division_pairs l.z (filter (equates_with l.z l.y) (atoms_of l.words false l.leaves)) l.first)))
