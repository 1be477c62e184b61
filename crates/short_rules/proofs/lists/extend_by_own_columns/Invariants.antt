use Rattle.std.proofs.Common.{false, map}
use Rattle.relations.specs.Lists.{filter}
use Rattle.calculus.specs.Leaves.{own_attribute}
use Rattle.conditions.specs.Leaves.{atoms_of}
use Rattle.emission.specs.NodeLists.{grown_by, numbers_of}
use Rattle.emission.proofs.NodeListLaws.{Grows}
use Rattle.short_rules.specs.Lists.{links}
use Rattle.short_rules.proofs.LeafSteps.{rest}
use Rattle.short_rules.proofs.lists.extend_by_own_columns.Given as goal

abbrev pub invariant-loop-number : goal.invariant-loop-number
invariant-loop-number l = Grows l.list (numbers_of (map (own_attribute l.z) (filter (links l.outside l.z l.y) (rest l.words false l.leaves l.number-index)))) (grown_by l.fn.list (numbers_of (map (own_attribute l.z) (filter (links l.outside l.z l.y) (atoms_of l.words false l.leaves)))))
