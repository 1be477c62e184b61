use Rattle.std.proofs.Common.{◌-◌}
use Rattle.calculus.specs.Scope.{columns_from}
use Rattle.emission.specs.NodeLists.{grown_by, numbers_of}
use Rattle.emission.proofs.NodeListLaws.{Grows}
use Rattle.emission.proofs.node_list.NodeList.extend_columns.Given as goal

abbrev pub invariant-loop-column : goal.invariant-loop-column
invariant-loop-column l = Grows l.self (numbers_of (columns_from (l.column-end - l.column) l.column)) (grown_by l.fn.self (numbers_of (columns_from l.count l.first)))
