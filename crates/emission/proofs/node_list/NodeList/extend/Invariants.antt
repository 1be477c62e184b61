use Rattle.std.proofs.Common.{drop}
use Rattle.emission.specs.NodeLists.{grown_by}
use Rattle.emission.proofs.NodeListLaws.{Grows}
use Rattle.emission.proofs.node_list.NodeList.extend.Given as goal

abbrev pub invariant-loop-word : goal.invariant-loop-word
invariant-loop-word l = Grows l.self (drop l.word-index l.words) (grown_by l.fn.self l.words)
