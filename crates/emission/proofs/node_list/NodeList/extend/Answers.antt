use Rattle.std.proofs.Common.{◌∷◌, [], add-one, arith}
use lib.ListN.{drop_of_length-le}
use lib.Seq.{drop-cons}
use Rattle.emission.proofs.NodeListLaws.{grows_on, grown}
use Rattle.emission.proofs.node_list.NodeList.extend.Goals as goal

pub loop-word-preserved : goal.loop-word-preserved
loop-word-preserved c = grows_on c.loop-word.invariant (_ ∷ []) _ (rw add-one (drop-cons c.args.words.now c.loop-word.word-index 0 (omega arith))) c.push.ensures

pub returns : goal.returns
returns c = grown c.loop-word.invariant (drop_of_length-le c.args.words.now (omega arith))
