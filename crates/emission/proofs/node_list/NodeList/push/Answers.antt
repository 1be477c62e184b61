use Rattle.std.proofs.Common.{refl}
use Rattle.emission.specs.NodeLists.{grown_by}
use Rattle.emission.proofs.node_list.NodeList.push.Goals as goal

pub returns : goal.returns
unfolding grown_by
returns c = refl
