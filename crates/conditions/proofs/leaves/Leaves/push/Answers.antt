use Rattle.std.proofs.Common.{refl}
use Rattle.conditions.specs.Leaves.{with_leaves}
use Rattle.conditions.proofs.leaves.Leaves.push.Goals as goal

pub returns : goal.returns
unfolding with_leaves
returns c = refl
