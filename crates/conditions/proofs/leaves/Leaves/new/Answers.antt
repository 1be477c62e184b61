use Rattle.std.proofs.Common.{refl}
use Rattle.conditions.specs.Leaves.{no_leaves}
use Rattle.conditions.proofs.leaves.Leaves.new.Goals as goal

pub returns : goal.returns
unfolding no_leaves
returns c = refl
