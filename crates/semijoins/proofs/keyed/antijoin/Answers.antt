use Rattle.std.proofs.Common.{arith}
use Rattle.operations.proofs.ListLaws.{triples_alone}
use Rattle.semijoins.proofs.keyed.antijoin.Goals as goal

pub returns : goal.returns
returns c = rw (triples_alone c.args.count c.args.list.now (omega arith)) at c.keep_wanted.ensures
