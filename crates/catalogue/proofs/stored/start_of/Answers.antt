use Rattle.std.proofs.Common.{arith}
use Rattle.catalogue.proofs.StoredLaws.{start_none, start_over, over_within}
use Rattle.catalogue.proofs.stored.start_of.Goals as goal

pub loop-passed-init : goal.loop-passed-init
loop-passed-init c = start_none c.args.catalogue.now

pub overflow_add-start : goal.overflow_add-start
overflow_add-start c = omega (arith, c.requires, over_within c.args.catalogue.now c.loop-passed.passed c.loop-passed.invariant c.columns_of.ensures c.rows_of.ensures c.args.relation (omega arith))

pub loop-passed-preserved : goal.loop-passed-preserved
loop-passed-preserved c = start_over c.args.catalogue.now c.loop-passed.passed c.loop-passed.invariant c.columns_of.ensures c.rows_of.ensures
