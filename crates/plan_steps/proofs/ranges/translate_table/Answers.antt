use Rattle.calculus.specs.Form.{width_of_range}
use Rattle.calculus.specs.Translation.{translate_range}
use native.Mathlib.Omega.{arith}
use Rattle.plan_steps.proofs.ranges.translate_table.Goals as goal

pub returns : goal.returns
unfolding translate_range width_of_range
returns c = record { written = c.load-count.ensures; width = c.columns_of.ensures; more = omega (arith, c.load-count.ensures.counted) }
