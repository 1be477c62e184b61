use Rattle.std.proofs.Common.{◌≡◌, ◌+◌, ◌-◌, ◌*◌, drop, get_or, arith}
use Rattle.relations.specs.Limits.{plan_node_words}
use Rattle.emission.proofs.HeavyLaws.{weight_small, heavy_step, heavy_none}
use Rattle.emission.proofs.heavy.count_heavy.Goals as goal

pub loop-i-preserved : goal.loop-i-preserved
loop-i-preserved c =
    let l = c.loop-i in
    let at = l.i * plan_node_words in
    let left : c.args.nodes - (l.i + 1) ≡ c.args.nodes - l.i - 1 = omega arith in
    let next : (l.i + 1) * plan_node_words ≡ at + plan_node_words = omega arith in (
      omega (arith, c.weight-heavy.ensures, weight_small (get_or c.args.plan.now at 0)),
      rw (left, next) (omega (arith, l.invariant.1, heavy_step c.args.plan.now at (c.args.nodes - l.i) c.weight-heavy.result (omega arith) (omega arith) c.weight-heavy.ensures)),
    )

pub returns : goal.returns
returns c = omega (arith, c.loop-i.invariant.1, heavy_none (drop (c.loop-i.i * plan_node_words) c.args.plan.now) (c.args.nodes - c.loop-i.i) (omega arith))
