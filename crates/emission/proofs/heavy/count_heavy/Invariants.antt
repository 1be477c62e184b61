use Rattle.std.proofs.Common.{◌≡◌, ◌+◌, ◌-◌, ◌*◌, ◌≤◌, drop}
use Rattle.relations.specs.Limits.{plan_node_words}
use Rattle.emission.specs.HeavyCount.{heavy_in}
use Rattle.emission.proofs.heavy.count_heavy.Given as goal

-- what is counted and what is still to be counted is all
abbrev pub invariant-loop-i : goal.invariant-loop-i
invariant-loop-i l = (l.heavy ≤ l.i) × (l.heavy + heavy_in (l.nodes - l.i) (drop (l.i * plan_node_words) l.plan) ≡ heavy_in l.nodes l.plan)
