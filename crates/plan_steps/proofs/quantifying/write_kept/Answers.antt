use Prim.Native.Nat.{ℕ}
use mathlib.Core.Path.{sym, ap}
use mathlib.Core.List.{[], ◌∷◌}
use Rattle.relations.specs.Nodes.{subtract}
use Rattle.emission.proofs.WrittenLaws.{written_then, written_as}
use Rattle.plan_steps.specs.Quantifying.{kept_nodes}
use Rattle.nodes.specs.declared.node.Quantifier.{Quantifier}
use Rattle.plan_steps.proofs.quantifying.write_kept.Goals as goal

pub returns-in-Every : goal.returns-in-Every
returns-in-Every c =
    let fails = c.pair-failing.ensures in
    written_as
    (ap (λ (q : Quantifier). kept_nodes q c.args.columns c.args.p c.args.q c.args.n) c.in-Every.is)
    (written_then (written_then fails c.project_first-failed.ensures) (written_as (ap (λ (m : ℕ). subtract c.args.p m ∷ []) (sym fails.counted)) c.pair.ensures))
