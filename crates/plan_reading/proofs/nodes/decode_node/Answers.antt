use mathlib.Core.Bool.{true, false}
use mathlib.Core.Path.{sym, ◌∙◌}
use Rattle.plan_reading.proofs.DecodeLaws.{decoded}
use Rattle.plan_reading.proofs.nodes.decode_node.Goals as goal
use Rattle.plan_reading.proofs.nodes.decode_node.Goals.{else-shape_fits-via-then-shape_fits+else-operators_fit, else-shape_fits-via-else-shape_fits}

pub returns-then-operators_fit : goal.returns-then-operators_fit
returns-then-operators_fit c =
    rw c.head.ensures
    (decoded c.in_ok-operation.operation c.args.words.now c.requires (sym c.in_ok-operation.ensures) true true (sym c.shape_fits.ensures ∙ c.if-shape_fits.true) (λ _. sym c.operators_fit.ensures ∙ c.if-operators_fit.true))

pub returns-else-shape_fits : goal.returns-else-shape_fits
returns-else-shape_fits c =
    elim c.else-shape_fits.branch [
      | else-shape_fits-via-then-shape_fits+else-operators_fit w ↦
          decoded c.in_ok-operation.operation c.args.words.now c.requires (sym c.in_ok-operation.ensures) true false (sym c.shape_fits.ensures ∙ w.if-shape_fits.true) (λ _. sym w.operators_fit.ensures ∙ w.if-operators_fit.false)
      | else-shape_fits-via-else-shape_fits w ↦
          decoded c.in_ok-operation.operation c.args.words.now c.requires (sym c.in_ok-operation.ensures) false false (sym c.shape_fits.ensures ∙ w.if-shape_fits.false) (λ e. absurd cc)
    ]
