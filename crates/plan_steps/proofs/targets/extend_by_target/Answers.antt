use Rattle.plan_steps.proofs.TargetLaws.{whole_target, one_target}
use Rattle.calculus.proofs.LegalColumns.{widths_in_columns}
use Rattle.conditions.specs.Scopes.{scope_of}
use Rattle.calculus.proofs.LegalColumns.{column_at_most}
use Rattle.calculus.proofs.ScopeLaws.{columns_length}
use Rattle.calculus.specs.Form.{GoodTarget}
use Rattle.calculus.specs.Scope.{width_in, column_number, target_columns}
use Rattle.calculus.specs.Question as calculus
use lib.ListN.{length}
use mathlib.Core.Path.{ap, subst}
use Prim.Native.Nat.{◌≤◌}
use native.Mathlib.Omega.{arith}
use Rattle.plan_steps.proofs.targets.extend_by_target.Goals as goal

pub extend_columns-requires : goal.extend_columns-requires
extend_columns-requires c =
    let sc = scope_of c.args.scope.now in
    let e = whole_target c.args.variable c.if-attribute-eq0.true in
    let g : 1 ≤ width_in sc c.args.variable = subst (GoodTarget sc) e c.requires.1 in (
      omega (arith, c.requires.2, c.width_in.ensures, ap (λ (t : calculus.Target). length (target_columns sc t)) e, columns_length (width_in sc c.args.variable) (column_number sc c.args.variable 1)),
      omega (arith, c.column_number.ensures, column_at_most sc c.args.variable 1 (omega arith, g), c.requires.0.counted, c.requires.0.narrow),
    )

pub column_number-requires-else-attribute-eq0 : goal.column_number-requires-else-attribute-eq0
column_number-requires-else-attribute-eq0 c =
    let sc = scope_of c.args.scope.now in
    let g = subst (GoodTarget sc) (one_target c.args.variable c.args.attribute c.if-attribute-eq0.false) c.requires.1 in
    (c.requires.0, omega (arith, g.1, widths_in_columns sc c.args.variable, c.requires.0.counted, c.requires.0.narrow))
