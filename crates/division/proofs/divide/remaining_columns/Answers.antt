use mathlib.Core.Path.{◌≡◌, sym, ap, ◌∙◌}
use Prim.Native.Nat.{◌+◌, ◌/◌}
use native.Mathlib.Omega.{arith}
use lib.ListN.{length, length-set}
use Rattle.relations.specs.Columns.{listed, left_numbers}
use Rattle.plan_reading.proofs.ListedLaws.{pairs_lefts}
use Rattle.division.specs.Divisions.{pairs_of}
use Rattle.division.proofs.DivisionLaws.{column_in, column_out}
use Rattle.division.proofs.divide.remaining_columns.Goals as goal
use Rattle.division.proofs.divide.remaining_columns.Goals.{then-not-is_listed, else-not-is_listed}

pub loop-column-preserved : goal.loop-column-preserved
loop-column-preserved c =
    let s = c.args in
    let l = c.loop-column in
    let ns = left_numbers (pairs_of s.pairs.now) in
    let told : listed (l.column + 1) ns ≡ c.is_listed.result = ap (listed (l.column + 1)) (pairs_lefts (length s.pairs.now / 2) s.pairs.now) ∙ sym c.is_listed.ensures in
    elim c.if-not-is_listed.branch [
      | then-not-is_listed w ↦ (
        omega (arith, w.kept-is),
        simp (w.columns-is, length-set) l.invariant.1,
        rw (w.columns-is, w.kept-is) (l.invariant.2 ∙ column_in ns l.columns l.column s.width l.kept c.loop-column-test.true (told ∙ w.if-not-is_listed.true) (omega arith)),
      )
      | else-not-is_listed w ↦ (
        omega (arith, w.kept-is),
        rw w.columns-is l.invariant.1,
        rw (w.columns-is, w.kept-is) (l.invariant.2 ∙ column_out ns l.columns l.column s.width l.kept c.loop-column-test.true (told ∙ w.if-not-is_listed.false)),
      )
    ]
