use Rattle.division.proofs.DivisionLaws.{quotient_same, quotient_yes, quotient_no}
use Rattle.operations.proofs.FillSteps.{builds_by, builds_again}
use Rattle.division.specs.Divisions.{pairs_of, kept, divides, quotient}
use Rattle.values.proofs.FillLaws.{filled_still}
use Rattle.values.proofs.RowsLaws.{length_row}
use Rattle.values.specs.Words.{row_in, rows_of}
use Rattle.relations.proofs.RowLaws.{same_row-equal}
use Rattle.relations.proofs.BoolLaws.{and_left, and_right}
use Rattle.relations.specs.Rows.{same_row}
use borrow.Author.Tests.{ltb-true}
use lib.Dec.{ltb}
use lib.ListN.{length}
use Prim.Native.Nat.{◌<◌}
use mathlib.Core.List.{[], ◌∷◌}
use mathlib.Core.Bool.{◌&&◌, So}
use mathlib.Core.Path.{sym, ap, ◌∙◌}
use native.Mathlib.Omega.{arith}
use Rattle.division.proofs.divide.divide_row.Goals as goal

pub returns-then-repeats : goal.returns-then-repeats
returns-then-repeats c = let s = c.args in let l = s.work.now in let w = s.left.width in let ps = pairs_of s.pairs.now in
    let before = kept s.columns.now (row_in l s.last w) in let here = kept s.columns.now (row_in l s.at w) in
    let t : So (ltb s.last s.at && same_row before here) = sym c.repeats.ensures ∙ c.if-repeats.true in
    let earlier : s.last < s.at = ltb-true s.last s.at (and_left (ltb s.last s.at) (same_row before here) t) in
    builds_by (quotient_same s.columns.now ps w (rows_of s.left l) (rows_of s.right l) (row_in l s.last w) (row_in l s.at w) c.requires.division_fits.0.6 (length_row l s.last w (omega arith)) (length_row l s.at w (omega arith)) (same_row-equal before here (and_right (ltb s.last s.at) (same_row before here) t)))
    (builds_again (length s.columns.now) s.out s.made (quotient s.columns.now ps (rows_of s.left l) (rows_of s.right l) (row_in l s.last w ∷ [])) l c.requires.division_fits.3 c.requires.division_fits.4 (c.requires.all earlier))

pub divides-requires : goal.divides-requires
divides-requires c = let f = c.requires.division_fits.0 in let s = c.args in
    (f.2, ap length c.row-t.ensures ∙ length_row s.work.now s.at s.left.width (omega arith), omega arith, f.7, omega arith)

pub place_picked-requires : goal.place_picked-requires
place_picked-requires c = let f = c.requires.division_fits.0 in (f.0, f.1, c.requires.division_fits.3, c.requires.division_fits.4)

pub returns-then-divides : goal.returns-then-divides
returns-then-divides c = let s = c.args in let l = s.work.now in let w = s.left.width in let ps = pairs_of s.pairs.now in
    builds_by (sym (quotient_yes s.columns.now ps (rows_of s.left l) (rows_of s.right l) (row_in l s.at w) (ap (divides ps (rows_of s.left l) (rows_of s.right l)) (sym c.row-t.ensures) ∙ sym c.divides.ensures ∙ c.if-divides.true)))
    c.place_picked.ensures

pub returns-else-divides : goal.returns-else-divides
returns-else-divides c = let s = c.args in let l = s.work.now in let w = s.left.width in let ps = pairs_of s.pairs.now in
    builds_by (sym (quotient_no s.columns.now ps (rows_of s.left l) (rows_of s.right l) (row_in l s.at w) (ap (divides ps (rows_of s.left l) (rows_of s.right l)) (sym c.row-t.ensures) ∙ sym c.divides.ensures ∙ c.if-divides.false)))
    (filled_still (length s.columns.now) s.out s.made l c.requires.division_fits.3 c.requires.division_fits.4)
