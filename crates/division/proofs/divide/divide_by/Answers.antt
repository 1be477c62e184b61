use Prim.Native.Nat.{◌+◌, ◌*◌, ◌≤◌}
use mathlib.Core.Path.{sym, ap}
use native.Mathlib.Nat.{zero-mul}
use native.Mathlib.Omega.{arith}
use lib.ListN.{length}
use Rattle.values.specs.Words.{rows_at, rows_of}
use Rattle.values.proofs.FillLaws.{filled_rows, filled_none, filled_by, filled_on, filled_off, filled_end}
use Rattle.operations.proofs.FillSteps.{builds_by, builds_there, builds_made, there_by}
use Rattle.operations.proofs.RowSteps.{rows_from, rows_from_start, rows_from_end, row_ends}
use Rattle.division.specs.Divisions.{pairs_of, quotient}
use Rattle.division.proofs.DivisionLaws.{quotient_next, quotient_now}
use Rattle.division.proofs.divide.divide_by.Goals as goal
use Rattle.division.proofs.divide.divide_by.Goals.{After-divide_row-arg-1}

pub loop-i-init : goal.loop-i-init
loop-i-init c = let s = c.args in let made_of = quotient s.columns.now (pairs_of s.pairs.now) (rows_of s.left s.work.now) (rows_of s.right s.work.now) in (
  omega arith,
  (λ h. absurd (omega (arith, zero-mul s.left.width))),
  filled_by (filled_none (length s.columns.now) s.out (made_of (rows_of s.left s.work.now)) s.work.now c.requires.5) (made_of (rows_from s.left 0 s.work.now)) (ap made_of (sym (rows_from_start s.left s.work.now))),
)

-- the left row at hand stands in front of the value
ahead : (c : After-divide_row-arg-1) → c.args.left.base + c.loop-i.i * c.args.left.width + c.args.left.width ≤ c.args.out
ahead c = omega (arith, row_ends c.args.left c.loop-i.i c.args.work.now c.loop-i-test.true (omega (arith, c.requires.3, c.requires.5)), c.requires.3)

pub divide_row-requires : goal.divide_row-requires
divide_row-requires c = let s = c.args in let l = c.loop-i in let f = l.invariant.2 in let here = ahead (goal.at.divide_row-requires c).After-divide_row-arg-1 in record {
  division_fits = ((c.requires.0, c.requires.1, c.requires.2, c.requires.3, c.requires.4, omega (arith, f.fits), c.requires.6, rw (filled_rows f s.left.width s.left.rows s.left.base c.requires.3) c.requires.7), omega (arith, here), here, f.fits, f.ascending);
  all = λ h. there_by (rows_at (length s.columns.now) l.made s.out l.work) (quotient_now f s.columns.now (pairs_of s.pairs.now) s.left s.right l.last s.left.width c.requires.3 c.requires.4 (omega (arith, here))) (l.invariant.1 h);
}

pub returns-in_err-made : goal.returns-in_err-made
returns-in_err-made c = let s = c.args in let l = c.loop-i in let ps = pairs_of s.pairs.now in let here = ahead (goal.at.returns-in_err-made c).After-divide_row-arg-1 in
    rw c.from_residual.ensures (filled_off l.invariant.2 (quotient s.columns.now ps (rows_of s.left s.work.now) (rows_of s.right s.work.now) (rows_from s.left (l.i + 1) s.work.now))
    (quotient_next s.columns.now ps (rows_of s.left s.work.now) (rows_of s.right s.work.now) s.left l.i s.work.now c.loop-i-test.true (omega (arith, c.requires.3, c.requires.5)))
    (builds_by (quotient_now l.invariant.2 s.columns.now ps s.left s.right (s.left.base + l.i * s.left.width) s.left.width c.requires.3 c.requires.4 here) c.divide_row.ensures) c.in_err-made.was)

pub loop-i-preserved : goal.loop-i-preserved
loop-i-preserved c = let s = c.args in let l = c.loop-i in let ps = pairs_of s.pairs.now in let here = ahead (goal.at.loop-i-preserved c).After-divide_row-arg-1 in
    let g = builds_by (quotient_now l.invariant.2 s.columns.now ps s.left s.right (s.left.base + l.i * s.left.width) s.left.width c.requires.3 c.requires.4 here) c.divide_row.ensures in (
      omega arith,
      (λ h. builds_there l.invariant.2.fits (builds_made c.in_ok-made.was g)),
      filled_on l.invariant.2 (quotient s.columns.now ps (rows_of s.left s.work.now) (rows_of s.right s.work.now) (rows_from s.left (l.i + 1) s.work.now))
          (quotient_next s.columns.now ps (rows_of s.left s.work.now) (rows_of s.right s.work.now) s.left l.i s.work.now c.loop-i-test.true (omega (arith, c.requires.3, c.requires.5)))
          g c.in_ok-made.made c.in_ok-made.was,
    )

pub returns : goal.returns
returns c = let s = c.args in let l = c.loop-i in
    filled_end l.invariant.2 (ap (quotient s.columns.now (pairs_of s.pairs.now) (rows_of s.left s.work.now) (rows_of s.right s.work.now)) (rows_from_end s.left l.i s.work.now (omega arith)))
