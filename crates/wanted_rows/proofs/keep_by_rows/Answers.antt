use Rattle.std.proofs.Common.{◌+◌, ◌*◌, ◌≤◌, sym, ap, arith}
use Rattle.relations.specs.Lists.{filter}
use Rattle.values.specs.Words.{rows_of}
use Rattle.values.proofs.FillLaws.{filled_none, filled_by, filled_on, filled_off, filled_end, filled_rows}
use Rattle.operations.specs.Lists.{triples_of}
use Rattle.operations.proofs.FillSteps.{builds_by}
use Rattle.operations.proofs.RowSteps.{rows_from, rows_from_start, rows_from_end, filter_next, row_ends}
use Rattle.wanted_rows.specs.Wanted.{wanted_row}
use Rattle.wanted_rows.proofs.WantedLaws.{wanted_now}
use Rattle.wanted_rows.proofs.keep_by_rows.Goals as goal

pub loop-i-init : goal.loop-i-init
loop-i-init c = let s = c.args in let test = wanted_row s.wanted (triples_of s.triples.now) (rows_of s.right s.work.now) in
    filled_by (filled_none s.left.width s.out (filter test (rows_of s.left s.work.now)) s.work.now c.requires.2) (filter test (rows_from s.left 0 s.work.now)) (ap (filter test) (sym (rows_from_start s.left s.work.now)))

pub keep_row-requires : goal.keep_row-requires
keep_row-requires c = let s = c.args in let p = c.requires in let l = c.loop-i in
    (p.0, omega (arith, row_ends s.left l.i s.work.now (omega arith) (omega arith)), p.3, l.invariant.fits, l.invariant.ascending, rw (filled_rows l.invariant s.right.width s.right.rows s.right.base p.3) p.4, p.5)

pub returns-in_err-rows : goal.returns-in_err-rows
returns-in_err-rows c = let s = c.args in let l = c.loop-i in let v = s.left in let test = wanted_row s.wanted (triples_of s.triples.now) (rows_of s.right s.work.now) in
    let ahead : v.base + l.i * v.width + v.width ≤ s.out = omega (arith, row_ends v l.i s.work.now (omega arith) (omega arith)) in
    rw c.from_residual.ensures (filled_off l.invariant (filter test (rows_from v (l.i + 1) s.work.now)) (filter_next v l.i s.work.now (omega arith) (omega arith) test)
    (builds_by (wanted_now l.invariant s.wanted (triples_of s.triples.now) (v.base + l.i * v.width) v.width s.right ahead c.requires.3) c.keep_row.ensures) c.in_err-rows.was)

pub loop-i-preserved : goal.loop-i-preserved
loop-i-preserved c = let s = c.args in let l = c.loop-i in let v = s.left in let test = wanted_row s.wanted (triples_of s.triples.now) (rows_of s.right s.work.now) in
    let ahead : v.base + l.i * v.width + v.width ≤ s.out = omega (arith, row_ends v l.i s.work.now (omega arith) (omega arith)) in
    filled_on l.invariant (filter test (rows_from v (l.i + 1) s.work.now)) (filter_next v l.i s.work.now (omega arith) (omega arith) test)
    (builds_by (wanted_now l.invariant s.wanted (triples_of s.triples.now) (v.base + l.i * v.width) v.width s.right ahead c.requires.3) c.keep_row.ensures) c.in_ok-rows.rows c.in_ok-rows.was

pub returns : goal.returns
returns c = let s = c.args in let l = c.loop-i in let test = wanted_row s.wanted (triples_of s.triples.now) (rows_of s.right s.work.now) in
    filled_end l.invariant (ap (filter test) (rows_from_end s.left l.i s.work.now (omega arith)))
