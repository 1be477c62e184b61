use mathlib.Core.Path.{sym, ap}
use Prim.Native.Nat.{◌+◌, ◌*◌, ◌≤◌}
use native.Mathlib.Omega.{arith}
use lib.ListN.{take}
use lib.Seq.{length-take-le}
use Rattle.relations.specs.Operations.{join_candidates}
use Rattle.values.specs.Words.{rows_of}
use Rattle.values.proofs.FillLaws.{filled_rows, filled_none, filled_by, filled_on, filled_off, filled_end}
use Rattle.operations.specs.Lists.{triples_of}
use Rattle.operations.proofs.ListLaws.{triples_alone}
use Rattle.operations.proofs.FillSteps.{builds_by}
use Rattle.operations.proofs.RowSteps.{rows_from, rows_from_start, rows_from_end, row_ends}
use Rattle.joining.proofs.JoinLaws.{join_next, joined_now}
use Rattle.joining.proofs.join.join.Goals as goal

pub loop-i-init : goal.loop-i-init
loop-i-init c = let s = c.args in let ts = triples_of (take (s.count * 3) s.list.now) in
    filled_by (filled_none (s.left.width + s.right.width) s.out (join_candidates ts (rows_of s.left s.work.now) (rows_of s.right s.work.now)) s.work.now c.requires.5) (join_candidates ts (rows_from s.left 0 s.work.now) (rows_of s.right s.work.now))
    (ap (λ rows. join_candidates ts rows (rows_of s.right s.work.now)) (sym (rows_from_start s.left s.work.now)))

pub join_row-requires : goal.join_row-requires
join_row-requires c = let s = c.args in let p = c.requires in let f = c.loop-i.invariant in
    (p.1, p.2, omega (arith, row_ends s.left c.loop-i.i s.work.now c.loop-i-test.true (omega arith)), p.4, f.fits, f.ascending, rw (filled_rows f s.right.width s.right.rows s.right.base p.4) p.6, omega (arith, length-take-le (s.count * 3) s.list.now p.0))

pub returns-in_err-made : goal.returns-in_err-made
returns-in_err-made c = let s = c.args in let l = c.loop-i in let ts = triples_of (take (s.count * 3) s.list.now) in
    let ahead : s.left.base + l.i * s.left.width + s.left.width ≤ s.out = omega (arith, row_ends s.left l.i s.work.now c.loop-i-test.true (omega arith)) in
    rw c.from_residual.ensures (builds_by (ap (λ ts. join_candidates ts (rows_of s.left s.work.now) (rows_of s.right s.work.now)) (triples_alone s.count s.list.now c.requires.0))
    (filled_off l.invariant (join_candidates ts (rows_from s.left (l.i + 1) s.work.now) (rows_of s.right s.work.now)) (join_next ts (rows_of s.right s.work.now) s.left l.i s.work.now c.loop-i-test.true (omega arith))
    (builds_by (joined_now l.invariant (s.left.base + l.i * s.left.width) s.left.width ahead ts s.right c.requires.4) c.join_row.ensures) c.in_err-made.was))

pub loop-i-preserved : goal.loop-i-preserved
loop-i-preserved c = let s = c.args in let l = c.loop-i in let ts = triples_of (take (s.count * 3) s.list.now) in
    let ahead : s.left.base + l.i * s.left.width + s.left.width ≤ s.out = omega (arith, row_ends s.left l.i s.work.now c.loop-i-test.true (omega arith)) in
    filled_on l.invariant (join_candidates ts (rows_from s.left (l.i + 1) s.work.now) (rows_of s.right s.work.now)) (join_next ts (rows_of s.right s.work.now) s.left l.i s.work.now c.loop-i-test.true (omega arith))
    (builds_by (joined_now l.invariant (s.left.base + l.i * s.left.width) s.left.width ahead ts s.right c.requires.4) c.join_row.ensures) c.in_ok-made.made c.in_ok-made.was

pub returns : goal.returns
returns c = let s = c.args in let l = c.loop-i in
    builds_by (ap (λ ts. join_candidates ts (rows_of s.left s.work.now) (rows_of s.right s.work.now)) (triples_alone s.count s.list.now c.requires.0))
    (filled_end l.invariant (ap (λ rows. join_candidates (triples_of (take (s.count * 3) s.list.now)) rows (rows_of s.right s.work.now)) (rows_from_end s.left l.i s.work.now (omega arith))))
