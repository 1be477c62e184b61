use mathlib.Core.Path.{sym, ap, ◌∙◌}
use mathlib.Core.List.{◌++◌, map}
use Prim.Native.Nat.{◌+◌, ◌*◌, ◌-◌, ◌≤◌}
use native.Mathlib.Omega.{arith}
use lib.ListN.{length}
use Rattle.relations.specs.Rows.{Row, row_before}
use Rattle.values.specs.Words.{row_in, rows_of}
use Rattle.values.proofs.FillLaws.{filled_start, filled_by, filled_on, filled_off, filled_end}
use Rattle.values.proofs.BoundLaws.{filter-behind-words}
use Rattle.operations.proofs.FillSteps.{builds_by, filled_row}
use Rattle.operations.proofs.RowSteps.{rows_from, rows_from_start, rows_from_end, row_ends}
use Rattle.partners.specs.Sieves.{sifts}
use Rattle.joining.specs.Joins.{joined}
use Rattle.joining.proofs.JoinLaws.{joined_next, pair_now, rest-inside, rest-ascending}
use Rattle.joining.proofs.join.join_from.Goals as goal
use Rattle.joining.proofs.join.join_from.Goals.{After-stands_behind}

pub loop-i-init : goal.loop-i-init
loop-i-init c = let s = c.args in let p = c.requires in let some = joined (sifts s.sieve.now) (row_in s.work.now s.a s.width) in
    filled_by (filled_start (s.width + s.right.width) s.out s.made (some (rows_of s.right s.work.now)) s.work.now p.4 p.5) (some (rows_from s.right 0 s.work.now)) (ap some (sym (rows_from_start s.right s.work.now)))

-- the right row at hand stands in front of the value
ahead : (c : After-stands_behind) → c.args.right.base + c.loop-i.i * c.args.right.width + c.args.right.width ≤ c.args.out
ahead c = omega (arith, row_ends c.args.right c.loop-i.i c.args.work.now c.loop-i-test.true (omega arith), c.requires.3)

pub returns-then-stands_behind : goal.returns-then-stands_behind
returns-then-stands_behind c = let s = c.args in let p = c.requires in let l = c.loop-i in let m = s.right.width in let at = s.right.base + l.i * m in let high = s.high.now in
    let here = ahead (goal.at.returns-then-stands_behind c).After-stands_behind in
    filled_end l.invariant (ap (map (λ (r : Row). row_in s.work.now s.a s.width ++ r)) (filter-behind-words m (s.right.rows - l.i) at s.work.now (omega (arith, rest-inside s.right l.i (omega arith))) p.8 p.7 (omega arith) (rest-ascending s.right l.i s.work.now (omega arith) (omega arith) p.6)
    (ap (row_before high) (sym (filled_row l.invariant at (length high) (omega (arith, here)))) ∙ sym c.stands_behind.ensures ∙ c.if-stands_behind.true)))

pub join_pair-requires : goal.join_pair-requires
join_pair-requires c = let p = c.requires in (p.0, p.1, p.2, ahead (goal.at.join_pair-requires c).After-stands_behind, c.loop-i.invariant.fits, c.loop-i.invariant.ascending)

pub returns-in_err-total : goal.returns-in_err-total
returns-in_err-total c = let s = c.args in let l = c.loop-i in let test = sifts s.sieve.now in let m = s.right.width in
    rw c.from_residual.ensures (filled_off l.invariant (joined test (row_in s.work.now s.a s.width) (rows_from s.right (l.i + 1) s.work.now)) (joined_next test (row_in s.work.now s.a s.width) s.right l.i s.work.now c.loop-i-test.true (omega arith))
    (builds_by (pair_now l.invariant s.a s.width c.requires.2 test (s.right.base + l.i * m) m (ahead (goal.at.returns-in_err-total c).After-stands_behind)) c.join_pair.ensures) c.in_err-total.was)

pub loop-i-preserved : goal.loop-i-preserved
loop-i-preserved c = let s = c.args in let l = c.loop-i in let test = sifts s.sieve.now in let m = s.right.width in
    filled_on l.invariant (joined test (row_in s.work.now s.a s.width) (rows_from s.right (l.i + 1) s.work.now)) (joined_next test (row_in s.work.now s.a s.width) s.right l.i s.work.now c.loop-i-test.true (omega arith))
    (builds_by (pair_now l.invariant s.a s.width c.requires.2 test (s.right.base + l.i * m) m (ahead (goal.at.loop-i-preserved c).After-stands_behind)) c.join_pair.ensures) c.in_ok-total.total c.in_ok-total.was

pub returns : goal.returns
returns c = let s = c.args in let l = c.loop-i in
    filled_end l.invariant (ap (joined (sifts s.sieve.now) (row_in s.work.now s.a s.width)) (rows_from_end s.right l.i s.work.now (omega arith)))
