use Rattle.std.proofs.Common.{◌≡◌, List, ℕ, true, false, sym, ap, ◌∙◌, ◌+◌, ◌*◌, ◌-◌, ◌<◌, ◌≤◌, length, arith, eqb}
use Rattle.relations.specs.Lists.{any}
use Rattle.relations.specs.Rows.{row_before}
use Rattle.relations.proofs.BoolLaws.{and_right}
use Rattle.values.specs.Words.{part, row_in, end}
use Rattle.values.specs.declared.rows.Value.{Value}
use Rattle.values.proofs.BoundLaws.{ascending_from, any-behind-words}
use Rattle.values.proofs.RowsLaws.{row_inside, times_inside}
use Rattle.operations.proofs.RowSteps.{rows_from_next, rows_from_end}
use Rattle.partners.specs.Sieves.{sifts}
use Rattle.partners.proofs.RestLaws.{times_rest}
use Rattle.wanted_rows.proofs.some_through.Goals as goal

-- a row's words, as the code lends them
row_as_words : (v : Value) (i : ℕ) (work : List ℕ) → i < v.rows → end v ≤ length work → row_in work (v.base + i * v.width) v.width ≡ part (v.base + i * v.width) (v.base + i * v.width + v.width - (v.base + i * v.width)) work
row_as_words v i work h k =
    let at : ℕ = v.base + i * v.width in
    let many : v.width ≡ at + v.width - at = omega arith in
    row_inside work at v.width (omega (arith, times_inside i v.rows v.width h)) ∙ ap (λ (n : ℕ). part at n work) many

pub returns-then-is_past : goal.returns-then-is_past
returns-then-is_past c = let s = c.args in let p = c.requires in let l = c.loop-i in let v = s.right in
    sym (l.invariant ∙ any-behind-words v.width (v.rows - l.i) (v.base + l.i * v.width) s.work.now (omega (arith, times_rest l.i v.rows v.width (omega arith))) p.4 p.3 (omega arith) (ascending_from v.width v.rows v.base s.work.now p.0 l.i (omega arith) p.1)
    (and_right (eqb l.wait 0) (row_before s.high.now (row_in s.work.now (v.base + l.i * v.width) (length s.high.now))) (sym c.is_past.ensures ∙ c.if-is_past.true)))

pub returns-then-lets_through : goal.returns-then-lets_through
returns-then-lets_through c = let s = c.args in let l = c.loop-i in let v = s.right in
    let t : sifts s.sieve.now (row_in s.work.now (v.base + l.i * v.width) v.width) ≡ true = ap (sifts s.sieve.now) (row_as_words v l.i s.work.now (omega arith) c.requires.0) ∙ sym c.lets_through.ensures ∙ c.if-lets_through.true in
    sym (l.invariant ∙ ap (any (sifts s.sieve.now)) (rows_from_next v l.i s.work.now (omega arith) c.requires.0) ∙ rw t)

pub loop-i-preserved : goal.loop-i-preserved
loop-i-preserved c = let s = c.args in let l = c.loop-i in let v = s.right in
    let t : sifts s.sieve.now (row_in s.work.now (v.base + l.i * v.width) v.width) ≡ false = ap (sifts s.sieve.now) (row_as_words v l.i s.work.now (omega arith) c.requires.0) ∙ sym c.lets_through.ensures ∙ c.if-lets_through.false in
    l.invariant ∙ ap (any (sifts s.sieve.now)) (rows_from_next v l.i s.work.now (omega arith) c.requires.0) ∙ rw t

pub returns : goal.returns
returns c = let s = c.args in let l = c.loop-i in sym (l.invariant ∙ ap (any (sifts s.sieve.now)) (rows_from_end s.right l.i s.work.now (omega arith)))
