use mathlib.Core.Path.{sym, ap, ◌∙◌}
use native.Mathlib.Omega.{arith}
use Rattle.relations.specs.Lists.{all}
use Rattle.relations.specs.Meanings.{partnered}
use Rattle.values.specs.Words.{rows_of}
use Rattle.operations.proofs.RowSteps.{rows_from_next, rows_from_end}
use Rattle.division.specs.Divisions.{pairs_of}
use Rattle.division.proofs.divide.divides.Goals as goal

pub loop-i-preserved : goal.loop-i-preserved
loop-i-preserved c = let s = c.args in let l = c.loop-i in let test = partnered (pairs_of s.pairs.now) (rows_of s.left s.work.now) s.t.now in
    l.invariant ∙ ap (all test) (rows_from_next s.right l.i s.work.now (omega arith) c.requires.4) ∙ rw (ap test (sym c.row.ensures) ∙ sym c.has_partner.ensures ∙ c.if-not-has_partner.false)

pub returns-then-not-has_partner : goal.returns-then-not-has_partner
returns-then-not-has_partner c = let s = c.args in let l = c.loop-i in let test = partnered (pairs_of s.pairs.now) (rows_of s.left s.work.now) s.t.now in
    sym (l.invariant ∙ ap (all test) (rows_from_next s.right l.i s.work.now (omega arith) c.requires.4) ∙ rw (ap test (sym c.row.ensures) ∙ sym c.has_partner.ensures ∙ c.if-not-has_partner.true))

pub returns : goal.returns
returns c = let s = c.args in let l = c.loop-i in let test = partnered (pairs_of s.pairs.now) (rows_of s.left s.work.now) s.t.now in
    sym (l.invariant ∙ ap (all test) (rows_from_end s.right l.i s.work.now (omega arith)))
