use mathlib.Core.List.{◌++◌}
use mathlib.Core.Path.{refl}
use Rattle.values.specs.Words.{rows_of}
use Rattle.values.proofs.MakeLaws.{offered_start, offered_on, offered_off, offered_end, builds_row}
use Rattle.operations.proofs.FillSteps.{filled_row}
use Rattle.operations.proofs.CopyLaws.{passed, both_over}
use native.Mathlib.Omega.{arith}
use Rattle.operations.proofs.copy.unite.Goals as goal

pub loop-lefts-init : goal.loop-lefts-init
loop-lefts-init c = let s = c.args in let p = c.requires in
    (refl, p.1, p.2, p.3, offered_start s.left.width s.out (rows_of s.left s.work.now ++ rows_of s.right s.work.now) s.work.now p.4)

pub place_row-requires : goal.place_row-requires
place_row-requires c = let l = c.loop-lefts in let i = l.invariant in
    let p = passed c.args.left.width c.args.out l.lefts l.rights c.args.work.now i.0 i.1 i.2 i.3 c.requires.4 l.work (omega arith) c.next_row-start.ensures in
    (c.requires.0, (p.ahead, omega (arith, c.requires.4, l.auto.work)), i.4.filled.fits, i.4.filled.ascending)

pub returns-in_default : goal.returns-in_default
returns-in_default c = let s = c.args in let l = c.loop-lefts in let i = l.invariant in
    let p = passed s.left.width s.out l.lefts l.rights s.work.now i.0 i.1 i.2 i.3 c.requires.4 l.work (omega arith) c.next_row-start.ensures in
    offered_off i.4 (rows_of c.next_row-start.new.left s.work.now ++ rows_of c.next_row-start.new.right s.work.now) p.one
    (builds_row (filled_row i.4.filled c.next_row-start.result s.left.width p.ahead) c.place_row.ensures) c.in_default.is c.clear_from.ensures

pub loop-lefts-preserved : goal.loop-lefts-preserved
loop-lefts-preserved c = let s = c.args in let l = c.loop-lefts in let i = l.invariant in
    let p = passed s.left.width s.out l.lefts l.rights s.work.now i.0 i.1 i.2 i.3 c.requires.4 l.work (omega arith) c.next_row-start.ensures in (
      p.left-wide,
      p.right-wide,
      p.left-ends,
      p.right-ends,
      offered_on i.4 (rows_of c.next_row-start.new.left s.work.now ++ rows_of c.next_row-start.new.right s.work.now) p.one
          (builds_row (filled_row i.4.filled c.next_row-start.result s.left.width p.ahead) c.place_row.ensures) c.in-Some.more c.in-Some.is,
    )

pub returns : goal.returns
returns c = let s = c.args in let l = c.loop-lefts in offered_end l.invariant.4 c.requires.5 (both_over l.lefts l.rights s.work.now (omega arith))
