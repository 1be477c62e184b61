use Prim.Native.Nat.{◌+◌, ◌-◌, ◌*◌}
use mathlib.Core.Path.{◌≡◌, refl}
use mathlib.Core.List.{◌++◌}
use lib.ListN.{take, drop}
use native.Mathlib.Omega.{arith}
use Rattle.lines.specs.Writing.{numbers_text, lines_text}
use Rattle.lines.specs.Put.{furthest}
use Rattle.lines.proofs.Stores.{put_on, put_fits, put_end}
use Rattle.lines.proofs.WritingSteps.{lines_step}
use Rattle.lines.proofs.writing.put_lines.Goals as goal

pub put_bytes-behind-requires : goal.put_bytes-behind-requires
put_bytes-behind-requires c = put_fits c.args.key.now _ furthest c.loop-line.invariant (lines_step c.args.key.now c.args.width c.args.words.now c.args.count c.loop-line.line (omega arith)) c.requires.1

pub put_numbers-end-requires : goal.put_numbers-end-requires
put_numbers-end-requires c = let l = c.loop-line in let key = c.args.key.now in let width = c.args.width in let words = c.args.words.now in
    let here : width * l.line + width - width * l.line ≡ width = omega arith in
    let more = lines_text key width (c.args.count - (l.line + 1)) (drop (width * (l.line + 1)) words) in
    let keyed = put_on key (numbers_text (take width (drop (width * l.line) words)) ++ more) l.invariant (lines_step key width words c.args.count l.line (omega arith)) c.put_bytes-behind.ensures in
    rw here (put_fits (numbers_text (take width (drop (width * l.line) words))) more furthest keyed refl c.requires.1)

pub loop-line-preserved : goal.loop-line-preserved
loop-line-preserved c = let l = c.loop-line in let key = c.args.key.now in let width = c.args.width in let words = c.args.words.now in
    let here : width * l.line + width - width * l.line ≡ width = omega arith in
    let more = lines_text key width (c.args.count - (l.line + 1)) (drop (width * (l.line + 1)) words) in
    let keyed = put_on key (numbers_text (take width (drop (width * l.line) words)) ++ more) l.invariant (lines_step key width words c.args.count l.line (omega arith)) c.put_bytes-behind.ensures in
    put_on (numbers_text (take width (drop (width * l.line) words))) more keyed refl (rw here at c.put_numbers-end.ensures)

pub returns : goal.returns
unfolding lines_text
returns c = let none : c.args.count - c.loop-line.line ≡ 0 = omega arith in
    put_end c.loop-line.invariant (rw none)
