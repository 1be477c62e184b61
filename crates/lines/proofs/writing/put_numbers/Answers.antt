use Prim.Native.Nat.{◌+◌, ◌-◌}
use mathlib.Core.List.{◌∷◌}
use lib.ListN.{length, get_or, drop, drop_of_length-le}
use native.Mathlib.Omega.{arith}
use Rattle.lines.specs.Marks.{separator}
use Rattle.lines.specs.Writing.{decimal, numbers_text}
use Rattle.lines.specs.Put.{furthest}
use Rattle.lines.proofs.Stores.{put_on, put_byte, put_fits, put_end}
use Rattle.lines.proofs.WritingSteps.{numbers_step}
use Rattle.lines.proofs.writing.put_numbers.Goals as goal

pub put_number-behind-requires : goal.put_number-behind-requires
put_number-behind-requires c = let l = c.loop-i in let ws = c.args.words.now in
    put_fits (decimal (get_or ws l.i 0)) (separator (length ws - 1 - l.i) ∷ numbers_text (drop (l.i + 1) ws)) furthest l.invariant (numbers_step ws l.i (omega arith)) c.requires

pub overflow_add-end : goal.overflow_add-end
overflow_add-end c = let l = c.loop-i in let ws = c.args.words.now in
    omega (arith, c.put_number-behind.ensures.end_at, put_fits (decimal (get_or ws l.i 0)) (separator (length ws - 1 - l.i) ∷ numbers_text (drop (l.i + 1) ws)) furthest l.invariant (numbers_step ws l.i (omega arith)) c.requires)

pub loop-i-preserved : goal.loop-i-preserved
loop-i-preserved c = let l = c.loop-i in let ws = c.args.words.now in
    let numbered = put_on (decimal (get_or ws l.i 0)) (separator (length ws - 1 - l.i) ∷ numbers_text (drop (l.i + 1) ws)) l.invariant (numbers_step ws l.i (omega arith)) c.put_number-behind.ensures in
    put_byte c.separator_behind.result (numbers_text (drop (l.i + 1) ws)) numbered (rw c.separator_behind.ensures) c.keep.ensures

pub returns : goal.returns
unfolding numbers_text
returns c = put_end c.loop-i.invariant (rw (drop_of_length-le c.args.words.now {i = c.loop-i.i} (omega arith)))
