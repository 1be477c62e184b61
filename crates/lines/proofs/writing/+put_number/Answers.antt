use Prim.Native.Nat.{◌+◌, ◌/◌, ◌%◌}
use mathlib.Core.Path.{refl}
use mathlib.Core.List.{[], ◌∷◌}
use native.Mathlib.Omega.{arith}
use Rattle.lines.specs.Marks.{zero_digit}
use Rattle.lines.specs.Writing.{decimal}
use Rattle.lines.proofs.Stores.{put_start, put_on, put_byte, put_end}
use Rattle.lines.proofs.WritingSteps.{decimal_last, length-decimal_last}
use Rattle.lines.proofs.Numbers.{digits_one}
use Rattle.lines.proofs.writing.+put_number.Goals as goal

pub returns-then-n-lt10 : goal.returns-then-n-lt10
returns-then-n-lt10 t c = let n = c.args.n in
    put_end (put_byte (zero_digit + n) [] (put_start c.args.at (decimal n) c.args.text.now) (digits_one 9 n c.if-n-lt10.true) c.keep.ensures) refl

pub put_number-end-requires : goal.put_number-end-requires
put_number-end-requires t c = (omega (arith, c.decreases), omega (arith, c.requires, length-decimal_last c.args.n c.if-n-lt10.false (omega arith)))

pub overflow_add-result-2 : goal.overflow_add-result-2
overflow_add-result-2 t c = omega (arith, c.put_number-end.ensures.end_at, c.requires, length-decimal_last c.args.n c.if-n-lt10.false (omega arith))

pub returns : goal.returns
returns t c = let n = c.args.n in
    let tenth = put_on (decimal (n / 10)) ((zero_digit + n % 10) ∷ []) (put_start c.args.at (decimal n) c.args.text.now) (decimal_last n c.if-n-lt10.false (omega arith)) c.put_number-end.ensures in
    put_end (put_byte (zero_digit + n % 10) [] tenth refl c.keep-2.ensures) refl
