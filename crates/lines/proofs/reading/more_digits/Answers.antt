use Rattle.lines.proofs.ReadingSteps.{digits_step, digits-done}
use Rattle.relations.specs.Limits.{greatest_number}
use borrow.Author.Tests.{le-leb, lt-leb}
use lib.ListN.{get_or, length}
use mathlib.Core.Path.{◌≡◌, sym, ◌∙◌}
use Prim.Native.Nat.{◌-◌, ◌+◌, ◌*◌}
use native.Mathlib.Omega.{arith}
use Rattle.lines.proofs.reading.more_digits.Goals as goal

pub returns-then-not-is_ascii_digit : goal.returns-then-not-is_ascii_digit
returns-then-not-is_ascii_digit c = let l = c.loop-i in
    record {
      means = l.invariant ∙ digits_step l.value c.args.text.now l.i (omega arith) ∙ rw (sym c.is_ascii_digit.ensures.value ∙ c.if-not-is_ascii_digit.true);
      behind = (omega arith, omega arith);
    }

pub returns-in_err-checked_mul : goal.returns-in_err-checked_mul
returns-in_err-checked_mul c = let l = c.loop-i in
    rw c.from_residual.ensures (record {
      means = l.invariant ∙ digits_step l.value c.args.text.now l.i (omega arith)
          ∙ rw (sym c.is_ascii_digit.ensures.value ∙ c.if-not-is_ascii_digit.false, lt-leb (l.value * 10 + (get_or c.args.text.now l.i 0 - 48)) greatest_number (omega (arith, c.in_err-checked_mul.ensures)));
      behind = tt;
    })

pub returns-in_err-value : goal.returns-in_err-value
returns-in_err-value c = let l = c.loop-i in
    rw c.from_residual-in_err-value.ensures (record {
      means = l.invariant ∙ digits_step l.value c.args.text.now l.i (omega arith)
          ∙ rw (sym c.is_ascii_digit.ensures.value ∙ c.if-not-is_ascii_digit.false, lt-leb (l.value * 10 + (get_or c.args.text.now l.i 0 - 48)) greatest_number (omega (arith, c.in_err-value.ensures, c.in_ok-checked_mul.ensures, c.from.ensures)));
      behind = tt;
    })

pub loop-i-preserved : goal.loop-i-preserved
loop-i-preserved c = let l = c.loop-i in
    let next : l.value * 10 + (get_or c.args.text.now l.i 0 - 48) ≡ c.in_ok-value.value = omega (arith, c.in_ok-value.ensures, c.in_ok-checked_mul.ensures, c.from.ensures) in
    l.invariant ∙ digits_step l.value c.args.text.now l.i (omega arith)
    ∙ rw (sym c.is_ascii_digit.ensures.value ∙ c.if-not-is_ascii_digit.false, le-leb (l.value * 10 + (get_or c.args.text.now l.i 0 - 48)) greatest_number (omega (arith, c.in_ok-value.ensures)), next)

pub returns : goal.returns
returns c = let l = c.loop-i in
    let end : l.i ≡ length c.args.text.now = omega arith in
    record { means = l.invariant ∙ digits-done l.value c.args.text.now l.i (omega arith) ∙ rw end; behind = (omega arith, omega arith) }
