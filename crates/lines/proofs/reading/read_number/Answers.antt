use Rattle.lines.proofs.ReadingSteps.{number_step, number-done}
use borrow.Author.Tests.{eq-eqb, ne_eqb, ltb-true, ltb-false}
use lib.ListN.{get_or}
use mathlib.Core.Path.{◌≡◌, sym, ◌∙◌}
use native.Mathlib.Omega.{arith}
use Rattle.lines.proofs.reading.read_number.Goals as goal

-- The first byte decides the case of the definition; the digits behind it are `more_digits`' part. Assumes nothing.
pub returns-in_err-byte : goal.returns-in_err-byte
returns-in_err-byte c = rw c.from_residual.ensures (record { means = number-done c.args.text.now c.args.at (ltb-false _ _ (sym c.in_err-byte.ensures.lookup.0)); behind = tt })

pub returns-then-byte-eq48 : goal.returns-then-byte-eq48
returns-then-byte-eq48 c = let first : c.in_ok-byte.field-0.now ≡ get_or c.args.text.now c.args.at 0 = c.in_ok-byte.ensures.lookup.4 (omega arith) 0 in
    record {
      means = number_step c.args.text.now c.args.at (ltb-true _ _ (sym c.in_ok-byte.ensures.lookup.0)) first ∙ rw (eq-eqb _ _ c.if-byte-eq48.true);
      behind = (omega arith, omega (arith, ltb-true c.args.at _ (sym c.in_ok-byte.ensures.lookup.0)));
    }

pub returns-then-is_ascii_digit : goal.returns-then-is_ascii_digit
returns-then-is_ascii_digit c = let first : c.in_ok-byte.field-0.now ≡ get_or c.args.text.now c.args.at 0 = c.in_ok-byte.ensures.lookup.4 (omega arith) 0 in
    record {
      means = number_step c.args.text.now c.args.at (ltb-true _ _ (sym c.in_ok-byte.ensures.lookup.0)) first
          ∙ rw (ne_eqb _ _ c.if-byte-eq48.false, sym c.is_ascii_digit.ensures.value ∙ c.if-is_ascii_digit.true, sym c.from.ensures) c.more_digits.ensures.means;
      behind = c.more_digits.ensures.behind;
    }

pub returns-else-is_ascii_digit : goal.returns-else-is_ascii_digit
returns-else-is_ascii_digit c = let first : c.in_ok-byte.field-0.now ≡ get_or c.args.text.now c.args.at 0 = c.in_ok-byte.ensures.lookup.4 (omega arith) 0 in
    record {
      means = number_step c.args.text.now c.args.at (ltb-true _ _ (sym c.in_ok-byte.ensures.lookup.0)) first
          ∙ rw (ne_eqb _ _ c.if-byte-eq48.false, sym c.is_ascii_digit.ensures.value ∙ c.if-is_ascii_digit.false);
      behind = tt;
    }
