use Rattle.lines.proofs.Carries.{carries_number, carries_wrong, carries_done}
use Rattle.lines.proofs.ReadingSteps.{numbers_step, numbers-done}
use Rattle.lines.proofs.Answered.{number_found, number-missing, missing_as, stands_behind}
use Rattle.lines.specs.Reading.{value, no_number, number_then, nothing, numbers}
use Rattle.lines.specs.Marks.{separator}
use lib.ListN.{drop}
use mathlib.Core.Path.{◌≡◌, sym, ap, ◌∙◌}
use Prim.Native.Nat.{◌-◌, ◌+◌}
use native.Mathlib.Omega.{arith}
use Rattle.lines.proofs.reader.Reader.read_numbers.Goals as goal

pub returns-in_err-value : goal.returns-in_err-value
returns-in_err-value c = let l = c.loop-i in let s = c.args.self.now in
    let left : c.args.count - l.i - 1 ≡ c.args.count - 1 - l.i = omega arith in
    let m : number_then (separator (c.args.count - l.i - 1)) (drop l.at s.text.now) ≡ no_number = rw (left, ← c.separator_behind.ensures) (number-missing c.number_then.ensures c.in_err-value.ensures.ok_part) in
    rw (missing_as c.from_residual.result c.in_err-value.field-0.0 _ c.from_residual.ensures c.in_err-value.ensures.value c.in_err-value.ensures.ok_part)
    (carries_wrong l.invariant.2 (numbers_step (c.args.count - l.i) s.line (drop l.at s.text.now) (omega arith) ∙ rw m))

pub loop-i-preserved : goal.loop-i-preserved
loop-i-preserved c = let l = c.loop-i in let s = c.args.self.now in
    let f = number_found c.number_then.ensures c.in_ok-value.ensures.ok_part in
    let left : c.args.count - l.i - 1 ≡ c.args.count - 1 - l.i = omega arith in
    let next : c.args.count - (l.i + 1) ≡ c.args.count - l.i - 1 = omega arith in
    let place : c.args.to + (l.i + 1) ≡ c.args.to + l.i + 1 = omega arith in
    let m : number_then (separator (c.args.count - l.i - 1)) (drop l.at s.text.now) ≡ value c.in_ok-value.value (drop c.in_ok-value.next s.text.now) = rw (left, ← c.separator_behind.ensures) f.0 in (
      omega (arith, f.1),
      f.2,
      rw (next, place) (carries_number l.invariant.2 s.line (λ n rest. numbers (c.args.count - l.i - 1) s.line rest) (numbers_step (c.args.count - l.i) s.line (drop l.at s.text.now) (omega arith)) m c.keep.ensures),
    )

pub returns : goal.returns
returns c = let l = c.loop-i in let s = c.args.self.now in
    carries_done l.invariant.2 _ (numbers-done (c.args.count - l.i) s.line (drop l.at s.text.now) (omega arith) ∙ ap nothing (sym (stands_behind c.go_on.ensures))) c.go_on.ensures.text
