use Rattle.lines.proofs.ReadingLaws.{keyed_line-length}
use Rattle.lines.proofs.Answered.{passed_on}
use Rattle.lines.proofs.Carries.{carries_lines, carries_off, carries_done}
use Rattle.lines.proofs.ReadingSteps.{lines_step, lines-done}
use Rattle.lines.specs.Answers.{standing}
use Rattle.lines.specs.Marks.{row_key}
use Rattle.lines.specs.Reading.{keyed_lines}
use lib.ListN.{drop}
use mathlib.Core.Path.{◌≡◌, ap, ◌∙◌}
use Prim.Native.Nat.{◌-◌, ◌+◌, ◌*◌}
use native.Mathlib.Omega.{arith}
use Rattle.bundle_reading.proofs.read_rows.Goals as goal

pub returns-in_err-next_line : goal.returns-in_err-next_line
returns-in_err-next_line c = let l = c.loop-row in let r = l.ahead in let columns = c.args.columns in
    rw (passed_on c.from_residual.result c.in_err-next_line.field-0.0 c.from_residual.ensures)
    (carries_off l.invariant.1 (λ after rest. keyed_lines row_key columns (c.args.rows - l.row - 1) after rest)
    (lines_step row_key columns (c.args.rows - l.row) r.line (drop r.at r.text.now) (omega arith)) c.next_line.ensures c.in_err-next_line.was)

pub loop-row-preserved : goal.loop-row-preserved
loop-row-preserved c = let l = c.loop-row in let r = l.ahead in let columns = c.args.columns in let read = c.next_line.ensures in
    let left : c.args.rows - (l.row + 1) ≡ c.args.rows - l.row - 1 = omega arith in
    let place : c.args.to + columns * (l.row + 1) ≡ c.args.to + columns * l.row + columns = omega arith in (
      read.text ∙ l.invariant.0,
      rw (left, place) (carries_lines l.invariant.1 columns (λ after rest. keyed_lines row_key columns (c.args.rows - l.row - 1) after rest)
          (lines_step row_key columns (c.args.rows - l.row) r.line (drop r.at r.text.now) (omega arith)) read c.in_ok-next_line.was
          (keyed_line-length row_key columns r.line (drop r.at r.text.now) _ _ (read.means ∙ ap (standing c.next_line.new.reader) c.in_ok-next_line.was))),
    )

pub returns : goal.returns
returns c = let l = c.loop-row in
    carries_done l.invariant.1 l.ahead (lines-done row_key c.args.columns (c.args.rows - l.row) l.ahead.line (drop l.ahead.at l.ahead.text.now) (omega arith)) l.invariant.0
