use mathlib.Core.Path.{refl}
use Rattle.lines.proofs.Answered.{passed_on}
use Rattle.bundle_reading.proofs.BehindLines.{behind-mode, no_mode}
use Rattle.bundle_reading.proofs.read_all.Goals as goal

pub returns-in_err-next_line : goal.returns-in_err-next_line
returns-in_err-next_line c =
    rw (passed_on c.from_residual.result c.in_err-next_line.field-0.0 c.from_residual.ensures, no_mode c.new-reader.ensures c.next_line.ensures c.in_err-next_line.was)
    (record { means = refl; catalogue = refl; tables = refl; question = refl })

pub returns : goal.returns
returns c = rw (behind-mode c.new-reader.ensures c.next_line.ensures c.in_ok-next_line.was) c.read_behind_mode.ensures
