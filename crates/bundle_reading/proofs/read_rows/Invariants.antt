use Rattle.lines.proofs.Carries.{Carries}
use Rattle.lines.specs.Marks.{row_key}
use Rattle.lines.specs.Reading.{keyed_lines}
use lib.ListN.{drop}
use mathlib.Core.Path.{◌≡◌}
use Prim.Native.Nat.{◌-◌, ◌+◌, ◌*◌}
use Rattle.bundle_reading.proofs.read_rows.Given as goal

-- The loop carries the reading of the rows that are left (`Carries`), `columns` words further for each. Assumes nothing.
abbrev pub invariant-loop-row : goal.invariant-loop-row
invariant-loop-row l = (l.ahead.text.now ≡ l.reader.text.now)
    × Carries (keyed_lines row_key l.columns l.rows l.reader.line (drop l.reader.at l.reader.text.now)) (keyed_lines row_key l.columns (l.rows - l.row) l.ahead.line (drop l.ahead.at l.ahead.text.now)) l.to (l.to + l.columns * l.row) l.initial.tables l.tables
