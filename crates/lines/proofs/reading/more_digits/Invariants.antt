use Rattle.lines.specs.Reading.{more_digits}
use lib.ListN.{drop}
use mathlib.Core.Path.{◌≡◌}
use Rattle.lines.proofs.reading.more_digits.Given as goal

-- The number read from the start is the number read on from here with the digits so far as its value. Assumes nothing.
abbrev pub invariant-loop-i : goal.invariant-loop-i
invariant-loop-i l = more_digits l.first (drop l.at l.text) ≡ more_digits l.value (drop l.i l.text)
