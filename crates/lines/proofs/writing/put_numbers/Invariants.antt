use lib.ListN.{drop}
use Rattle.lines.specs.Writing.{numbers_text}
use Rattle.lines.proofs.Stores.{StillToPut}
use Rattle.lines.proofs.writing.put_numbers.Given as goal

-- The text of the words from `i` on is still to put, from `end` on. Assumes nothing.
abbrev pub invariant-loop-i : goal.invariant-loop-i
invariant-loop-i l = StillToPut l.at (numbers_text l.words) l.initial.text l.end (numbers_text (drop l.i l.words)) l.text
