use Prim.Native.Nat.{◌-◌, ◌*◌}
use lib.ListN.{drop}
use Rattle.lines.specs.Writing.{lines_text}
use Rattle.lines.proofs.Stores.{StillToPut}
use Rattle.lines.proofs.writing.put_lines.Given as goal

-- The lines from `line` on are still to put, from `end` on. Assumes nothing.
abbrev pub invariant-loop-line : goal.invariant-loop-line
invariant-loop-line l = StillToPut l.at (lines_text l.key l.width l.count l.words) l.initial.text l.end (lines_text l.key l.width (l.count - l.line) (drop (l.width * l.line) l.words)) l.text
