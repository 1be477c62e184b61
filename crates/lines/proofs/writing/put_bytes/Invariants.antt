use Prim.Native.Nat.{◌+◌}
use lib.ListN.{drop}
use Rattle.lines.proofs.Stores.{StillToPut}
use Rattle.lines.proofs.writing.put_bytes.Given as goal

-- The bytes from `i` on are still to put. Assumes nothing.
abbrev pub invariant-loop-i : goal.invariant-loop-i
invariant-loop-i l = StillToPut l.at l.bytes l.initial.text (l.at + l.i) (drop l.i l.bytes) l.text
