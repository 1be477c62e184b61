use Rattle.lines.proofs.Carries.{Carries}
use Rattle.lines.specs.Reading.{numbers}
use lib.ListN.{length, drop}
use Prim.Native.Nat.{◌≤◌, ◌+◌, ◌-◌}
use Rattle.lines.proofs.reader.Reader.read_numbers.Given as goal

-- The loop carries the reading of the numbers that are left (`Carries`): each number read is kept. Assumes nothing.
abbrev pub invariant-loop-i : goal.invariant-loop-i
invariant-loop-i l = (l.self.at + l.i ≤ l.at) × (l.at ≤ length l.self.text.now)
    × Carries (numbers l.count l.self.line (drop l.self.at l.self.text.now)) (numbers (l.count - l.i) l.self.line (drop l.at l.self.text.now)) l.to (l.to + l.i) l.initial.words l.words
