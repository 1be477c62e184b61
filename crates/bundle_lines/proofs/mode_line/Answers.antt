use mathlib.Core.Path.{◌≡◌, refl, sym, ◌∙◌}
use mathlib.Core.List.{List}
use mathlib.Core.Bool.{true}
use Prim.Native.Nat.{ℕ, ◌+◌, ◌≤◌}
use native.Mathlib.Omega.{arith}
use lib.ListN.{length, drop, length-drop}
use Rattle.lines.specs.Marks.{plain_line, short_line}
use Rattle.lines.specs.Reading.{begins}
use Rattle.bundle_lines.proofs.OneLine.{line_read, mode_plain, mode-short}
use Rattle.lines.proofs.ReadingSteps.{begins-room}
use Rattle.bundle_lines.proofs.mode_line.Goals as goal
use Rattle.bundle_lines.proofs.mode_line.Goals.{then-begins_with, else-begins_with+then-begins_with-2}

-- a mode's line that begins there ends in the text
inside : (text key : List ℕ) (at : ℕ) → length key ≡ 11 → begins key (drop at text) ≡ true → at ≤ length text → at + 11 ≤ length text
inside text key at long b fits = omega (arith, length-drop at text, begins-room key (drop at text) b)

pub go_on-requires : goal.go_on-requires
go_on-requires c = let s = c.args.reader.now in
    let fits : s.at + 11 ≤ length s.text.now = elim c.if-begins_with.branch [
      | then-begins_with w ↦ inside s.text.now plain_line s.at refl (sym c.begins_with.ensures ∙ w.if-begins_with.true) s.placed.0
      | else-begins_with+then-begins_with-2 w ↦ inside s.text.now short_line s.at refl (sym w.begins_with-else-begins_with.ensures ∙ w.if-begins_with-2.true) s.placed.0
    ] in
    (omega arith, fits)

pub returns : goal.returns
returns c = let s = c.args.reader.now in
    elim c.if-begins_with.branch [
      | then-begins_with w ↦ line_read (mode_plain s.text.now s.at s.line (sym c.begins_with.ensures ∙ w.if-begins_with.true)) c.go_on.ensures (c.keep.ensures ∙ rw w.mode-is)
      | else-begins_with+then-begins_with-2 w ↦
          line_read (mode-short s.text.now s.at s.line (sym c.begins_with.ensures ∙ w.if-begins_with.false) (sym w.begins_with-else-begins_with.ensures ∙ w.if-begins_with-2.true)) c.go_on.ensures (c.keep.ensures ∙ rw w.mode-is)
    ]
