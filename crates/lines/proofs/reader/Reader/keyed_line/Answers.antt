use Rattle.lines.proofs.Carries.{carries_start, carries_wrong}
use Rattle.lines.proofs.ReadingSteps.{begins-room, line_begun, line_other}
use Rattle.lines.proofs.Answered.{passed_on}
use Rattle.lines.specs.Answers.{standing}
use lib.ListN.{drop, length-drop}
use mathlib.Core.Path.{refl, sym, ap, ◌∙◌}
use native.Mathlib.Omega.{arith}
use Rattle.lines.proofs.reader.Reader.keyed_line.Goals as goal

pub returns-then-not-begins_with : goal.returns-then-not-begins_with
returns-then-not-begins_with c = let s = c.args.self.now in
    carries_wrong (carries_start _ _ _) (line_other c.args.key.now (drop s.at s.text.now) c.args.count s.line (sym c.begins_with.ensures ∙ c.if-not-begins_with.true))

pub invariant_of-inside : goal.invariant_of-inside
invariant_of-inside c = let s = c.args.self.now in
    let b = begins-room c.args.key.now (drop s.at s.text.now) (sym c.begins_with.ensures ∙ c.if-not-begins_with.false) in
    record { placed = (omega (arith, length-drop s.at s.text.now, b, s.placed.0), omega (arith, s.placed.1)) }

pub returns-in_err-read_numbers : goal.returns-in_err-read_numbers
returns-in_err-read_numbers c = let s = c.args.self.now in let r = c.read_numbers.ensures in
    let e = line_begun c.args.key.now s.text.now c.args.count s.line s.at (sym c.begins_with.ensures ∙ c.if-not-begins_with.false) in
    rw (passed_on c.from_residual.result c.in_err-read_numbers.field-0.0 c.from_residual.ensures)
    (record { means = rw e r.means ∙ ap (standing c.read_numbers.new.self) c.in_err-read_numbers.was; stays = (refl, refl); text = refl; words = rw e r.words })

pub returns : goal.returns
returns c = let s = c.args.self.now in let r = c.read_numbers.ensures in
    let e = line_begun c.args.key.now s.text.now c.args.count s.line s.at (sym c.begins_with.ensures ∙ c.if-not-begins_with.false) in
    record { means = rw e r.means ∙ ap (standing c.read_numbers.new.self) c.in_ok-read_numbers.was; stays = tt; text = r.text; words = rw e r.words }
