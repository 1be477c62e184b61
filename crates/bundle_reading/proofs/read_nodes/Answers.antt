use Rattle.lines.proofs.Answered.{passed_on}
use Rattle.lines.proofs.Carries.{carries_by, carries_lines, carries_off, carries_done, carries_wrong}
use Rattle.bundle_reading.proofs.ReadingSteps.{text-ended, text_goes_on, nodes-done}
use Rattle.bundle_lines.proofs.OneLine.{node_read}
use Rattle.bundle_reading.proofs.BehindLines.{node_step}
use Rattle.lines.specs.Answers.{standing}
use Rattle.lines.specs.Reading.{Read}
use Rattle.bundles.specs.Reading.{unless_ended, nodes_of}
use Rattle.relations.specs.Limits.{question_node_limit, question_node_words}
use lib.ListN.{length, drop}
use mathlib.Core.Path.{◌≡◌, ap, ◌∙◌}
use Prim.Native.Nat.{◌-◌, ◌+◌, ◌*◌}
use native.Mathlib.Omega.{arith}
use Rattle.bundle_reading.proofs.read_nodes.Goals as goal

pub returns-in_err-next_line : goal.returns-in_err-next_line
returns-in_err-next_line c = let l = c.loop-before in let r = l.ahead in
    rw (passed_on c.from_residual.result c.in_err-next_line.field-0.0 c.from_residual.ensures, l.invariant.0)
    (record {
      lines = carries_off l.invariant.2 (λ after rest. unless_ended after rest (nodes_of (question_node_limit - l.before - 1) after rest)) (node_step l.before r.line (drop r.at r.text.now)) c.next_line.ensures c.in_err-next_line.was;
      counted = tt;
    })

pub returns-then-ahead : goal.returns-then-ahead
returns-then-ahead c = let l = c.loop-before in let r = l.ahead in let s = c.next_line.new.reader in
    let node = node_read l.before r.line (drop r.at r.text.now) (c.next_line.ensures.means ∙ ap (standing s) c.in_ok-next_line.was) in
    let on = carries_lines l.invariant.2 question_node_words (λ after rest. unless_ended after rest (nodes_of (question_node_limit - l.before - 1) after rest)) (node_step l.before r.line (drop r.at r.text.now)) c.next_line.ensures c.in_ok-next_line.was node.1 in
    let ended = text-ended s.text.now s.line s.at (nodes_of (question_node_limit - l.before - 1) s.line (drop s.at s.text.now)) c.if-ahead.true in
    record {
      lines = carries_done on s ended (c.next_line.ensures.text ∙ l.invariant.1);
      counted = omega (arith, on.counts, ap (λ (x : Read). length x.words) ended);
    }

pub loop-before-preserved : goal.loop-before-preserved
loop-before-preserved c = let l = c.loop-before in let r = l.ahead in let s = c.next_line.new.reader in
    let node = node_read l.before r.line (drop r.at r.text.now) (c.next_line.ensures.means ∙ ap (standing s) c.in_ok-next_line.was) in
    let on = carries_lines l.invariant.2 question_node_words (λ after rest. unless_ended after rest (nodes_of (question_node_limit - l.before - 1) after rest)) (node_step l.before r.line (drop r.at r.text.now)) c.next_line.ensures c.in_ok-next_line.was node.1 in
    let left : question_node_limit - (l.before + 1) ≡ question_node_limit - l.before - 1 = omega arith in
    let place : question_node_words * (l.before + 1) ≡ question_node_words * l.before + question_node_words = omega arith in
    (l.invariant.0, c.next_line.ensures.text ∙ l.invariant.1, rw (left, place) (carries_by on (text_goes_on s.text.now s.line s.at (nodes_of (question_node_limit - l.before - 1) s.line (drop s.at s.text.now)) c.if-ahead.false)))

pub returns : goal.returns
returns c = let l = c.loop-before in let r = l.ahead in
    rw l.invariant.0 (record { lines = carries_wrong l.invariant.2 (nodes-done (question_node_limit - l.before) r.line (drop r.at r.text.now) (omega arith)); counted = tt })
