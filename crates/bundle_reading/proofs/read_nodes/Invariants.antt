use Rattle.lines.proofs.Carries.{Carries}
use Rattle.bundles.specs.Reading.{nodes_of}
use Rattle.relations.specs.Limits.{question_node_limit, question_node_words}
use lib.ListN.{drop}
use mathlib.Core.Path.{◌≡◌}
use Prim.Native.Nat.{◌-◌, ◌*◌}
use Rattle.bundle_reading.proofs.read_nodes.Given as goal

-- The loop carries the reading of the nodes that are left (`Carries`), and leaves at the text's end, where the reader goes on. Assumes nothing.
abbrev pub invariant-loop-before : goal.invariant-loop-before
invariant-loop-before l = (l.reader ≡ l.initial.reader) × (l.ahead.text.now ≡ l.initial.reader.text.now)
    × Carries (nodes_of question_node_limit l.initial.reader.line (drop l.initial.reader.at l.initial.reader.text.now)) (nodes_of (question_node_limit - l.before) l.ahead.line (drop l.ahead.at l.ahead.text.now)) 0 (question_node_words * l.before) l.initial.question l.question
