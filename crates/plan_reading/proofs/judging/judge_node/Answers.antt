use mathlib.Core.Path.{sym, ◌∙◌}
use Rattle.plan_reading.proofs.JudgeLaws.{head_of_legal, judged_legal, judged_illegal}
use Rattle.plan_reading.proofs.judging.judge_node.Goals as goal

pub width_of-requires : goal.width_of-requires
width_of-requires c = head_of_legal c.args.catalogue.now c.args.widths.now c.args.words.now c.in_ok-node.node c.requires (sym c.in_ok-node.ensures) (sym c.legal_node.ensures ∙ c.if-legal_node.true)

pub returns-then-legal_node : goal.returns-then-legal_node
returns-then-legal_node c =
    sym (judged_legal c.args.catalogue.now c.args.widths.now c.args.words.now c.in_ok-node.node c.requires (sym c.in_ok-node.ensures) (sym c.legal_node.ensures ∙ c.if-legal_node.true) c.width_of.ensures)

pub returns-else-legal_node : goal.returns-else-legal_node
returns-else-legal_node c = sym (judged_illegal c.args.catalogue.now c.args.widths.now c.args.words.now c.in_ok-node.node c.requires (sym c.in_ok-node.ensures) (sym c.legal_node.ensures ∙ c.if-legal_node.false))
