use Rattle.question.proofs.Judgements.{ill_refused, once-refused, tree_judged, last_refused}
use Rattle.question.proofs.Counts.{counted, lowest_not_once_lem}
use mathlib.Core.Path.{sym, ◌∙◌}
use Rattle.question.proofs.judgement.judge_nodes.Goals as goal

-- each return is the case of `judge_nodes` that the tests before it decide; no node refers to the last, so the search over 64 nodes ends there
pub returns-in-Some : goal.returns-in-Some
returns-in-Some c = ill_refused c.args.catalogue.now c.args.words.now c.in-Some.ensures

pub returns-then-not_once-last : goal.returns-then-not_once-last
returns-then-not_once-last c = once-refused c.args.catalogue.now c.args.words.now c.in_default.ensures (c.lowest_not_once-not_once.ensures ∙ lowest_not_once_lem c.args.words.now (counted c.args.words.now c.requires)) c.if-not_once-last.true

pub returns-then-not-is_alpha : goal.returns-then-not-is_alpha
returns-then-not-is_alpha c = last_refused c.args.catalogue.now c.args.words.now c.in_default.ensures (c.lowest_not_once-not_once.ensures ∙ lowest_not_once_lem c.args.words.now (counted c.args.words.now c.requires)) c.if-not_once-last.false (sym (rw c.form_at.ensures at c.is_alpha.ensures) ∙ c.if-not-is_alpha.true)

pub returns : goal.returns
returns c = c.judge_tree.ensures ∙ tree_judged c.args.catalogue.now c.args.words.now c.in_default.ensures (c.lowest_not_once-not_once.ensures ∙ lowest_not_once_lem c.args.words.now (counted c.args.words.now c.requires)) c.if-not_once-last.false (sym (rw c.form_at.ensures at c.is_alpha.ensures) ∙ c.if-not-is_alpha.false)
