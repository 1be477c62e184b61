use Rattle.std.proofs.Common.{◌≡◌, ◌≤◌, length, sym, ◌∙◌, arith, rules}
use Rattle.relations.specs.Limits.{list_words}
use Rattle.emission.specs.declared.node_list.NodeList.{NodeList}
use Rattle.emission.proofs.ProjectLaws.{other_number, same_on, same_stop}
use Rattle.emission.proofs.projects.short_rule_1_fits.Goals as goal

inside : (list : NodeList) → length list.words ≡ list_words → list.used ≤ list_words → list.used ≤ length list.words
inside list l h = omega arith

pub returns-then-attributes-width : goal.returns-then-attributes-width
returns-then-attributes-width c = sym (other_number c.args.width c.args.attributes (inside c.args.attributes (search rules) c.requires) c.if-attributes-width.true)

pub returns-then-attributes-i : goal.returns-then-attributes-i
returns-then-attributes-i c =
    let l = c.loop-i in
    sym (l.invariant ∙ same_stop c.args.width c.args.attributes (inside c.args.attributes (search rules) c.requires) l.i c.if-attributes-width.false (omega arith) c.if-attributes-i.true)

pub loop-i-preserved : goal.loop-i-preserved
loop-i-preserved c =
    let l = c.loop-i in
    l.invariant ∙ same_on c.args.width c.args.attributes (inside c.args.attributes (search rules) c.requires) l.i c.if-attributes-width.false (omega arith) c.if-attributes-i.false
