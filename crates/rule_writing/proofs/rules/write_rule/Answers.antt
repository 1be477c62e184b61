use Rattle.rule_writing.proofs.RuleLaws.{join_ready, opposite_ready, division_ready}
use Rattle.rule_writing.specs.Rules.{rule_atoms, rule_nodes}
use Rattle.short_rules.specs.declared.fits.ShortRule.{ShortRule}
use Rattle.conditions.proofs.LeafLaws.{collectable, found_few, found_leaves}
use Rattle.conditions.specs.Readings.{condition_at}
use Rattle.conditions.specs.Scopes.{scope_of}
use Rattle.emission.proofs.WrittenLaws.{written_as}
use Rattle.calculus.specs.Question.{Atom}
use Rattle.calculus.specs.Leaves.{leaves}
use Rattle.calculus.specs.ShortRules.{short_rule2_nodes, short_rule3_nodes, short_rule5_nodes}
use mathlib.Core.List.{List, []}
use mathlib.Core.Path.{sym, ap, ◌∙◌}
use Rattle.rule_writing.proofs.rules.write_rule.Goals as goal

pub collect-requires : goal.collect-requires
collect-requires c =
    collectable c.args.words.now c.args.condition c.requires.named c.requires.small c.new-found.ensures

pub numbers-leaves-requires : goal.numbers-leaves-requires
numbers-leaves-requires c = found_few c.args.words.now c.args.condition c.requires.named c.requires.small c.new-found.ensures c.collect.ensures.0

pub write_join-requires : goal.write_join-requires
write_join-requires c = join_ready c.requires (found_leaves c.args.words.now c.args.condition c.requires.named c.requires.small c.new-found.ensures c.collect.ensures.0 c.numbers-leaves.ensures) ((sym (ap (λ (rule : ShortRule). rule_atoms rule c.args.x c.args.y (leaves (condition_at c.args.words.now c.args.condition))) c.in-S2.is) ∙ c.requires.atoms))

pub write_join-requires-in-S3 : goal.write_join-requires-in-S3
write_join-requires-in-S3 c = join_ready c.requires (found_leaves c.args.words.now c.args.condition c.requires.named c.requires.small c.new-found.ensures c.collect.ensures.0 c.numbers-leaves.ensures) ((sym (ap (λ (rule : ShortRule). rule_atoms rule c.args.x c.args.y (leaves (condition_at c.args.words.now c.args.condition))) c.in-S3.is) ∙ c.requires.atoms))

pub write_join-requires-in-S4 : goal.write_join-requires-in-S4
write_join-requires-in-S4 c = opposite_ready c.requires (found_leaves c.args.words.now c.args.condition c.requires.named c.requires.small c.new-found.ensures c.collect.ensures.0 c.numbers-leaves.ensures) ((sym (ap (λ (rule : ShortRule). rule_atoms rule c.args.x c.args.y (leaves (condition_at c.args.words.now c.args.condition))) c.in-S4.is) ∙ c.requires.atoms))

pub write_division-requires : goal.write_division-requires
write_division-requires c = division_ready c.requires (found_leaves c.args.words.now c.args.condition c.requires.named c.requires.small c.new-found.ensures c.collect.ensures.0 c.numbers-leaves.ensures) ((sym (ap (λ (rule : ShortRule). rule_atoms rule c.args.x c.args.y (leaves (condition_at c.args.words.now c.args.condition))) c.in-S5.is) ∙ c.requires.atoms))

pub returns-in-S2 : goal.returns-in-S2
returns-in-S2 c =
    written_as ((ap (λ (rule : ShortRule). rule_nodes rule (scope_of c.args.scope.now) c.args.y c.args.k c.args.x c.args.width (leaves (condition_at c.args.words.now c.args.condition)) c.args.p c.args.n) c.in-S2.is) ∙ ap (λ (atoms : List Atom). short_rule2_nodes (scope_of c.args.scope.now) c.args.x c.args.width atoms [] c.args.p c.args.n) (sym (found_leaves c.args.words.now c.args.condition c.requires.named c.requires.small c.new-found.ensures c.collect.ensures.0 c.numbers-leaves.ensures).straight)) c.write_join.ensures

pub returns-in-S3 : goal.returns-in-S3
returns-in-S3 c =
    written_as ((ap (λ (rule : ShortRule). rule_nodes rule (scope_of c.args.scope.now) c.args.y c.args.k c.args.x c.args.width (leaves (condition_at c.args.words.now c.args.condition)) c.args.p c.args.n) c.in-S3.is) ∙ ap (λ (atoms : List Atom). short_rule3_nodes (scope_of c.args.scope.now) c.args.x c.args.width atoms [] c.args.p c.args.n) (sym (found_leaves c.args.words.now c.args.condition c.requires.named c.requires.small c.new-found.ensures c.collect.ensures.0 c.numbers-leaves.ensures).straight)) c.write_join-in-S3.ensures

pub returns-in-S4 : goal.returns-in-S4
returns-in-S4 c =
    written_as ((ap (λ (rule : ShortRule). rule_nodes rule (scope_of c.args.scope.now) c.args.y c.args.k c.args.x c.args.width (leaves (condition_at c.args.words.now c.args.condition)) c.args.p c.args.n) c.in-S4.is) ∙ ap (λ (atoms : List Atom). short_rule3_nodes (scope_of c.args.scope.now) c.args.x c.args.width atoms [] c.args.p c.args.n) (sym (found_leaves c.args.words.now c.args.condition c.requires.named c.requires.small c.new-found.ensures c.collect.ensures.0 c.numbers-leaves.ensures).turned)) c.write_join-in-S4.ensures

pub returns-in-S5 : goal.returns-in-S5
returns-in-S5 c =
    written_as ((ap (λ (rule : ShortRule). rule_nodes rule (scope_of c.args.scope.now) c.args.y c.args.k c.args.x c.args.width (leaves (condition_at c.args.words.now c.args.condition)) c.args.p c.args.n) c.in-S5.is) ∙ ap (λ (atoms : List Atom). short_rule5_nodes (scope_of c.args.scope.now) c.args.y c.args.k c.args.x c.args.width atoms [] c.args.p c.args.n) (sym (found_leaves c.args.words.now c.args.condition c.requires.named c.requires.small c.new-found.ensures c.collect.ensures.0 c.numbers-leaves.ensures).straight)) c.write_division.ensures
