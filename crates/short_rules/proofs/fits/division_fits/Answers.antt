use Rattle.short_rules.proofs.FitLaws.{some_reads, some_ready, not_divided}
use Rattle.conditions.proofs.LeafLaws.{collectable, found_few, found_leaves}
use Rattle.conditions.specs.Readings.{reading_at}
use Rattle.conditions.proofs.Readings.{condition_is}
use Rattle.calculus.specs.ShortRules.{short_rule5_atoms, short_rule5_fits}
use mathlib.Core.Bool.{◌&&◌}
use mathlib.Core.Path.{sym, ap, ap₂, ◌∙◌}
use Rattle.short_rules.proofs.fits.division_fits.Goals as goal

pub collect-requires : goal.collect-requires
collect-requires c =
    let r = some_ready c.args.words.now c.requires.0 c.decode-node.ensures c.in-Some.ensures c.requires.1 in
    collectable c.args.words.now _ r.0 r.1 c.new-leaves.ensures

pub numbers-requires : goal.numbers-requires
numbers-requires c =
    let r = some_ready c.args.words.now c.requires.0 c.decode-node.ensures c.in-Some.ensures c.requires.1 in
    found_few c.args.words.now _ r.0 r.1 c.new-leaves.ensures c.collect.ensures.0

pub short_rule_5_atoms-requires : goal.short_rule_5_atoms-requires
short_rule_5_atoms-requires c =
    let r = some_ready c.args.words.now c.requires.0 c.decode-node.ensures c.in-Some.ensures c.requires.1 in
    (found_leaves c.args.words.now _ r.0 r.1 c.new-leaves.ensures c.collect.ensures.0 c.numbers.ensures).fit

pub returns-in-Some : goal.returns-in-Some
returns-in-Some c =
    let r = some_ready c.args.words.now c.requires.0 c.decode-node.ensures c.in-Some.ensures c.requires.1 in
    let f = found_leaves c.args.words.now _ r.0 r.1 c.new-leaves.ensures c.collect.ensures.0 c.numbers.ensures in
    ap₂ ◌&&◌ c.collect.ensures.1 (c.short_rule_5_atoms.ensures ∙ ap (short_rule5_atoms c.in-Some.z c.args.y) f.straight) ∙ sym (ap (short_rule5_fits c.args.y) (some_reads c.args.words.now c.requires.0 c.decode-node.ensures c.in-Some.ensures))

pub returns-in-None : goal.returns-in-None
returns-in-None c =
    let words = c.args.words.now in
    let node = c.decode-node.result in
    sym (ap (short_rule5_fits c.args.y) (condition_is words c.args.reference node c.requires.0.0 c.decode-node.ensures) ∙ not_divided c.args.y node.form (reading_at words node.a) (reading_at words node.b) (reading_at words node.c) c.in-None.ensures)
