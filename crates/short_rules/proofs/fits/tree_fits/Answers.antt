use Rattle.conditions.proofs.LeafLaws.{collectable, found_few, found_leaves}
use Rattle.calculus.specs.ShortRules.{short_rule2_atoms}
use mathlib.Core.Bool.{◌&&◌}
use mathlib.Core.Path.{ap, ap₂, ◌∙◌}
use Rattle.short_rules.proofs.fits.tree_fits.Goals as goal

pub collect-requires : goal.collect-requires
collect-requires c = collectable c.args.words.now c.args.reference c.requires.0 c.requires.1 c.new-leaves.ensures

pub numbers-requires : goal.numbers-requires
numbers-requires c = found_few c.args.words.now c.args.reference c.requires.0 c.requires.1 c.new-leaves.ensures c.collect.ensures.0

pub short_rule_2_atoms-requires : goal.short_rule_2_atoms-requires
short_rule_2_atoms-requires c =
    (found_leaves c.args.words.now c.args.reference c.requires.0 c.requires.1 c.new-leaves.ensures c.collect.ensures.0 c.numbers.ensures).fit

pub returns : goal.returns
returns c =
    let f = found_leaves c.args.words.now c.args.reference c.requires.0 c.requires.1 c.new-leaves.ensures c.collect.ensures.0 c.numbers.ensures in
    ap₂ ◌&&◌ c.collect.ensures.1 (c.short_rule_2_atoms.ensures ∙ ap (short_rule2_atoms c.args.x) f.straight)
