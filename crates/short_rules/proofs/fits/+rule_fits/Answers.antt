use Rattle.short_rules.proofs.FitLaws.{some_reads, some_below, some_ready, some-opposite, opposite_fits, fits_told, atom-opposite}
use Rattle.conditions.specs.Readings.{reading_at, condition_at}
use Rattle.conditions.proofs.Readings.{condition_is}
use mathlib.Core.Path.{sym, ap, ◌∙◌}
use native.Mathlib.Omega.{arith}
use Rattle.short_rules.proofs.fits.+rule_fits.Goals as goal

pub rule_fits-requires : goal.rule_fits-requires
rule_fits-requires t c =
    (omega (arith, c.decreases, some_below c.args.words.now c.requires.0 c.decode-node.ensures c.in-Some.ensures), some_ready c.args.words.now c.requires.0 c.decode-node.ensures c.in-Some.ensures c.requires.1)

pub returns-in-Some : goal.returns-in-Some
returns-in-Some t c =
    fits_told c.args.x (condition_at c.args.words.now c.args.reference) c.in-S3.is (c.rule_fits.ensures ∙ (sym (some-opposite (some_reads c.args.words.now c.requires.0 c.decode-node.ensures c.in-Some.ensures))))

pub returns-in-None : goal.returns-in-None
returns-in-None t c =
    let words = c.args.words.now in
    let node = c.decode-node.result in
    fits_told c.args.x (condition_at c.args.words.now c.args.reference) c.in-S3.is (c.is_atom.ensures ∙ atom-opposite node.form (reading_at words node.a) (reading_at words node.b) (reading_at words node.c) c.in-None.ensures ∙ sym (ap opposite_fits (condition_is words c.args.reference node c.requires.0.0 c.decode-node.ensures)))
