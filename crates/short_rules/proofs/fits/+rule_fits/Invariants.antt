use Rattle.short_rules.proofs.fits.+rule_fits.Given as goal

-- A call is of a condition below a "not".
abbrev pub decreases-rule_fits : goal.decreases-rule_fits
decreases-rule_fits l = l.reference
