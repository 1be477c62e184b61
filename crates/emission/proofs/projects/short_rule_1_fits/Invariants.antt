use Rattle.std.proofs.Common.{◌≡◌, ◌+◌, ◌-◌, drop}
use Rattle.calculus.specs.Scope.{columns_from}
use Rattle.calculus.specs.ShortRules.{same_attributes, short_rule1_fits}
use Rattle.emission.specs.NodeLists.{attributes_in}
use Rattle.emission.proofs.projects.short_rule_1_fits.Given as goal

abbrev pub invariant-loop-i : goal.invariant-loop-i
invariant-loop-i l = short_rule1_fits l.width (attributes_in l.attributes) ≡ same_attributes (drop l.i (attributes_in l.attributes)) (columns_from (l.width - l.i) (l.i + 1))
