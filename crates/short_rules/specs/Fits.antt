-- When the short rules fit, by their names. Assumes nothing.
use Rattle.std.specs.Prelude.{ℕ, Bool, true, false, ◌||◌, Option, Some, None}
use Rattle.calculus.specs.Question.{Condition}
use Rattle.calculus.specs.ShortRules.{short_rule2_fits, short_rule3_fits, short_rule4_fits, short_rule5_fits, short_rule6_fits}
use Rattle.nodes.specs.declared.node.Quantifier.TheVariants as quantifier
use Rattle.nodes.specs.declared.node.Binder.TheVariants.{Binding, Quantifies}
use Rattle.nodes.specs.declared.node.Form.{Form}
use Rattle.nodes.specs.declared.node.Form.TheVariants.{Table, Alpha, Target, Binds, Combines, Compares, Connects, IllFormed}
use Rattle.short_rules.specs.declared.fits.ShortRule.{ShortRule}
use Rattle.short_rules.specs.declared.fits.ShortRule.TheVariants.{S2, S3, S4, S5}

-- the rule fits above a condition: S2 and S4 over x, S5 under "every x"; S3 and S6 stand under a "not"
abbrev pub rule_fits : ShortRule → ℕ → Condition → Bool
rule_fits S2 x f = short_rule2_fits x f
rule_fits S3 x f = short_rule3_fits f || short_rule6_fits f
rule_fits S4 x f = short_rule4_fits x f
rule_fits S5 x f = short_rule5_fits x f

-- the variable of a "some"
abbrev pub some_variable : Form → Option ℕ
some_variable (Table relation) = None
some_variable Alpha = None
some_variable (Target variable attribute) = None
some_variable (Binds variable Binding) = None
some_variable (Binds variable (Quantifies quantifier.Some)) = Some variable
some_variable (Binds variable (Quantifies quantifier.Every)) = None
some_variable (Binds variable (Quantifies (quantifier.AtLeast least))) = None
some_variable (Combines combination) = None
some_variable (Compares atom) = None
some_variable (Connects connective) = None
some_variable IllFormed = None

abbrev pub is_atom : Form → Bool
is_atom (Table relation) = false
is_atom Alpha = false
is_atom (Target variable attribute) = false
is_atom (Binds variable binder) = false
is_atom (Combines combination) = false
is_atom (Compares atom) = true
is_atom (Connects connective) = false
is_atom IllFormed = false
