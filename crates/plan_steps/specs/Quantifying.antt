-- What is wanted of a condition, and the ways in which a quantifier's nodes are made, as the code names them. Assumes nothing.
use Rattle.std.specs.Prelude.{ℕ, ◌+◌, ◌-◌, Bool, true, false, cond, ◌&&◌, List, [], ◌∷◌}
use Rattle.relations.specs.Nodes.{Node, project, subtract, tally}
use Rattle.calculus.specs.Question.{Condition}
use Rattle.calculus.specs.Scope.{all_columns}
use Rattle.calculus.specs.ShortRules.{short_rule2_fits, short_rule4_fits, short_rule5_fits}
use Rattle.calculus.specs.Translation as calculus
use Rattle.short_rules.specs.declared.fits.ShortRule.TheVariants.{S2, S3, S4}
use Rattle.plan_steps.specs.declared.quantifying.Wanted.{Wanted}
use Rattle.plan_steps.specs.declared.quantifying.Wanted.TheVariants.{Itself, Opposite, Division}
use Rattle.nodes.specs.declared.node.Quantifier.{Quantifier}
use Rattle.nodes.specs.declared.node.Quantifier.TheVariants.{Some, Every, AtLeast}
use Rattle.plan_steps.specs.declared.quantifying.Way.{Way}
use Rattle.plan_steps.specs.declared.quantifying.Way.TheVariants.{ByRule, AsDivisor, ByDivision, Plain}

abbrev pub wanted_in : Wanted → calculus.Wanted
wanted_in Itself = calculus.itself
wanted_in Opposite = calculus.its_opposite
wanted_in (Division y k) = calculus.division_by y k

abbrev pub opposite_wanted : Wanted → Bool
opposite_wanted Itself = false
opposite_wanted Opposite = true
opposite_wanted (Division y k) = false

abbrev pub opposite_if : Bool → Wanted
opposite_if test = cond test Opposite Itself

-- S2 first; S3 and S5 where the node above has found that they fit; S4 and then S5 first; no rule looks at "at least"
abbrev pub way_of : Bool → Quantifier → Wanted → ℕ → Condition → Way
way_of short Some Itself x f = cond (short && short_rule2_fits x f) (ByRule S2) Plain
way_of short Some Opposite x f = ByRule S3
way_of short Some (Division y k) x f = AsDivisor y k
way_of short Every wanted x f = cond (short && short_rule4_fits x f) (ByRule S4) (cond (short && short_rule5_fits x f) ByDivision Plain)
way_of short (AtLeast least) wanted x f = Plain

-- "project to P's columns"; "difference from Q, project to P's columns, difference from P"; "operation 13"
abbrev pub kept_nodes : Quantifier → (columns p q n : ℕ) → List Node
kept_nodes Some columns p q n = project (n - 1) (all_columns columns) ∷ []
kept_nodes Every columns p q n = subtract q (n - 1) ∷ project n (all_columns columns) ∷ subtract p (n + 1) ∷ []
kept_nodes (AtLeast least) columns p q n = tally p (n - 1) least ∷ []
