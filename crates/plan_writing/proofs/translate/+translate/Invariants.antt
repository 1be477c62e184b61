use Prim.Native.Nat.{◌*◌, ◌+◌, max}
use Rattle.plan_writing.proofs.translate.+translate.Given as goal

-- Every call is of a lower node, or of the same one by a function that only tells its kind.
abbrev pub decreases-translate_alpha : goal.decreases-translate_alpha
decreases-translate_alpha l = 2 * max l.binding l.condition + 1

abbrev pub decreases-translate_bindings : goal.decreases-translate_bindings
decreases-translate_bindings l = 2 * l.reference

abbrev pub decreases-translate_condition : goal.decreases-translate_condition
decreases-translate_condition l = 2 * l.reference

abbrev pub decreases-translate_part : goal.decreases-translate_part
decreases-translate_part l = 2 * l.reference + 1

abbrev pub decreases-translate_quantifier : goal.decreases-translate_quantifier
decreases-translate_quantifier l = 2 * max l.range l.condition + 1

abbrev pub decreases-translate_range : goal.decreases-translate_range
decreases-translate_range l = 2 * l.reference

abbrev pub decreases-translate_ranges : goal.decreases-translate_ranges
decreases-translate_ranges l = 2 * max l.left l.right + 1
