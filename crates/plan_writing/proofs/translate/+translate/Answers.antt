use Rattle.short_rules.proofs.FitLaws.{divided_some}
use Prim.Native.Nat.{◌-◌}
use mathlib.Core.Path.{refl, sym, ap, ◌∙◌}
use Rattle.catalogue.specs.Stored.{columns_of}
use Rattle.question.specs.Trees.{atom_of}
use Rattle.nodes.specs.declared.node.Form.TheVariants.{Binds, Connects}
use Rattle.conditions.specs.Readings.{reading_at, condition_at, range_at}
use Rattle.conditions.specs.Scopes.{scope_of}
use Rattle.conditions.proofs.Readings.{made_is, named, range_is, bindings_none, restriction_is, restriction_none}
use Rattle.conditions.proofs.OtherNodes.{no_range, no_restriction}
use Rattle.short_rules.specs.declared.fits.ShortRule.TheVariants.{S5}
use Rattle.plan_steps.specs.Quantifying.{wanted_in}
use Rattle.plan_writing.proofs.RangeSteps.{call_left, call_right, room_last, sides_done, call_sides, room_one, done_as, call_alpha}
use Rattle.plan_writing.proofs.BindingSteps.{chain, binding_made, none_bound, call_bound, room_product, scope_grows, call_next, bindings-done, no_more-done}
use Rattle.plan_writing.proofs.AlphaSteps.{alpha_asked, call_first, scope_starts, call_rest, some-joined, call_condition, call_targets, alpha-done, no_alpha}
use Rattle.plan_writing.proofs.ConditionSteps.{ready_as, written-restriction, written_none, and_written, or_written, atom-written, atom_step, and_step, or_step, not_step, quantifier_step, left_ready, left-written, right_ready, right-written, room-behind_both, inner_few, inner_ready, opposite-done, room-behind_inner, not_done}
use Rattle.plan_writing.proofs.QuantifierSteps.{range_ready, few-nodes, inner_grows, room_inner, rule_ready, rule_way, divisor_way, division_way, plain_way, rule-done, division_done, plain_done, call_below, written_below, inside_ready, inside-written, some_met, room-kept}
use native.Mathlib.Omega.{arith}
use Rattle.plan_writing.proofs.translate.+translate.Goals as goal

pub translate_alpha-translate_range-first-requires : goal.translate_alpha-translate_range-first-requires
translate_alpha-translate_range-first-requires t c = call_first (alpha_asked c.args.question.now.words.now c.args.target c.args.condition (binding_made c.args.question.now.words.now c.args.binding c.decode-node.ensures c.in-Some.ensures) (c.decreases, c.requires))

pub translate_alpha-extend-requires : goal.translate_alpha-extend-requires
translate_alpha-extend-requires t c = scope_starts (alpha_asked c.args.question.now.words.now c.args.target c.args.condition (binding_made c.args.question.now.words.now c.args.binding c.decode-node.ensures c.in-Some.ensures) (c.decreases, c.requires)) c.translate_range-first.ensures c.new-scope.ensures

pub translate_alpha-translate_bindings-joined-requires : goal.translate_alpha-translate_bindings-joined-requires
translate_alpha-translate_bindings-joined-requires t c = call_rest (alpha_asked c.args.question.now.words.now c.args.target c.args.condition (binding_made c.args.question.now.words.now c.args.binding c.decode-node.ensures c.in-Some.ensures) (c.decreases, c.requires)) c.translate_range-first.ensures c.new-scope.ensures c.extend.ensures

pub translate_alpha-translate_condition-kept-requires : goal.translate_alpha-translate_condition-kept-requires
translate_alpha-translate_condition-kept-requires t c = call_condition (alpha_asked c.args.question.now.words.now c.args.target c.args.condition (binding_made c.args.question.now.words.now c.args.binding c.decode-node.ensures c.in-Some.ensures) (c.decreases, c.requires)) c.translate_range-first.ensures c.new-scope.ensures c.extend.ensures c.translate_bindings-joined.ensures

pub translate_alpha-write_targets-requires : goal.translate_alpha-write_targets-requires
translate_alpha-write_targets-requires t c = call_targets (alpha_asked c.args.question.now.words.now c.args.target c.args.condition (binding_made c.args.question.now.words.now c.args.binding c.decode-node.ensures c.in-Some.ensures) (c.decreases, c.requires)) c.translate_range-first.ensures c.new-scope.ensures c.extend.ensures c.translate_bindings-joined.ensures c.translate_condition-kept.ensures

pub translate_alpha-returns : goal.translate_alpha-returns
translate_alpha-returns t c = alpha-done (alpha_asked c.args.question.now.words.now c.args.target c.args.condition (binding_made c.args.question.now.words.now c.args.binding c.decode-node.ensures c.in-Some.ensures) (c.decreases, c.requires)) c.translate_range-first.ensures c.new-scope.ensures c.extend.ensures c.translate_bindings-joined.ensures c.translate_condition-kept.ensures c.write_targets.ensures

pub translate_alpha-translate_table-requires : goal.translate_alpha-translate_table-requires
translate_alpha-translate_table-requires t c = room_one c.requires.3

pub translate_alpha-returns-in_default : goal.translate_alpha-returns-in_default
translate_alpha-returns-in_default t c = done_as (no_alpha c.args.question.now.words.now c.args.target c.args.binding c.args.condition (none_bound c.args.question.now.words.now c.args.binding c.decode-node.ensures c.requires.1.0 (λ v e. c.in_default.not-Some v (c.binding_variable.ensures ∙ e)))) c.translate_table.ensures

pub translate_bindings-returns-then-reference-eq0 : goal.translate_bindings-returns-then-reference-eq0
translate_bindings-returns-then-reference-eq0 t c = no_more-done (bindings_none c.args.question.now.words.now c.if-reference-eq0.true) c.requires.1.fits

pub translate_bindings-translate_range-made-requires : goal.translate_bindings-translate_range-made-requires
translate_bindings-translate_range-made-requires t c = call_bound (chain c.args.question.now.words.now (named c.if-reference-eq0.false) (binding_made c.args.question.now.words.now c.args.reference c.decode-node.ensures c.in-Some.ensures)) (c.decreases, c.requires)

pub translate_bindings-product-count-requires : goal.translate_bindings-product-count-requires
translate_bindings-product-count-requires t c = room_product (chain c.args.question.now.words.now (named c.if-reference-eq0.false) (binding_made c.args.question.now.words.now c.args.reference c.decode-node.ensures c.in-Some.ensures)) (c.decreases, c.requires) c.translate_range-made.ensures

pub translate_bindings-extend-requires : goal.translate_bindings-extend-requires
translate_bindings-extend-requires t c = scope_grows (chain c.args.question.now.words.now (named c.if-reference-eq0.false) (binding_made c.args.question.now.words.now c.args.reference c.decode-node.ensures c.in-Some.ensures)) (c.decreases, c.requires) c.translate_range-made.ensures

pub translate_bindings-translate_bindings-requires : goal.translate_bindings-translate_bindings-requires
translate_bindings-translate_bindings-requires t c = call_next (chain c.args.question.now.words.now (named c.if-reference-eq0.false) (binding_made c.args.question.now.words.now c.args.reference c.decode-node.ensures c.in-Some.ensures)) (c.decreases, c.requires) c.translate_range-made.ensures c.product-count.ensures c.extend.ensures

pub translate_bindings-returns : goal.translate_bindings-returns
translate_bindings-returns t c = bindings-done (chain c.args.question.now.words.now (named c.if-reference-eq0.false) (binding_made c.args.question.now.words.now c.args.reference c.decode-node.ensures c.in-Some.ensures)) (c.decreases, c.requires) c.translate_range-made.ensures c.product-count.ensures c.extend.ensures c.translate_bindings.ensures

pub translate_bindings-returns-in_default : goal.translate_bindings-returns-in_default
translate_bindings-returns-in_default t c = no_more-done (none_bound c.args.question.now.words.now c.args.reference c.decode-node.ensures (named c.if-reference-eq0.false) (λ v e. c.in_default.not-Some v (c.binding_variable.ensures ∙ e))) c.requires.1.fits

pub translate_condition-returns-then-reference-eq0 : goal.translate_condition-returns-then-reference-eq0
translate_condition-returns-then-reference-eq0 t c = written_none (columns_of c.args.question.now.catalogue.now) c.args.question.now.short (wanted_in c.args.wanted) (scope_of c.args.scope.now) c.args.p c.args.plan.now c.args.n (restriction_none c.args.question.now.words.now c.if-reference-eq0.true)

pub translate_condition-write_atom-requires : goal.translate_condition-write_atom-requires
translate_condition-write_atom-requires t c = let b = atom_step (wanted_in c.args.wanted) (named c.if-reference-eq0.false, c.requires.0) c.requires.1 (made_is c.args.question.now.words.now (c.args.reference - 1) c.in-Compares.is c.decode-node.ensures) in
    (c.requires.1.fits, b.narrow, b.room)

pub translate_condition-translate_part-first-requires : goal.translate_condition-translate_part-first-requires
translate_condition-translate_part-first-requires t c = let b = and_step (wanted_in c.args.wanted) (named c.if-reference-eq0.false, c.requires.0) c.requires.1 (made_is c.args.question.now.words.now (c.args.reference - 1) (c.in-Connects.is ∙ ap Connects c.in-And.is) c.decode-node.ensures) in
    (omega (arith, c.decreases, b.parts.0.1), (b.parts.0.0.1, left_ready b))

pub translate_condition-translate_part-requires : goal.translate_condition-translate_part-requires
translate_condition-translate_part-requires t c = let b = and_step (wanted_in c.args.wanted) (named c.if-reference-eq0.false, c.requires.0) c.requires.1 (made_is c.args.question.now.words.now (c.args.reference - 1) (c.in-Connects.is ∙ ap Connects c.in-And.is) c.decode-node.ensures) in
    (omega (arith, c.decreases, b.parts.1.1), (b.parts.1.0.1, right_ready b c.args.question.now.short c.args.p c.translate_part-first.ensures))

pub translate_condition-translate_part-first-requires-in-Or : goal.translate_condition-translate_part-first-requires-in-Or
translate_condition-translate_part-first-requires-in-Or t c = let b = or_step (wanted_in c.args.wanted) (named c.if-reference-eq0.false, c.requires.0) c.requires.1 (made_is c.args.question.now.words.now (c.args.reference - 1) (c.in-Connects.is ∙ ap Connects c.in-Or.is) c.decode-node.ensures) in
    (omega (arith, c.decreases, b.parts.0.1), (b.parts.0.0.1, left_ready b))

pub translate_condition-translate_part-second-requires : goal.translate_condition-translate_part-second-requires
translate_condition-translate_part-second-requires t c = let b = or_step (wanted_in c.args.wanted) (named c.if-reference-eq0.false, c.requires.0) c.requires.1 (made_is c.args.question.now.words.now (c.args.reference - 1) (c.in-Connects.is ∙ ap Connects c.in-Or.is) c.decode-node.ensures) in
    (omega (arith, c.decreases, b.parts.1.1), (b.parts.1.0.1, right_ready b c.args.question.now.short c.args.p c.translate_part-first-in-Or.ensures))

pub translate_condition-pair-requires : goal.translate_condition-pair-requires
translate_condition-pair-requires t c = let b = or_step (wanted_in c.args.wanted) (named c.if-reference-eq0.false, c.requires.0) c.requires.1 (made_is c.args.question.now.words.now (c.args.reference - 1) (c.in-Connects.is ∙ ap Connects c.in-Or.is) c.decode-node.ensures) in
    room-behind_both b c.args.question.now.short c.args.p c.translate_part-first-in-Or.ensures c.args.p c.translate_part-second.ensures

pub translate_condition-rule_fits-requires : goal.translate_condition-rule_fits-requires
translate_condition-rule_fits-requires t c = let b = not_step (wanted_in c.args.wanted) (named c.if-reference-eq0.false, c.requires.0) c.requires.1 (made_is c.args.question.now.words.now (c.args.reference - 1) (c.in-Connects.is ∙ ap Connects c.in-Not.is) c.decode-node.ensures) in
    (b.part.0, inner_few b)

pub translate_condition-translate_condition-met-requires : goal.translate_condition-translate_condition-met-requires
translate_condition-translate_condition-met-requires t c = let b = not_step (wanted_in c.args.wanted) (named c.if-reference-eq0.false, c.requires.0) c.requires.1 (made_is c.args.question.now.words.now (c.args.reference - 1) (c.in-Connects.is ∙ ap Connects c.in-Not.is) c.decode-node.ensures) in
    (omega (arith, c.decreases, b.part.1), (b.part.0.1, inner_ready b c.args.question.now.short c.rule_fits.ensures c.opposite_if.ensures))

pub translate_condition-returns-then-opposite : goal.translate_condition-returns-then-opposite
translate_condition-returns-then-opposite t c = let b = not_step (wanted_in c.args.wanted) (named c.if-reference-eq0.false, c.requires.0) c.requires.1 (made_is c.args.question.now.words.now (c.args.reference - 1) (c.in-Connects.is ∙ ap Connects c.in-Not.is) c.decode-node.ensures) in
    written-restriction (columns_of c.args.question.now.catalogue.now) c.args.question.now.short (wanted_in c.args.wanted) (scope_of c.args.scope.now) c.args.p b.reads (opposite-done b c.args.question.now.short c.rule_fits.ensures c.opposite_if.ensures c.args.p c.translate_condition-met.ensures (wanted_in c.args.wanted) c.if-opposite.true)

pub translate_condition-pair-requires-in-Not : goal.translate_condition-pair-requires-in-Not
translate_condition-pair-requires-in-Not t c = let b = not_step (wanted_in c.args.wanted) (named c.if-reference-eq0.false, c.requires.0) c.requires.1 (made_is c.args.question.now.words.now (c.args.reference - 1) (c.in-Connects.is ∙ ap Connects c.in-Not.is) c.decode-node.ensures) in
    room-behind_inner b c.args.question.now.short c.rule_fits.ensures c.opposite_if.ensures c.args.p c.translate_condition-met.ensures c.if-opposite.false

pub translate_condition-translate_quantifier-requires : goal.translate_condition-translate_quantifier-requires
translate_condition-translate_quantifier-requires t c = let b = quantifier_step (wanted_in c.args.wanted) (named c.if-reference-eq0.false, c.requires.0) c.requires.1 (made_is c.args.question.now.words.now (c.args.reference - 1) (c.in-Binds.is ∙ ap (Binds c.in-Binds.variable) c.in-Quantifies.is) c.decode-node.ensures) in
    (omega (arith, c.decreases, b.parts.0.1, b.parts.1.1), (b.known, b.parts.0.0, b.parts.1.0, b.ready))

pub translate_condition-returns-in-Compares : goal.translate_condition-returns-in-Compares
translate_condition-returns-in-Compares t c = let b = atom_step (wanted_in c.args.wanted) (named c.if-reference-eq0.false, c.requires.0) c.requires.1 (made_is c.args.question.now.words.now (c.args.reference - 1) c.in-Compares.is c.decode-node.ensures) in
    written-restriction (columns_of c.args.question.now.catalogue.now) c.args.question.now.short (wanted_in c.args.wanted) (scope_of c.args.scope.now) c.args.p b.reads (atom-written c.args.wanted (atom_of c.in-Compares.atom) (ready_as (sym b.reads) c.requires.1) c.args.question.now.short c.args.p c.is_opposite.ensures c.write_atom.ensures)

pub translate_condition-returns-in-And : goal.translate_condition-returns-in-And
translate_condition-returns-in-And t c = let b = and_step (wanted_in c.args.wanted) (named c.if-reference-eq0.false, c.requires.0) c.requires.1 (made_is c.args.question.now.words.now (c.args.reference - 1) (c.in-Connects.is ∙ ap Connects c.in-And.is) c.decode-node.ensures) in
    written-restriction (columns_of c.args.question.now.catalogue.now) c.args.question.now.short (wanted_in c.args.wanted) (scope_of c.args.scope.now) c.args.p b.reads (and_written (columns_of c.args.question.now.catalogue.now) c.args.question.now.short (wanted_in c.args.wanted) (scope_of c.args.scope.now) c.args.p _ (left-written b c.args.question.now.short c.args.p c.translate_part-first.ensures) _ (right-written b c.args.question.now.short c.args.p c.translate_part-first.ensures (c.translate_part-first.result - 1) c.translate_part.ensures))

pub translate_condition-returns-in-Or : goal.translate_condition-returns-in-Or
translate_condition-returns-in-Or t c = let b = or_step (wanted_in c.args.wanted) (named c.if-reference-eq0.false, c.requires.0) c.requires.1 (made_is c.args.question.now.words.now (c.args.reference - 1) (c.in-Connects.is ∙ ap Connects c.in-Or.is) c.decode-node.ensures) in
    written-restriction (columns_of c.args.question.now.catalogue.now) c.args.question.now.short (wanted_in c.args.wanted) (scope_of c.args.scope.now) c.args.p b.reads (or_written (columns_of c.args.question.now.catalogue.now) c.args.question.now.short (wanted_in c.args.wanted) (scope_of c.args.scope.now) c.args.p _ (left-written b c.args.question.now.short c.args.p c.translate_part-first-in-Or.ensures) _ (right-written b c.args.question.now.short c.args.p c.translate_part-first-in-Or.ensures c.args.p c.translate_part-second.ensures) c.pair.ensures)

pub translate_condition-returns-else-opposite : goal.translate_condition-returns-else-opposite
translate_condition-returns-else-opposite t c = let b = not_step (wanted_in c.args.wanted) (named c.if-reference-eq0.false, c.requires.0) c.requires.1 (made_is c.args.question.now.words.now (c.args.reference - 1) (c.in-Connects.is ∙ ap Connects c.in-Not.is) c.decode-node.ensures) in
    written-restriction (columns_of c.args.question.now.catalogue.now) c.args.question.now.short (wanted_in c.args.wanted) (scope_of c.args.scope.now) c.args.p b.reads (not_done b c.args.question.now.short c.rule_fits.ensures c.opposite_if.ensures c.args.p c.translate_condition-met.ensures (wanted_in c.args.wanted) c.if-opposite.false c.pair-in-Not.ensures)

pub translate_condition-returns-in-Quantifies : goal.translate_condition-returns-in-Quantifies
translate_condition-returns-in-Quantifies t c = let b = quantifier_step (wanted_in c.args.wanted) (named c.if-reference-eq0.false, c.requires.0) c.requires.1 (made_is c.args.question.now.words.now (c.args.reference - 1) (c.in-Binds.is ∙ ap (Binds c.in-Binds.variable) c.in-Quantifies.is) c.decode-node.ensures) in
    written-restriction (columns_of c.args.question.now.catalogue.now) c.args.question.now.short (wanted_in c.args.wanted) (scope_of c.args.scope.now) c.args.p b.reads c.translate_quantifier.ensures

pub translate_condition-returns-in-Binding : goal.translate_condition-returns-in-Binding
translate_condition-returns-in-Binding t c = written_none (columns_of c.args.question.now.catalogue.now) c.args.question.now.short (wanted_in c.args.wanted) (scope_of c.args.scope.now) c.args.p c.args.plan.now c.args.n (restriction_is c.args.question.now.words.now c.args.reference _ (named c.if-reference-eq0.false) (made_is c.args.question.now.words.now (c.args.reference - 1) (c.in-Binds.is ∙ ap (Binds c.in-Binds.variable) c.in-Binding.is) c.decode-node.ensures))

pub translate_condition-returns-in_default : goal.translate_condition-returns-in_default
translate_condition-returns-in_default t c = written_none (columns_of c.args.question.now.catalogue.now) c.args.question.now.short (wanted_in c.args.wanted) (scope_of c.args.scope.now) c.args.p c.args.plan.now c.args.n (restriction_is c.args.question.now.words.now c.args.reference _ (named c.if-reference-eq0.false) c.decode-node.ensures ∙ no_restriction c.decode-node.result.form (reading_at c.args.question.now.words.now c.decode-node.result.a) (reading_at c.args.question.now.words.now c.decode-node.result.b) (reading_at c.args.question.now.words.now c.decode-node.result.c) c.in_default.not-Binds c.in_default.not-Compares c.in_default.not-Connects)

pub translate_quantifier-translate_range-made-requires : goal.translate_quantifier-translate_range-made-requires
translate_quantifier-translate_range-made-requires t c = (omega (arith, c.decreases), (c.requires.1, range_ready c.args.quantifier c.args.wanted c.args.x (range_at c.args.question.now.words.now c.args.range) (condition_at c.args.question.now.words.now c.args.condition) c.requires.0 c.requires.3))

pub translate_quantifier-way_of-requires : goal.translate_quantifier-way_of-requires
translate_quantifier-way_of-requires t c = (c.requires.2, few-nodes c.args.quantifier c.args.wanted c.args.x (range_at c.args.question.now.words.now c.args.range) (condition_at c.args.question.now.words.now c.args.condition) c.requires.0 c.requires.3)

pub translate_quantifier-write_rule-requires : goal.translate_quantifier-write_rule-requires
translate_quantifier-write_rule-requires t c = rule_ready c.args.quantifier c.args.wanted c.args.x (range_at c.args.question.now.words.now c.args.range) (condition_at c.args.question.now.words.now c.args.condition) c.requires.0 c.requires.3 c.translate_range-made.ensures c.args.question.now.words.now c.args.condition refl c.requires.2 c.in-ByRule.rule 0 (rule_way c.args.question.now.catalogue.now (scope_of c.args.scope.now) c.args.quantifier c.args.wanted c.in-ByRule.rule c.requires.3.good (sym c.way_of.ensures ∙ c.in-ByRule.is)).atoms

pub translate_quantifier-write_rule-requires-in-AsDivisor : goal.translate_quantifier-write_rule-requires-in-AsDivisor
translate_quantifier-write_rule-requires-in-AsDivisor t c = rule_ready c.args.quantifier c.args.wanted c.args.x (range_at c.args.question.now.words.now c.args.range) (condition_at c.args.question.now.words.now c.args.condition) c.requires.0 c.requires.3 c.translate_range-made.ensures c.args.question.now.words.now c.args.condition refl c.requires.2 S5 c.in-AsDivisor.y (divisor_way c.args.question.now.catalogue.now (scope_of c.args.scope.now) c.args.quantifier c.args.wanted c.in-AsDivisor.y c.in-AsDivisor.k c.requires.3.good (sym c.way_of.ensures ∙ c.in-AsDivisor.is)).atoms

pub translate_quantifier-unreachable-requires : goal.translate_quantifier-unreachable-requires
translate_quantifier-unreachable-requires t c = divided_some c.args.question.now.words.now c.requires.2 c.decode-node.ensures c.args.x (division_way (columns_of c.args.question.now.catalogue.now) c.args.question.now.short c.args.x (range_at c.args.question.now.words.now c.args.range) (condition_at c.args.question.now.words.now c.args.condition) c.args.quantifier c.args.wanted (sym c.way_of.ensures ∙ c.in-ByDivision.is)).fits c.in-None.ensures

pub translate_quantifier-translate_quantifier-requires : goal.translate_quantifier-translate_quantifier-requires
translate_quantifier-translate_quantifier-requires t c = call_below c.args.quantifier c.args.wanted c.args.x (range_at c.args.question.now.words.now c.args.range) c.args.question.now.words.now c.args.condition c.requires.0 c.requires.3 c.translate_range-made.ensures (sym c.way_of.ensures ∙ c.in-ByDivision.is) tt c.requires.2 c.decode-node.ensures c.in-Some.ensures (division_way (columns_of c.args.question.now.catalogue.now) c.args.question.now.short c.args.x (range_at c.args.question.now.words.now c.args.range) (condition_at c.args.question.now.words.now c.args.condition) c.args.quantifier c.args.wanted (sym c.way_of.ensures ∙ c.in-ByDivision.is)).fits (c.translate_range-made.result.count - 1) c.args.range c.decreases

pub translate_quantifier-extend-requires : goal.translate_quantifier-extend-requires
translate_quantifier-extend-requires t c = inner_grows c.args.quantifier c.args.wanted c.args.x (range_at c.args.question.now.words.now c.args.range) (condition_at c.args.question.now.words.now c.args.condition) c.requires.0 c.requires.3 c.translate_range-made.ensures

pub translate_quantifier-product-count-requires : goal.translate_quantifier-product-count-requires
translate_quantifier-product-count-requires t c = room_inner c.args.quantifier c.args.wanted c.args.x (range_at c.args.question.now.words.now c.args.range) (condition_at c.args.question.now.words.now c.args.condition) c.requires.0 c.requires.3 c.translate_range-made.ensures

pub translate_quantifier-translate_condition-meeting-requires : goal.translate_quantifier-translate_condition-meeting-requires
translate_quantifier-translate_condition-meeting-requires t c = (omega (arith, c.decreases), (c.requires.2.1, inside_ready c.args.quantifier c.args.wanted c.args.x (range_at c.args.question.now.words.now c.args.range) c.args.question.now.words.now c.args.condition c.requires.0 c.requires.3 c.translate_range-made.ensures (sym c.way_of.ensures ∙ c.in-Plain.is) tt c.extend.ensures c.product-count.ensures))

pub translate_quantifier-write_kept-requires : goal.translate_quantifier-write_kept-requires
translate_quantifier-write_kept-requires t c = (omega (arith, c.columns_in.ensures, c.requires.3.fits.counted, c.requires.3.fits.narrow), some_met c.args.quantifier c.args.wanted c.args.x (range_at c.args.question.now.words.now c.args.range) c.args.question.now.words.now c.args.condition c.requires.0 c.requires.3 c.translate_range-made.ensures (sym c.way_of.ensures ∙ c.in-Plain.is) tt c.extend.ensures c.product-count.ensures c.translate_condition-meeting.ensures, room-kept c.args.quantifier c.args.wanted c.args.x (range_at c.args.question.now.words.now c.args.range) c.args.question.now.words.now c.args.condition c.requires.0 c.requires.3 c.translate_range-made.ensures (sym c.way_of.ensures ∙ c.in-Plain.is) tt c.extend.ensures c.product-count.ensures c.translate_condition-meeting.ensures)

pub translate_quantifier-returns-in-ByRule : goal.translate_quantifier-returns-in-ByRule
translate_quantifier-returns-in-ByRule t c = rule-done c.translate_range-made.ensures c.args.quantifier c.args.wanted c.args.x (condition_at c.args.question.now.words.now c.args.condition) (scope_of c.args.scope.now) c.args.p (rule_way c.args.question.now.catalogue.now (scope_of c.args.scope.now) c.args.quantifier c.args.wanted c.in-ByRule.rule c.requires.3.good (sym c.way_of.ensures ∙ c.in-ByRule.is)) c.write_rule.ensures

pub translate_quantifier-returns-in-AsDivisor : goal.translate_quantifier-returns-in-AsDivisor
translate_quantifier-returns-in-AsDivisor t c = rule-done c.translate_range-made.ensures c.args.quantifier c.args.wanted c.args.x (condition_at c.args.question.now.words.now c.args.condition) (scope_of c.args.scope.now) c.args.p (divisor_way c.args.question.now.catalogue.now (scope_of c.args.scope.now) c.args.quantifier c.args.wanted c.in-AsDivisor.y c.in-AsDivisor.k c.requires.3.good (sym c.way_of.ensures ∙ c.in-AsDivisor.is)) c.write_rule-in-AsDivisor.ensures

pub translate_quantifier-returns-in-Some : goal.translate_quantifier-returns-in-Some
translate_quantifier-returns-in-Some t c = division_done c.translate_range-made.ensures c.args.quantifier c.args.wanted c.args.x (condition_at c.args.question.now.words.now c.args.condition) (scope_of c.args.scope.now) c.args.p (division_way (columns_of c.args.question.now.catalogue.now) c.args.question.now.short c.args.x (range_at c.args.question.now.words.now c.args.range) (condition_at c.args.question.now.words.now c.args.condition) c.args.quantifier c.args.wanted (sym c.way_of.ensures ∙ c.in-ByDivision.is)) (written_below c.args.quantifier c.args.wanted c.args.x (range_at c.args.question.now.words.now c.args.range) c.args.question.now.words.now c.args.condition c.requires.0 c.requires.3 c.translate_range-made.ensures (sym c.way_of.ensures ∙ c.in-ByDivision.is) tt c.requires.2 c.decode-node.ensures c.in-Some.ensures (division_way (columns_of c.args.question.now.catalogue.now) c.args.question.now.short c.args.x (range_at c.args.question.now.words.now c.args.range) (condition_at c.args.question.now.words.now c.args.condition) c.args.quantifier c.args.wanted (sym c.way_of.ensures ∙ c.in-ByDivision.is)).fits (c.translate_range-made.result.count - 1) c.args.p c.translate_quantifier.ensures)

pub translate_quantifier-returns-in-Plain : goal.translate_quantifier-returns-in-Plain
translate_quantifier-returns-in-Plain t c = plain_done c.translate_range-made.ensures c.args.quantifier c.args.wanted c.args.x (condition_at c.args.question.now.words.now c.args.condition) (scope_of c.args.scope.now) c.args.p (plain_way (columns_of c.args.question.now.catalogue.now) c.args.question.now.short c.args.x (range_at c.args.question.now.words.now c.args.range) (condition_at c.args.question.now.words.now c.args.condition) c.args.quantifier c.args.wanted (sym c.way_of.ensures ∙ c.in-Plain.is)) (inside-written c.args.quantifier c.args.wanted c.args.x (range_at c.args.question.now.words.now c.args.range) c.args.question.now.words.now c.args.condition c.requires.0 c.requires.3 c.translate_range-made.ensures (sym c.way_of.ensures ∙ c.in-Plain.is) tt c.extend.ensures c.product-count.ensures c.translate_condition-meeting.ensures) c.columns_in.ensures c.write_kept.ensures

pub translate_range-translate_table-requires : goal.translate_range-translate_table-requires
translate_range-translate_table-requires t c = room_one c.requires.1

pub translate_range-translate_alpha-requires : goal.translate_range-translate_alpha-requires
translate_range-translate_alpha-requires t c = call_alpha _ _ (made_is c.args.question.now.words.now (c.args.reference - 1) c.in-Alpha.is c.decode-node.ensures) (c.decreases, c.requires)

pub translate_range-translate_ranges-requires : goal.translate_range-translate_ranges-requires
translate_range-translate_ranges-requires t c = call_sides _ c.args.question.now.catalogue.now c.args.question.now.words.now (made_is c.args.question.now.words.now (c.args.reference - 1) c.in-Combines.is c.decode-node.ensures) (c.decreases, c.requires)

pub translate_range-translate_table-requires-in_default : goal.translate_range-translate_table-requires-in_default
translate_range-translate_table-requires-in_default t c = room_one c.requires.1

pub translate_range-returns-in-Table : goal.translate_range-returns-in-Table
translate_range-returns-in-Table t c = done_as (range_is c.args.question.now.words.now c.args.reference _ c.requires.0.0 (made_is c.args.question.now.words.now (c.args.reference - 1) c.in-Table.is c.decode-node.ensures)) c.translate_table.ensures

pub translate_range-returns-in-Alpha : goal.translate_range-returns-in-Alpha
translate_range-returns-in-Alpha t c = done_as (range_is c.args.question.now.words.now c.args.reference _ c.requires.0.0 (made_is c.args.question.now.words.now (c.args.reference - 1) c.in-Alpha.is c.decode-node.ensures)) c.translate_alpha.ensures

pub translate_range-returns-in-Combines : goal.translate_range-returns-in-Combines
translate_range-returns-in-Combines t c = done_as (range_is c.args.question.now.words.now c.args.reference _ c.requires.0.0 (made_is c.args.question.now.words.now (c.args.reference - 1) c.in-Combines.is c.decode-node.ensures)) c.translate_ranges.ensures

pub translate_range-returns-in_default : goal.translate_range-returns-in_default
translate_range-returns-in_default t c = done_as (range_is c.args.question.now.words.now c.args.reference _ c.requires.0.0 c.decode-node.ensures ∙ no_range c.decode-node.result.form (reading_at c.args.question.now.words.now c.decode-node.result.a) (reading_at c.args.question.now.words.now c.decode-node.result.b) (reading_at c.args.question.now.words.now c.decode-node.result.c) c.in_default.not-Table c.in_default.not-Alpha c.in_default.not-Combines) c.translate_table-in_default.ensures

pub translate_ranges-translate_range-first-requires : goal.translate_ranges-translate_range-first-requires
translate_ranges-translate_range-first-requires t c = call_left c.args.how c.args.question.now.words.now c.args.left c.args.right (c.decreases, c.requires)

pub translate_ranges-translate_range-second-requires : goal.translate_ranges-translate_range-second-requires
translate_ranges-translate_range-second-requires t c = call_right c.args.how c.args.question.now.words.now c.args.left c.args.right (c.decreases, c.requires) c.translate_range-first.ensures

pub translate_ranges-pair-count-requires : goal.translate_ranges-pair-count-requires
translate_ranges-pair-count-requires t c = room_last c.args.how c.args.question.now.words.now c.args.left c.args.right (c.decreases, c.requires) c.translate_range-first.ensures c.translate_range-second.ensures

pub translate_ranges-returns : goal.translate_ranges-returns
translate_ranges-returns t c = sides_done c.args.how c.args.question.now.words.now c.args.left c.args.right (c.decreases, c.requires) c.translate_range-first.ensures c.translate_range-second.ensures c.pair-count.ensures
