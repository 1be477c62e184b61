-- A translated range makes the rows of its meaning, and T(f, P) exactly the rows of P that meet f, in both modes: one line for each kind of node.
use mathlib.Core.Path.{refl, sym, ◌∙◌, subst}
use mathlib.Core.Bool.{Bool, not, ◌&&◌, ◌||◌, So, false≢true}
use mathlib.Core.List.{List, [], ◌∷◌, map}
use Prim.Native.Nat.{ℕ}
use native.Mathlib.Omega.{arith}
use Rattle.relations.specs.Lists.{filter, flat}
use Rattle.relations.specs.Machine.{run}
use Rattle.relations.specs.Nodes.{load, unite, intersect, subtract}
use Rattle.relations.specs.Plan.{value_at}
use Rattle.relations.specs.Values.{Tables, member, Ascending, Wide}
use Rattle.relations.proofs.BoolLaws.{and_right, or_only-left}
use Rattle.relations.proofs.ListLaws.{filter_true}
use Rattle.relations.proofs.ValueLaws.{canonical-filter}
use Rattle.calculus.specs.Claims.{TablesOf}
use Rattle.calculus.specs.Form.{width_of_range, alpha_scope, GoodRange, GoodBindings, GoodMaybe, GoodCondition}
use Rattle.calculus.specs.Leaves.{opposite_atom}
use Rattle.calculus.specs.Meaning.{nothing_bound, bound, atom_holds, range_rows, choices, maybe_holds, condition_holds}
use Rattle.calculus.specs.Question.{Target, Range, table, alpha, range_or, range_and, range_and_not, Bindings, no_more, bind, MaybeCondition, no_condition, on_condition, Condition, atom, condition_and, condition_or, condition_not, for_some, for_every, for_at_least}
use Rattle.calculus.specs.Scope.{entry, Scope, extend, target_columns, environment_of}
use Rattle.calculus.specs.ShortRules.{short_rule2_fits, short_rule3_fits, short_rule5_fits, short_rule6_fits, short_rule6_nodes}
use Rattle.calculus.specs.Translation.{itself, its_opposite, division_by, translate_range, translate_bindings, translate_maybe, translate_condition}
use Rattle.calculus.proofs.AtomLaws.{opposite_atom-holds}
use Rattle.calculus.proofs.AtomRules.{atom-rule}
use Rattle.calculus.proofs.ConditionRules.{sound_cong, choose, some_case, not_some_case, every_case, division_case, at_least_case}
use Rattle.calculus.proofs.DivisionRule.{SoundOver}
use Rattle.calculus.proofs.LeafLaws.{good-opposite}
use Rattle.calculus.proofs.OperationValues.{united, intersected, subtracted}
use Rattle.calculus.proofs.PlainRules.{Sound, Makes, and_rule, or_rule, not_rule}
use Rattle.calculus.proofs.PlanValues.{last_after_one}
use Rattle.calculus.proofs.RangeRules.{two_rule, Ends, bind-rule, alpha-rule}
use Rattle.calculus.proofs.RangeValues.{ValueOver, over_first, products, SameChoices, same_first, alpha_is, range-good, bindings-good}
use Rattle.calculus.proofs.RuleNodes.{plain_not}

module _ (tables : Tables) (columns : ℕ → ℕ) (relations : ℕ) (stored : TablesOf columns tables) (short : Bool) where
  alpha_case : (ts : List Target) (v : ℕ) (R : Range) (bs : Bindings) (w : MaybeCondition) → GoodRange columns relations (alpha ts v R bs w) → Makes tables (λ n. translate_range columns short R n) (range_rows tables R) → Ends tables (entry v (width_of_range columns R) ∷ []) (λ p n. translate_bindings columns short bs p n) (λ P. products tables bs P) → Ends tables (alpha_scope columns v R bs) (λ p n. translate_maybe columns short w (alpha_scope columns v R bs) p n) (filter (λ r. maybe_holds tables w (environment_of (alpha_scope columns v R bs) r))) → Makes tables (λ n. translate_range columns short (alpha ts v R bs w) n) (range_rows tables (alpha ts v R bs w))
  unfolding translate_range GoodRange
  alpha_case ts v R bs w o makes chain kept =
      let s : Scope = entry v (width_of_range columns R) ∷ [] in
      let s' : Scope = alpha_scope columns v R bs in
      let first : Ascending (range_rows tables R) × Wide (width_of_range columns R) (range_rows tables R) = range-good tables columns relations stored R o.0 in
      let over : ValueOver s (range_rows tables R) = over_first v (width_of_range columns R) (range_rows tables R) first in
      let all_bound : ValueOver s' (products tables bs (range_rows tables R)) × SameChoices (choices tables bs (map (λ r. bound nothing_bound v r) (range_rows tables R))) s' (products tables bs (range_rows tables R)) = bindings-good tables columns relations stored bs s (range_rows tables R) (map (λ r. bound nothing_bound v r) (range_rows tables R)) o.1 over (same_first v (width_of_range columns R) (range_rows tables R) first.1) in
      subst (Makes tables (λ n. translate_range columns short (alpha ts v R bs w) n)) (sym (alpha_is tables columns relations stored ts v R bs w o.3 all_bound)) (alpha-rule tables short s s' (λ n. translate_range columns short R n) (range_rows tables R) (λ p n. translate_bindings columns short bs p n) (λ p n. translate_maybe columns short w s' p n) (λ P. products tables bs P) (λ r. maybe_holds tables w (environment_of s' r)) (flat (target_columns s') ts) makes over chain all_bound.0 kept)

  mutual
    unfolding translate_range range_rows width_of_range GoodRange products run

    pub range-value : (R : Range) → GoodRange columns relations R → Makes tables (λ n. translate_range columns short R n) (range_rows tables R)
    range-value (table k) o = λ made n e. (omega arith, last_after_one tables made (load k))
    range-value (alpha ts v R bs w) o = alpha_case ts v R bs w o (range-value R o.0) (bindings-value bs (entry v (width_of_range columns R) ∷ []) o.1) (maybe_value w (alpha_scope columns v R bs) o.2)
    range-value (range_or a b) o = two_rule tables unite united (λ u i j. refl) (λ n. translate_range columns short a n) (λ n. translate_range columns short b n) (range_rows tables a) (range_rows tables b) (range_rows tables (range_or a b)) refl (range-value a o.0) (range-value b o.1)
    range-value (range_and a b) o = two_rule tables intersect intersected (λ u i j. refl) (λ n. translate_range columns short a n) (λ n. translate_range columns short b n) (range_rows tables a) (range_rows tables b) (range_rows tables (range_and a b)) (canonical-filter (λ row. member row (range_rows tables b)) (range_rows tables a) (range-good tables columns relations stored a o.0).0) (range-value a o.0) (range-value b o.1)
    range-value (range_and_not a b) o = two_rule tables subtract subtracted (λ u i j. refl) (λ n. translate_range columns short a n) (λ n. translate_range columns short b n) (range_rows tables a) (range_rows tables b) (range_rows tables (range_and_not a b)) (canonical-filter (λ row. not (member row (range_rows tables b))) (range_rows tables a) (range-good tables columns relations stored a o.0).0) (range-value a o.0) (range-value b o.1)

    pub bindings-value : (bs : Bindings) (s : Scope) → GoodBindings columns relations bs s → Ends tables s (λ p n. translate_bindings columns short bs p n) (λ P. products tables bs P)
    bindings-value no_more s o = λ made n p e l h g. sym h
    bindings-value (bind v R bs) s o = bind-rule tables s v (width_of_range columns R) (λ n. translate_range columns short R n) (range_rows tables R) (λ p n. translate_bindings columns short bs p n) (λ P. products tables bs P) (range-value R o.1) (range-good tables columns relations stored R o.1).1 (bindings-value bs (extend s v (width_of_range columns R)) o.2)

    pub maybe_value : (w : MaybeCondition) (s : Scope) → GoodMaybe columns relations w s → Ends tables s (λ p n. translate_maybe columns short w s p n) (filter (λ r. maybe_holds tables w (environment_of s r)))
    maybe_value no_condition s o = λ made n p e l h g. sym h ∙ sym (filter_true (value_at made p))
    maybe_value (on_condition c) s o = λ made n p e l h g. condition-value c s o made n p e l g

    pub condition-value : (c : Condition) (s : Scope) → GoodCondition columns relations c s → Sound tables s (λ p n. translate_condition columns short c itself s p n) (λ r. condition_holds tables c (environment_of s r))
    condition-value (atom a) s o = atom-rule tables s a o
    condition-value (condition_and f g) s o = and_rule tables s (λ p n. translate_condition columns short f itself s p n) (λ p n. translate_condition columns short g itself s p n) (λ r. condition_holds tables f (environment_of s r)) (λ r. condition_holds tables g (environment_of s r)) (condition-value f s o.0) (condition-value g s o.1)
    condition-value (condition_or f g) s o = or_rule tables s (λ p n. translate_condition columns short f itself s p n) (λ p n. translate_condition columns short g itself s p n) (λ r. condition_holds tables f (environment_of s r)) (λ r. condition_holds tables g (environment_of s r)) (condition-value f s o.0) (condition-value g s o.1)
    condition-value (condition_not f) s o = choose tables s (short && (short_rule3_fits f || short_rule6_fits f)) (λ p n. translate_condition columns short f its_opposite s p n) (plain_not (λ p n. translate_condition columns short f itself s p n)) (λ r. not (condition_holds tables f (environment_of s r))) (λ i. opposite-value f s o (and_right short (short_rule3_fits f || short_rule6_fits f) i)) (λ i. not_rule tables s (λ p n. translate_condition columns short f itself s p n) (λ r. condition_holds tables f (environment_of s r)) (condition-value f s o))
    condition-value (for_some v R f) s o = some_case tables columns relations short s v (width_of_range columns R) o.0 (λ n. translate_range columns short R n) (range_rows tables R) (range-value R o.1) (range-good tables columns relations stored R o.1) f o.2 (λ p n. translate_condition columns short f itself (extend s v (width_of_range columns R)) p n) (condition-value f (extend s v (width_of_range columns R)) o.2)
    condition-value (for_every v R f) s o = every_case tables columns relations short s v (width_of_range columns R) o.0 (λ n. translate_range columns short R n) (range_rows tables R) (range-value R o.1) (range-good tables columns relations stored R o.1) f o.2 (λ p n. translate_condition columns short f itself (extend s v (width_of_range columns R)) p n) (λ j p n. translate_condition columns short f (division_by v j) s p n) (condition-value f (extend s v (width_of_range columns R)) o.2) (λ i. division_value f s v (width_of_range columns R) o.2 i)
    condition-value (for_at_least v R f least) s o = at_least_case tables columns relations short s v (width_of_range columns R) o.0 (λ n. translate_range columns short R n) (range_rows tables R) (range-value R o.1) (range-good tables columns relations stored R o.1) f o.2 least (λ p n. translate_condition columns short f itself (extend s v (width_of_range columns R)) p n) (condition-value f (extend s v (width_of_range columns R)) o.2)

    -- S3 and S6
    pub opposite-value : (c : Condition) (s : Scope) → GoodCondition columns relations c s → So (short_rule3_fits c || short_rule6_fits c) → Sound tables s (λ p n. translate_condition columns short c its_opposite s p n) (λ r. not (condition_holds tables c (environment_of s r)))
    opposite-value (atom a) s o h = sound_cong tables s (λ p n. short_rule6_nodes s p a) (λ r. atom_holds (opposite_atom a) (environment_of s r)) (λ r. not (atom_holds a (environment_of s r))) (λ r i. opposite_atom-holds a (environment_of s r)) (atom-rule tables s (opposite_atom a) (good-opposite s a o))
    opposite-value (condition_and f g) s o h = absurd (false≢true h)
    opposite-value (condition_or f g) s o h = absurd (false≢true h)
    opposite-value (condition_not f) s o h = absurd (false≢true h)
    opposite-value (for_some v R f) s o h = not_some_case tables columns relations short s v (width_of_range columns R) o.0 (λ n. translate_range columns short R n) (range_rows tables R) (range-value R o.1) (range-good tables columns relations stored R o.1) f o.2 (or_only-left (short_rule2_fits v f) h)
    opposite-value (for_every v R f) s o h = absurd (false≢true h)
    opposite-value (for_at_least v R f least) s o h = absurd (false≢true h)

    -- S5
    pub division_value : (c : Condition) (s : Scope) (y w : ℕ) → GoodCondition columns relations c (extend s y w) → So (short_rule5_fits y c) → SoundOver tables s w (λ j p n. translate_condition columns short c (division_by y j) s p n) (λ r t. condition_holds tables c (bound (environment_of s r) y t))
    division_value (atom a) s y w o h = absurd (false≢true h)
    division_value (condition_and f g) s y w o h = absurd (false≢true h)
    division_value (condition_or f g) s y w o h = absurd (false≢true h)
    division_value (condition_not f) s y w o h = absurd (false≢true h)
    division_value (for_some z R f) s y w o h = division_case tables columns relations s y w z (width_of_range columns R) (λ n. translate_range columns short R n) (range_rows tables R) f o.0 (range-value R o.1) (range-good tables columns relations stored R o.1) o.2 h
    division_value (for_every z R f) s y w o h = absurd (false≢true h)
    division_value (for_at_least z R f least) s y w o h = absurd (false≢true h)
