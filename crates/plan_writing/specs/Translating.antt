-- What the translating functions ask for and leave. Assumes nothing.
use Rattle.std.specs.Prelude.{ℕ, ◌*◌, ◌≤◌, ◌≡◌, Bool, true, ◌||◌, List, []}
use Rattle.relations.specs.Nodes.{Node}
use Rattle.calculus.specs.Question.{Range, Bindings, no_more, bind, MaybeCondition, no_condition, on_condition, range_nodes, binding_nodes, maybe_nodes}
use Rattle.calculus.specs.Scope.{Scope, extend}
use Rattle.calculus.specs.Form.{width_of_range, scope_of_bindings, GoodRange, GoodBindings, GoodMaybe}
use Rattle.calculus.specs.ShortRules.{short_rule3_fits, short_rule5_fits, short_rule6_fits}
use Rattle.calculus.specs.Translation.{Wanted, itself, its_opposite, division_by, translate_bindings, translate_condition}
use Rattle.catalogue.specs.Stored.{relations_of, columns_of}
use Rattle.judgements.specs.Accepted.{HasColumns}
use Rattle.conditions.specs.declared.scope.Scope.{Scope as Carried}
use Rattle.conditions.specs.Scopes.{scope_of, ScopeFits, with_variable}
use Rattle.emission.specs.Written.{Room, Written}

-- T of a condition, for whatever is wanted of it; no nodes where there is none
abbrev pub translate_wanted : (columns : ℕ → ℕ) (short : Bool) → Wanted → MaybeCondition → Scope → (p n : ℕ) → List Node
translate_wanted columns short wanted no_condition s p n = []
translate_wanted columns short wanted (on_condition f) s p n = translate_condition columns short f wanted s p n

-- An opposite is wanted only of a condition that S3 or S6 fits, a division only of one that S5 fits.
abbrev pub OppositeFits : MaybeCondition → Type 0
OppositeFits no_condition = ⊥
OppositeFits (on_condition f) = (short_rule3_fits f || short_rule6_fits f) ≡ true

abbrev pub DivisionFits : ℕ → MaybeCondition → Type 0
DivisionFits y no_condition = ⊥
DivisionFits y (on_condition f) = short_rule5_fits y f ≡ true

-- Each node of the question has room for four of the plan.
module _ (catalogue : List ℕ) where
  pub record RangeReady (plan : List ℕ) (range : Range) (n : ℕ) : Type 0 where
    pub good : GoodRange (columns_of catalogue) (relations_of catalogue) range
    pub stored : HasColumns catalogue
    pub room : Room plan n (4 * range_nodes range)

  pub record BindingsReady (plan : List ℕ) (bindings : Bindings) (scope : Carried) (n : ℕ) : Type 0 where
    pub good : GoodBindings (columns_of catalogue) (relations_of catalogue) bindings (scope_of scope)
    pub fits : ScopeFits scope
    pub stored : HasColumns catalogue
    pub some-nodes : 1 ≤ n
    pub room : Room plan n (4 * binding_nodes bindings)

  -- the scope that bindings make of the one before them, as the code carries it
  unfoldable pub with_bindings : Bindings → Carried → Carried
  with_bindings no_more scope = scope
  with_bindings (bind variable range bindings) scope = with_bindings bindings (with_variable scope variable (width_of_range (columns_of catalogue) range))

  pub record BindingsDone (short : Bool) (before : List ℕ) (bindings : Bindings) (scope : Carried) (p n : ℕ) (after : List ℕ) (grown : Carried) (count : ℕ) : Type 0 where
    pub written : Written before n (translate_bindings (columns_of catalogue) short bindings p n) after count
    pub is : grown ≡ with_bindings bindings scope
    pub fits : ScopeFits grown
    pub stands : scope_of grown ≡ scope_of_bindings (columns_of catalogue) bindings (scope_of scope)

  -- y is in the scope of a condition that is divided by its range, but its columns are not among P's
  pub record DivisionGood (y : ℕ) (restriction : MaybeCondition) (s : Scope) : Type 0 where
    pub width : ℕ
    pub good : GoodMaybe (columns_of catalogue) (relations_of catalogue) restriction (extend s y width)
    pub fits : DivisionFits y restriction

  abbrev pub GoodAs : Wanted → MaybeCondition → Scope → Type 0
  GoodAs itself restriction s = GoodMaybe (columns_of catalogue) (relations_of catalogue) restriction s
  GoodAs its_opposite restriction s = GoodMaybe (columns_of catalogue) (relations_of catalogue) restriction s × OppositeFits restriction
  GoodAs (division_by y k) restriction s = DivisionGood y restriction s

  pub record ConditionReady (plan : List ℕ) (wanted : Wanted) (restriction : MaybeCondition) (scope : Carried) (n : ℕ) : Type 0 where
    pub good : GoodAs wanted restriction (scope_of scope)
    pub fits : ScopeFits scope
    pub stored : HasColumns catalogue
    pub some-nodes : 1 ≤ n
    pub room : Room plan n (4 * maybe_nodes restriction)
