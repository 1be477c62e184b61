-- Widths, and questions of good form: what refusals 4, 5 and 6 leave. Document 01, "The question" and "Refusal numbers".
use Rattle.std.specs.Prelude.{◌≡◌, false, List, [], ◌∷◌, ℕ, ◌+◌, ◌≤◌, ◌<◌, eqb, length}
use Rattle.relations.specs.Limits.{column_limit}
use Rattle.relations.specs.Lists.{All}
use Rattle.calculus.specs.Question.{fixed, of_variable, Atom, compare, Target, whole_row, one_attribute, Range, table, alpha, range_or, range_and, range_and_not, Bindings, no_more, bind, MaybeCondition, no_condition, on_condition, Condition, atom, condition_and, condition_or, condition_not, for_some, for_every, for_at_least}
use Rattle.calculus.specs.Scope.{entry, Scope, extend, columns_in, width_in}

-- refusal 5: bound while in scope
abbrev pub NotInScope : ℕ → Scope → Type 0
NotInScope variable [] = Unit {0}
NotInScope variable (entry x width ∷ s) = (eqb variable x ≡ false) × NotInScope variable s

-- refusals 5 and 6: the variable is in scope and has the column (out of scope its width is 0)
abbrev pub Known : Scope → ℕ → ℕ → Type 0
Known s variable n = (1 ≤ n) × (n ≤ width_in s variable)

abbrev pub GoodAtom : Scope → Atom → Type 0
GoodAtom s (compare variable a operator (fixed c)) = Known s variable a.number
GoodAtom s (compare variable a operator (of_variable other b)) = Known s variable a.number × Known s other b.number

abbrev pub GoodTarget : Scope → Target → Type 0
GoodTarget s (whole_row variable) = 1 ≤ width_in s variable
GoodTarget s (one_attribute variable a) = Known s variable a.number

abbrev pub target_width : Scope → Target → ℕ
target_width s (whole_row variable) = width_in s variable
target_width s (one_attribute variable a) = 1

abbrev pub targets_width : Scope → List Target → ℕ
targets_width s [] = 0
targets_width s (t ∷ targets) = target_width s t + targets_width s targets

-- columns: the catalogue's columns of each relation; relations: how many relations there are
module _ (columns : ℕ → ℕ) where
  unfoldable mutual
    -- "A range operation's width is its left side's; an alpha's is the sum of its targets'; a whole row counts the variable's width."
    pub width_of_range : Range → ℕ
    width_of_range (table relation) = columns relation
    width_of_range (alpha targets variable range bindings restriction) = targets_width (scope_of_bindings bindings (entry variable (width_of_range range) ∷ [])) targets
    width_of_range (range_or a b) = width_of_range a
    width_of_range (range_and a b) = width_of_range a
    width_of_range (range_and_not a b) = width_of_range a

    -- "Along a chain each binding's variable and columns join those bound before it"
    pub scope_of_bindings : Bindings → Scope → Scope
    scope_of_bindings no_more s = s
    scope_of_bindings (bind variable range bindings) s = scope_of_bindings bindings (extend s variable (width_of_range range))

  -- the scope of an alpha's targets and condition
  abbrev pub alpha_scope : ℕ → Range → Bindings → Scope
  alpha_scope variable range bindings = scope_of_bindings bindings (entry variable (width_of_range range) ∷ [])

  -- What a question's good form asks, in document 01's words and in the order of the conjunctions below.
  -- A table: not an "unknown relation" (4). A range operation: its sides are good, and they don't "differ in width" (6).
  -- An alpha: its first range is good; so are its other bindings, along the chain; so are its condition, if it has one, and each of its targets, in the
  -- scope of all bindings; then no "columns in scope" over 32 (6), at least one target, and no "alpha's width" over 32 (6).
  -- A binding, a "some", an "every" and an "at least": its variable is not "bound while in scope" (5); its range is good; so is what follows, with the variable in
  -- scope; no "columns in scope" over 32 (6). A target and an atom: no "variable not in scope" (5), no "attribute beyond its variable" (6).
  module _ (relations : ℕ) where
    unfoldable mutual
      -- a range starts with no variable in scope; an alpha has at least one target
      pub GoodRange : Range → Type 0
      GoodRange (table relation) = relation < relations
      GoodRange (alpha targets variable range bindings restriction) = GoodRange range × GoodBindings bindings (entry variable (width_of_range range) ∷ []) × GoodMaybe restriction (alpha_scope variable range bindings) × All (GoodTarget (alpha_scope variable range bindings)) targets × (width_of_range range ≤ column_limit) × (1 ≤ length targets) × (targets_width (alpha_scope variable range bindings) targets ≤ column_limit)
      GoodRange (range_or a b) = GoodRange a × GoodRange b × (width_of_range a ≡ width_of_range b)
      GoodRange (range_and a b) = GoodRange a × GoodRange b × (width_of_range a ≡ width_of_range b)
      GoodRange (range_and_not a b) = GoodRange a × GoodRange b × (width_of_range a ≡ width_of_range b)

      pub GoodBindings : Bindings → Scope → Type 0
      GoodBindings no_more s = Unit {0}
      GoodBindings (bind variable range bindings) s = NotInScope variable s × GoodRange range × GoodBindings bindings (extend s variable (width_of_range range)) × (columns_in s + width_of_range range ≤ column_limit)

      pub GoodMaybe : MaybeCondition → Scope → Type 0
      GoodMaybe no_condition s = Unit {0}
      GoodMaybe (on_condition f) s = GoodCondition f s

      pub GoodCondition : Condition → Scope → Type 0
      GoodCondition (atom a) s = GoodAtom s a
      GoodCondition (condition_and f g) s = GoodCondition f s × GoodCondition g s
      GoodCondition (condition_or f g) s = GoodCondition f s × GoodCondition g s
      GoodCondition (condition_not f) s = GoodCondition f s
      GoodCondition (for_some variable range f) s = NotInScope variable s × GoodRange range × GoodCondition f (extend s variable (width_of_range range)) × (columns_in s + width_of_range range ≤ column_limit)
      GoodCondition (for_every variable range f) s = NotInScope variable s × GoodRange range × GoodCondition f (extend s variable (width_of_range range)) × (columns_in s + width_of_range range ≤ column_limit)
      -- besides: every range has a column, so that the product is wider than P (refusal 9); at least one row is asked for (refusal 2)
      GoodCondition (for_at_least variable range f least) s = NotInScope variable s × GoodRange range × GoodCondition f (extend s variable (width_of_range range)) × (columns_in s + width_of_range range ≤ column_limit) × (1 ≤ width_of_range range) × (1 ≤ least)
