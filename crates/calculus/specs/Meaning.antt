-- The question's own meaning. Document 01, "The question", "Meaning"; document 000, section 2.1. No plan and no operation stands here.
use Rattle.std.specs.Prelude.{Bool, true, not, ◌&&◌, ◌||◌, cond, List, [], ◌∷◌, ◌++◌, map, ℕ, leb, eqb}
use Rattle.relations.specs.Lists.{any, all, filter, flat, how_many}
use Rattle.relations.specs.Rows.{Row}
use Rattle.relations.specs.Values.{Rows, Tables, member, canonical}
use Rattle.relations.specs.Comparison.{holds}
use Rattle.relations.specs.Columns.{column}
use Rattle.calculus.specs.Question.{Operand, fixed, of_variable, Atom, compare, Target, whole_row, one_attribute, Range, table, alpha, range_or, range_and, range_and_not, Bindings, no_more, bind, MaybeCondition, no_condition, on_condition, Condition, atom, condition_and, condition_or, condition_not, for_some, for_every, for_at_least}

-- the row of each variable
abbrev pub Environment : Type 0
Environment = ℕ → Row

abbrev pub nothing_bound : Environment
nothing_bound variable = []

-- one more variable bound to a row
abbrev pub bound : Environment → ℕ → Row → Environment
bound e x row variable = cond (eqb variable x) row (e variable)

abbrev pub operand_value : Operand → Environment → ℕ
operand_value (fixed c) e = c.value
operand_value (of_variable variable a) e = column (e variable) a

abbrev pub atom_holds : Atom → Environment → Bool
atom_holds (compare variable a operator operand) e = holds operator (column (e variable) a) (operand_value operand e)

abbrev pub target_row : Target → Environment → Row
target_row (whole_row variable) e = e variable
target_row (one_attribute variable a) e = column (e variable) a ∷ []

abbrev pub targets_row : List Target → Environment → Row
targets_row targets e = flat (λ t. target_row t e) targets

module _ (tables : Tables) where
  unfoldable mutual
    -- "the target rows for all choices of bound rows from the ranges that meet the condition"
    -- "A range sees no variable of its surroundings": no environment comes in
    pub range_rows : Range → Rows
    range_rows (table relation) = canonical (tables relation)
    range_rows (alpha targets variable range bindings restriction) = canonical (map (targets_row targets) (filter (λ e. maybe_holds restriction e) (choices bindings (map (λ row. bound nothing_bound variable row) (range_rows range)))))
    range_rows (range_or a b) = canonical (range_rows a ++ range_rows b)
    range_rows (range_and a b) = filter (λ row. member row (range_rows b)) (range_rows a)
    range_rows (range_and_not a b) = filter (λ row. not (member row (range_rows b))) (range_rows a)

    -- every choice made so far with every row of the next range
    pub choices : Bindings → List Environment → List Environment
    choices no_more es = es
    choices (bind variable range bindings) es = choices bindings (flat (λ e. map (λ row. bound e variable row) (range_rows range)) es)

    -- "no condition is true"
    pub maybe_holds : MaybeCondition → Environment → Bool
    maybe_holds no_condition e = true
    maybe_holds (on_condition f) e = condition_holds f e

    -- "Every" over an empty range is true: so is `all` over no rows
    pub condition_holds : Condition → Environment → Bool
    condition_holds (atom a) e = atom_holds a e
    condition_holds (condition_and f g) e = condition_holds f e && condition_holds g e
    condition_holds (condition_or f g) e = condition_holds f e || condition_holds g e
    condition_holds (condition_not f) e = not (condition_holds f e)
    condition_holds (for_some variable range f) e = any (λ row. condition_holds f (bound e variable row)) (range_rows range)
    condition_holds (for_every variable range f) e = all (λ row. condition_holds f (bound e variable row)) (range_rows range)
    -- "at least k different rows of the range meet the condition": a range's rows are listed once each
    condition_holds (for_at_least variable range f least) e = leb least (how_many (λ row. condition_holds f (bound e variable row)) (range_rows range))
