-- The scope that the code carries, and the scope of `calculus` that it stands for. Assumes nothing.
use Rattle.std.specs.Prelude.{ℕ, ◌+◌, ◌<◌, ◌≤◌, ◌≡◌, List, length, map, take, set, replicate}
use Rattle.relations.specs.Limits.{column_limit, variable_count}
use Rattle.relations.specs.Lists.{All}
use Rattle.calculus.specs.Scope as calculus
use Rattle.calculus.specs.Scope.{ScopeEntry, entry, columns_in}
use Rattle.conditions.specs.declared.scope.Entry.{Entry}
use Rattle.conditions.specs.declared.scope.Scope.{Scope}

abbrev pub entry_of : Entry → ScopeEntry
entry_of e = entry e.variable e.width

abbrev pub entries_in : Scope → List Entry
entries_in scope = take scope.count scope.entries

abbrev pub scope_of : Scope → calculus.Scope
scope_of scope = map entry_of (entries_in scope)

abbrev pub no_variables : Scope
no_variables = record { entries = replicate column_limit (record { variable = 0; width = 0 }); count = 0; columns = 0 }

abbrev pub Small : Entry → Type 0
Small e = (e.variable < column_limit + variable_count) × (e.width < column_limit + variable_count)

-- No range is without columns, so there are no more variables in scope than columns.
pub record ScopeFits (scope : Scope) : Type 0 where
  pub whole : length scope.entries ≡ column_limit
  pub small : All Small scope.entries
  pub counted : scope.columns ≡ columns_in (scope_of scope)
  pub few : scope.count ≤ scope.columns
  pub narrow : scope.columns ≤ column_limit

-- one variable more, behind the others
unfoldable pub with_variable : Scope → ℕ → ℕ → Scope
with_variable scope variable width =
    record { entries = set scope.entries scope.count (record { variable = variable; width = width }); count = scope.count + 1; columns = scope.columns + width }

pub record Extended (scope : Scope) (variable width : ℕ) (longer : Scope) : Type 0 where
  pub is : longer ≡ with_variable scope variable width
  pub fits : ScopeFits longer
  pub stands : scope_of longer ≡ calculus.extend (scope_of scope) variable width
