-- What the project on an alpha's targets asks for and leaves. Assumes nothing.
use Rattle.std.specs.Prelude.{ℕ, ◌-◌, ◌≤◌, ◌≡◌, Bool, List, length}
use Rattle.relations.specs.Limits.{list_words}
use Rattle.relations.specs.Lists.{All, flat}
use Rattle.calculus.specs.Scope.{columns_in, target_columns}
use Rattle.calculus.specs.Form.{GoodTarget}
use Rattle.calculus.specs.ShortRules.{project_nodes}
use Rattle.conditions.specs.Readings.{Inside, targets_at}
use Rattle.conditions.specs.declared.scope.Scope.{Scope as Carried}
use Rattle.conditions.specs.Scopes.{scope_of, ScopeFits}
use Rattle.emission.specs.Written.{Written}
use Rattle.plan_steps.specs.declared.ranges.MadeRange.{MadeRange}

-- an alpha's targets: they are good, and no list is too short for their columns
pub record TargetsReady (words : List ℕ) (reference : ℕ) (scope : Carried) : Type 0 where
  pub inside : Inside words reference
  pub fits : ScopeFits scope
  pub good : All (GoodTarget (scope_of scope)) (targets_at words reference)
  pub few : length (flat (target_columns (scope_of scope)) (targets_at words reference)) ≤ list_words

pub record TargetsDone (short : Bool) (words : List ℕ) (target : ℕ) (scope : Carried) (before : List ℕ) (n : ℕ) (after : List ℕ) (made : MadeRange) : Type 0 where
  pub written : Written before n (project_nodes short (columns_in (scope_of scope)) (n - 1) (flat (target_columns (scope_of scope)) (targets_at words target))) after made.count
  pub width : made.width ≡ length (flat (target_columns (scope_of scope)) (targets_at words target))
