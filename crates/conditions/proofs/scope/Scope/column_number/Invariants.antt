use Rattle.std.proofs.Common.{◌≡◌, ◌+◌, map, drop}
use Rattle.calculus.specs.Scope.{columns_in, column_number}
use Rattle.conditions.specs.Scopes.{entry_of, entries_in, scope_of}
use Rattle.conditions.proofs.scope.Scope.column_number.Given as goal

abbrev pub invariant-loop-entry : goal.invariant-loop-entry
invariant-loop-entry l = (l.passed + columns_in (map entry_of (drop l.entry-index (entries_in l.self))) ≡ l.self.columns)
    × (column_number (scope_of l.self) l.variable l.n ≡ l.passed + column_number (map entry_of (drop l.entry-index (entries_in l.self))) l.variable l.n)
