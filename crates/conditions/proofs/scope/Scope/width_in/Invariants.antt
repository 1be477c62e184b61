use Rattle.std.proofs.Common.{◌≡◌, map, drop}
use Rattle.calculus.specs.Scope.{width_in}
use Rattle.conditions.specs.Scopes.{entry_of, entries_in, scope_of}
use Rattle.conditions.proofs.scope.Scope.width_in.Given as goal

abbrev pub invariant-loop-entry : goal.invariant-loop-entry
invariant-loop-entry l = width_in (scope_of l.self) l.variable ≡ width_in (map entry_of (drop l.entry-index (entries_in l.self))) l.variable
