use Rattle.std.proofs.Common.{ℕ, ◌≤◌, List, length}
use Prim.Native.Nat.{pred}
use Rattle.relations.specs.Lists.{filter}
use Rattle.calculus.specs.Leaves.{alone_on}
use Rattle.calculus.specs.ShortRules.{select_nodes}
use Rattle.conditions.specs.Scopes.{scope_of}
use Rattle.conditions.specs.Leaves.{atoms_of}
use Rattle.emission.specs.Written.{Room, Written}
use Rattle.short_rules.proofs.LeafSteps.{rest}
use Rattle.rule_writing.proofs.rules.write_selects.Given as goal

-- with the selects of the leaves still to come, all are written
abbrev pub invariant-loop-number : goal.invariant-loop-number
invariant-loop-number l = (1 ≤ l.count)
    × Room l.plan l.count (length (filter (alone_on l.x) (rest l.words l.opposite l.leaves l.number-index)))
    × ((after : List ℕ) (r : ℕ) → Written l.plan l.count (select_nodes (scope_of l.own) (filter (alone_on l.x) (rest l.words l.opposite l.leaves l.number-index)) (pred l.count) l.count) after r → Written l.initial.plan l.n (select_nodes (scope_of l.own) (filter (alone_on l.x) (atoms_of l.words l.opposite l.leaves)) (pred l.n) l.n) after r)
