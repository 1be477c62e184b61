use Prim.Native.Nat.{ℕ, ◌-◌, ◌+◌, ◌*◌}
use mathlib.Core.Path.{◌≡◌}
use mathlib.Core.List.{List}
use mathlib.Core.Bool.{Bool}
use Rattle.relations.specs.Rows.{row_before}
use Rattle.values.specs.Words.{row_in}
use Rattle.values.specs.declared.rows.Value.{Value}
use Rattle.sorting.specs.Numbers.{all_below}
use Rattle.ordering.proofs.ascending.ascends.Given as goal

-- a row stands before the next one
abbrev pub ahead : List ℕ → Value → ℕ → Bool
ahead words value i = row_before (row_in words (value.base + i * value.width) value.width) (row_in words (value.base + (i + 1) * value.width) value.width)

abbrev pub invariant-loop-next : goal.invariant-loop-next
invariant-loop-next l = all_below (ahead l.words l.value) (l.value.rows - 1) ≡ all_below (ahead l.words l.value) (l.next - 1)
