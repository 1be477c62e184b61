use lib.ListN.{length, take}
use Prim.Native.Nat.{◌+◌, ◌-◌, ◌≤◌}
use mathlib.Core.List.{◌++◌}
use mathlib.Core.Path.{◌≡◌}
use Rattle.relations.specs.Columns.{left_numbers}
use Rattle.division.specs.Divisions.{pairs_of, columns_left}
use Rattle.division.proofs.divide.remaining_columns.Given as goal

-- the columns that remain are those written and those of the columns still to come
abbrev pub invariant-loop-column : goal.invariant-loop-column
invariant-loop-column l = (l.kept ≤ l.column) × (length l.columns ≡ length l.initial.columns)
    × (columns_left 1 l.width (left_numbers (pairs_of l.pairs)) ≡ take l.kept l.columns ++ columns_left (l.column + 1) (l.width - l.column) (left_numbers (pairs_of l.pairs)))
