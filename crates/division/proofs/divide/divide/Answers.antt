use Rattle.division.proofs.DivisionLaws.{divide-quotient, left-count, pairs-count, pairs_alone}
use Rattle.operations.proofs.FillSteps.{builds_by, builds_wide}
use Rattle.division.specs.Divisions.{pairs_of, columns_left, quotient}
use Rattle.values.proofs.RowsLaws.{rows_at-wide}
use Rattle.values.specs.Words.{rows_of}
use Rattle.relations.specs.PlanWords.{read_pairs}
use lib.Seq.{length-take-le}
use lib.ListN.{length, take}
use Prim.Native.Nat.{ℕ, ◌-◌, ◌*◌}
use Rattle.relations.specs.Columns.{Pair, left_numbers}
use mathlib.Core.List.{List}
use mathlib.Core.Path.{◌≡◌, sym, ap, ◌∙◌}
use native.Mathlib.Omega.{arith}
use native.Mathlib.Omega.{arith}
use Rattle.division.proofs.divide.divide.Goals as goal
use Rattle.division.proofs.divide.divide.Goals.{After-remaining_columns-kept}

pub slice_bounds-divide_by-end : goal.slice_bounds-divide_by-end
slice_bounds-divide_by-end c = sym (length-take-le c.remaining_columns-kept.result c.remaining_columns-kept.new.columns (omega (arith, c.remaining_columns-kept.auto, c.remaining_columns-kept.ensures.0)))

-- the pairs of the list's front are those that it counts, and they leave as many columns
alone : (c : After-remaining_columns-kept) → pairs_of (take (c.args.count * 2) c.args.list.now) ≡ read_pairs c.args.count c.args.list.now
alone c = pairs_alone c.args.count c.args.list.now c.requires.count_in_bounds.0

left : (c : After-remaining_columns-kept) → take c.remaining_columns-kept.result c.remaining_columns-kept.new.columns ≡ columns_left 1 c.args.left.width (left_numbers (read_pairs c.args.count c.args.list.now))
left c = rw (alone c) at c.remaining_columns-kept.ensures.1

many : (c : After-remaining_columns-kept) → length (take c.remaining_columns-kept.result c.remaining_columns-kept.new.columns) ≡ c.args.left.width - c.args.count
many c =
    ap length (left c) ∙ left-count (read_pairs c.args.count c.args.list.now) c.args.left.width c.requires.so.0 c.requires.so.1
    ∙ ap (λ (n : ℕ). c.args.left.width - n) (pairs-count c.args.count c.args.list.now)

pub divide_by-requires : goal.divide_by-requires
divide_by-requires c = let p = c.requires.count_in_bounds in let d = (goal.at.divide_by-requires c).After-remaining_columns-kept in
    (omega (arith, many d), omega (arith, many d), (p.2, rw (alone d) c.requires.so.0, rw (alone d) c.requires.so.1), p.3, p.4, p.5, c.remaining_columns-kept.ensures.1, p.6)

pub returns : goal.returns
returns c = let s = c.args in let l = s.work.now in let ps = read_pairs s.count s.list.now in let d = (goal.at.returns c).After-remaining_columns-kept in
    builds_wide (many d)
    (builds_by (ap (λ (pairs : List Pair). quotient (take c.remaining_columns-kept.result c.remaining_columns-kept.new.columns) pairs (rows_of s.left l) (rows_of s.right l) (rows_of s.left l)) (alone d)
    ∙ ap (λ (columns : List ℕ). quotient columns ps (rows_of s.left l) (rows_of s.right l) (rows_of s.left l)) (left d)
    ∙ sym (divide-quotient ps s.left.width (rows_of s.left l) (rows_of s.right l) (rows_at-wide s.left.width s.left.rows s.left.base l (omega arith))))
    c.divide_by.ensures)
