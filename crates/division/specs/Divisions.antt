-- A division by the columns that remain: `remaining pairs` is `pick` of their numbers (proofs/DivisionLaws, remaining_picked).
use Rattle.std.specs.Prelude.{◌≡◌, Bool, cond, List, [], ◌∷◌, map, ℕ, zero, suc, ◌-◌, ◌/◌, ◌≤◌, ◌<◌, length, set}
use Rattle.std.proofs.Math.Bool.{So}
use Rattle.relations.specs.Limits.{column_limit}
use Rattle.relations.specs.Lists.{all, filter, All}
use Rattle.relations.specs.Legality.{distinct}
use Rattle.relations.specs.Meanings.{partnered}
use Rattle.relations.specs.PlanWords.{read_pairs}
use Rattle.relations.specs.Rows.{Row}
use Rattle.relations.specs.Values.{Rows, Ascending}
use Rattle.values.specs.Words.{rows_of, end}
use Rattle.values.specs.declared.rows.Value.{Value}
use Rattle.relations.specs.Columns.{Pair, attribute, column, pick, listed, left_numbers}

-- all pairs of list words that have no others
abbrev pub pairs_of : List ℕ → List Pair
pairs_of list = read_pairs (length list / 2) list

-- of so many columns from a number on, the numbers that are not listed
abbrev pub columns_left : (number width : ℕ) → List ℕ → List ℕ
columns_left number zero numbers = []
columns_left number (suc width) numbers = cond (listed number numbers) (columns_left (suc number) width numbers) (number ∷ columns_left (suc number) width numbers)

-- the columns of a row that remain
abbrev pub kept : List ℕ → Row → Row
kept columns row = pick (map attribute columns) row

-- t with the columns of r at the pairs' left attributes
abbrev pub with_pairs : List Pair → Row → Row → Row
with_pairs [] t r = t
with_pairs (pair ∷ pairs) t r = with_pairs pairs (set t (pair.left.number - 1) (column r pair.right)) r

-- every right row has a left row that agrees with t on the remaining columns and equals it on the pairs
abbrev pub divides : List Pair → Rows → Rows → Row → Bool
divides pairs left right t = all (partnered pairs left t) right

-- of some rows of the left value, the remaining columns of those that pass
abbrev pub quotient : List ℕ → List Pair → Rows → Rows → Rows → Rows
quotient columns pairs left right rows = map (kept columns) (filter (divides pairs left right) rows)

-- what the pairs ask of a left value of that width: their left attributes are different columns of it
abbrev pub PairsFit : (pairs : List ℕ) (width : ℕ) → Type 0
PairsFit pairs width = (width ≤ column_limit) × So (distinct (left_numbers (pairs_of pairs))) × All (λ number. (1 ≤ number) × (number ≤ width)) (left_numbers (pairs_of pairs))

-- what a division asks of its operands: the columns left are those that are no pair's, and there are some; both values stand in front of `out`, and
-- the left one can be searched
abbrev pub DivisionFits : (columns pairs : List ℕ) (left right : Value) (out : ℕ) (work : List ℕ) → Type 0
DivisionFits columns pairs left right out work =
    (0 < length columns) × (length columns ≤ column_limit) × PairsFit pairs left.width × (end left ≤ out) × (end right ≤ out) × (out ≤ length work)
    × (columns ≡ columns_left 1 left.width (left_numbers (pairs_of pairs))) × Ascending (rows_of left work)
