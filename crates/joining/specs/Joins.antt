-- The rows that one left row gives to a join.
use Rattle.std.specs.Prelude.{Bool, List, ◌++◌, map, ℕ, ◌+◌, ◌*◌, ◌≤◌, ◌<◌, length}
use Rattle.relations.specs.Limits.{column_limit}
use Rattle.relations.specs.Lists.{filter}
use Rattle.relations.specs.Rows.{Row}
use Rattle.relations.specs.Values.{Rows, Ascending}
use Rattle.values.specs.Words.{row_in, rows_at}
use Rattle.joining.specs.declared.join.Pair.{Pair}

-- a left row before each right row that passes
abbrev pub joined : (Row → Bool) → Row → Rows → Rows
joined test t right = map (λ s. t ++ s) (filter test right)

-- a pair's left row with its right row behind it
abbrev pub beside : Pair → List ℕ → Row
beside pair work = row_in work pair.left pair.width ++ row_in work pair.right pair.more

abbrev pub pair_width : Pair → ℕ
pair_width pair = pair.width + pair.more

-- its rows stand in front of a value of such rows, which ascends
abbrev pub PairFits : Pair → (out made : ℕ) → List ℕ → Type 0
PairFits pair out made work =
    (0 < pair.width) × (pair_width pair ≤ column_limit) × (pair.left + pair.width ≤ out) × (pair.right + pair.more ≤ out) × (out + made * pair_width pair ≤ length work) × Ascending (rows_at (pair_width pair) made out work)
