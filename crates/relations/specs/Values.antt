-- Values. Document 01, "What the desk holds": "Each value worked out is listed in ascending row order, first column first, without repeats."
use Rattle.std.specs.Prelude.{◌≡◌, Bool, true, false, List, [], ◌∷◌, ℕ, length}
use Rattle.std.proofs.Math.Bool.{So}
use Rattle.relations.specs.Lists.{any, All}
use Rattle.relations.specs.Rows.{Row, same_row, row_before}

abbrev pub Rows : Type 0
Rows = List Row

-- the stored rows of each relation, by its number from 0
abbrev pub Tables : Type 0
Tables = ℕ → Rows

abbrev pub member : Row → Rows → Bool
member row rows = any (same_row row) rows

-- every one of the rows stands after the row
abbrev pub AllAfter : Row → Rows → Type 0
AllAfter row rows = All (λ other. So (row_before row other)) rows

-- ascending and without repeats
abbrev pub Ascending : Rows → Type 0
Ascending [] = Unit {0}
Ascending (row ∷ rows) = AllAfter row rows × Ascending rows

-- the same, said of neighbours alone
abbrev pub NeighboursAscend : Rows → Type 0
NeighboursAscend [] = Unit {0}
NeighboursAscend (row ∷ []) = Unit {0}
NeighboursAscend (row ∷ next ∷ rows) = So (row_before row next) × NeighboursAscend (next ∷ rows)

-- every row has that many columns
abbrev pub Wide : ℕ → Rows → Type 0
Wide width rows = All (λ row. length row ≡ width) rows

-- a row put in its place; a row that is there already is not put in again
abbrev pub insert_row : Row → Rows → Rows
insert_row row [] = row ∷ []
insert_row row (first ∷ rows) = elim (row_before row first) [
  | true ↦ row ∷ first ∷ rows
  | false ↦ elim (same_row row first) [ true ↦ first ∷ rows | false ↦ first ∷ insert_row row rows ]
]

-- the set of the rows, as a value
abbrev pub canonical : Rows → Rows
canonical [] = []
canonical (row ∷ rows) = insert_row row (canonical rows)

-- rows put into a value one by one, in their order: what a machine does with its candidates (proofs/PlaceLaws: the same set)
abbrev pub place_rows : Rows → Rows → Rows
place_rows [] made = made
place_rows (row ∷ rows) made = place_rows rows (insert_row row made)
