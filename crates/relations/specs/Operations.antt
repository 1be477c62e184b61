-- The operations as values: the candidate rows of each, in the order in which a machine would offer them; an operation's value is the set of its candidates.
-- That a value has exactly the rows of its published meaning (Meanings) is proved in proofs/OperationLaws.
use Rattle.std.specs.Prelude.{◌≡◌, Bool, not, List, ◌++◌, map, ℕ, leb}
use Rattle.relations.specs.Lists.{any, all, filter, how_many, flat}
use Rattle.relations.specs.Rows.{Row, begins}
use Rattle.relations.specs.Values.{Rows, member, Ascending}
use Rattle.relations.specs.Comparison.{Operator, holds}
use Rattle.relations.specs.Columns.{Attribute, Constant, Triple, Pair, column, pick, meets, remaining}
use Rattle.relations.specs.Meanings.{partnered}

-- what is claimed of every operation: its value has exactly the rows of its meaning, each once and in order
pub record Exactly (has : Row → Bool) (value : Rows) : Type 0 where
  pub ascending : Ascending value
  pub members : (row : Row) → member row value ≡ has row

-- the stored rows
abbrev pub load_candidates : Rows → Rows
load_candidates stored = stored

-- the picked columns of each left row
abbrev pub project_candidates : List Attribute → Rows → Rows
project_candidates attributes left = map (pick attributes) left

-- the left rows that are kept: so in all of 3, 4, 6, 7, 10, 11 and 13
abbrev pub select_constant_candidates : Attribute → Operator → Constant → Rows → Rows
select_constant_candidates a operator c left = filter (λ t. holds operator (column t a) c.value) left

abbrev pub select_attribute_candidates : Attribute → Operator → Attribute → Rows → Rows
select_attribute_candidates a operator b left = filter (λ t. holds operator (column t a) (column t b)) left

-- for each left row, itself before each right row that it meets
abbrev pub join_candidates : List Triple → Rows → Rows → Rows
join_candidates triples left right = flat (λ t. map (λ s. t ++ s) (filter (meets triples t) right)) left

abbrev pub semijoin_candidates : List Triple → Rows → Rows → Rows
semijoin_candidates triples left right = filter (λ t. any (meets triples t) right) left

abbrev pub antijoin_candidates : List Triple → Rows → Rows → Rows
antijoin_candidates triples left right = filter (λ t. not (any (meets triples t) right)) left

-- the remaining columns of each left row that passes
abbrev pub divide_candidates : List Pair → Rows → Rows → Rows
divide_candidates pairs left right = map (remaining pairs) (filter (λ t. all (partnered pairs left t) right) left)

-- the left rows, then the right rows
abbrev pub unite_candidates : Rows → Rows → Rows
unite_candidates left right = left ++ right

abbrev pub intersect_candidates : Rows → Rows → Rows
intersect_candidates left right = filter (λ t. member t right) left

abbrev pub subtract_candidates : Rows → Rows → Rows
subtract_candidates left right = filter (λ t. not (member t right)) left

abbrev pub tally_candidates : ℕ → Rows → Rows → Rows
tally_candidates least left right = filter (λ t. leb least (how_many (begins t) right)) left
