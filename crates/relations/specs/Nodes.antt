-- The nodes of a plan. Document 01, "The plan": left and right name lower nodes by their number from 0.
use Rattle.std.specs.Prelude.{Bool, cond, ◌&&◌, ◌||◌, List, ℕ, leb, eqb}
use Rattle.std.proofs.Math.Option.{Option, some, none}
use Rattle.relations.specs.Comparison.{Operator}
use Rattle.relations.specs.Columns.{Attribute, Constant, Triple, Pair}

pub data Node : Type 0 where
  load : ℕ → Node
  project : ℕ → List Attribute → Node
  select_constant : ℕ → Attribute → Operator → Constant → Node
  select_attribute : ℕ → Attribute → Operator → Attribute → Node
  join semijoin antijoin : ℕ → ℕ → List Triple → Node
  divide : ℕ → ℕ → List Pair → Node
  unite intersect subtract : ℕ → ℕ → Node
  -- 13: the left rows that begin at least so many right rows
  tally : ℕ → ℕ → ℕ → Node

-- a node's operation alone
pub data Operation : Type 0 where
  loading projecting selecting_constant selecting_attribute joining semijoining antijoining dividing uniting intersecting subtracting tallying : Operation

abbrev pub operation_of_node : Node → Operation
operation_of_node (load relation) = loading
operation_of_node (project left attributes) = projecting
operation_of_node (select_constant left a operator c) = selecting_constant
operation_of_node (select_attribute left a operator b) = selecting_attribute
operation_of_node (join left right triples) = joining
operation_of_node (semijoin left right triples) = semijoining
operation_of_node (antijoin left right triples) = antijoining
operation_of_node (divide left right pairs) = dividing
operation_of_node (unite left right) = uniting
operation_of_node (intersect left right) = intersecting
operation_of_node (subtract left right) = subtracting
operation_of_node (tally left right least) = tallying

abbrev pub operation_number : Operation → ℕ
operation_number loading = 1
operation_number projecting = 2
operation_number selecting_constant = 3
operation_number selecting_attribute = 4
operation_number joining = 5
operation_number semijoining = 6
operation_number antijoining = 7
operation_number dividing = 8
operation_number uniting = 9
operation_number intersecting = 10
operation_number subtracting = 11
operation_number tallying = 13

abbrev pub operation_of : ℕ → Option Operation
operation_of number =
    cond (eqb number 1) (some loading) (cond (eqb number 2) (some projecting) (cond (eqb number 3) (some selecting_constant) (cond (eqb number 4) (some selecting_attribute) (cond (eqb number 5) (some joining) (cond (eqb number 6) (some semijoining) (cond (eqb number 7) (some antijoining) (cond (eqb number 8) (some dividing) (cond (eqb number 9) (some uniting) (cond (eqb number 10) (some intersecting) (cond (eqb number 11) (some subtracting) (cond (eqb number 13) (some tallying) none)))))))))))

-- "Heavy operations are 5, 8, 9, 10 and 11; the rest are light."; document 02, item 8: "Plan operation 13, heavy".
abbrev pub heavy_number : ℕ → Bool
heavy_number number = eqb number 5 || (leb 8 number && leb number 11) || eqb number 13

abbrev pub heavy_operation : Operation → Bool
heavy_operation operation = heavy_number (operation_number operation)

-- what it adds to the number of heavy ones
abbrev pub weight_of : Bool → ℕ
weight_of isHeavy = cond isHeavy 1 0
