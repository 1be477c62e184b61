-- What a plan is worth: its values, their widths, its heavy operations, its room. Document 01, "The plan" and "Running".
use Rattle.std.specs.Prelude.{List, [], ◌∷◌, ℕ, ◌+◌, ◌*◌, ◌-◌, Bool, get_or, length}
use Rattle.relations.specs.Lists.{filter}
use Rattle.relations.specs.Rows.{Row}
use Rattle.relations.specs.Values.{Rows, Tables, canonical}
use Rattle.relations.specs.Meanings.{load_has, project_has, select_constant_has, select_attribute_has, join_has, semijoin_has, antijoin_has, divide_has, unite_has, intersect_has, subtract_has, tally_has}
use Rattle.relations.specs.Operations.{load_candidates, project_candidates, select_constant_candidates, select_attribute_candidates, join_candidates, semijoin_candidates, antijoin_candidates, divide_candidates, unite_candidates, intersect_candidates, subtract_candidates, tally_candidates}
use Rattle.relations.specs.Nodes.{Node, load, project, select_constant, select_attribute, join, semijoin, antijoin, divide, unite, intersect, subtract, tally, operation_of_node, heavy_operation}
use Rattle.relations.specs.Machine.{run, last_or}

-- the value of an earlier node
abbrev pub value_at : List Rows → ℕ → Rows
value_at made place = get_or made place []

module _ (tables : Tables) where
  abbrev pub candidates : List Rows → Node → Rows
  candidates made (load relation) = load_candidates (tables relation)
  candidates made (project left attributes) = project_candidates attributes (value_at made left)
  candidates made (select_constant left a operator c) = select_constant_candidates a operator c (value_at made left)
  candidates made (select_attribute left a operator b) = select_attribute_candidates a operator b (value_at made left)
  candidates made (join left right triples) = join_candidates triples (value_at made left) (value_at made right)
  candidates made (semijoin left right triples) = semijoin_candidates triples (value_at made left) (value_at made right)
  candidates made (antijoin left right triples) = antijoin_candidates triples (value_at made left) (value_at made right)
  candidates made (divide left right pairs) = divide_candidates pairs (value_at made left) (value_at made right)
  candidates made (unite left right) = unite_candidates (value_at made left) (value_at made right)
  candidates made (intersect left right) = intersect_candidates (value_at made left) (value_at made right)
  candidates made (subtract left right) = subtract_candidates (value_at made left) (value_at made right)
  candidates made (tally left right least) = tally_candidates least (value_at made left) (value_at made right)

  -- the published meaning of a node, given the values before it
  abbrev pub node_has : List Rows → Node → Row → Bool
  node_has made (load relation) = load_has (tables relation)
  node_has made (project left attributes) = project_has attributes (value_at made left)
  node_has made (select_constant left a operator c) = select_constant_has a operator c (value_at made left)
  node_has made (select_attribute left a operator b) = select_attribute_has a operator b (value_at made left)
  node_has made (join left right triples) = join_has triples (value_at made left) (value_at made right)
  node_has made (semijoin left right triples) = semijoin_has triples (value_at made left) (value_at made right)
  node_has made (antijoin left right triples) = antijoin_has triples (value_at made left) (value_at made right)
  node_has made (divide left right pairs) = divide_has pairs (value_at made left) (value_at made right)
  node_has made (unite left right) = unite_has (value_at made left) (value_at made right)
  node_has made (intersect left right) = intersect_has (value_at made left) (value_at made right)
  node_has made (subtract left right) = subtract_has (value_at made left) (value_at made right)
  node_has made (tally left right least) = tally_has least (value_at made left) (value_at made right)

  -- a node's value, given the values before it: exactly the rows of its meaning (proofs/OperationLaws, node_exact)
  abbrev pub value_of_node : List Rows → Node → Rows
  value_of_node made node = canonical (candidates made node)

  -- all values of a plan
  abbrev pub values : List Node → List Rows
  values plan = run value_of_node [] plan

  -- "the last node is the answer"
  abbrev pub answer : List Node → Rows
  answer plan = last_or [] (values plan)

-- the width of an earlier node
abbrev pub width_at : List ℕ → ℕ → ℕ
width_at made place = get_or made place 0

module _ (columns : ℕ → ℕ) where
  -- a node's width, given the widths before it
  abbrev pub width_of_node : List ℕ → Node → ℕ
  width_of_node made (load relation) = columns relation
  width_of_node made (project left attributes) = length attributes
  width_of_node made (select_constant left a operator c) = width_at made left
  width_of_node made (select_attribute left a operator b) = width_at made left
  width_of_node made (join left right triples) = width_at made left + width_at made right
  width_of_node made (semijoin left right triples) = width_at made left
  width_of_node made (antijoin left right triples) = width_at made left
  width_of_node made (divide left right pairs) = width_at made left - length pairs
  width_of_node made (unite left right) = width_at made left
  width_of_node made (intersect left right) = width_at made left
  width_of_node made (subtract left right) = width_at made left
  width_of_node made (tally left right least) = width_at made left

  abbrev pub widths : List Node → List ℕ
  widths plan = run width_of_node [] plan

abbrev pub heavy_node : Node → Bool
heavy_node node = heavy_operation (operation_of_node node)

-- the number of heavy operations
abbrev pub heavy : List Node → ℕ
heavy plan = length (filter heavy_node plan)

-- the words of a value: rows x columns
abbrev pub value_words : ℕ → Rows → ℕ
value_words width rows = length rows * width

-- "Room is the sum of rows x columns over all plan nodes, loads included."
abbrev pub room_of : List ℕ → List Rows → ℕ
room_of [] made = 0
room_of (width ∷ widths) [] = 0
room_of (width ∷ widths) (rows ∷ made) = value_words width rows + room_of widths made

abbrev pub room : (ℕ → ℕ) → Tables → List Node → ℕ
room columns tables plan = room_of (widths columns plan) (values tables plan)
