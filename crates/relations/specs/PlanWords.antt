-- A node's 36 words: op, left, right, count, then the list; unused words 0. Document 01, "The plan"; RULINGS 10.
use Rattle.std.specs.Prelude.{◌≡◌, Bool, true, false, ◌&&◌, ◌||◌, cond, List, [], ◌∷◌, ◌++◌, map, ℕ, zero, suc, ◌*◌, ◌-◌, eqb, get_or, length, take, drop, replicate}
use Rattle.std.proofs.Math.Bool.{So}
use Rattle.std.proofs.Math.Option
use Rattle.std.proofs.Math.Option.{Option, some, none}
use Rattle.relations.specs.Limits.{column_limit, plan_node_words, head_words, list_words, triple_limit, pair_limit}
use Rattle.relations.specs.Lists.{all, flat}
use Rattle.relations.specs.Comparison.{Operator, operator_number, operator_of}
use Rattle.relations.specs.Columns.{attribute, constant, Triple, Pair}
use Rattle.relations.specs.Nodes.{Node, load, project, select_constant, select_attribute, join, semijoin, antijoin, divide, unite, intersect, subtract, tally, Operation, loading, projecting, selecting_constant, selecting_attribute, joining, semijoining, antijoining, dividing, uniting, intersecting, subtracting, tallying, operation_of_node, operation_number, operation_of}
use Rattle.relations.specs.Legality.{between}

-- which words of a node its operation uses
pub record Shape : Type 0 where
  pub uses_right : Bool
  pub least_count : ℕ
  pub most_count : ℕ
  -- list words for each one counted
  pub unit : ℕ

abbrev pub shape_of : Operation → Shape
shape_of loading = record { uses_right = false; least_count = 0; most_count = 0; unit = 0 }
shape_of projecting = record { uses_right = false; least_count = 1; most_count = column_limit; unit = 1 }
shape_of selecting_constant = record { uses_right = false; least_count = 1; most_count = 1; unit = 3 }
shape_of selecting_attribute = record { uses_right = false; least_count = 1; most_count = 1; unit = 3 }
shape_of joining = record { uses_right = true; least_count = 0; most_count = triple_limit; unit = 3 }
shape_of semijoining = record { uses_right = true; least_count = 0; most_count = triple_limit; unit = 3 }
shape_of antijoining = record { uses_right = true; least_count = 0; most_count = triple_limit; unit = 3 }
shape_of dividing = record { uses_right = true; least_count = 1; most_count = pair_limit; unit = 2 }
shape_of uniting = record { uses_right = true; least_count = 0; most_count = 0; unit = 0 }
shape_of intersecting = record { uses_right = true; least_count = 0; most_count = 0; unit = 0 }
shape_of subtracting = record { uses_right = true; least_count = 0; most_count = 0; unit = 0 }
shape_of tallying = record { uses_right = true; least_count = 1; most_count = 1; unit = 1 }

-- writing

abbrev pub triple_words : Triple → List ℕ
triple_words t = t.left.number ∷ operator_number t.operator ∷ t.right.number ∷ []

abbrev pub pair_words : Pair → List ℕ
pair_words p = p.left.number ∷ p.right.number ∷ []

-- left, right, count and the used list words of a node
pub record Parts : Type 0 where
  pub left : ℕ
  pub right : ℕ
  pub count : ℕ
  pub list : List ℕ

abbrev pub parts_of : Node → Parts
parts_of (load relation) = record { left = relation; right = 0; count = 0; list = [] }
parts_of (project l attributes) = record { left = l; right = 0; count = length attributes; list = map (λ a. a.number) attributes }
parts_of (select_constant l a operator c) = record { left = l; right = 0; count = 1; list = a.number ∷ operator_number operator ∷ c.value ∷ [] }
parts_of (select_attribute l a operator b) = record { left = l; right = 0; count = 1; list = a.number ∷ operator_number operator ∷ b.number ∷ [] }
parts_of (join l r triples) = record { left = l; right = r; count = length triples; list = flat triple_words triples }
parts_of (semijoin l r triples) = record { left = l; right = r; count = length triples; list = flat triple_words triples }
parts_of (antijoin l r triples) = record { left = l; right = r; count = length triples; list = flat triple_words triples }
parts_of (divide l r pairs) = record { left = l; right = r; count = length pairs; list = flat pair_words pairs }
parts_of (unite l r) = record { left = l; right = r; count = 0; list = [] }
parts_of (intersect l r) = record { left = l; right = r; count = 0; list = [] }
parts_of (subtract l r) = record { left = l; right = r; count = 0; list = [] }
parts_of (tally l r least) = record { left = l; right = r; count = 1; list = least ∷ [] }

abbrev pub parts_words : ℕ → Parts → List ℕ
parts_words number parts = number ∷ parts.left ∷ parts.right ∷ parts.count ∷ (parts.list ++ replicate (list_words - length parts.list) 0)

abbrev pub node_words : Node → List ℕ
node_words node = parts_words (operation_number (operation_of_node node)) (parts_of node)

-- a node whose count is within its operation's bounds
abbrev pub count_fits : Node → Bool
count_fits node = between (shape_of (operation_of_node node)).least_count (shape_of (operation_of_node node)).most_count (parts_of node).count

-- reading

abbrev pub all_zero : List ℕ → Bool
all_zero words = all (eqb 0) words

-- right is 0 where it is unused, the count within its bounds, every list word behind the used ones 0
abbrev pub shape_fits : Shape → ℕ → ℕ → List ℕ → Bool
shape_fits shape right count list = (shape.uses_right || eqb right 0) && (between shape.least_count shape.most_count count && all_zero (drop (shape.unit * count) list))

-- a node with one operator, or none if its number is outside 1 to 6
abbrev pub with_operator : ℕ → (Operator → Node) → Option Node
with_operator number make = Option.map make (operator_of number)

-- a triple from the front of the list, before the triples behind it
abbrev pub triple_before : Option Operator → List ℕ → Option (List Triple) → Option (List Triple)
triple_before none list behind = none
triple_before (some o) list behind = Option.map (λ triples. record { left = attribute (get_or list 0 0); operator = o; right = attribute (get_or list 2 0) } ∷ triples) behind

-- so many triples from the front of the list; none if an operator's number is outside 1 to 6
abbrev pub read_triples : ℕ → List ℕ → Option (List Triple)
read_triples zero list = some []
read_triples (suc count) list = triple_before (operator_of (get_or list 1 0)) list (read_triples count (drop 3 list))

abbrev pub read_pairs : ℕ → List ℕ → List Pair
read_pairs zero list = []
read_pairs (suc count) list = record { left = attribute (get_or list 0 0); right = attribute (get_or list 1 0) } ∷ read_pairs count (drop 2 list)

abbrev pub read_parts : Operation → ℕ → ℕ → ℕ → List ℕ → Option Node
read_parts loading left right count list = some (load left)
read_parts projecting left right count list = some (project left (map attribute (take count list)))
read_parts selecting_constant left right count list = with_operator (get_or list 1 0) (λ o. select_constant left (attribute (get_or list 0 0)) o (constant (get_or list 2 0)))
read_parts selecting_attribute left right count list = with_operator (get_or list 1 0) (λ o. select_attribute left (attribute (get_or list 0 0)) o (attribute (get_or list 2 0)))
read_parts joining left right count list = Option.map (join left right) (read_triples count list)
read_parts semijoining left right count list = Option.map (semijoin left right) (read_triples count list)
read_parts antijoining left right count list = Option.map (antijoin left right) (read_triples count list)
read_parts dividing left right count list = some (divide left right (read_pairs count list))
read_parts uniting left right count list = some (unite left right)
read_parts intersecting left right count list = some (intersect left right)
read_parts subtracting left right count list = some (subtract left right)
read_parts tallying left right count list = some (tally left right (get_or list 0 0))

abbrev pub read_known : Option Operation → List ℕ → Option Node
read_known none words = none
read_known (some operation) words = cond (shape_fits (shape_of operation) (get_or words 2 0) (get_or words 3 0) (drop head_words words)) (read_parts operation (get_or words 1 0) (get_or words 2 0) (get_or words 3 0) (drop head_words words)) none

-- the node that the words stand for; none for an unknown operation, an operator outside 1 to 6, a count outside its bounds, or an unused word that is not 0
abbrev pub read_node : List ℕ → Option Node
read_node words = read_known (operation_of (get_or words 0 0)) words

-- what is claimed of both
pub record WordsAndBack : Type 0 where
  pub size : (node : Node) → So (count_fits node) → length (node_words node) ≡ plan_node_words
  pub back : (node : Node) → So (count_fits node) → read_node (node_words node) ≡ some node
  pub only : (words : List ℕ) (node : Node) → length words ≡ plan_node_words → read_node words ≡ some node → So (count_fits node) × (node_words node ≡ words)
