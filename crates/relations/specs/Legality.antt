-- Legal plans: what refusal 9 leaves. Document 01, "The plan" and "Refusal numbers".
-- What a node's 36 words must be besides (known operation and operators, unused words 0) is PlanWords' part.
use Rattle.std.specs.Prelude.{Bool, true, not, ◌&&◌, List, [], ◌∷◌, ◌++◌, ℕ, ◌+◌, ◌≤◌, ◌<◌, ltb, leb, eqb, length}
use Rattle.relations.specs.Limits.{column_limit, triple_limit, pair_limit, plan_node_limit}
use Rattle.relations.specs.Lists.{all}
use Rattle.relations.specs.Values.{Tables, Wide}
use Rattle.relations.specs.Columns.{Attribute, Triple, Pair, listed, left_numbers}
use Rattle.relations.specs.Nodes.{Node, load, project, select_constant, select_attribute, join, semijoin, antijoin, divide, unite, intersect, subtract, tally}
use Rattle.relations.specs.Plan.{width_at, width_of_node, values, widths, value_at}

abbrev pub between : ℕ → ℕ → ℕ → Bool
between least most count = leb least count && leb count most

-- an attribute of a side that is so wide
abbrev pub inside : ℕ → Attribute → Bool
inside width a = between 1 width a.number

abbrev pub triple_inside : ℕ → ℕ → Triple → Bool
triple_inside leftWidth rightWidth t = inside leftWidth t.left && inside rightWidth t.right

abbrev pub pair_inside : ℕ → ℕ → Pair → Bool
pair_inside leftWidth rightWidth p = inside leftWidth p.left && inside rightWidth p.right

abbrev pub distinct : List ℕ → Bool
distinct [] = true
distinct (x ∷ xs) = not (listed x xs) && distinct xs

-- references point to lower nodes, of which there are as many as widths
abbrev pub lower : List ℕ → ℕ → Bool
lower made place = ltb place (length made)

-- 5, 6 and 7: two references, "count 0 to 8 triples", attributes on their sides
abbrev pub legal_triples : List ℕ → ℕ → ℕ → List Triple → Bool
legal_triples made left right triples = lower made left && (lower made right && (leb (length triples) triple_limit && all (triple_inside (width_at made left) (width_at made right)) triples))

-- 9, 10 and 11: two references of equal widths
abbrev pub legal_sides : List ℕ → ℕ → ℕ → Bool
legal_sides made left right = lower made left && (lower made right && eqb (width_at made left) (width_at made right))

-- 13: two references, the right one wider, "count 1 holding k", which is at least 1
abbrev pub legal_tally : List ℕ → ℕ → ℕ → ℕ → Bool
legal_tally made left right least = lower made left && (lower made right && (ltb (width_at made left) (width_at made right) && leb 1 least))

-- a node, given how many relations there are and the widths of the nodes before it
-- only a join is wider than what it reads, so only it can pass the column limit
abbrev pub legal_node : ℕ → List ℕ → Node → Bool
legal_node relations made (load relation) = ltb relation relations
legal_node relations made (project left attributes) = lower made left && (between 1 column_limit (length attributes) && all (inside (width_at made left)) attributes)
legal_node relations made (select_constant left a operator c) = lower made left && inside (width_at made left) a
legal_node relations made (select_attribute left a operator b) = lower made left && (inside (width_at made left) a && inside (width_at made left) b)
legal_node relations made (join left right triples) = legal_triples made left right triples && leb (width_at made left + width_at made right) column_limit
legal_node relations made (semijoin left right triples) = legal_triples made left right triples
legal_node relations made (antijoin left right triples) = legal_triples made left right triples
legal_node relations made (divide left right pairs) = lower made left && (lower made right && (between 1 pair_limit (length pairs) && (all (pair_inside (width_at made left) (width_at made right)) pairs && (distinct (left_numbers pairs) && ltb (length pairs) (width_at made left)))))
legal_node relations made (unite left right) = legal_sides made left right
legal_node relations made (intersect left right) = legal_sides made left right
legal_node relations made (subtract left right) = legal_sides made left right
legal_node relations made (tally left right least) = legal_tally made left right least

-- columns: the catalogue's columns of each relation
module _ (columns : ℕ → ℕ) (relations : ℕ) where
  -- every node, given the widths of what stands before them
  unfoldable pub legal_nodes : List ℕ → List Node → Bool
  legal_nodes made [] = true
  legal_nodes made (node ∷ nodes) = legal_node relations made node && legal_nodes (made ++ (width_of_node columns made node ∷ [])) nodes

  -- "1 to 256 nodes", every one legal
  abbrev pub legal_plan : List Node → Bool
  legal_plan plan = between 1 plan_node_limit (length plan) && legal_nodes [] plan

-- what legality gives: over tables of the catalogue's widths every value has its node's width
pub record WidthsKept (columns : ℕ → ℕ) (plan : List Node) : Type 0 where
  pub kept : (tables : Tables) → ((relation : ℕ) → Wide (columns relation) (tables relation)) → (place : ℕ) → Wide (width_at (widths columns plan) place) (value_at (values tables plan) place)

-- "No value is over 32 columns"; and none has no column
pub record WidthsNarrow (columns : ℕ → ℕ) (plan : List Node) : Type 0 where
  pub narrow : (place : ℕ) → place < length plan → (1 ≤ width_at (widths columns plan) place) × (width_at (widths columns plan) place ≤ column_limit)
