-- Each operation's value has exactly the rows of its published meaning, each once and in order.
use mathlib.Core.Path.{◌≡◌, refl, ◌∙◌}
use mathlib.Core.Bool.{Bool, not, ◌&&◌}
use mathlib.Core.List.{List, ◌++◌, map}
use Prim.Native.Nat.{ℕ}
use lib.Dec.{leb}
use Rattle.relations.specs.Lists.{any, all, filter, how_many}
use Rattle.relations.specs.Rows.{Row, same_row, begins}
use Rattle.relations.specs.Values.{Rows, member, canonical}
use Rattle.relations.specs.Comparison.{Operator, holds}
use Rattle.relations.specs.Columns.{Attribute, Constant, Triple, Pair, column, pick, meets, remaining}
use Rattle.relations.specs.Meanings.{load_has, project_has, select_constant_has, select_attribute_has, join_has, semijoin_has, antijoin_has, partnered, divide_has, unite_has, intersect_has, subtract_has, tally_has}
use Rattle.relations.specs.Operations.{Exactly, load_candidates, project_candidates, select_constant_candidates, select_attribute_candidates, join_candidates, semijoin_candidates, antijoin_candidates, divide_candidates, unite_candidates, intersect_candidates, subtract_candidates, tally_candidates}
use Rattle.relations.specs.Values.{Tables}
use Rattle.relations.specs.Nodes.{Node, load, project, select_constant, select_attribute, join, semijoin, antijoin, divide, unite, intersect, subtract, tally}
use Rattle.relations.specs.Plan.{value_at, node_has, value_of_node}
use Rattle.relations.proofs.ListLaws.{any_append, any-filter, any-flat, any-map, any_same}
use Rattle.relations.proofs.ValueLaws.{ascending-canonical, member-canonical, member_filter, member-map}

pub exactly-candidates : (has : Row → Bool) (rows : Rows) → ((row : Row) → member row rows ≡ has row) → Exactly has (canonical rows)
exactly-candidates has rows same = record { ascending = ascending-canonical rows; members = λ row. member-canonical row rows ∙ same row }

kept : (test : Row → Bool) (left : Rows) → Exactly (λ row. member row left && test row) (canonical (filter test left))
kept test left = exactly-candidates (λ row. member row left && test row) (filter test left) (λ row. member_filter row test left)

pub load_exact : (stored : Rows) → Exactly (load_has stored) (canonical (load_candidates stored))
load_exact stored = exactly-candidates (load_has stored) stored (λ row. refl)

pub project_exact : (attributes : List Attribute) (left : Rows) → Exactly (project_has attributes left) (canonical (project_candidates attributes left))
project_exact attributes left = exactly-candidates (project_has attributes left) (project_candidates attributes left) (λ row. member-map row (pick attributes) left)

pub select_constant_exact : (a : Attribute) (o : Operator) (c : Constant) (left : Rows) → Exactly (select_constant_has a o c left) (canonical (select_constant_candidates a o c left))
select_constant_exact a o c left = kept (λ t. holds o (column t a) c.value) left

pub select_attribute_exact : (a : Attribute) (o : Operator) (b : Attribute) (left : Rows) → Exactly (select_attribute_has a o b left) (canonical (select_attribute_candidates a o b left))
select_attribute_exact a o b left = kept (λ t. holds o (column t a) (column t b)) left

-- any row of a join, by its two parts
pub any-joined : (test : Row → Bool) (triples : List Triple) (left right : Rows) → any test (join_candidates triples left right) ≡ any (λ t. any (λ s. meets triples t s && test (t ++ s)) right) left
any-joined test triples left right = any-flat test (λ t. map (λ s. t ++ s) (filter (meets triples t) right)) left ∙ any_same (λ t. any test (map (λ s. t ++ s) (filter (meets triples t) right))) (λ t. any (λ s. meets triples t s && test (t ++ s)) right) each left
  where
    each : (t : Row) → any test (map (λ s. t ++ s) (filter (meets triples t) right)) ≡ any (λ s. meets triples t s && test (t ++ s)) right
    each t = any-map test (λ s. t ++ s) (filter (meets triples t) right) ∙ any-filter (meets triples t) (λ s. test (t ++ s)) right

pub join_exact : (triples : List Triple) (left right : Rows) → Exactly (join_has triples left right) (canonical (join_candidates triples left right))
join_exact triples left right = exactly-candidates (join_has triples left right) (join_candidates triples left right) (λ row. any-joined (same_row row) triples left right)

pub semijoin_exact : (triples : List Triple) (left right : Rows) → Exactly (semijoin_has triples left right) (canonical (semijoin_candidates triples left right))
semijoin_exact triples left right = kept (λ t. any (meets triples t) right) left

pub antijoin_exact : (triples : List Triple) (left right : Rows) → Exactly (antijoin_has triples left right) (canonical (antijoin_candidates triples left right))
antijoin_exact triples left right = kept (λ t. not (any (meets triples t) right)) left

pub divide_exact : (pairs : List Pair) (left right : Rows) → Exactly (divide_has pairs left right) (canonical (divide_candidates pairs left right))
divide_exact pairs left right = exactly-candidates (divide_has pairs left right) (divide_candidates pairs left right) (λ row. member-map row (remaining pairs) (filter passes left) ∙ any-filter passes (λ t. same_row row (remaining pairs t)) left)
  where
    passes : Row → Bool
    passes t = all (partnered pairs left t) right

pub unite_exact : (left right : Rows) → Exactly (unite_has left right) (canonical (unite_candidates left right))
unite_exact left right = exactly-candidates (unite_has left right) (unite_candidates left right) (λ row. any_append (same_row row) left right)

pub intersect_exact : (left right : Rows) → Exactly (intersect_has left right) (canonical (intersect_candidates left right))
intersect_exact left right = kept (λ t. member t right) left

pub subtract_exact : (left right : Rows) → Exactly (subtract_has left right) (canonical (subtract_candidates left right))
subtract_exact left right = kept (λ t. not (member t right)) left

pub tally_exact : (least : ℕ) (left right : Rows) → Exactly (tally_has least left right) (canonical (tally_candidates least left right))
tally_exact least left right = kept (λ t. leb least (how_many (begins t) right)) left

pub node_exact : (tables : Tables) (made : List Rows) (node : Node) → Exactly (node_has tables made node) (value_of_node tables made node)
node_exact tables made (load relation) = load_exact (tables relation)
node_exact tables made (project left attributes) = project_exact attributes (value_at made left)
node_exact tables made (select_constant left a operator c) = select_constant_exact a operator c (value_at made left)
node_exact tables made (select_attribute left a operator b) = select_attribute_exact a operator b (value_at made left)
node_exact tables made (join left right triples) = join_exact triples (value_at made left) (value_at made right)
node_exact tables made (semijoin left right triples) = semijoin_exact triples (value_at made left) (value_at made right)
node_exact tables made (antijoin left right triples) = antijoin_exact triples (value_at made left) (value_at made right)
node_exact tables made (divide left right pairs) = divide_exact pairs (value_at made left) (value_at made right)
node_exact tables made (unite left right) = unite_exact (value_at made left) (value_at made right)
node_exact tables made (intersect left right) = intersect_exact (value_at made left) (value_at made right)
node_exact tables made (subtract left right) = subtract_exact (value_at made left) (value_at made right)
node_exact tables made (tally left right least) = tally_exact least (value_at made left) (value_at made right)
