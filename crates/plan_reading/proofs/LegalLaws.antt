-- Legality of a decoded node, asked of its words: an arm of `legal_node` for each law. Assumes nothing.
use Prim.Native.Nat.{ℕ, ◌+◌, ◌≤◌}
use mathlib.Core.Path.{◌≡◌, refl, sym, ap, ◌∙◌}
use mathlib.Core.Bool.{Bool, ◌&&◌, So, and-true}
use mathlib.Core.List.{List, [], map}
use mathlib.Core.Option
use mathlib.Core.Option.{Option, some, none}
use native.Mathlib.Omega.{arith}
use lib.Dec.{ltb, leb}
use lib.ListN.{get_or, length, take, drop, length-map, length-drop}
use lib.Seq.{drop-drop, length-take-le}
use borrow.Author.Tests.{le-leb}
use Rattle.relations.specs.Limits.{column_limit, triple_limit, pair_limit, plan_node_words, head_words}
use Rattle.relations.specs.Lists.{all}
use Rattle.relations.specs.Comparison.{Operator, operator_of}
use Rattle.relations.specs.Columns.{Triple, attribute, constant}
use Rattle.relations.specs.Nodes as nodes
use Rattle.relations.specs.Nodes.{join, semijoin, antijoin, select_constant, select_attribute}
use Rattle.relations.specs.Plan.{width_at}
use Rattle.relations.specs.Legality.{between, lower, legal_triples, legal_sides, legal_tally}
use Rattle.relations.specs.PlanWords.{shape_of, read_triples, read_parts, read_node}
use Rattle.plan_reading.specs.Decoding.{spaced, operation_in, fits, plan_head, head_read}
use Rattle.plan_reading.specs.Judging.{legal_read}
use Rattle.plan_reading.specs.Steps.{triples_legal, pairs_legal}
use Rattle.plan_reading.specs.declared.nodes.Operation.{Operation}
use Rattle.plan_reading.specs.declared.nodes.Operation.TheVariants.{Load, Project, SelectConstant, SelectAttribute, Join, Semijoin, Antijoin, Divide, Unite, Intersect, Subtract, Tally}
use Rattle.plan_reading.specs.declared.nodes.PlanNode.{PlanNode}
use Rattle.plan_reading.proofs.WordLaws.{get_d_front}
use Rattle.plan_reading.proofs.ShapeLaws.{count-least, count_most}
use Rattle.plan_reading.proofs.ListedLaws.{attributes_inside_lem, triples_are, triples_inside, pairs_many, pairs_lefts, pairs-inside}
use Rattle.plan_reading.proofs.DecodeLaws.{Stands, stands}

-- the thing that something read was made of
made_of : {A : Type 0} (make : A → nodes.Node) (read : Option A) (node : nodes.Node) → Option.map make read ≡ some node → (found : A) × (read ≡ some found)
made_of make none node e = let z : ◌≡◌ {A = ℕ} 0 1 = cc in absurd (omega arith)
made_of make (some found) node e = (found, refl)

-- a decoded node's legality by its operation
abbrev pub legal_made : (relations : ℕ) (made words : List ℕ) (plan : PlanNode) → Operation → Bool
legal_made relations made words plan Load = ltb plan.left relations
legal_made relations made words plan Project = lower made plan.left && all (between 1 (width_at made plan.left)) (spaced 1 plan.count (drop head_words words))
legal_made relations made words plan SelectConstant = lower made plan.left && all (between 1 (width_at made plan.left)) (spaced 3 1 (drop head_words words))
legal_made relations made words plan SelectAttribute = lower made plan.left && all (between 1 (width_at made plan.left)) (spaced 2 2 (drop head_words words))
legal_made relations made words plan Join = triples_legal made plan words && leb (width_at made plan.left + width_at made plan.right) column_limit
legal_made relations made words plan Semijoin = triples_legal made plan words
legal_made relations made words plan Antijoin = triples_legal made plan words
legal_made relations made words plan Divide = pairs_legal made plan words
legal_made relations made words plan Unite = legal_sides made plan.left plan.right
legal_made relations made words plan Intersect = legal_sides made plan.left plan.right
legal_made relations made words plan Subtract = legal_sides made plan.left plan.right
legal_made relations made words plan Tally = legal_tally made plan.left plan.right (get_or words head_words 0)

module _ (relations : ℕ) (made : List ℕ) (words : List ℕ) (plan : PlanNode) (stood : Stands words plan) where
  legal_parts : (operation : Operation) → plan.operation ≡ operation → legal_read relations made (read_node words) ≡ legal_read relations made (read_parts (operation_in operation) plan.left plan.right plan.count (drop head_words words))
  legal_parts operation o = ap (legal_read relations made) (stood.read ∙ sym stood.parts) ∙ rw o

  pub count-within : (operation : Operation) → plan.operation ≡ operation → ((shape_of (operation_in operation)).least_count ≤ plan.count) × (plan.count ≤ (shape_of (operation_in operation)).most_count)
  count-within operation o =
      let fit : So (fits (operation_in operation) words) = rw o at stood.fit in
      (rw stood.counts (count-least (operation_in operation) words fit), rw stood.counts (count_most (operation_in operation) words fit))

  legal-project : length words ≡ plan_node_words → plan.operation ≡ Project → legal_read relations made (read_node words) ≡ (lower made plan.left && all (between 1 (width_at made plan.left)) (spaced 1 plan.count (drop head_words words)))
  legal-project size o =
      let within : (1 ≤ plan.count) × (plan.count ≤ column_limit) = count-within Project o in
      let room : plan.count ≤ length (drop head_words words) = omega (arith, length-drop head_words words) in
      let many : length (map attribute (take plan.count (drop head_words words))) ≡ plan.count = length-map (take plan.count (drop head_words words)) attribute ∙ length-take-le plan.count (drop head_words words) room in
      legal_parts Project o ∙ rw (many, le-leb 1 plan.count within.0, le-leb plan.count column_limit within.1, attributes_inside_lem (width_at made plan.left) plan.count (drop head_words words) room)

  -- 3 and 4
  legal_select_constant : plan.operation ≡ SelectConstant → legal_read relations made (read_node words) ≡ (lower made plan.left && all (between 1 (width_at made plan.left)) (spaced 3 1 (drop head_words words)))
  unfolding spaced
  legal_select_constant o =
      let make : Operator → nodes.Node = λ operator. select_constant plan.left (attribute (get_or (drop head_words words) 0 0)) operator (constant (get_or (drop head_words words) 2 0)) in
      let found : (operator : Operator) × (operator_of (get_or (drop head_words words) 1 0) ≡ some operator) = made_of make (operator_of (get_or (drop head_words words) 1 0)) stood.node (rw o at stood.parts) in
      legal_parts SelectConstant o ∙ rw found.1 (ap (λ b. lower made plan.left && b) (sym (and-true (between 1 (width_at made plan.left) (get_or (drop head_words words) 0 0)))))

  legal_select_attribute : plan.operation ≡ SelectAttribute → legal_read relations made (read_node words) ≡ (lower made plan.left && all (between 1 (width_at made plan.left)) (spaced 2 2 (drop head_words words)))
  unfolding spaced
  legal_select_attribute o =
      let make : Operator → nodes.Node = λ operator. select_attribute plan.left (attribute (get_or (drop head_words words) 0 0)) operator (attribute (get_or (drop head_words words) 2 0)) in
      let found : (operator : Operator) × (operator_of (get_or (drop head_words words) 1 0) ≡ some operator) = made_of make (operator_of (get_or (drop head_words words) 1 0)) stood.node (rw o at stood.parts) in
      let test : ℕ → Bool = between 1 (width_at made plan.left) in
      legal_parts SelectAttribute o ∙ rw (found.1, get_d_front (drop head_words words) 2) (ap (λ b. lower made plan.left && (test (get_or (drop head_words words) 0 0) && b)) (sym (and-true (test (get_or (drop head_words words) 2 0)))))

  -- 5, 6 and 7
  legal_of_triples : (triples : List Triple) → plan.count ≤ triple_limit → read_triples plan.count (drop head_words words) ≡ some triples → legal_triples made plan.left plan.right triples ≡ triples_legal made plan words
  legal_of_triples triples few read =
      rw ((triples_are plan.count (drop head_words words) triples read).many, le-leb plan.count triple_limit few, triples_inside (width_at made plan.left) (width_at made plan.right) plan.count (drop head_words words) triples (triples_are plan.count (drop head_words words) triples read), drop-drop 2 head_words words)

  legal-join : plan.operation ≡ Join → legal_read relations made (read_node words) ≡ (triples_legal made plan words && leb (width_at made plan.left + width_at made plan.right) column_limit)
  legal-join o =
      let found : (triples : List Triple) × (read_triples plan.count (drop head_words words) ≡ some triples) = made_of (join plan.left plan.right) (read_triples plan.count (drop head_words words)) stood.node (rw o at stood.parts) in
      legal_parts Join o ∙ rw found.1 (ap (λ b. b && leb (width_at made plan.left + width_at made plan.right) column_limit) (legal_of_triples found.0 (count-within Join o).1 found.1))

  legal-semijoin : plan.operation ≡ Semijoin → legal_read relations made (read_node words) ≡ triples_legal made plan words
  legal-semijoin o =
      let found : (triples : List Triple) × (read_triples plan.count (drop head_words words) ≡ some triples) = made_of (semijoin plan.left plan.right) (read_triples plan.count (drop head_words words)) stood.node (rw o at stood.parts) in
      legal_parts Semijoin o ∙ rw found.1 (legal_of_triples found.0 (count-within Semijoin o).1 found.1)

  legal-antijoin : plan.operation ≡ Antijoin → legal_read relations made (read_node words) ≡ triples_legal made plan words
  legal-antijoin o =
      let found : (triples : List Triple) × (read_triples plan.count (drop head_words words) ≡ some triples) = made_of (antijoin plan.left plan.right) (read_triples plan.count (drop head_words words)) stood.node (rw o at stood.parts) in
      legal_parts Antijoin o ∙ rw found.1 (legal_of_triples found.0 (count-within Antijoin o).1 found.1)

  -- 8
  legal-divide : plan.operation ≡ Divide → legal_read relations made (read_node words) ≡ pairs_legal made plan words
  legal-divide o =
      let within : (1 ≤ plan.count) × (plan.count ≤ pair_limit) = count-within Divide o in
      legal_parts Divide o
      ∙ rw (pairs_many plan.count (drop head_words words), le-leb 1 plan.count within.0, le-leb plan.count pair_limit within.1, pairs-inside (width_at made plan.left) (width_at made plan.right) plan.count (drop head_words words), pairs_lefts plan.count (drop head_words words), drop-drop 1 head_words words)

  legal_arm : length words ≡ plan_node_words → (operation : Operation) → plan.operation ≡ operation → legal_read relations made (read_node words) ≡ legal_made relations made words plan operation
  legal_arm size Load o = legal_parts Load o
  legal_arm size Project o = legal-project size o
  legal_arm size SelectConstant o = legal_select_constant o
  legal_arm size SelectAttribute o = legal_select_attribute o
  legal_arm size Join o = legal-join o
  legal_arm size Semijoin o = legal-semijoin o
  legal_arm size Antijoin o = legal-antijoin o
  legal_arm size Divide o = legal-divide o
  legal_arm size Unite o = legal_parts Unite o
  legal_arm size Intersect o = legal_parts Intersect o
  legal_arm size Subtract o = legal_parts Subtract o
  legal_arm size Tally o = legal_parts Tally o ∙ ap (legal_tally made plan.left plan.right) (get_d_front words head_words)

-- what `legal_node` knows of a decoded node: its legality by its operation, and its count
module _ (words : List ℕ) (plan : PlanNode) (operation : Operation) (size : length words ≡ plan_node_words) (read : head_read (read_node words) ≡ some (plan_head plan)) (is : plan.operation ≡ operation) where
  pub legal_by : (relations : ℕ) (made : List ℕ) → legal_read relations made (read_node words) ≡ legal_made relations made words plan operation
  legal_by relations made = legal_arm relations made words plan (stands words plan size read) size operation is

  pub count_by : plan.count ≤ (shape_of (operation_in operation)).most_count
  count_by = (count-within 0 [] words plan (stands words plan size read) operation is).1
