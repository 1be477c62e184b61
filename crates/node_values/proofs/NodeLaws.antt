-- A decoded node as its operation runs it: which node its words read as, what legality gives to each operation, and which rows are its candidates.
-- Assumes nothing.
use mathlib.Core.Path.{◌≡◌, refl, sym, ap, ap₂, ◌∙◌}
use mathlib.Core.Bool.{true, So, false≢true}
use mathlib.Core.List.{List, map}
use mathlib.Core.Option as maybe
use mathlib.Core.Option.{some, none}
use Rattle.std.specs.Prelude.{Option}
use Prim.Native.Nat.{ℕ, ◌+◌, ◌-◌, ◌*◌, ◌≤◌, ◌<◌}
use native.Mathlib.Omega.{arith}
use lib.ListN.{length, get_or, take, drop, length-drop, length-map}
use lib.Seq.{take_all}
use Rattle.relations.specs.Limits.{column_limit, triple_limit, head_words, list_words}
use Rattle.relations.specs.Lists.{All}
use Rattle.relations.specs.Values.{Rows, Tables}
use Rattle.relations.specs.Comparison.{Operator, operator_of, operator_named}
use Rattle.relations.specs.Columns.{Triple, Pair, attribute, constant, left_numbers}
use Rattle.relations.specs.Operations.{load_candidates, project_candidates, select_constant_candidates, select_attribute_candidates, join_candidates, semijoin_candidates, antijoin_candidates, divide_candidates, unite_candidates, intersect_candidates, subtract_candidates, tally_candidates}
use Rattle.relations.specs.Nodes as nodes
use Rattle.relations.specs.Nodes.{heavy_number, weight_of}
use Rattle.relations.specs.Plan.{candidates, width_of_node, width_at, value_at}
use Rattle.relations.specs.Legality.{distinct}
use Rattle.relations.specs.PlanWords.{shape_of, read_triples, read_pairs, read_parts, read_node}
use Rattle.relations.proofs.LegalityLaws.{Between, LegalFacts, legal_facts}
use Rattle.relations.proofs.ListLaws.{all_mono, all_map}
use Rattle.relations.proofs.PlanWordsOnly.{words_and_back}
use Rattle.values.specs.Words.{rows_of}
use Rattle.values.specs.Building.{Makes}
use Rattle.values.specs.declared.rows.Value.{Value}
use Rattle.operations.specs.Lists.{triples_in}
use Rattle.operations.proofs.ListLaws.{triples_read}
use Rattle.terms.proofs.NumberLaws.{operator-named}
use Rattle.catalogue.specs.Stored.{relations_of, columns_of, stored_tables}
use Rattle.plan_reading.specs.Decoding.{operation_in, node_head, plan_head, head_read}
use Rattle.plan_reading.specs.Judging.{legal_read}
use Rattle.plan_reading.specs.Steps.{WidthOfHead}
use Rattle.plan_reading.specs.declared.nodes.Operation.{Operation}
use Rattle.plan_reading.specs.declared.nodes.Operation.TheVariants.{Load, Project, SelectConstant, SelectAttribute, Join, Semijoin, Antijoin, Divide, Unite, Intersect, Subtract, Tally}
use Rattle.plan_reading.specs.declared.nodes.PlanNode.{PlanNode}
use Rattle.plan_reading.proofs.DecodeLaws.{Stands, stands}
use Rattle.plan_reading.proofs.JudgeLaws.{width_made, width_by}
use Rattle.plan_reading.proofs.LegalLaws.{count-within}
use Rattle.plan_reading.proofs.ListedLaws.{pairs_many}
use Rattle.node_values.specs.Standing.{value_named, widths_of, standing, StandsBefore}
use Rattle.node_values.specs.NodeRun.{width_read, candidates_read, weight_read, Runs}
use Rattle.node_values.proofs.StandLaws.{value-width, standing_at, value-stands}

-- the node that an operation runs, by a decoded node's numbers and list
abbrev node_in : Operation → (left right count : ℕ) → List ℕ → nodes.Node
node_in Load left right count list = nodes.load left
node_in Project left right count list = nodes.project left (map attribute (take count list))
node_in SelectConstant left right count list = nodes.select_constant left (attribute (get_or list 0 0)) (operator_named (get_or list 1 0)) (constant (get_or list 2 0))
node_in SelectAttribute left right count list = nodes.select_attribute left (attribute (get_or list 0 0)) (operator_named (get_or list 1 0)) (attribute (get_or list 2 0))
node_in Join left right count list = nodes.join left right (triples_in count list)
node_in Semijoin left right count list = nodes.semijoin left right (triples_in count list)
node_in Antijoin left right count list = nodes.antijoin left right (triples_in count list)
node_in Divide left right count list = nodes.divide left right (read_pairs count list)
node_in Unite left right count list = nodes.unite left right
node_in Intersect left right count list = nodes.intersect left right
node_in Subtract left right count list = nodes.subtract left right
node_in Tally left right count list = nodes.tally left right (get_or list 0 0)

-- it is the node that the words read as
triples_node : (make : List Triple → nodes.Node) (count : ℕ) (list : List ℕ) (node : nodes.Node) → maybe.map make (read_triples count list) ≡ some node → make (triples_in count list) ≡ node
triples_node make count list node e = go (read_triples count list) refl e
  where
    go : (read : maybe.Option (List Triple)) → read_triples count list ≡ read → maybe.map make read ≡ some node → make (triples_in count list) ≡ node
    go none r e = let z : ◌≡◌ {A = ℕ} 0 1 = cc in absurd (omega arith)
    go (some triples) r e = ap make (triples_read count list triples r) ∙ (let z : make triples ≡ node = cc in z)

operator_node : (make : Operator → nodes.Node) (number : ℕ) (node : nodes.Node) → maybe.map make (operator_of number) ≡ some node → make (operator_named number) ≡ node
operator_node make number node e = go (operator_of number) refl e
  where
    go : (read : maybe.Option Operator) → operator_of number ≡ read → maybe.map make read ≡ some node → make (operator_named number) ≡ node
    go none r e = let z : ◌≡◌ {A = ℕ} 0 1 = cc in absurd (omega arith)
    go (some o) r e = ap make (operator-named number o r) ∙ (let z : make o ≡ node = cc in z)

parts_node : (operation : Operation) (left right count : ℕ) (list : List ℕ) (node : nodes.Node) → read_parts (operation_in operation) left right count list ≡ some node → node_in operation left right count list ≡ node
parts_node Load left right count list node e = cc
parts_node Project left right count list node e = cc
parts_node SelectConstant left right count list node e = operator_node (λ o. nodes.select_constant left (attribute (get_or list 0 0)) o (constant (get_or list 2 0))) (get_or list 1 0) node e
parts_node SelectAttribute left right count list node e = operator_node (λ o. nodes.select_attribute left (attribute (get_or list 0 0)) o (attribute (get_or list 2 0))) (get_or list 1 0) node e
parts_node Join left right count list node e = triples_node (nodes.join left right) count list node e
parts_node Semijoin left right count list node e = triples_node (nodes.semijoin left right) count list node e
parts_node Antijoin left right count list node e = triples_node (nodes.antijoin left right) count list node e
parts_node Divide left right count list node e = cc
parts_node Unite left right count list node e = cc
parts_node Intersect left right count list node e = cc
parts_node Subtract left right count list node e = cc
parts_node Tally left right count list node e = cc

-- What each operation asks for, of the values of its sides.
module _ (relations out : ℕ) (list work : List ℕ) where
  abbrev pub Asks : Operation → (relation count : ℕ) (left right : Value) → Type 0
  Asks Load relation count left right = relation < relations
  Asks Project relation count left right = StandsBefore out work left × (0 < count) × (count ≤ column_limit) × (count ≤ length list)
  Asks SelectConstant relation count left right = StandsBefore out work left × (3 ≤ length list)
  Asks SelectAttribute relation count left right = StandsBefore out work left × (3 ≤ length list)
  Asks Join relation count left right = StandsBefore out work left × StandsBefore out work right × (count * 3 ≤ length list) × (left.width + right.width ≤ column_limit) × (count ≤ triple_limit)
  Asks Semijoin relation count left right = StandsBefore out work left × StandsBefore out work right × (count * 3 ≤ length list) × (count ≤ triple_limit)
  Asks Antijoin relation count left right = StandsBefore out work left × StandsBefore out work right × (count * 3 ≤ length list) × (count ≤ triple_limit)
  Asks Divide relation count left right = StandsBefore out work left × StandsBefore out work right × (count * 2 ≤ length list) × (count < left.width) × So (distinct (left_numbers (read_pairs count list))) × All (λ number. (1 ≤ number) × (number ≤ left.width)) (left_numbers (read_pairs count list))
  Asks Unite relation count left right = StandsBefore out work left × StandsBefore out work right × (right.width ≡ left.width)
  Asks Intersect relation count left right = StandsBefore out work left × StandsBefore out work right
  Asks Subtract relation count left right = StandsBefore out work left × StandsBefore out work right
  Asks Tally relation count left right = StandsBefore out work left × StandsBefore out work right × (left.width < right.width) × (1 ≤ length list)

-- What it makes, by the rows of its sides.
abbrev pub offered : Tables → Operation → (relation count : ℕ) (list : List ℕ) (left right : Rows) → Rows
offered tables Load relation count list left right = load_candidates (tables relation)
offered tables Project relation count list left right = project_candidates (map attribute (take count list)) left
offered tables SelectConstant relation count list left right = select_constant_candidates (attribute (get_or list 0 0)) (operator_named (get_or list 1 0)) (constant (get_or list 2 0)) left
offered tables SelectAttribute relation count list left right = select_attribute_candidates (attribute (get_or list 0 0)) (operator_named (get_or list 1 0)) (attribute (get_or list 2 0)) left
offered tables Join relation count list left right = join_candidates (triples_in count list) left right
offered tables Semijoin relation count list left right = semijoin_candidates (triples_in count list) left right
offered tables Antijoin relation count list left right = antijoin_candidates (triples_in count list) left right
offered tables Divide relation count list left right = divide_candidates (read_pairs count list) left right
offered tables Unite relation count list left right = unite_candidates left right
offered tables Intersect relation count list left right = intersect_candidates left right
offered tables Subtract relation count list left right = subtract_candidates left right
offered tables Tally relation count list left right = tally_candidates (get_or list 0 0) left right

candidates_node : (tables : Tables) (made : List Rows) (operation : Operation) (left right count : ℕ) (list : List ℕ)
    → candidates tables made (node_in operation left right count list) ≡ offered tables operation left count list (value_at made left) (value_at made right)
candidates_node tables made Load left right count list = refl
candidates_node tables made Project left right count list = refl
candidates_node tables made SelectConstant left right count list = refl
candidates_node tables made SelectAttribute left right count list = refl
candidates_node tables made Join left right count list = refl
candidates_node tables made Semijoin left right count list = refl
candidates_node tables made Antijoin left right count list = refl
candidates_node tables made Divide left right count list = refl
candidates_node tables made Unite left right count list = refl
candidates_node tables made Intersect left right count list = refl
candidates_node tables made Subtract left right count list = refl
candidates_node tables made Tally left right count list = refl

-- A legal node over the values that stand in front of `out`.
module _ {catalogue tables words : List ℕ} {plan : PlanNode} {values : List Value} {out : ℕ} {work : List ℕ} (runs : Runs catalogue tables words plan values out work) where
  abbrev list : List ℕ
  list = drop head_words words

  stood : Stands words plan
  stood = stands words plan runs.size runs.read

  node_is : (operation : Operation) → plan.operation ≡ operation → node_in operation plan.left plan.right plan.count list ≡ stood.node
  node_is operation o = parts_node operation plan.left plan.right plan.count list stood.node (ap (λ (op : Operation). read_parts (operation_in op) plan.left plan.right plan.count list) (sym o) ∙ stood.parts)

  reads : (operation : Operation) → plan.operation ≡ operation → read_node words ≡ some (node_in operation plan.left plan.right plan.count list)
  reads operation o = stood.read ∙ ap some (sym (node_is operation o))

  facts : (operation : Operation) → plan.operation ≡ operation → LegalFacts (relations_of catalogue) (widths_of values) (node_in operation plan.left plan.right plan.count list)
  facts operation o = legal_facts (relations_of catalogue) (widths_of values) (node_in operation plan.left plan.right plan.count list) (rw (reads operation o) at runs.legal)

  counts : (operation : Operation) → plan.operation ≡ operation → ((shape_of (operation_in operation)).least_count ≤ plan.count) × (plan.count ≤ (shape_of (operation_in operation)).most_count)
  counts operation o = count-within (relations_of catalogue) (widths_of values) words plan stood operation o

  room : length list ≡ list_words
  room = length-drop head_words words ∙ ap (λ (n : ℕ). n - head_words) runs.size

  side : (place : ℕ) → place < length (widths_of values) → StandsBefore out work (value_named values place)
  side place h = value-stands runs.stand place (omega (arith, length-map values (λ (value : Value). value.width)))

  same_width : (place : ℕ) → (value_named values place).width ≡ width_at (widths_of values) place
  same_width place = value-width values place

  asks_named : (operation : Operation) → plan.operation ≡ operation → Asks (relations_of catalogue) out list work operation plan.left plan.count (value_named values plan.left) (value_named values plan.right)
  asks_named Load o = facts Load o
  asks_named Project o = (side plan.left (facts Project o).0, (counts Project o).0, (counts Project o).1, omega (arith, room, (counts Project o).1))
  asks_named SelectConstant o = (side plan.left (facts SelectConstant o).0, omega (arith, room))
  asks_named SelectAttribute o = (side plan.left (facts SelectAttribute o).0, omega (arith, room))
  asks_named Join o =
      let k = facts Join o in
      (side plan.left k.0.0, side plan.right k.0.1, omega (arith, room, (counts Join o).1), rw (same_width plan.left, same_width plan.right) k.1, (counts Join o).1)
  asks_named Semijoin o = let k = facts Semijoin o in (side plan.left k.0, side plan.right k.1, omega (arith, room, (counts Semijoin o).1), (counts Semijoin o).1)
  asks_named Antijoin o = let k = facts Antijoin o in (side plan.left k.0, side plan.right k.1, omega (arith, room, (counts Antijoin o).1), (counts Antijoin o).1)
  asks_named Divide o =
      let k = facts Divide o in
      let pairs : List Pair = read_pairs plan.count list in (
        side plan.left k.0,
        side plan.right k.1,
        omega (arith, room, (counts Divide o).1),
        rw (same_width plan.left) (omega (arith, k.5, pairs_many plan.count list)),
        k.4,
        rw (same_width plan.left) (all_map (λ c. Between 1 (width_at (widths_of values) plan.left) c) (λ p. p.left.number) pairs (all_mono (λ p i. i.0) pairs k.3)),
      )
  asks_named Unite o = let k = facts Unite o in (side plan.left k.0, side plan.right k.1, same_width plan.right ∙ sym k.2 ∙ sym (same_width plan.left))
  asks_named Intersect o = let k = facts Intersect o in (side plan.left k.0, side plan.right k.1)
  asks_named Subtract o = let k = facts Subtract o in (side plan.left k.0, side plan.right k.1)
  asks_named Tally o = let k = facts Tally o in (side plan.left k.0, side plan.right k.1, rw (same_width plan.left, same_width plan.right) k.2, omega (arith, room))

  makes-named : (operation : Operation) → plan.operation ≡ operation → {after : List ℕ} {r : Option ℕ}
      → Makes (width_made (columns_of catalogue) (operation_in operation) plan.left plan.count (value_named values plan.left).width (value_named values plan.right).width) out
      (offered (stored_tables catalogue tables) operation plan.left plan.count list (rows_of (value_named values plan.left) work) (rows_of (value_named values plan.right) work)) work after r
      → Makes (width_read (columns_of catalogue) (widths_of values) (read_node words)) out (candidates_read (stored_tables catalogue tables) (standing values work) (read_node words)) work after r
  makes-named operation o g =
      let w : width_of_node (columns_of catalogue) (widths_of values) (node_in operation plan.left plan.right plan.count list) ≡ width_made (columns_of catalogue) (operation_in operation) plan.left plan.count (value_named values plan.left).width (value_named values plan.right).width =
      sym (width_by (columns_of catalogue) (widths_of values) (plan_head plan) (node_in operation plan.left plan.right plan.count list) (ap node_head (node_is operation o) ∙ stood.is))
      ∙ rw (o, same_width plan.left, same_width plan.right) in
      let cs : candidates (stored_tables catalogue tables) (standing values work) (node_in operation plan.left plan.right plan.count list) ≡ offered (stored_tables catalogue tables) operation plan.left plan.count list (rows_of (value_named values plan.left) work) (rows_of (value_named values plan.right) work) =
      candidates_node (stored_tables catalogue tables) (standing values work) operation plan.left plan.right plan.count list
      ∙ ap₂ (offered (stored_tables catalogue tables) operation plan.left plan.count list) (standing_at values work plan.left) (standing_at values work plan.right) in
      rw (reads operation o, w, cs) g

  -- The same of the sides and the list as they were read.
  abbrev whole : List ℕ
  whole = take (length words - head_words) (drop head_words words)

  whole_is : whole ≡ list
  whole_is = take_all (length words - head_words) (drop head_words words) (omega (arith, length-drop head_words words))

  module _ {left right : Value} (l : left ≡ value_named values plan.left) (r : right ≡ value_named values plan.right) where
    pub asks : (operation : Operation) → plan.operation ≡ operation → Asks (relations_of catalogue) out whole work operation plan.left plan.count left right
    asks operation o = rw (l, r, whole_is) (asks_named operation o)

    -- what an operation makes of its values is what the words' node makes
    pub makes : (operation : Operation) → plan.operation ≡ operation → {after : List ℕ} {p : Option ℕ}
        → Makes (width_made (columns_of catalogue) (operation_in operation) plan.left plan.count left.width right.width) out
        (offered (stored_tables catalogue tables) operation plan.left plan.count whole (rows_of left work) (rows_of right work)) work after p
        → Makes (width_read (columns_of catalogue) (widths_of values) (read_node words)) out (candidates_read (stored_tables catalogue tables) (standing values work) (read_node words)) work after p
    makes operation o g = makes-named operation o (rw (l, r, whole_is) at g)

    -- What `run_node` answers beside the value.

    -- a join is within the column limit
    pub join_narrow : plan.operation ≡ Join → left.width + right.width ≤ column_limit
    join_narrow join = rw (l, r, same_width plan.left, same_width plan.right) (facts Join join).1

    pub width_read_lem : {width : ℕ} → ((made : List ℕ) → width_at made plan.left ≡ left.width → width_at made plan.right ≡ right.width → WidthOfHead (columns_of catalogue) made (plan_head plan) width)
        → width ≡ width_read (columns_of catalogue) (widths_of values) (read_node words)
    width_read_lem is =
        is (widths_of values) (sym (ap (λ (v : Value). v.width) l ∙ same_width plan.left)) (sym (ap (λ (v : Value). v.width) r ∙ same_width plan.right)) stood.node stood.is
        ∙ ap (width_read (columns_of catalogue) (widths_of values)) (sym stood.read)

  -- the first word is the operation's number
  pub weight_read_lem : weight_of (heavy_number (get_or words 0 0)) ≡ weight_read (read_node words)
  weight_read_lem =
      ap (λ (l : List ℕ). weight_of (heavy_number (get_or l 0 0))) (sym (words_and_back.only words stood.node runs.size stood.read).1) ∙ ap weight_read (sym stood.read)

-- words that read as no node are not legal
pub no_node {ℓ} : {C : Type ℓ} (relations : ℕ) (made : List ℕ) (read : maybe.Option nodes.Node) → head_read read ≡ none → legal_read relations made read ≡ true → C
no_node relations made none e h = absurd (false≢true h)
no_node relations made (some node) e h = let z : ◌≡◌ {A = ℕ} 0 1 = cc in absurd (omega arith)
