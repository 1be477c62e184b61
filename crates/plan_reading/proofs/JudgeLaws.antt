-- The judgement of one node, and of a plan from left to right. Assumes nothing.
use Prim.Native.Nat.{ℕ, zero, suc, ◌+◌, ◌-◌, ◌*◌, ◌/◌, ◌%◌, ◌≤◌, ◌<◌}
use mathlib.Core.Path.{◌≡◌, refl, sym, ap, ◌∙◌}
use mathlib.Core.Bool.{true, false}
use mathlib.Core.List.{List, [], ◌∷◌, ◌++◌}
use mathlib.Core.Option.{some}
use native.Mathlib.Omega.{arith}
use native.Mathlib.Numerals.{add-one}
use lib.ListN.{length, take, drop, set, length-set, length-append}
use lib.Seq.{take-suc-set, take_at, drop_at, length-take-le}
use borrow.Author.Tests.{eq-eqb, le-leb}
use Rattle.relations.specs.Limits.{plan_node_limit, plan_node_words}
use Rattle.relations.specs.Nodes as nodes
use Rattle.relations.specs.Nodes.{load, project, select_constant, select_attribute, join, semijoin, antijoin, divide, unite, intersect, subtract, tally, loading, projecting, selecting_constant, selecting_attribute, joining, semijoining, antijoining, dividing, uniting, intersecting, subtracting, tallying, operation_number}
use Rattle.relations.specs.Plan.{width_at, width_of_node}
use Rattle.relations.specs.Legality.{legal_node}
use Rattle.relations.specs.PlanWords.{read_node}
use Rattle.catalogue.specs.Stored.{relations_of, columns_of}
use Rattle.plan_reading.specs.Decoding.{Head, node_head, plan_head, head_read}
use Rattle.plan_reading.specs.Judging.{legal_read, judged_node, PlanJudgement, illegal_at, onward, judge_plan_nodes, plan_judgement, PlanNumbers, plan_numbers, judged_plan}
use Rattle.plan_reading.specs.Steps.{HeadOfLegal, WidthOfHead}
use Rattle.plan_reading.specs.declared.nodes.PlanNode.{PlanNode}
use Rattle.std.specs.Prelude.{Some, None, Ok, Err}
use Rattle.plan_reading.proofs.DecodeLaws.{Stands, stands}

-- One node.

-- a node's width by its operation, its count and the widths of its sides
abbrev pub width_made : (ℕ → ℕ) → nodes.Operation → (relation count left right : ℕ) → ℕ
width_made columns loading relation count left right = columns relation
width_made columns projecting relation count left right = count
width_made columns selecting_constant relation count left right = left
width_made columns selecting_attribute relation count left right = left
width_made columns joining relation count left right = left + right
width_made columns semijoining relation count left right = left
width_made columns antijoining relation count left right = left
width_made columns dividing relation count left right = left - count
width_made columns uniting relation count left right = left
width_made columns intersecting relation count left right = left
width_made columns subtracting relation count left right = left
width_made columns tallying relation count left right = left

abbrev pub head_width : (ℕ → ℕ) → List ℕ → Head → ℕ
head_width columns made head = width_made columns head.operation head.left head.count (width_at made head.left) (width_at made head.right)

width_made_lem : (columns : ℕ → ℕ) (made : List ℕ) (node : nodes.Node) → width_of_node columns made node ≡ head_width columns made (node_head node)
width_made_lem columns made (load relation) = refl
width_made_lem columns made (project left attributes) = refl
width_made_lem columns made (select_constant left a operator c) = refl
width_made_lem columns made (select_attribute left a operator b) = refl
width_made_lem columns made (join left right triples) = refl
width_made_lem columns made (semijoin left right triples) = refl
width_made_lem columns made (antijoin left right triples) = refl
width_made_lem columns made (divide left right pairs) = refl
width_made_lem columns made (unite left right) = refl
width_made_lem columns made (intersect left right) = refl
width_made_lem columns made (subtract left right) = refl
width_made_lem columns made (tally left right least) = refl

-- so all nodes of one head have one width
pub width_by : (columns : ℕ → ℕ) (made : List ℕ) (head : Head) → WidthOfHead columns made head (head_width columns made head)
width_by columns made head node is = ap (head_width columns made) (sym is) ∙ sym (width_made_lem columns made node)

-- what `judge_node` knows of a decoded node: what judging it answers, legal or not
module _ (catalogue made words : List ℕ) (plan : PlanNode) (size : length words ≡ plan_node_words) (read : head_read (read_node words) ≡ some (plan_head plan)) where
  stood : Stands words plan
  stood = stands words plan size read

  pub head_of_legal : legal_read (relations_of catalogue) made (read_node words) ≡ true → HeadOfLegal (relations_of catalogue) made (plan_head plan)
  head_of_legal h = (stood.node, stood.is, rw stood.read at h)

  pub judged_legal : legal_read (relations_of catalogue) made (read_node words) ≡ true → {width : ℕ} → WidthOfHead (columns_of catalogue) made (plan_head plan) width → judged_node catalogue made (read_node words) ≡ Some width
  judged_legal h is =
      let legal : legal_node (relations_of catalogue) made stood.node ≡ true = rw stood.read at h in
      ap (judged_node catalogue made) stood.read ∙ rw legal (ap Some (sym (is stood.node stood.is)))

  pub judged_illegal : legal_read (relations_of catalogue) made (read_node words) ≡ false → judged_node catalogue made (read_node words) ≡ None
  judged_illegal h =
      let legal : legal_node (relations_of catalogue) made stood.node ≡ false = rw stood.read at h in
      ap (judged_node catalogue made) stood.read ∙ rw legal

-- A plan.

judge_step : (catalogue : List ℕ) (left : ℕ) (made words : List ℕ) → 0 < left
    → judge_plan_nodes catalogue left made words ≡ onward (judged_node catalogue made (read_node (take plan_node_words words))) (length made) (λ width. judge_plan_nodes catalogue (left - 1) (made ++ (width ∷ [])) (drop plan_node_words words))
unfolding judge_plan_nodes
judge_step catalogue zero made words h = absurd (omega arith)
judge_step catalogue (suc left) made words h = let less : suc left - 1 ≡ left = omega arith in rw less

-- The loop over a plan: the whole plan is judged as the words that are left are, given the widths of the nodes before them, which are the front of the table.
pub record JudgedSoFar (catalogue plan widths : List ℕ) (nodes place : ℕ) (left : List ℕ) : Type 0 where
  pub table : length widths ≡ plan_node_limit
  pub places : place ≤ nodes
  pub size : length left ≡ (nodes - place) * plan_node_words
  pub judged : judge_plan_nodes catalogue nodes [] plan ≡ judge_plan_nodes catalogue (nodes - place) (take place widths) left

module _ (catalogue plan widths : List ℕ) (nodes place : ℕ) (few : nodes ≤ plan_node_limit) where
  -- one turn: a node's words are in front of the others
  module _ (words behind : List ℕ) (size : length words ≡ plan_node_words) (sofar : JudgedSoFar catalogue plan widths nodes place (words ++ behind)) where
    front : take plan_node_words (words ++ behind) ≡ words
    front = take_at words behind plan_node_words size

    more : place < nodes
    more = omega (arith, sofar.size, length-append words behind)

    pub judge_onward : (width : ℕ) → judged_node catalogue (take place widths) (read_node words) ≡ Some width → JudgedSoFar catalogue plan (set widths place width) nodes (place + 1) behind
    judge_onward width judged =
        let less : nodes - place - 1 ≡ nodes - (place + 1) = omega arith in
        let room : place < length widths = omega (arith, sofar.table, more) in
        record {
          table = length-set widths place width ∙ sofar.table;
          places = omega (arith, more);
          size = omega (arith, sofar.size, more, length-append words behind);
          judged = sofar.judged ∙ judge_step catalogue (nodes - place) (take place widths) (words ++ behind) (omega (arith, more)) ∙ rw (front, judged, less, add-one place, take-suc-set widths place width room, drop_at words behind plan_node_words size);
        }

    pub judge_stopped : judged_node catalogue (take place widths) (read_node words) ≡ None → judge_plan_nodes catalogue nodes [] plan ≡ illegal_at place
    judge_stopped judged =
        sofar.judged
        ∙ judge_step catalogue (nodes - place) (take place widths) (words ++ behind) (omega (arith, more))
        ∙ rw (front, judged, length-take-le place widths (omega (arith, sofar.table, sofar.places)))

  pub judge_ended : (left : List ℕ) → JudgedSoFar catalogue plan widths nodes place left → length left < plan_node_words → judge_plan_nodes catalogue nodes [] plan ≡ Ok nodes
  unfolding judge_plan_nodes
  judge_ended left sofar short =
      let none : nodes - place ≡ 0 = omega (arith, sofar.size) in
      let all : place ≡ nodes = omega (arith, sofar.places) in
      sofar.judged ∙ rw (none, length-take-le place widths (omega (arith, sofar.table, sofar.places))) (ap Ok all)

pub judge_sized : (catalogue plan : List ℕ) → length plan % plan_node_words ≡ 0 → 1 ≤ length plan / plan_node_words → length plan / plan_node_words ≤ plan_node_limit
    → plan_judgement catalogue plan ≡ judge_plan_nodes catalogue (length plan / plan_node_words) [] plan
judge_sized catalogue plan whole least few = rw (eq-eqb (length plan % plan_node_words) 0 whole, le-leb 1 (length plan / plan_node_words) least, le-leb (length plan / plan_node_words) plan_node_limit few)

-- The numbers of an answer name it: `judge_plan` promises one answer.
pub one_plan_judgement : (one other : PlanJudgement) → plan_numbers one ≡ plan_numbers other → one ≡ other
one_plan_judgement (Ok nodes) (Ok others) e = ap Ok (ap (λ (n : PlanNumbers). n.nodes) e)
one_plan_judgement (Ok nodes) (Err at) e = let never : ◌≡◌ {A = ℕ} 0 9 = ap (λ (n : PlanNumbers). n.status) e in absurd (omega arith)
one_plan_judgement (Err at) (Ok nodes) e = let never : ◌≡◌ {A = ℕ} 9 0 = ap (λ (n : PlanNumbers). n.status) e in absurd (omega arith)
one_plan_judgement (Err at) (Err other) e = ap illegal_at (ap (λ (n : PlanNumbers). n.place) e)

-- for a caller that met one of the cases
pub plan_judged : (catalogue plan : List ℕ) {answer found : PlanJudgement} → plan_numbers answer ≡ judged_plan catalogue plan → answer ≡ found → plan_judgement catalogue plan ≡ found
plan_judged catalogue plan {answer} judged is = sym (one_plan_judgement answer (plan_judgement catalogue plan) judged) ∙ is
