-- Refusal 9: which plans are legal, and where the others are refused. Document 01, "The plan" and "Refusal numbers"; RULINGS 10.
use Rattle.std.specs.Prelude.{ℕ, zero, suc, ◌*◌, ◌/◌, ◌%◌, ◌≡◌, Bool, true, false, cond, ◌&&◌, List, [], ◌∷◌, ◌++◌, eqb, length, take, drop, Option, Some, None, Result, Ok, Err}
use Rattle.std.proofs.Math.Bool.{So}
use Rattle.std.proofs.Math.Option as maybe
use Rattle.std.proofs.Math.Option.{some, none}
use Rattle.relations.specs.Limits.{plan_node_limit, plan_node_words}
use Rattle.relations.specs.Lists.{flat}
use Rattle.relations.specs.Nodes as nodes
use Rattle.relations.specs.Plan.{width_of_node, widths}
use Rattle.relations.specs.Legality.{between, legal_node, legal_nodes, legal_plan}
use Rattle.relations.specs.PlanWords.{node_words, read_node}
use Rattle.catalogue.specs.Stored.{relations_of, columns_of}
use Rattle.plan_reading.specs.declared.judging.IllegalNode.{IllegalNode}

-- One node.

-- words that read as no node are no legal node
abbrev pub legal_read : ℕ → List ℕ → maybe.Option nodes.Node → Bool
legal_read relations made none = false
legal_read relations made (some node) = legal_node relations made node

-- What `judge_node` answers, given what the words read as.
abbrev pub judged_node : List ℕ → List ℕ → maybe.Option nodes.Node → Option ℕ
judged_node catalogue made none = None
judged_node catalogue made (some node) = cond (legal_node (relations_of catalogue) made node) (Some (width_of_node (columns_of catalogue) made node)) None

-- A plan.

-- the number of nodes of a legal plan, or the place at which another is refused
abbrev pub PlanJudgement : Type 0
PlanJudgement = Result ℕ IllegalNode

abbrev pub illegal_at : ℕ → PlanJudgement
illegal_at place = Err (record { 0 = place })

-- a legal node's width goes to what follows; an illegal node is the place
abbrev pub onward : Option ℕ → ℕ → (ℕ → PlanJudgement) → PlanJudgement
onward (Some width) place next = next width
onward None place next = illegal_at place

-- so many nodes, given the widths of those before them
unfoldable pub judge_plan_nodes : List ℕ → ℕ → List ℕ → List ℕ → PlanJudgement
judge_plan_nodes catalogue zero made words = Ok (length made)
judge_plan_nodes catalogue (suc count) made words =
    onward (judged_node catalogue made (read_node (take plan_node_words words))) (length made)
    (λ width. judge_plan_nodes catalogue count (made ++ (width ∷ [])) (drop plan_node_words words))

-- not "plan words not a multiple of 36, or 0 or over 256 nodes"
abbrev pub size_ok : List ℕ → Bool
size_ok words = eqb (length words % plan_node_words) 0 && between 1 plan_node_limit (length words / plan_node_words)

-- 9: that, at 0; "or a node illegal", at the "lowest such node"
abbrev pub plan_judgement : List ℕ → List ℕ → PlanJudgement
plan_judgement catalogue words =
    cond (size_ok words)
    (judge_plan_nodes catalogue (length words / plan_node_words) [] words)
    (illegal_at 0)

-- the nodes of a legal plan's words
abbrev pub read_before : maybe.Option nodes.Node → List nodes.Node → List nodes.Node
read_before none behind = behind
read_before (some node) behind = node ∷ behind

unfoldable pub nodes_in : ℕ → List ℕ → List nodes.Node
nodes_in zero words = []
nodes_in (suc count) words = read_before (read_node (take plan_node_words words)) (nodes_in count (drop plan_node_words words))

abbrev pub nodes_of_plan : List ℕ → List nodes.Node
nodes_of_plan words = nodes_in (length words / plan_node_words) words

-- What a judgement of a plan says in document 01's numbers: status and place, and how many nodes.
pub record PlanNumbers : Type 0 where
  pub status : ℕ
  pub place : ℕ
  pub nodes : ℕ

-- the numbers of each case of the answer
abbrev pub plan_numbers : PlanJudgement → PlanNumbers
plan_numbers (Ok count) = record { status = 0; place = 0; nodes = count }
plan_numbers (Err at) = record { status = 9; place = at.0; nodes = 0 }

abbrev pub judged_plan : (catalogue words : List ℕ) → PlanNumbers
judged_plan catalogue words = plan_numbers (plan_judgement catalogue words)

-- the words of a node
abbrev pub node_words_at : List ℕ → ℕ → List ℕ
node_words_at words place = take plan_node_words (drop (place * plan_node_words) words)

-- "lowest such node": the nodes before it are legal, and it is not, behind them
pub record LowestIllegal (catalogue words : List ℕ) (at : ℕ) : Type 0 where
  pub before : So (legal_nodes (columns_of catalogue) (relations_of catalogue) [] (nodes_in at words))
  pub all_read : length (nodes_in at words) ≡ at
  pub illegal : legal_read (relations_of catalogue) (widths (columns_of catalogue) (nodes_in at words)) (read_node (node_words_at words at)) ≡ false

-- what is claimed: judged legal are the words of legal plans, and no others; where the number of words is right, the place is the lowest illegal node
pub record JudgedExactly (catalogue : List ℕ) : Type 0 where
  pub sound : (words : List ℕ) (count : ℕ) → plan_judgement catalogue words ≡ Ok count
      → So (legal_plan (columns_of catalogue) (relations_of catalogue) (nodes_of_plan words)) × (flat node_words (nodes_of_plan words) ≡ words) × (length (nodes_of_plan words) ≡ count)
  pub complete : (plan : List nodes.Node) → So (legal_plan (columns_of catalogue) (relations_of catalogue) plan)
      → (plan_judgement catalogue (flat node_words plan) ≡ Ok (length plan)) × (nodes_of_plan (flat node_words plan) ≡ plan)
  pub lowest : (words : List ℕ) (place : ℕ) → size_ok words ≡ true → plan_judgement catalogue words ≡ illegal_at place → LowestIllegal catalogue words place
