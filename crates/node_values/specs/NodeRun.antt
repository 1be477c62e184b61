-- What running one node leaves, given what its words read as. Words that read as no node make no value; a judged plan has none.
use Rattle.std.specs.Prelude.{◌≡◌, true, List, [], ℕ, length, Option, Some, None}
use Rattle.std.proofs.Math.Option as maybe
use Rattle.std.proofs.Math.Option.{some, none}
use Rattle.relations.specs.Limits.{plan_node_words}
use Rattle.relations.specs.Values.{Rows, Tables}
use Rattle.relations.specs.Nodes.{Node, weight_of}
use Rattle.relations.specs.Plan.{candidates, width_of_node, heavy_node}
use Rattle.values.specs.Building.{Makes}
use Rattle.relations.specs.PlanWords.{read_node}
use Rattle.catalogue.specs.Judging.{tables_ok}
use Rattle.catalogue.specs.Stored.{relations_of, columns_of, stored_tables}
use Rattle.plan_reading.specs.Decoding.{plan_head, head_read}
use Rattle.plan_reading.specs.Judging.{legal_read}
use Rattle.plan_reading.specs.declared.nodes.PlanNode.{PlanNode}
use Rattle.values.specs.declared.rows.Value.{Value}
use Rattle.node_values.specs.Standing.{widths_of, Stand}
use Rattle.node_values.specs.declared.node.Made.{Made}

abbrev pub width_read : (ℕ → ℕ) → List ℕ → maybe.Option Node → ℕ
width_read columns made none = 0
width_read columns made (some node) = width_of_node columns made node

abbrev pub candidates_read : Tables → List Rows → maybe.Option Node → Rows
candidates_read tables made none = []
candidates_read tables made (some node) = candidates tables made node

abbrev pub weight_read : maybe.Option Node → ℕ
weight_read none = 0
weight_read (some node) = weight_of (heavy_node node)

abbrev pub placed_of : Option Made → Option ℕ
placed_of (Some made) = Some made.value.rows
placed_of None = None

-- a value's own place, width and weight
abbrev pub Counts : (out width heavy : ℕ) → Option Made → Type 0
Counts out width heavy (Some made) = (made.value.base ≡ out) × (made.value.width ≡ width) × (made.heavy ≡ heavy)
Counts out width heavy None = Unit {0}

pub record NodeRun (catalogue tables : List ℕ) (read : maybe.Option Node) (widths : List ℕ) (made : List Rows) (out : ℕ) (before after : List ℕ) (answer : Option Made) : Type 0 where
  pub makes : Makes (width_read (columns_of catalogue) widths read) out (candidates_read (stored_tables catalogue tables) made read) before after (placed_of answer)
  pub counts : Counts out (width_read (columns_of catalogue) widths read) (weight_read read) answer

-- what the run of a decoded node asks for: it is legal over the values made so far, which stand
pub record Runs (catalogue tables words : List ℕ) (node : PlanNode) (values : List Value) (out : ℕ) (work : List ℕ) : Type 0 where
  pub size : length words ≡ plan_node_words
  pub read : head_read (read_node words) ≡ some (plan_head node)
  pub judged : tables_ok catalogue tables ≡ true
  pub legal : legal_read (relations_of catalogue) (widths_of values) (read_node words) ≡ true
  pub stand : Stand values out work
