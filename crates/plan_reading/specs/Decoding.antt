-- What the decoder's numbers and cases stand for: the operations, shapes and nodes of relations.
use Rattle.std.specs.Prelude.{ℕ, zero, suc, ◌+◌, Bool, not, ◌||◌, List, [], ◌∷◌, eqb, get_or, drop, Option, Some, None}
use Rattle.std.proofs.Math.Option as maybe
use Rattle.std.proofs.Math.Option.{some, none, map}
use Rattle.relations.specs.Limits.{head_words, operator_count}
use Rattle.relations.specs.Lists.{all}
use Rattle.relations.specs.Legality.{between}
use Rattle.relations.specs.Nodes as nodes
use Rattle.relations.specs.Nodes.{loading, projecting, selecting_constant, selecting_attribute, joining, semijoining, antijoining, dividing, uniting, intersecting, subtracting, tallying, operation_of_node}
use Rattle.relations.specs.PlanWords as words
use Rattle.relations.specs.PlanWords.{shape_of, shape_fits, parts_of}
use Rattle.plan_reading.specs.declared.nodes.Operation.{Operation}
use Rattle.plan_reading.specs.declared.nodes.Operation.TheVariants.{Load, Project, SelectConstant, SelectAttribute, Join, Semijoin, Antijoin, Divide, Unite, Intersect, Subtract, Tally}
use Rattle.plan_reading.specs.declared.nodes.PlanNode.{PlanNode}
use Rattle.plan_reading.specs.declared.nodes.Shape.{Shape}

-- `count` words, the first in front and each `step` behind the one before it
unfoldable pub spaced : ℕ → ℕ → List ℕ → List ℕ
spaced step zero list = []
spaced step (suc count) list = get_or list 0 0 ∷ spaced step count (drop step list)

-- an operation of the code; no two stand for the same (one_decoded, proofs/DecodeLaws)
abbrev pub operation_in : Operation → nodes.Operation
operation_in Load = loading
operation_in Project = projecting
operation_in SelectConstant = selecting_constant
operation_in SelectAttribute = selecting_attribute
operation_in Join = joining
operation_in Semijoin = semijoining
operation_in Antijoin = antijoining
operation_in Divide = dividing
operation_in Unite = uniting
operation_in Intersect = intersecting
operation_in Subtract = subtracting
operation_in Tally = tallying

-- of what `operation_of` answers
abbrev pub operation_known : Option Operation → maybe.Option nodes.Operation
operation_known None = none
operation_known (Some operation) = some (operation_in operation)

abbrev pub shape_in : Shape → words.Shape
shape_in s = record { uses_right = s.right; least_count = s.least; most_count = s.most; unit = s.unit }

-- the shape of an operation, asked of a node's words
abbrev pub fits : nodes.Operation → List ℕ → Bool
fits operation words = shape_fits (shape_of operation) (get_or words 2 0) (get_or words 3 0) (drop head_words words)

-- every triple's operator is 1 to 6
abbrev pub operators_known : List ℕ → Bool
operators_known words = all (between 1 operator_count) (spaced 3 (get_or words 3 0) (drop (head_words + 1) words))

-- that, of an operation whose list has operators: one of triples
abbrev pub operators_fit : nodes.Operation → List ℕ → Bool
operators_fit operation words = not (eqb (shape_of operation).unit 3) || operators_known words

abbrev pub head_in : Operation → List ℕ → PlanNode
head_in operation words = record { operation = operation; left = get_or words 1 0; right = get_or words 2 0; count = get_or words 3 0 }

-- A node's head is all of it but its list.
pub record Head : Type 0 where
  pub operation : nodes.Operation
  pub left : ℕ
  pub right : ℕ
  pub count : ℕ

-- of a node
abbrev pub node_head : nodes.Node → Head
node_head node = record { operation = operation_of_node node; left = (parts_of node).left; right = (parts_of node).right; count = (parts_of node).count }

-- of a node of the code
abbrev pub plan_head : PlanNode → Head
plan_head plan = record { operation = operation_in plan.operation; left = plan.left; right = plan.right; count = plan.count }

-- of what `decode_node` answers, and of what the words read as: none where that is no node
abbrev pub head_decoded : Option PlanNode → maybe.Option Head
head_decoded None = none
head_decoded (Some plan) = some (plan_head plan)

abbrev pub head_read : maybe.Option nodes.Node → maybe.Option Head
head_read read = map node_head read
