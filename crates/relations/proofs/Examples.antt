-- Small values, plans and words, computed: what the definitions say where a slip is near.
use mathlib.Core.Path.{◌≡◌, refl}
use mathlib.Core.Bool.{true, false}
use mathlib.Core.List.{List, [], ◌∷◌, ◌++◌}
use mathlib.Core.Option.{some, none}
use Prim.Native.Nat.{ℕ, ◌-◌}
use lib.ListN.{replicate}
use Rattle.relations.specs.Limits.{column_limit, list_words}
use Rattle.relations.specs.Values.{Rows, Tables, canonical}
use Rattle.relations.specs.Comparison.{less, equal}
use Rattle.relations.specs.Columns.{attribute, constant, Pair}
use Rattle.relations.specs.Operations.{join_candidates, semijoin_candidates, antijoin_candidates, divide_candidates, tally_candidates}
use Rattle.relations.specs.Nodes.{Node, load, select_constant, join, divide, unite, tally}
use Rattle.relations.specs.Machine.{run}
use Rattle.relations.specs.Plan.{heavy, room}
use Rattle.relations.specs.Legality.{legal_node, legal_nodes, legal_plan}
use Rattle.relations.specs.PlanWords.{node_words, read_node}

-- first column first, a stored repeat once
pub stored-once : canonical ((2 ∷ 1 ∷ []) ∷ (1 ∷ 9 ∷ []) ∷ (2 ∷ 1 ∷ []) ∷ []) ≡ (1 ∷ 9 ∷ []) ∷ (2 ∷ 1 ∷ []) ∷ []
stored-once = refl

-- who was there on which day, and the days
abbrev there : Rows
there = (4 ∷ 11 ∷ []) ∷ (4 ∷ 12 ∷ []) ∷ (7 ∷ 11 ∷ []) ∷ (9 ∷ 11 ∷ []) ∷ (9 ∷ 12 ∷ []) ∷ []

abbrev days : Rows
days = (11 ∷ []) ∷ (12 ∷ []) ∷ []

abbrev by_day : List Pair
by_day = record { left = attribute 2; right = attribute 1 } ∷ []

-- 7 has only one of the days: the remaining columns must agree
pub divided_by_days : canonical (divide_candidates by_day there days) ≡ (4 ∷ []) ∷ (9 ∷ []) ∷ []
divided_by_days = refl

pub divided_by_nothing : canonical (divide_candidates by_day there []) ≡ (4 ∷ []) ∷ (7 ∷ []) ∷ (9 ∷ []) ∷ []
divided_by_nothing = refl

-- the right row's columns come behind the left row's
pub joined-less : canonical (join_candidates (record { left = attribute 1; operator = less; right = attribute 1 } ∷ []) days days) ≡ (11 ∷ 12 ∷ []) ∷ []
joined-less = refl

pub kept_by_days : (semijoin_candidates [] there days ≡ there) × (antijoin_candidates [] there days ≡ []) × (antijoin_candidates [] there [] ≡ there)
kept_by_days = (refl, refl, refl)

-- 4 and 9 begin two rows each, 7 one
pub there-twice : (tally_candidates 2 ((4 ∷ []) ∷ (7 ∷ []) ∷ (9 ∷ []) ∷ []) there ≡ (4 ∷ []) ∷ (9 ∷ []) ∷ []) × (tally_candidates 3 ((4 ∷ []) ∷ (7 ∷ []) ∷ (9 ∷ []) ∷ []) there ≡ [])
there-twice = (refl, refl)

abbrev tables : Tables
tables relation = days

abbrev columns : ℕ → ℕ
columns relation = 1

abbrev two_days : List Node
two_days = load 0 ∷ select_constant 0 (attribute 1) equal (constant 12) ∷ join 0 1 [] ∷ unite 0 1 ∷ []

-- 2 + 1 + 2 x 2 + 2 words, the load's included; a join and a union are heavy
pub two_days_lem : (room columns tables two_days ≡ 9) × (heavy two_days ≡ 2) × (legal_plan columns 1 two_days ≡ true)
unfolding run legal_nodes
two_days_lem = (refl, refl, refl)

-- an unknown relation; a node that names itself; a left attribute twice; no column left; a value one column too wide
pub illegal : (legal_node 1 [] (load 1) ≡ false) × (legal_node 1 [] (unite 0 0) ≡ false) × (legal_node 1 (3 ∷ 1 ∷ []) (divide 0 1 (by_day ++ by_day)) ≡ false) × (legal_node 1 (1 ∷ 1 ∷ []) (divide 0 1 (record { left = attribute 1; right = attribute 1 } ∷ [])) ≡ false) × (legal_node 1 (column_limit ∷ 1 ∷ []) (join 0 1 []) ≡ false)
illegal = (refl, refl, refl, refl, refl)

-- operation 13: a right value that is not wider, no row asked for
pub illegal-tally : (legal_node 1 (1 ∷ 2 ∷ []) (tally 0 1 2) ≡ true) × (legal_node 1 (2 ∷ 2 ∷ []) (tally 0 1 2) ≡ false) × (legal_node 1 (1 ∷ 2 ∷ []) (tally 0 1 0) ≡ false)
illegal-tally = (refl, refl, refl)

pub tally-words : node_words (tally 4 6 3) ≡ 13 ∷ 4 ∷ 6 ∷ 1 ∷ 3 ∷ replicate (list_words - 1) 0
tally-words = refl

pub load-words : node_words (load 2) ≡ 1 ∷ 2 ∷ 0 ∷ 0 ∷ replicate list_words 0
load-words = refl

pub select_words : read_node (3 ∷ 0 ∷ 0 ∷ 1 ∷ 2 ∷ 3 ∷ 7 ∷ replicate (list_words - 3) 0) ≡ some (select_constant 0 (attribute 2) less (constant 7))
select_words = refl

-- a right that is not 0 where it is unused; operation 12; operator 7; a list word behind the used ones
pub not_read : (read_node (1 ∷ 2 ∷ 1 ∷ 0 ∷ replicate list_words 0) ≡ none) × (read_node (12 ∷ 0 ∷ 0 ∷ 0 ∷ replicate list_words 0) ≡ none) × (read_node (3 ∷ 0 ∷ 0 ∷ 1 ∷ 2 ∷ 7 ∷ 7 ∷ replicate (list_words - 3) 0) ≡ none) × (read_node (9 ∷ 0 ∷ 0 ∷ 0 ∷ 1 ∷ replicate (list_words - 1) 0) ≡ none)
not_read = (refl, refl, refl, refl)
