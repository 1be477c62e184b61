-- The values of a legal plan have the plan's widths.
use mathlib.Core.Path.{sym, subst}
use mathlib.Core.Bool.{Bool, not, So}
use mathlib.Core.List.{List, [], ◌∷◌, ◌++◌}
use Prim.Native.Nat.{ℕ, zero, suc}
use lib.Dec.{leb}
use lib.ListN.{length}
use Rattle.relations.specs.Limits.{plan_node_limit}
use Rattle.relations.specs.Lists.{any, how_many}
use Rattle.relations.specs.Rows.{begins}
use Rattle.relations.specs.Values.{Rows, Tables, Wide, member}
use Rattle.relations.specs.Comparison.{holds}
use Rattle.relations.specs.Columns.{column, meets}
use Rattle.relations.specs.Nodes.{Node, load, project, select_constant, select_attribute, join, semijoin, antijoin, divide, unite, intersect, subtract, tally}
use Rattle.relations.specs.Machine.{run}
use Rattle.relations.specs.Plan.{value_at, width_at, candidates, value_of_node, width_of_node}
use Rattle.relations.specs.Legality.{between, legal_node, legal_nodes, legal_plan, WidthsKept}
use Rattle.relations.proofs.BoolLaws.{and_left, and_right}
use Rattle.relations.proofs.ListLaws.{all_mono, all_map}
use Rattle.relations.proofs.WidthLaws.{wide-canonical, wide-filter, wide-project, wide-join, wide-unite, wide-divide}
use Rattle.relations.proofs.LegalityLaws.{Between, LegalFacts, legal_facts}

-- widths and values that agree, one by one
abbrev Agree : List ℕ → List Rows → Type 0
Agree [] [] = Unit {0}
Agree [] (v ∷ vs) = ⊥
Agree (w ∷ ws) [] = ⊥
Agree (w ∷ ws) (v ∷ vs) = Wide w v × Agree ws vs

agree_at : (ws : List ℕ) (vs : List Rows) → Agree ws vs → (place : ℕ) → Wide (width_at ws place) (value_at vs place)
agree_at [] [] h place = tt
agree_at [] (v ∷ vs) h place = absurd h
agree_at (w ∷ ws) [] h place = absurd h
agree_at (w ∷ ws) (v ∷ vs) h zero = h.0
agree_at (w ∷ ws) (v ∷ vs) h (suc place) = agree_at ws vs h.1 place

agree_more : (ws : List ℕ) (vs : List Rows) (w : ℕ) (v : Rows) → Agree ws vs → Wide w v → Agree (ws ++ (w ∷ [])) (vs ++ (v ∷ []))
agree_more [] [] w v h k = (k, tt)
agree_more [] (x ∷ vs) w v h k = absurd h
agree_more (y ∷ ws) [] w v h k = absurd h
agree_more (y ∷ ws) (x ∷ vs) w v h k = (h.0, agree_more ws vs w v h.1 k)

module _ (columns : ℕ → ℕ) (relations : ℕ) (tables : Tables) (stored : (relation : ℕ) → Wide (columns relation) (tables relation)) where
  -- the value of a legal node has the node's width
  node_wide : (ws : List ℕ) (vs : List Rows) → Agree ws vs → (node : Node) → LegalFacts relations ws node → Wide (width_of_node columns ws node) (candidates tables vs node)
  node_wide ws vs h (load relation) k = stored relation
  node_wide ws vs h (project left attributes) k = wide-project attributes (value_at vs left)
  node_wide ws vs h (select_constant left a operator c) k = wide-filter (width_at ws left) (λ t. holds operator (column t a) c.value) (value_at vs left) (agree_at ws vs h left)
  node_wide ws vs h (select_attribute left a operator b) k = wide-filter (width_at ws left) (λ t. holds operator (column t a) (column t b)) (value_at vs left) (agree_at ws vs h left)
  node_wide ws vs h (join left right triples) k = wide-join (width_at ws left) (width_at ws right) triples (value_at vs left) (value_at vs right) (agree_at ws vs h left) (agree_at ws vs h right)
  node_wide ws vs h (semijoin left right triples) k = wide-filter (width_at ws left) (λ t. any (meets triples t) (value_at vs right)) (value_at vs left) (agree_at ws vs h left)
  node_wide ws vs h (antijoin left right triples) k = wide-filter (width_at ws left) (λ t. not (any (meets triples t) (value_at vs right))) (value_at vs left) (agree_at ws vs h left)
  node_wide ws vs h (divide left right pairs) k = wide-divide (width_at ws left) pairs (value_at vs left) (value_at vs right) k.4 (all_map (λ c. Between 1 (width_at ws left) c) (λ p. p.left.number) pairs (all_mono (λ p i. i.0) pairs k.3)) (agree_at ws vs h left)
  node_wide ws vs h (unite left right) k = wide-unite (width_at ws left) (value_at vs left) (value_at vs right) (agree_at ws vs h left) (subst (λ w. Wide w (value_at vs right)) (sym k.2) (agree_at ws vs h right))
  node_wide ws vs h (intersect left right) k = wide-filter (width_at ws left) (λ t. member t (value_at vs right)) (value_at vs left) (agree_at ws vs h left)
  node_wide ws vs h (subtract left right) k = wide-filter (width_at ws left) (λ t. not (member t (value_at vs right))) (value_at vs left) (agree_at ws vs h left)
  node_wide ws vs h (tally left right least) k = wide-filter (width_at ws left) (λ t. leb least (how_many (begins t) (value_at vs right))) (value_at vs left) (agree_at ws vs h left)

  agree_run : (ws : List ℕ) (vs : List Rows) → Agree ws vs → (nodes : List Node) → So (legal_nodes columns relations ws nodes) → Agree (run (width_of_node columns) ws nodes) (run (value_of_node tables) vs nodes)
  unfolding run legal_nodes
  agree_run ws vs h [] k = h
  agree_run ws vs h (node ∷ nodes) k =
      let rest : Bool = legal_nodes columns relations (ws ++ (width_of_node columns ws node ∷ [])) nodes in
      let wide : Wide (width_of_node columns ws node) (value_of_node tables vs node) = wide-canonical (width_of_node columns ws node) (candidates tables vs node) (node_wide ws vs h node (legal_facts relations ws node (and_left (legal_node relations ws node) rest k))) in
      agree_run (ws ++ (width_of_node columns ws node ∷ [])) (vs ++ (value_of_node tables vs node ∷ [])) (agree_more ws vs (width_of_node columns ws node) (value_of_node tables vs node) h wide) nodes (and_right (legal_node relations ws node) rest k)

pub widths-kept : (columns : ℕ → ℕ) (relations : ℕ) (plan : List Node) → So (legal_plan columns relations plan) → WidthsKept columns plan
widths-kept columns relations plan h = record { kept = λ tables stored place. agree_at (run (width_of_node columns) [] plan) (run (value_of_node tables) [] plan) (agree_run columns relations tables stored [] [] tt plan (and_right (between 1 plan_node_limit (length plan)) (legal_nodes columns relations [] plan) h)) place }
