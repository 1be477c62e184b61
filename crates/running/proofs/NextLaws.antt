-- The next node of a judged plan, and its width and value in the whole plan. Assumes nothing.
use mathlib.Core.Path.{◌≡◌, refl, sym, ap, ◌∙◌}
use mathlib.Core.Bool.{Bool, true, false, cond, ◌&&◌}
use mathlib.Core.List.{List, [], ◌∷◌, ◌++◌}
use mathlib.Core.Option.{Option, some, none}
use Prim.Native.Nat.{ℕ, zero, suc, ◌+◌, ◌-◌, ◌*◌, ◌/◌, ◌%◌, ◌<◌}
use native.Mathlib.Nat.{div-add-mod'}
use borrow.Author.Tests.{eqb-true}
use Rattle.relations.proofs.BoolLaws.{and_left}
use native.Mathlib.Omega.{arith}
use lib.Dec.{eqb}
use lib.ListN.{length, get_or, take, drop, length-append}
use lib.Seq.{get_or-append_seam}
use Rattle.relations.specs.Limits.{plan_node_words, plan_node_limit}
use Rattle.relations.specs.Values.{Rows, Wide, canonical}
use Rattle.relations.specs.Nodes.{Node}
use Rattle.relations.specs.Machine.{run}
use Rattle.relations.specs.Plan.{width_of_node}
use Rattle.relations.specs.Legality.{between, legal_node}
use Rattle.relations.specs.PlanWords.{read_node}
use Rattle.relations.proofs.MachineLaws.{run-keeps}
use Rattle.relations.proofs.ValueLaws.{all_members, member_has, member-canonical}
use Rattle.catalogue.specs.Stored.{relations_of, columns_of}
use Rattle.std.specs.Prelude.{Ok}
use Rattle.plan_reading.specs.Judging.{PlanJudgement, illegal_at, judged_node, onward, judge_plan_nodes, plan_judgement, nodes_in}

pub record Next (catalogue : List ℕ) (left : ℕ) (made words : List ℕ) (count : ℕ) : Type 0 where
  pub node : Node
  pub read : read_node (take plan_node_words words) ≡ some node
  pub legal : legal_node (relations_of catalogue) made node ≡ true
  pub onward : judge_plan_nodes catalogue (left - 1) (made ++ (width_of_node (columns_of catalogue) made node ∷ [])) (drop plan_node_words words) ≡ Ok count
  pub todo : nodes_in left words ≡ node ∷ nodes_in (left - 1) (drop plan_node_words words)

-- a plan that is judged legal with a node to come has a legal node there
pub next_node : (catalogue : List ℕ) (left : ℕ) (made words : List ℕ) (count : ℕ) → 0 < left → judge_plan_nodes catalogue left made words ≡ Ok count → Next catalogue left made words count
unfolding judge_plan_nodes nodes_in
next_node catalogue zero made words count h e = absurd (omega arith)
next_node catalogue (suc left) made words count h e = go (read_node (take plan_node_words words)) refl e
  where
    rest : ℕ → PlanJudgement
    rest width = judge_plan_nodes catalogue left (made ++ (width ∷ [])) (drop plan_node_words words)

    less : suc left - 1 ≡ left
    less = omega arith

    legally : (node : Node) → read_node (take plan_node_words words) ≡ some node → (ok : Bool) → legal_node (relations_of catalogue) made node ≡ ok
        → onward (judged_node catalogue made (some node)) (length made) rest ≡ Ok count → Next catalogue (suc left) made words count
    legally node read true ok e = record { node = node; read = read; legal = ok; onward = rw less (rw ok at e); todo = rw (read, less) }
    legally node read false ok e = let none : illegal_at (length made) ≡ Ok count = rw ok at e in absurd cc

    go : (found : Option Node) → read_node (take plan_node_words words) ≡ found → onward (judged_node catalogue made found) (length made) rest ≡ Ok count → Next catalogue (suc left) made words count
    go none read e = absurd cc
    go (some node) read e = legally node read (legal_node (relations_of catalogue) made node) refl e

-- what a step makes stands at its number when all steps are done
pub run-next : {N X : Type 0} (step : List X → N → X) (d : X) (made : List X) (node : N) (nodes : List N) (place : ℕ) → length made ≡ place → get_or (run step made (node ∷ nodes)) place d ≡ step made node
unfolding run
run-next step d made node nodes place e =
    run-keeps step d (made ++ (step made node ∷ [])) nodes place (omega (arith, length-append made (step made node ∷ [])))
    ∙ ap (λ (n : ℕ). get_or (made ++ (step made node ∷ [])) n d) (sym e) ∙ get_or-append_seam made (step made node) [] d

-- candidates are as wide as their value
pub wide-candidates : (width : ℕ) (rows : Rows) → Wide width (canonical rows) → Wide width rows
wide-candidates width rows h = all_members (λ row. length row ≡ width) rows (λ row m. member_has (λ r. length r ≡ width) row (canonical rows) h (rw (member-canonical row rows) m))

-- a judged plan has as many nodes as the words say
judged_count : (catalogue : List ℕ) (left : ℕ) (made words : List ℕ) (count : ℕ) → judge_plan_nodes catalogue left made words ≡ Ok count → count ≡ length made + left
unfolding judge_plan_nodes
judged_count catalogue zero made words count e = let is : length made ≡ count = cc in omega arith
judged_count catalogue (suc left) made words count e =
    let next : Next catalogue (suc left) made words count = next_node catalogue (suc left) made words count (omega arith) e in
    let less : suc left - 1 ≡ left = omega arith in
    let more : List ℕ = made ++ (width_of_node (columns_of catalogue) made next.node ∷ []) in
    omega (arith, judged_count catalogue left more (drop plan_node_words words) count (rw less at next.onward), length-append made (width_of_node (columns_of catalogue) made next.node ∷ []))

pub record Sized (catalogue plan : List ℕ) (nodes : ℕ) : Type 0 where
  pub many : length plan / plan_node_words ≡ nodes
  pub size : length plan ≡ nodes * plan_node_words
  pub judged : judge_plan_nodes catalogue nodes [] plan ≡ Ok nodes

pub judged_sized : (catalogue plan : List ℕ) (nodes : ℕ) → plan_judgement catalogue plan ≡ Ok nodes → Sized catalogue plan nodes
judged_sized catalogue plan nodes e = go (eqb (length plan % plan_node_words) 0 && between 1 plan_node_limit (length plan / plan_node_words)) refl e
  where
    go : (good : Bool) → (eqb (length plan % plan_node_words) 0 && between 1 plan_node_limit (length plan / plan_node_words)) ≡ good
        → cond good (judge_plan_nodes catalogue (length plan / plan_node_words) [] plan) (illegal_at 0) ≡ Ok nodes → Sized catalogue plan nodes
    go false good e = absurd cc
    go true good e =
        let is : length plan / plan_node_words ≡ nodes = omega (arith, judged_count catalogue (length plan / plan_node_words) [] plan nodes e) in
        let whole : length plan % plan_node_words ≡ 0 = eqb-true (length plan % plan_node_words) 0 (and_left (eqb (length plan % plan_node_words) 0) (between 1 plan_node_limit (length plan / plan_node_words)) good) in
        record { many = is; size = sym (div-add-mod' (length plan) plan_node_words) ∙ omega arith; judged = rw is at e }
