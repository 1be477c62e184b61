-- A written plan's words: they fill the front of the buffer, they are legal, and they read back as the plan. Assumes nothing.
use Prim.Native.Nat.{ℕ, ◌*◌, ◌/◌, ◌%◌, ◌≤◌}
use mathlib.Core.Path.{◌≡◌, refl, sym, ap, ◌∙◌}
use mathlib.Core.Bool.{Bool, true, false, cond, So, ◌&&◌}
use mathlib.Core.List.{List, []}
use native.Mathlib.Omega.{arith}
use native.Mathlib.Nat.{div-add-mod'}
use lib.Dec.{eqb}
use lib.ListN.{length, take}
use lib.Seq.{sets}
use borrow.Author.Tests.{eqb-true}
use Rattle.relations.specs.Limits.{plan_node_limit, plan_node_words}
use Rattle.relations.specs.Lists.{flat}
use Rattle.relations.specs.Nodes.{Node}
use Rattle.relations.specs.Legality.{between, legal_plan}
use Rattle.relations.specs.PlanWords.{node_words}
use Rattle.relations.proofs.BoolLaws.{and_left}
use Rattle.values.proofs.WordLaws.{part-sets}
use Rattle.catalogue.specs.Stored.{relations_of, columns_of}
use Rattle.std.specs.Prelude.{Ok}
use Rattle.plan_reading.specs.Judging.{illegal_at, judge_plan_nodes, plan_judgement, nodes_of_plan}
use Rattle.plan_reading.proofs.PlanTheorem.{judged_exactly}
use Rattle.translation.specs.TranslateCall.{plan_buffer_words}
use Rattle.running.proofs.NextLaws.{judged_sized}
use Rattle.desk.proofs.PlansLegal.{nodes-between}

-- words that are judged legal are 36 for each node
legal-size : (catalogue words : List ℕ) (nodes : ℕ) → plan_judgement catalogue words ≡ Ok nodes → length words ≡ nodes * plan_node_words
legal-size catalogue words nodes e = go (eqb (length words % plan_node_words) 0 && between 1 plan_node_limit (length words / plan_node_words)) refl e
  where
    go : (whole : Bool) → (eqb (length words % plan_node_words) 0 && between 1 plan_node_limit (length words / plan_node_words)) ≡ whole
        → cond whole (judge_plan_nodes catalogue (length words / plan_node_words) [] words) (illegal_at 0) ≡ Ok nodes → length words ≡ nodes * plan_node_words
    go true whole h =
        let none : length words % plan_node_words ≡ 0 = eqb-true (length words % plan_node_words) 0 (and_left (eqb (length words % plan_node_words) 0) (between 1 plan_node_limit (length words / plan_node_words)) whole) in
        omega (arith, div-add-mod' (length words) plan_node_words, (judged_sized catalogue words nodes e).many)
    go false whole h = let never : ◌≡◌ {A = ℕ} 0 1 = cc in absurd (omega arith)

module _ (catalogue : List ℕ) (nodes : List Node) (legal : So (legal_plan (columns_of catalogue) (relations_of catalogue) nodes)) where
  pub words_judged : plan_judgement catalogue (flat node_words nodes) ≡ Ok (length nodes)
  words_judged = ((judged_exactly catalogue).complete nodes legal).0

  pub words_read : nodes_of_plan (flat node_words nodes) ≡ nodes
  words_read = ((judged_exactly catalogue).complete nodes legal).1

  words_many : length (flat node_words nodes) ≡ length nodes * plan_node_words
  words_many = legal-size catalogue (flat node_words nodes) (length nodes) words_judged

  pub words-front : (plan : List ℕ) → plan_buffer_words ≤ length plan → take (length nodes * plan_node_words) (sets plan 0 (flat node_words nodes)) ≡ flat node_words nodes
  words-front plan long =
      ap (λ (n : ℕ). take n (sets plan 0 (flat node_words nodes))) (sym words_many)
      ∙ part-sets plan 0 (flat node_words nodes) (omega (arith, words_many, (nodes-between catalogue nodes legal).1))
