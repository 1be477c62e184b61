-- The theorem: a question is judged by the lowest node at fault, each in the scope in which it stands. Assumes nothing.
use mathlib.Core.Path.{◌≡◌, refl, ◌∙◌}
use mathlib.Core.Bool.{Bool, true, false, cond}
use mathlib.Core.Logic.{◌⊎◌, inl, inr}
use mathlib.Core.List.{List, []}
use Prim.Native.Nat.{ℕ, ◌≤◌, ◌<◌}
use native.Mathlib.Omega.{arith}
use lib.Dec.{ltb}
use borrow.Author.Tests.{ltb-true, ltb-false, lt-ltb, le-ltb}
use Rattle.relations.specs.Limits.{question_node_limit}
use Rattle.relations.proofs.BoolLaws.{true_or_false}
use Rattle.catalogue.specs.Stored.{relations_of, columns_of}
use Rattle.nodes.specs.Nodes.{node_count, node_at}
use Rattle.nodes.specs.References.{lowest}
use Rattle.question.specs.Trees.{question_tree}
use Rattle.question.specs.Judgement.{count_ok, is_alpha, lowest_ill_formed, last_node, lowest_not_once, lowest_unknown}
use Rattle.node_judging.specs.Steps.{no_widths}
use Rattle.question.specs.Walk.{faults_found, judge_tree, judge_nodes, judged_by_walk}
use Rattle.judgements.specs.Accepted.{HasColumns, TableRight, AcceptedExactly, FaultsDecide}
use Rattle.judgements.specs.Faults.{fault_at, unbound, unfit, lowest_unbound, lowest_unfit, judged_question}
use Rattle.std.specs.Prelude.{Ok, Err}
use Rattle.question.specs.Judgement.{Judgement}
use Rattle.question.specs.declared.judgement.Refusal.{Refusal}
use Rattle.question.specs.declared.judgement.Refusal.TheVariants.{WrongCount, BrokenForm, NotATree, UnknownRelation, Unbound, Unfit}
use Rattle.question.proofs.Counts.{counted}
use Rattle.judgements.proofs.Accepted.{passed_first, searched_right, right_tree, accepted-exactly}
use Rattle.judgements.proofs.LowestLaws.{lowest_cut, lowest-holds}
use Rattle.judgements.proofs.Ordered.{ordered, fault_within}
use Rattle.judgements.proofs.UnboundLaws as five
use Rattle.judgements.proofs.UnfitLaws as six

behind : (b : Bool) (x : Judgement) {y z : Judgement} → (b ≡ false → y ≡ z) → cond b x y ≡ cond b x z
behind true x h = refl
behind false x h = h refl

before : (b : Bool) (y : Judgement) {x z : Judgement} → (b ≡ true → x ≡ z) → cond b x y ≡ cond b z y
before true y h = h refl
before false y h = refl

-- a search among 64 nodes decides as that among the table's own
settled : (refused : ℕ → Refusal) (f : ℕ → Bool) (n x : ℕ) {rest plain : Judgement} → n ≤ question_node_limit → ((j : ℕ) → f j ≡ true → j < n) → x ≡ lowest f question_node_limit → (question_node_limit ≤ x → rest ≡ plain)
    → cond (ltb x question_node_limit) (Err (refused x)) rest ≡ cond (ltb (lowest f n) n) (Err (refused (lowest f n))) plain
settled refused f n x {rest} {plain} few within e go = decide (true_or_false (ltb x question_node_limit))
  where
    decide : (ltb x question_node_limit ≡ true) ⊎ (ltb x question_node_limit ≡ false) → cond (ltb x question_node_limit) (Err (refused x)) rest ≡ cond (ltb (lowest f n) n) (Err (refused (lowest f n))) plain
    decide (inl t) =
        let l : x < question_node_limit = ltb-true x question_node_limit t in
        let m : lowest f question_node_limit < n = within (lowest f question_node_limit) (lowest-holds f question_node_limit (omega (arith, l, e))) in
        let k : lowest f n ≡ x = lowest_cut f n question_node_limit few ∙ omega (arith, e, m) in
        rw (t, k, lt-ltb x n (omega (arith, e, m)))
    decide (inr t) =
        let l : question_node_limit ≤ x = ltb-false x question_node_limit t in
        let k : lowest f n ≡ n = lowest_cut f n question_node_limit few ∙ omega (arith, e, l, few) in
        rw (t, k, le-ltb n n (omega arith)) (go l)

-- what two places refuse, each below the limit
abbrev by_places : (unbound unfit limit : ℕ) → Judgement
by_places unbound unfit limit = cond (ltb unbound limit) (Err (Unbound unbound)) (cond (ltb unfit limit) (Err (Unfit unfit)) (Ok tt))

module _ (catalogue words : List ℕ) (has : HasColumns catalogue) where
  abbrev columns : ℕ → ℕ
  columns = columns_of catalogue

  -- 5 and 6, behind 1 to 4
  faults_decide_tree : TableRight catalogue words
      → by_places (faults_found catalogue words).unbound (faults_found catalogue words).unfit question_node_limit ≡ by_places (lowest_unbound catalogue words) (lowest_unfit catalogue words) (node_count words)
  faults_decide_tree t =
      let n : ℕ = node_count words in
      let few : n ≤ question_node_limit = (counted words t.count).few in
      let tree = right_tree catalogue words t in
      settled Unbound (λ i. fault_at columns (unbound columns) (question_tree words) [] i) n (faults_found catalogue words).unbound few
      (λ j h. fault_within columns (unbound columns) n (question_tree words) [] j (ordered words n) h)
      (five.range_in columns (relations_of catalogue) tree no_widths [])
      (λ bound.
      settled Unfit (λ i. fault_at columns (unfit columns) (question_tree words) [] i) n (faults_found catalogue words).unfit few
      (λ j h. fault_within columns (unfit columns) n (question_tree words) [] j (ordered words n) h)
      (six.range_in columns (relations_of catalogue) has tree n (ordered words n) no_widths [] bound).unfit_is
      (λ fit. refl))

  pub faults_decide : FaultsDecide catalogue words
  unfolding judged_by_walk judge_nodes judge_tree judged_question
  faults_decide =
      before (count_ok words) (Err WrongCount) (λ count.
      behind (ltb (lowest_ill_formed words) (node_count words)) (Err (BrokenForm (lowest_ill_formed words))) (λ formed.
      behind (ltb (lowest_not_once words) (last_node words)) (Err (NotATree (lowest_not_once words))) (λ once.
      before (is_alpha (node_at words (last_node words)).form) (Err (NotATree (last_node words))) (λ alpha.
      behind (ltb (lowest_unknown catalogue words) (node_count words)) (Err (UnknownRelation (lowest_unknown catalogue words))) (λ known.
      faults_decide_tree
      (searched_right catalogue words count (ltb-false (lowest_ill_formed words) (node_count words) formed) (ltb-false (lowest_not_once words) (last_node words) once) alpha (ltb-false (lowest_unknown catalogue words) (node_count words) known)))))))

-- what is accepted has passed 1
pub accepted-count : (catalogue words : List ℕ) → judged_question catalogue words ≡ Ok tt → count_ok words ≡ true
unfolding judged_question
accepted-count catalogue words e = (passed_first (count_ok words) WrongCount _ e).0

pub faults_accept_exactly : (catalogue words : List ℕ) → HasColumns catalogue → AcceptedExactly (judged_question catalogue words) catalogue words
faults_accept_exactly catalogue words has = rw (← faults_decide catalogue words has) (accepted-exactly catalogue words has)
