-- Each judgement is the case of its definition that the tests before it decide. Assumes nothing.
use mathlib.Core.Path.{◌≡◌}
use mathlib.Core.Bool.{true, false}
use mathlib.Core.List.{List}
use Prim.Native.Nat.{ℕ, ◌≤◌, ◌<◌}
use borrow.Author.Tests.{lt-ltb, le-ltb}
use Rattle.std.specs.Prelude.{Ok, Err}
use Rattle.relations.specs.Limits.{question_node_limit}
use Rattle.nodes.specs.Nodes.{node_count, node_at}
use Rattle.question.specs.Judgement.{is_alpha, lowest_ill_formed, last_node, lowest_not_once, lowest_unknown}
use Rattle.question.specs.Walk.{faults_found, judge_tree, judge_nodes}
use Rattle.question.specs.declared.judgement.Refusal.TheVariants.{BrokenForm, NotATree, UnknownRelation, Unbound, Unfit}

module _ (catalogue words : List ℕ) where
  pub unknown_refused : {place : ℕ} → (place < node_count words) × (place ≡ lowest_unknown catalogue words) → Err (UnknownRelation place) ≡ judge_tree catalogue words
  unfolding judge_tree
  unknown_refused {place} h = rw (← h.1, lt-ltb place (node_count words) h.0)

  module _ (known : node_count words ≤ lowest_unknown catalogue words) {unbound unfit : ℕ} (found : (unbound ≡ (faults_found catalogue words).unbound) × (unfit ≡ (faults_found catalogue words).unfit)) where
    pub unbound-refused : unbound < question_node_limit → Err (Unbound unbound) ≡ judge_tree catalogue words
    unfolding judge_tree
    unbound-refused h = rw (le-ltb (lowest_unknown catalogue words) (node_count words) known, ← found.0, lt-ltb unbound question_node_limit h)

    pub unfit-refused : question_node_limit ≤ unbound → unfit < question_node_limit → Err (Unfit unfit) ≡ judge_tree catalogue words
    unfolding judge_tree
    unfit-refused g h =
        rw (le-ltb (lowest_unknown catalogue words) (node_count words) known, ← found.0, le-ltb unbound question_node_limit g, ← found.1, lt-ltb unfit question_node_limit h)

    pub all_accepted : question_node_limit ≤ unbound → question_node_limit ≤ unfit → Ok tt ≡ judge_tree catalogue words
    unfolding judge_tree
    all_accepted g h =
        rw (le-ltb (lowest_unknown catalogue words) (node_count words) known, ← found.0, le-ltb unbound question_node_limit g, ← found.1, le-ltb unfit question_node_limit h)

  pub ill_refused : {place : ℕ} → (place < node_count words) × (place ≡ lowest_ill_formed words) → Err (BrokenForm place) ≡ judge_nodes catalogue words
  unfolding judge_nodes
  ill_refused {place} h = rw (← h.1, lt-ltb place (node_count words) h.0)

  module _ (formed : node_count words ≤ lowest_ill_formed words) {once : ℕ} (o : once ≡ lowest_not_once words) where
    pub once-refused : once < last_node words → Err (NotATree once) ≡ judge_nodes catalogue words
    unfolding judge_nodes
    once-refused h = rw (le-ltb (lowest_ill_formed words) (node_count words) formed, ← o, lt-ltb once (last_node words) h)

    pub tree_judged : last_node words ≤ once → is_alpha (node_at words (last_node words)).form ≡ true → judge_tree catalogue words ≡ judge_nodes catalogue words
    unfolding judge_nodes
    tree_judged g h = rw (le-ltb (lowest_ill_formed words) (node_count words) formed, ← o, le-ltb once (last_node words) g, h)

    pub last_refused : last_node words ≤ once → is_alpha (node_at words (last_node words)).form ≡ false → Err (NotATree (last_node words)) ≡ judge_nodes catalogue words
    unfolding judge_nodes
    last_refused g h = rw (le-ltb (lowest_ill_formed words) (node_count words) formed, ← o, le-ltb once (last_node words) g, h)
