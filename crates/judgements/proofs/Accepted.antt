-- The theorem: an accepted question is a tree in good form, with as many nodes as its table; and a judgement is one only. Assumes nothing.
use mathlib.Core.Path.{◌≡◌, refl, sym, ◌∙◌, ap}
use mathlib.Core.Bool.{Bool, true, false, cond}
use mathlib.Core.List.{List}
use mathlib.Core.Logic.{◌⊎◌, inl, inr}
use Prim.Native.Nat.{ℕ, zero, suc, ◌+◌, ◌≤◌, ◌<◌}
use native.Mathlib.Omega.{arith}
use lib.Dec.{ltb, eqb}
use borrow.Author.Tests.{ltb-false, eqb-true, eqb-false, eq-eqb, not-false}
use Rattle.relations.specs.Limits.{question_node_limit}
use Rattle.relations.proofs.BoolLaws.{true_or_false}
use Rattle.calculus.specs.Question.{range_nodes}
use Rattle.nodes.specs.Nodes.{node_count, node_at, is_ill_formed}
use Rattle.nodes.specs.References.{references_to, seen, first_from, lowest, not_once}
use Rattle.catalogue.specs.Stored.{relations_of, columns_of}
use Rattle.question.specs.Trees.{tree_of, tree_nodes, question_of}
use Rattle.question.specs.Judgement.{count_ok, is_alpha, is_unknown, lowest_ill_formed, last_node, lowest_not_once, lowest_unknown}
use Rattle.node_judging.specs.Steps.{no_widths}
use Rattle.question.specs.Walk.{faults_found, judge_tree, judge_nodes, judged_by_walk}
use Rattle.judgements.specs.Accepted.{HasColumns, QuestionRight, TableRight, AcceptedExactly}
use Rattle.std.specs.Prelude.{Ok, Err}
use Rattle.nodes.specs.declared.node.Form.{Form}
use Rattle.nodes.specs.declared.node.Form.TheVariants.{Table, Alpha, Target, Binds, Combines, Compares, Connects, IllFormed}
use Rattle.question.specs.Judgement.{Judgement}
use Rattle.question.specs.declared.judgement.Refusal.{Refusal}
use Rattle.question.specs.declared.judgement.Refusal.TheVariants.{WrongCount, BrokenForm, NotATree, UnknownRelation, Unbound, Unfit}
use Rattle.question.proofs.Counts.{counted}
use Rattle.question.proofs.Searches.{all_below_lem}
use Rattle.question.proofs.Judgements.{all_accepted, tree_judged}
use Rattle.judgements.proofs.SortedTrees.{RangeTree, TreeOf, sort_of, sorted}
use Rattle.judgements.proofs.TreeSizes.{whole-table, range-nodes}
use Rattle.judgements.proofs.GoodForm.{Clean, range-good}
use Rattle.judgements.proofs.CleanForm.{range_clean}

-- accepted behind a test that refuses
passed : (b : Bool) (refusal : Refusal) (rest : Judgement) → cond b (Err refusal) rest ≡ Ok tt → (b ≡ false) × (rest ≡ Ok tt)
passed true refusal rest h = cc
passed false refusal rest h = (refl, h)

pub passed_first : (b : Bool) (refusal : Refusal) (rest : Judgement) → cond b rest (Err refusal) ≡ Ok tt → (b ≡ true) × (rest ≡ Ok tt)
passed_first true refusal rest h = (refl, h)
passed_first false refusal rest h = cc

-- a search that found nothing
none_found : (test : ℕ → Bool) (k j : ℕ) → j + k ≤ first_from test k j → (i : ℕ) → j ≤ i → i < j + k → test i ≡ false
unfolding first_from
none_found test zero j h i a b = absurd (omega arith)
none_found test (suc k) j h i a b = go (true_or_false (test j)) (λ g c. none_found test k (suc j) g i c (omega arith))
  where
    go : (test j ≡ true) ⊎ (test j ≡ false) → (suc j + k ≤ first_from test k (suc j) → suc j ≤ i → test i ≡ false) → test i ≡ false
    go (inl e) ih = let g : j + suc k ≤ j = rw e at h in absurd (omega arith)
    go (inr e) ih = let g : j + suc k ≤ first_from test k (suc j) = rw e at h in later g (true_or_false (eqb i j))
      where
        later : j + suc k ≤ first_from test k (suc j) → (eqb i j ≡ true) ⊎ (eqb i j ≡ false) → test i ≡ false
        later g (inl q) = ap test (eqb-true i j q) ∙ e
        later g (inr q) = ih (omega arith) (apart (λ x. eqb-false i j q x))
          where
            apart : (i ≡ j → ⊥) → suc j ≤ i
            apart d = omega arith

pub none_below : (test : ℕ → Bool) (n : ℕ) → n ≤ lowest test n → (i : ℕ) → i < n → test i ≡ false
none_below test n h i l = let e : 0 + n ≡ n = omega arith in none_found test n 0 (rw e h) i (omega arith) (omega arith)

-- what acceptance says of the table
pub record Passed (catalogue words : List ℕ) : Type 0 where
  pub count : count_ok words ≡ true
  pub formed : node_count words ≤ lowest_ill_formed words
  pub once : last_node words ≤ lowest_not_once words
  pub alpha : is_alpha (node_at words (last_node words)).form ≡ true
  pub known : node_count words ≤ lowest_unknown catalogue words
  pub clean : Clean (faults_found catalogue words)

pub accepted-passed : (catalogue words : List ℕ) → judged_by_walk catalogue words ≡ Ok tt → Passed catalogue words
unfolding judged_by_walk judge_nodes judge_tree
accepted-passed catalogue words h =
    let a = passed_first (count_ok words) WrongCount (judge_nodes catalogue words) h in
    let b = passed (ltb (lowest_ill_formed words) (node_count words)) (BrokenForm (lowest_ill_formed words)) _ a.1 in
    let c = passed (ltb (lowest_not_once words) (last_node words)) (NotATree (lowest_not_once words)) _ b.1 in
    let d = passed_first (is_alpha (node_at words (last_node words)).form) (NotATree (last_node words)) (judge_tree catalogue words) c.1 in
    let e = passed (ltb (lowest_unknown catalogue words) (node_count words)) (UnknownRelation (lowest_unknown catalogue words)) _ d.1 in
    let f = passed (ltb (faults_found catalogue words).unbound question_node_limit) (Unbound (faults_found catalogue words).unbound) _ e.1 in
    let g = passed (ltb (faults_found catalogue words).unfit question_node_limit) (Unfit (faults_found catalogue words).unfit) _ f.1 in
    record {
      count = a.0;
      formed = ltb-false (lowest_ill_formed words) (node_count words) b.0;
      once = ltb-false (lowest_not_once words) (last_node words) c.0;
      alpha = d.0;
      known = ltb-false (lowest_unknown catalogue words) (node_count words) e.0;
      clean = record { bound = ltb-false (faults_found catalogue words).unbound question_node_limit f.0; fit = ltb-false (faults_found catalogue words).unfit question_node_limit g.0 };
    }

-- and a table of which this holds is accepted
pub passed-accepted : (catalogue words : List ℕ) → Passed catalogue words → judged_by_walk catalogue words ≡ Ok tt
unfolding judged_by_walk
passed-accepted catalogue words p =
    rw p.count
    (sym (all_accepted catalogue words p.known (refl, refl) p.clean.bound p.clean.fit ∙ tree_judged catalogue words p.formed refl p.once p.alpha))

-- what meets the contract of `judge` is one judgement only
pub one_judgement : (catalogue words : List ℕ) {a b : Judgement} → a ≡ judged_by_walk catalogue words → b ≡ judged_by_walk catalogue words → a ≡ b
one_judgement catalogue words p q = p ∙ sym q

-- lines 1 to 4, as searches that found nothing and as what holds of every node
pub searched_right : (catalogue words : List ℕ) → count_ok words ≡ true → node_count words ≤ lowest_ill_formed words → last_node words ≤ lowest_not_once words → is_alpha (node_at words (last_node words)).form ≡ true
    → node_count words ≤ lowest_unknown catalogue words → TableRight catalogue words
searched_right catalogue words count formed once alpha known =
    let n : ℕ = node_count words in
    record {
      count = count;
      formed = none_below (λ i. is_ill_formed (node_at words i).form) n formed;
      once = λ j l. eqb-true (seen (references_to words n) j) 1 (not-false (eqb (seen (references_to words n) j) 1) (none_below (not_once (references_to words n)) (last_node words) once j l));
      alpha = alpha;
      known = none_below (λ i. is_unknown (relations_of catalogue) (node_at words i).form) n known;
    }

pub passed-right : (catalogue words : List ℕ) → Passed catalogue words → TableRight catalogue words
passed-right catalogue words p = searched_right catalogue words p.count p.formed p.once p.alpha p.known

right-passed : (catalogue words : List ℕ) → TableRight catalogue words → Clean (faults_found catalogue words) → Passed catalogue words
right-passed catalogue words t clean =
    let n : ℕ = node_count words in
    record {
      count = t.count;
      formed = all_below_lem (λ i. is_ill_formed (node_at words i).form) n t.formed;
      once = all_below_lem (not_once (references_to words n)) (last_node words) (λ j l. rw (eq-eqb (seen (references_to words n) j) 1 (t.once j l)));
      alpha = t.alpha;
      known = all_below_lem (λ i. is_unknown (relations_of catalogue) (node_at words i).form) n t.known;
      clean = clean;
    }

is_alpha_form : (form : Form) → is_alpha form ≡ true → form ≡ Alpha
is_alpha_form (Table relation) h = cc
is_alpha_form Alpha h = refl
is_alpha_form (Target variable attribute) h = cc
is_alpha_form (Binds variable binder) h = cc
is_alpha_form (Combines combination) h = cc
is_alpha_form (Compares atom) h = cc
is_alpha_form (Connects connective) h = cc
is_alpha_form IllFormed h = cc

-- the tree of such a table
pub right_tree : (catalogue words : List ℕ) → TableRight catalogue words → RangeTree (relations_of catalogue) (tree_of words (node_count words))
right_tree catalogue words t =
    let c = counted words t.count in
    let last : ℕ = last_node words in
    let e : node_count words ≡ suc last = omega (arith, c.some) in
    let tree : TreeOf (relations_of catalogue) (sort_of (node_at words last).form) (tree_of words (suc last)) = sorted words (relations_of catalogue) (node_count words) c.few t.formed t.known last (omega arith) in
    rw e (rw (is_alpha_form (node_at words last).form t.alpha) at tree)

pub accepted-right : (catalogue words : List ℕ) → HasColumns catalogue → judged_by_walk catalogue words ≡ Ok tt → QuestionRight catalogue words
accepted-right catalogue words has h =
    let p = accepted-passed catalogue words h in
    let t = passed-right catalogue words p in
    let c = counted words p.count in
    let n : ℕ = node_count words in
    let last : ℕ = last_node words in
    let e : n ≡ suc last = omega (arith, c.some) in
    let once : (j : ℕ) → j < last → seen (references_to words (suc last)) j ≡ 1 = λ j l. rw (← e) (t.once j l) in
    let tree : RangeTree (relations_of catalogue) (tree_of words n) = right_tree catalogue words t in
    let size : range_nodes (question_of words) ≡ n = range-nodes tree ∙ ap (λ (k : ℕ). tree_nodes (tree_of words k)) e ∙ whole-table words last once ∙ sym e in
    record {
      good = (range-good (columns_of catalogue) (relations_of catalogue) has tree no_widths p.clean).good;
      whole = size;
      few = omega (arith, size, c.few);
    }

pub accepted-exactly : (catalogue words : List ℕ) → HasColumns catalogue → AcceptedExactly (judged_by_walk catalogue words) catalogue words
accepted-exactly catalogue words has =
    record {
      table-right = λ h. passed-right catalogue words (accepted-passed catalogue words h);
      good_form = λ h. (accepted-right catalogue words has h).good;
      accepted = λ t good.
          passed-accepted catalogue words (right-passed catalogue words t (range_clean (columns_of catalogue) (relations_of catalogue) has (right_tree catalogue words t) no_widths good));
    }
