-- What the code keeps instead of judgements' Faults: one walk over the tree, which carries a scope down and brings widths and the lowest places of 5 and 6 up, and the
-- judgement that it gives. Contracts of inner code: once 7 is past the judgement is the one by faults (`FaultsDecide`, specs/Accepted), and no promise of
-- `translate`, `run` or `answer` mentions any of this. Assumes nothing.
use Rattle.std.specs.Prelude.{ℕ, min, List, Bool, cond, ltb, Ok, Err}
use Rattle.relations.specs.Limits.{question_node_limit}
use Rattle.catalogue.specs.Stored.{columns_of}
use Rattle.nodes.specs.Nodes.{node_count, node_at}
use Rattle.node_judging.specs.Steps.{no_widths, Found, Step, step_of, place_of, Places, lowered}
use Rattle.node_judging.specs.declared.scope.Scope.{Scope}
use Rattle.question.specs.Trees.{Tree, nothing, branch, question_tree}
use Rattle.question.specs.Judgement.{Judgement, count_ok, is_alpha, lowest_ill_formed, last_node, lowest_not_once, lowest_unknown}
use Rattle.question.specs.declared.judgement.Refusal.TheVariants.{WrongCount, BrokenForm, NotATree, UnknownRelation, Unbound, Unfit}

-- the lowest of it and of those found below
abbrev pub lowest_of : Bool → (i a b c : ℕ) → ℕ
lowest_of fault i a b c = min (place_of fault i) (min a (min b c))

abbrev pub found_at : (ℕ → ℕ) → ℕ → Step → (a b c : Found) → Found
found_at columns i step a b c =
    record {
      unbound = lowest_of step.unbound i a.unbound b.unbound c.unbound;
      unfit = lowest_of (step.unfit a.width b.width) i a.unfit b.unfit c.unfit;
      width = step.width columns a.width c.width;
      scope = step.behind c;
    }

-- All faults of the tree are looked for, so none hides another; behind the last binding the scope is what all bound.
unfoldable pub walk : (ℕ → ℕ) → Tree → Scope → Found
walk columns nothing scope = record { unbound = question_node_limit; unfit = question_node_limit; width = 0; scope = scope }
walk columns (branch i form a b c) scope =
    found_at columns i (step_of scope form)
    (walk columns a ((step_of scope form).inside (walk columns b (step_of scope form).opening)))
    (walk columns b (step_of scope form).opening)
    (walk columns c ((step_of scope form).inside (walk columns b (step_of scope form).opening)))

pub record BindingsWalked : Type 0 where
  pub scope : Scope
  pub lowest : Places

pub record Walked : Type 0 where
  pub width : ℕ
  pub scope : Scope
  pub lowest : Places

module _ (columns : ℕ → ℕ) (tree : Tree) (scope : Scope) (lowest : Places) where
  abbrev pub bindings_walked : BindingsWalked
  bindings_walked = record { scope = (walk columns tree scope).scope; lowest = lowered lowest (walk columns tree scope).unbound (walk columns tree scope).unfit }

  abbrev pub walked : Walked
  walked = record { width = (walk columns tree scope).width; scope = scope; lowest = lowered lowest (walk columns tree scope).unbound (walk columns tree scope).unfit }

module _ (catalogue words : List ℕ) where
  abbrev pub faults_found : Found
  faults_found = walk (columns_of catalogue) (question_tree words) no_widths

  -- each refusal is looked for over the whole table before the next: 4, 5, 6 of a table that is a tree
  unfoldable pub judge_tree : Judgement
  judge_tree =
      cond (ltb (lowest_unknown catalogue words) (node_count words)) (Err (UnknownRelation (lowest_unknown catalogue words)))
      (cond (ltb faults_found.unbound question_node_limit) (Err (Unbound faults_found.unbound))
      (cond (ltb faults_found.unfit question_node_limit) (Err (Unfit faults_found.unfit))
      (Ok tt)))

  -- 2 and 3 before them
  unfoldable pub judge_nodes : Judgement
  judge_nodes =
      cond (ltb (lowest_ill_formed words) (node_count words)) (Err (BrokenForm (lowest_ill_formed words)))
      (cond (ltb (lowest_not_once words) (last_node words)) (Err (NotATree (lowest_not_once words)))
      (cond (is_alpha (node_at words (last_node words)).form) judge_tree (Err (NotATree (last_node words)))))

  -- and 1 before all
  unfoldable pub judged_by_walk : Judgement
  judged_by_walk = cond (count_ok words) judge_nodes (Err WrongCount)
