-- What the node that a reference names is, read as a part of `calculus`' question. Assumes nothing.
use Rattle.std.specs.Prelude.{ℕ, ◌*◌, ◌≤◌, List, length}
use Rattle.relations.specs.Limits.{question_node_words}
use Rattle.calculus.specs.Question as calculus
use Rattle.question.specs.Trees.{Reading, tree_of, reading}

module _ (words : List ℕ) (reference : ℕ) where
  -- a reference of the table, or none; one that names a node
  abbrev pub Inside : Type 0
  Inside = reference * question_node_words ≤ length words

  abbrev pub Names : Type 0
  Names = (1 ≤ reference) × Inside

  abbrev pub reading_at : Reading
  reading_at = reading (tree_of words reference)

  abbrev pub range_at : calculus.Range
  range_at = reading_at.range

  abbrev pub targets_at : List calculus.Target
  targets_at = reading_at.targets

  abbrev pub bindings_at : calculus.Bindings
  bindings_at = reading_at.bindings

  abbrev pub restriction_at : calculus.MaybeCondition
  restriction_at = reading_at.restriction

  abbrev pub condition_at : calculus.Condition
  condition_at = reading_at.condition
