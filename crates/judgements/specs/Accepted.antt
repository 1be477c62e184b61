-- What is claimed of a question's judgement. An accepted question is a tree in `calculus`' good form, with as many nodes as its table; every such table is accepted;
-- and what the code's walk gives is the judgement by faults. Assumes nothing.
use Rattle.std.specs.Prelude.{◌≡◌, true, false, List, ℕ, ◌≤◌, ◌<◌}
use Rattle.relations.specs.Limits.{question_node_limit}
use Rattle.calculus.specs.Question.{range_nodes}
use Rattle.calculus.specs.Form.{GoodRange}
use Rattle.nodes.specs.Nodes.{node_count, node_at, is_ill_formed}
use Rattle.nodes.specs.References.{references_to, seen}
use Rattle.catalogue.specs.Stored.{relations_of, columns_of}
use Rattle.question.specs.Trees.{question_of}
use Rattle.question.specs.Judgement.{count_ok, is_alpha, is_unknown, last_node}
use Rattle.judgements.specs.Faults.{judged_question}
use Rattle.question.specs.Walk.{judged_by_walk}
use Rattle.std.specs.Prelude.{Ok}
use Rattle.question.specs.Judgement.{Judgement}

-- what refusal 7 leaves of a catalogue: no relation is without columns
abbrev pub HasColumns : List ℕ → Type 0
HasColumns catalogue = (relation : ℕ) → relation < relations_of catalogue → 1 ≤ columns_of catalogue relation

pub record QuestionRight (catalogue words : List ℕ) : Type 0 where
  pub good : GoodRange (columns_of catalogue) (relations_of catalogue) (question_of words)
  pub whole : range_nodes (question_of words) ≡ node_count words
  pub few : range_nodes (question_of words) ≤ question_node_limit

-- a table of which lines 1 to 4 of document 01's table say nothing
pub record TableRight (catalogue words : List ℕ) : Type 0 where
  -- 1: "node words not a multiple of 6, or 0 or over 64 nodes"
  pub count : count_ok words ≡ true
  -- 2: "a word breaks the node's form"
  pub formed : (i : ℕ) → i < node_count words → is_ill_formed (node_at words i).form ≡ false
  -- 3: "a node but the last isn't referenced exactly once; else the last isn't an alpha"
  pub once : (j : ℕ) → j < last_node words → seen (references_to words (node_count words)) j ≡ 1
  pub alpha : is_alpha (node_at words (last_node words)).form ≡ true
  -- 4: "unknown relation"
  pub known : (i : ℕ) → i < node_count words → is_unknown (relations_of catalogue) (node_at words i).form ≡ false

-- A judgement accepts a table exactly when lines 1 to 4 are not given and the tree is in good form: 5 and 6 refuse all else, and nothing more. Proved in
-- proofs/FaultsDecide.antt of the judgement by faults, and in proofs/Accepted.antt of the walk's.
pub record AcceptedExactly (judgement : Judgement) (catalogue words : List ℕ) : Type 0 where
  pub table-right : judgement ≡ Ok tt → TableRight catalogue words
  pub good_form : judgement ≡ Ok tt → GoodRange (columns_of catalogue) (relations_of catalogue) (question_of words)
  pub accepted : TableRight catalogue words → GoodRange (columns_of catalogue) (relations_of catalogue) (question_of words) → judgement ≡ Ok tt

-- What the code's walk gives is the judgement by faults, where no relation of the catalogue is without columns. Proved in proofs/FaultsDecide.antt.
abbrev pub FaultsDecide : (catalogue words : List ℕ) → Type 0
FaultsDecide catalogue words = judged_by_walk catalogue words ≡ judged_question catalogue words
