-- Document 01, "Refusal numbers" 1 to 4; specs/Faults has 5 and 6, and all in their order. Assumes nothing.
use Rattle.std.specs.Prelude.{◌≡◌, ℕ, ◌-◌, ◌%◌, ◌<◌, ◌≤◌, List, Bool, true, false, cond, ◌&&◌, leb, eqb, length, Option, MatchOption, Result, Ok, Err}
use Rattle.relations.specs.Limits.{question_node_limit, question_node_words}
use Rattle.nodes.specs.Nodes.{node_count, node_at, is_ill_formed}
use Rattle.nodes.specs.References.{references_to, lowest, not_once}
use Rattle.catalogue.specs.Stored.{relations_of}
use Rattle.nodes.specs.declared.node.Form.{Form}
use Rattle.nodes.specs.declared.node.Form.TheVariants.{Table, Alpha, Target, Binds, Combines, Compares, Connects, IllFormed}
use Rattle.question.specs.declared.judgement.Refusal.{Refusal}
use Rattle.question.specs.declared.judgement.Refusal.TheVariants.{WrongCount, BrokenForm, NotATree, UnknownRelation, Unbound, Unfit}

-- accepted, or the refusal
abbrev pub Judgement : Type 0
Judgement = Result (Unit {0}) Refusal

-- the numbers of the refusals, and the node at which each is found
abbrev pub status_of : Refusal → ℕ
status_of WrongCount = 1
status_of (BrokenForm place) = 2
status_of (NotATree place) = 3
status_of (UnknownRelation place) = 4
status_of (Unbound place) = 5
status_of (Unfit place) = 6

abbrev pub refused_at : Refusal → ℕ
refused_at WrongCount = 0
refused_at (BrokenForm place) = place
refused_at (NotATree place) = place
refused_at (UnknownRelation place) = place
refused_at (Unbound place) = place
refused_at (Unfit place) = place

-- 1: "node words not a multiple of 6, or 0 or over 64 nodes"
abbrev pub count_ok : List ℕ → Bool
count_ok words = eqb (length words % question_node_words) 0 && leb 1 (node_count words) && leb (node_count words) question_node_limit

abbrev pub judge_count : List ℕ → Judgement
judge_count words = cond (count_ok words) (Ok tt) (Err WrongCount)

abbrev pub is_alpha : Form → Bool
is_alpha (Table relation) = false
is_alpha Alpha = true
is_alpha (Target variable attribute) = false
is_alpha (Binds variable binder) = false
is_alpha (Combines combination) = false
is_alpha (Compares atom) = false
is_alpha (Connects connective) = false
is_alpha IllFormed = false

abbrev pub is_unknown : ℕ → Form → Bool
is_unknown relations (Table relation) = leb relations relation
is_unknown relations Alpha = false
is_unknown relations (Target variable attribute) = false
is_unknown relations (Binds variable binder) = false
is_unknown relations (Combines combination) = false
is_unknown relations (Compares atom) = false
is_unknown relations (Connects connective) = false
is_unknown relations IllFormed = false

-- a search among the nodes below n: the lowest at which the test holds, where there is one
abbrev pub FindsLowest : (ℕ → Bool) → ℕ → Option ℕ → Type 0
FindsLowest test n found = MatchOption found (n ≤ lowest test n) (λ i. (i < n) × (i ≡ lowest test n))

module _ (words : List ℕ) where
  -- 2: "a word breaks the node's form": "lowest such node"
  abbrev pub lowest_ill_formed : ℕ
  lowest_ill_formed = lowest (λ i. is_ill_formed (node_at words i).form) (node_count words)

  -- 3: "a node but the last isn't referenced exactly once; else the last isn't an alpha"
  abbrev pub last_node : ℕ
  last_node = node_count words - 1

  abbrev pub lowest_not_once : ℕ
  lowest_not_once = lowest (not_once (references_to words (node_count words))) last_node

module _ (catalogue words : List ℕ) where
  -- 4: "unknown relation": "lowest table node"
  abbrev pub lowest_unknown : ℕ
  lowest_unknown = lowest (λ i. is_unknown (relations_of catalogue) (node_at words i).form) (node_count words)
