-- Document 01, "Refusal numbers": the table, line by line, and the order in which each function asks its lines. Assumes nothing.
use Rattle.std.specs.Prelude.{ℕ, suc, List, [], ◌∷◌, ◌++◌, Bool, true, false, cond, not, length, take, ltb, eqb}
use Rattle.relations.specs.Lists.{flat}
use Rattle.relations.specs.Nodes.{Node}
use Rattle.relations.specs.Plan.{value_words}
use Rattle.relations.specs.PlanWords.{node_words}
use Rattle.catalogue.specs.Judging.{catalogue_ok, tables_ok}
use Rattle.nodes.specs.Nodes.{node_count, node_at}
use Rattle.nodes.specs.References.{lowest}
use Rattle.question.specs.Judgement.{count_ok, is_alpha, lowest_ill_formed, last_node, lowest_not_once, lowest_unknown}
use Rattle.judgements.specs.Faults.{lowest_unbound, lowest_unfit}
use Rattle.plan_reading.specs.Judging.{judged_plan, nodes_of_plan}
use Rattle.lines.specs.Reading.{Next, goes_on, wrong_at}
use Rattle.bundles.specs.Reading.{bundle_in}
use Rattle.bundles.specs.ReadCall.{small_buffers}
use Rattle.bundles.specs.Writing.{bundle_text}
use Rattle.bundles.specs.WriteCall.{text_fits}
use Rattle.translation.specs.TranslateCall.{plan_buffer_words, plan_of}
use Rattle.running.specs.RunCall.{capacity_of, plan_room, answer_rows, answer_width, last_place}

-- |no.|given exactly when|place|
pub record Line : Type 0 where
  pub status : ℕ
  pub given : Bool
  pub place : ℕ

abbrev pub line : (status : ℕ) (given : Bool) (place : ℕ) → Line
line status given place = record { status = status; given = given; place = place }

-- A call leaves what the first line that is given says; if none is, the answer.
abbrev pub outcome_by : {Outcome : Type 0} → List Line → (refused : (status place : ℕ) → Outcome) (answered : Outcome) → Outcome
outcome_by [] refused answered = answered
outcome_by (l ∷ lines) refused answered = cond l.given (refused l.status l.place) (outcome_by lines refused answered)

-- The question's lines.
module _ (question : List ℕ) where
  -- "node words not a multiple of 6, or 0 or over 64 nodes"
  abbrev pub wrong_count : Line
  wrong_count = line 1 (not (count_ok question)) 0

  -- "a word breaks the node's form", at the "lowest such node"
  abbrev pub ill_formed : Line
  ill_formed = line 2 (ltb (lowest_ill_formed question) (node_count question)) (lowest_ill_formed question)

  -- "a node but the last isn't referenced exactly once; else the last isn't an alpha", at the "lowest node not referenced exactly once; the last"
  abbrev pub not_once_referenced : Line
  not_once_referenced = line 3 (ltb (lowest_not_once question) (last_node question)) (lowest_not_once question)

  abbrev pub last_no_alpha : Line
  last_no_alpha = line 3 (not (is_alpha (node_at question (last_node question)).form)) (last_node question)

  module _ (catalogue : List ℕ) where
    -- "unknown relation", at the "lowest table node"
    abbrev pub unknown_relation : Line
    unknown_relation = line 4 (ltb (lowest_unknown catalogue question) (node_count question)) (lowest_unknown catalogue question)

    -- "variable not in scope, or bound while in scope", at the "lowest node"
    abbrev pub wrong_scope : Line
    wrong_scope = line 5 (ltb (lowest_unbound catalogue question) (node_count question)) (lowest_unbound catalogue question)

    -- "range sides differ in width; attribute beyond its variable; columns in scope, or an alpha's width, over 32", at the "lowest"
    abbrev pub wrong_width : Line
    wrong_width = line 6 (ltb (lowest_unfit catalogue question) (node_count question)) (lowest_unfit catalogue question)

    -- "2 to 6"
    abbrev pub question_lines : List Line
    question_lines = ill_formed ∷ not_once_referenced ∷ last_no_alpha ∷ unknown_relation ∷ wrong_scope ∷ wrong_width ∷ []

-- "catalogue or data length wrong"; translate sees "pairs and their total of words only"
abbrev pub wrong_catalogue : (catalogue : List ℕ) → Line
wrong_catalogue catalogue = line 7 (not (catalogue_ok catalogue)) 0

abbrev pub wrong_tables : (catalogue tables : List ℕ) → Line
wrong_tables catalogue tables = line 7 (not (tables_ok catalogue tables)) 0

-- "plan buffer under 9,216 words"
abbrev pub short_plan : (plan : List ℕ) → Line
short_plan plan = line 8 (ltb (length plan) plan_buffer_words) 0

-- "plan words not a multiple of 36, or 0 or over 256 nodes; or a node illegal", at "0; lowest such node"
abbrev pub illegal_plan : (catalogue words : List ℕ) → Line
illegal_plan catalogue words = line 9 (eqb (judged_plan catalogue words).status 9) (judged_plan catalogue words).place

module _ (catalogue tables : List ℕ) (nodes : List Node) where
  -- the room of the nodes up to one of them
  abbrev pub room_up_to : ℕ → ℕ
  room_up_to place = plan_room catalogue tables (take (suc place) nodes)

  -- "room passes capacity", at the "first node that passes it"
  abbrev pub no_room : (work : List ℕ) → Line
  no_room work = line 10 (ltb (capacity_of work) (plan_room catalogue tables nodes)) (lowest (λ place. ltb (capacity_of work) (room_up_to place)) (length nodes))

  -- "answer words over the output's length", at the "last plan node"
  abbrev pub long_answer : (output : List ℕ) → Line
  long_answer output = line 11 (ltb (length output) (value_words (answer_width catalogue tables nodes) (answer_rows catalogue tables nodes))) (last_place catalogue tables nodes)

-- "bundle text wrong", at the "first wrong line, from 1"; "over 65,536 bytes: 12, place 0". Demands' `WrongText` says both by texts alone.
abbrev pub is_wrong : Next → Bool
is_wrong (goes_on at bytes) = false
is_wrong (wrong_at at) = true

abbrev pub place_wrong : Next → ℕ
place_wrong (goes_on at bytes) = 0
place_wrong (wrong_at at) = at

abbrev pub wrong_text : (text : List ℕ) → Line
wrong_text text = line 12 (is_wrong (bundle_in text).next) (place_wrong (bundle_in text).next)

-- "text over its buffer or over 65,536 bytes"
abbrev pub long_text : (bytes text : List ℕ) → Line
long_text bytes text = line 13 (not (text_fits bytes text)) 0

-- "reading buffers under 32, 16,384, 384 words"
abbrev pub small_reading : (catalogue tables question : List ℕ) → Line
small_reading catalogue tables question = line 14 (small_buffers catalogue tables question) 0

-- "Translate: 7 (pairs and their total of words only), 1, 8, 2, 3, 4, 5, 6."
abbrev pub translate_lines : (catalogue question plan : List ℕ) → List Line
translate_lines catalogue question plan = wrong_catalogue catalogue ∷ wrong_count question ∷ short_plan plan ∷ question_lines question catalogue

-- 10 and 11, of a plan's nodes
abbrev pub running_lines : (catalogue tables : List ℕ) (nodes : List Node) (work output : List ℕ) → List Line
running_lines catalogue tables nodes work output = no_room catalogue tables nodes work ∷ long_answer catalogue tables nodes output ∷ []

-- "Run: 7, 9, 10, 11."
abbrev pub run_lines : (catalogue tables plan work output : List ℕ) → List Line
run_lines catalogue tables plan work output = wrong_tables catalogue tables ∷ illegal_plan catalogue plan ∷ running_lines catalogue tables (nodes_of_plan plan) work output

-- "Answer: 7, 1, 8, 2 to 6, 9, 10, 11."
abbrev pub answer_lines : (catalogue tables question : List ℕ) (mode : ℕ) (plan work output : List ℕ) → List Line
answer_lines catalogue tables question mode plan work output =
    wrong_tables catalogue tables ∷ wrong_count question ∷ short_plan plan ∷ question_lines question catalogue
    ++ (illegal_plan catalogue (flat node_words (plan_of catalogue question mode)) ∷ running_lines catalogue tables (plan_of catalogue question mode) work output)

-- "Read: 14, 12."
abbrev pub read_lines : (text catalogue tables question : List ℕ) → List Line
read_lines text catalogue tables question = small_reading catalogue tables question ∷ wrong_text text ∷ []

-- "Write: 7, 1, 13."
abbrev pub write_lines : (mode : ℕ) (catalogue tables question text : List ℕ) → List Line
write_lines mode catalogue tables question text = wrong_tables catalogue tables ∷ wrong_count question ∷ long_text (bundle_text mode catalogue tables question) text ∷ []
