-- Document 01, "Examples; P marks those to prove": P1 to P10 as one table, from the shown text on. Proved in proofs/Papers, by computing `read_outcome` and `answer_outcome`.
use Rattle.std.specs.Prelude.{ℕ, ◌*◌, ◌/◌, ◌≡◌, List, [], ◌∷◌, ◌++◌, length, take, replicate}
use Prim.Native.String.{String}
use Rattle.relations.specs.Limits.{catalogue_pair_limit, word_limit, question_node_limit, question_node_words}
use Rattle.relations.specs.Lists.{All, flat}
use Rattle.lines.specs.Marks.{bytes_of, line_feed}
use Rattle.bundles.specs.ReadCall.{ReadOutcome, read_outcome}
use Rattle.translation.specs.TranslateCall.{plan_buffer_words}
use Rattle.running.specs.RunCall.{RunNumbers, run_refusal}
use Rattle.desk.specs.AnswerCall.{AnswerOutcome, answer_outcome}

-- The bundle as document 01 shows it, line by line; each is ended by LF.

abbrev pub shown_lines : List String
shown_lines =
    "mode=short" ∷
    "relation=2 5" ∷ "row=4 11" ∷ "row=4 12" ∷ "row=7 11" ∷ "row=9 12" ∷ "row=9 11" ∷
    "relation=1 2" ∷ "row=11" ∷ "row=12" ∷
    "relation=2 4" ∷ "row=4 1" ∷ "row=7 1" ∷ "row=9 2" ∷ "row=13 2" ∷
    "node=3 20 1 0 0 0" ∷ "node=1 2 0 0 0 0" ∷ "node=4 20 2 0 0 0" ∷ "node=1 1 0 0 0 0" ∷
    "node=1 0 0 0 0 0" ∷ "node=9 22 1 1 20 1" ∷ "node=9 22 2 1 21 1" ∷ "node=10 6 7 0 0 0" ∷
    "node=13 22 5 8 0 0" ∷ "node=14 21 4 9 0 0" ∷ "node=2 1 3 10 0 0" ∷ []

abbrev pub shown_text : List ℕ
shown_text = flat (λ shown. bytes_of shown ++ (line_feed ∷ [])) shown_lines

-- Its tables; P3 has no ban days.

abbrev pub ban_days : List ℕ
ban_days = 11 ∷ 12 ∷ []

-- relation 2, of which P is the rows
abbrev pub players : List ℕ
players = 4 ∷ 1 ∷ 7 ∷ 1 ∷ 9 ∷ 2 ∷ 13 ∷ 2 ∷ []

abbrev pub paper_catalogue : (days people : List ℕ) → List ℕ
paper_catalogue days people = 2 ∷ 5 ∷ 1 ∷ length days ∷ 2 ∷ length people / 2 ∷ []

abbrev pub paper_tables : (days people : List ℕ) → List ℕ
paper_tables days people = (4 ∷ 11 ∷ 4 ∷ 12 ∷ 7 ∷ 11 ∷ 9 ∷ 12 ∷ 9 ∷ 11 ∷ []) ++ days ++ people

-- Its question: node 0 is the target (P9 changes its attribute, P10 its variable), node 1 a table (P8 changes its relation).

abbrev pub paper_question : (variable attribute relation : ℕ) → List ℕ
paper_question variable attribute relation =
    3 ∷ variable ∷ attribute ∷ 0 ∷ 0 ∷ 0 ∷
    1 ∷ relation ∷ 0 ∷ 0 ∷ 0 ∷ 0 ∷
    4 ∷ 20 ∷ 2 ∷ 0 ∷ 0 ∷ 0 ∷
    1 ∷ 1 ∷ 0 ∷ 0 ∷ 0 ∷ 0 ∷
    1 ∷ 0 ∷ 0 ∷ 0 ∷ 0 ∷ 0 ∷
    9 ∷ 22 ∷ 1 ∷ 1 ∷ 20 ∷ 1 ∷
    9 ∷ 22 ∷ 2 ∷ 1 ∷ 21 ∷ 1 ∷
    10 ∷ 6 ∷ 7 ∷ 0 ∷ 0 ∷ 0 ∷
    13 ∷ 22 ∷ 5 ∷ 8 ∷ 0 ∷ 0 ∷
    14 ∷ 21 ∷ 4 ∷ 9 ∷ 0 ∷ 0 ∷
    2 ∷ 1 ∷ 3 ∷ 10 ∷ 0 ∷ 0 ∷ []

abbrev pub bundle_question : List ℕ
bundle_question = paper_question 20 1 2

-- A line: the call (its buffers hold zeros), the numbers that it gives, and the words at the output's front.
pub record Paper : Type 0 where
  pub mode : ℕ
  pub days : List ℕ
  pub people : List ℕ
  pub question : List ℕ
  pub work_words : ℕ
  pub output_words : ℕ
  pub numbers : RunNumbers
  pub rows : List ℕ

abbrev pub call_of : Paper → AnswerOutcome
call_of p =
    answer_outcome (paper_catalogue p.days p.people) (paper_tables p.days p.people) p.question p.mode
    (replicate plan_buffer_words 0) (replicate p.work_words 0) (replicate p.output_words 0)

pub record Holds (p : Paper) : Type 0 where
  pub numbers : (call_of p).numbers ≡ p.numbers
  pub rows : take (length p.rows) (call_of p).output ≡ p.rows

abbrev pub passes : (mode : ℕ) (days people : List ℕ) (work_words output_words nodes heavy room : ℕ) (answer : List ℕ) → Paper
passes mode days people work_words output_words nodes heavy room answer =
    record {
      mode = mode;
      days = days;
      people = people;
      question = bundle_question;
      work_words = work_words;
      output_words = output_words;
      numbers = record { status = 0; place = 0; nodes = nodes; heavy = heavy; room = room; width = 1; rows = length answer };
      rows = answer;
    }

abbrev pub is_refused : (question : List ℕ) (work_words output_words status place : ℕ) → Paper
is_refused question work_words output_words status place =
    record { mode = 1; days = ban_days; people = players; question = question; work_words = work_words; output_words = output_words; numbers = run_refusal status place; rows = [] }

-- "P1 the bundle above. P2 mode=plain: nodes 12, heavy 4, room 353, same rows. P3 no ban days, short: room 47, rows 4 7 9 13."
-- "P4 work of 32 words passes, P5 31 gives 10 at node 7. P6 output of 2 words passes, P7 1 gives 11 at node 7."
-- "P8 relation 3 in node 1 gives 4 at 1. P9 attribute 3 of u gives 6 at 0. P10 variable 21 in node 0 gives 5 at 0."
-- Behind them the last slip, "believing that the shortened plan needs less room: with P empty it can need more": 12 words plain, 14 short.
abbrev pub papers : List Paper
papers =
    passes 1 ban_days players word_limit word_limit 8 2 32 (4 ∷ 9 ∷ [])
    ∷ passes 0 ban_days players word_limit word_limit 12 4 353 (4 ∷ 9 ∷ [])
    ∷ passes 1 [] players word_limit word_limit 8 2 47 (4 ∷ 7 ∷ 9 ∷ 13 ∷ [])
    ∷ passes 1 ban_days players 32 word_limit 8 2 32 (4 ∷ 9 ∷ [])
    ∷ is_refused bundle_question 31 word_limit 10 7
    ∷ passes 1 ban_days players word_limit 2 8 2 32 (4 ∷ 9 ∷ [])
    ∷ is_refused bundle_question word_limit 1 11 7
    ∷ is_refused (paper_question 20 1 3) word_limit word_limit 4 1
    ∷ is_refused (paper_question 20 3 2) word_limit word_limit 6 0
    ∷ is_refused (paper_question 21 1 2) word_limit word_limit 5 0
    ∷ passes 0 ban_days [] word_limit word_limit 12 4 12 []
    ∷ passes 1 ban_days [] word_limit word_limit 8 2 14 []
    ∷ []

-- "P1 the bundle above": reading its bytes gives the words of P1's call.
abbrev pub shown_read : ReadOutcome
shown_read = read_outcome shown_text (replicate (2 * catalogue_pair_limit) 0) (replicate word_limit 0) (replicate (question_node_limit * question_node_words) 0)

pub record ShownRead : Type 0 where
  pub numbers : shown_read.numbers ≡ record { status = 0; place = 0; mode = 1; pairs = 3; words = 20; nodes = 11 }
  pub catalogue : take 6 shown_read.catalogue ≡ paper_catalogue ban_days players
  pub tables : take 20 shown_read.tables ≡ paper_tables ban_days players
  pub question : take 66 shown_read.question ≡ bundle_question

pub record PapersHold : Type 0 where
  pub shown : ShownRead
  pub each : All Holds papers
