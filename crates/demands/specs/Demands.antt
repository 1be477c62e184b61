-- What is claimed of the calls. Demand 1: every outcome is the one that document 01's table of refusals names. Demand 2: plans, their nodes
-- and bundle text mean what is published. Demand 3: an accepted question's two plans give the rows of the question's own meaning, and the shortened plan is no heavier. Proved in proofs/Demand1, Demand2, Demand3.
use Rattle.std.specs.Prelude.{ℕ, ◌≤◌, ◌<◌, ◌≡◌, Bool, true, false, cond, List, ◌∷◌, ◌++◌, length, take, leb, Ok}
use Rattle.std.proofs.lemmas.List.Edits.{sets}
use Rattle.relations.specs.Lists.{flat, All}
use Rattle.relations.specs.Rows.{Row}
use Rattle.relations.specs.Values.{Rows, Tables}
use Rattle.relations.specs.Nodes.{Node}
use Rattle.relations.specs.Operations.{Exactly}
use Rattle.relations.specs.Plan.{value_at, node_has, values}
use Rattle.relations.specs.PlanWords.{node_words}
use Rattle.calculus.specs.Meaning.{range_rows}
use Rattle.calculus.specs.Form.{width_of_range}
use Rattle.calculus.specs.Translation.{translate}
use Rattle.catalogue.specs.Judging.{catalogue_ok, tables_ok}
use Rattle.values.specs.Words.{words_of}
use Rattle.question.specs.Trees.{question_of}
use Rattle.judgements.specs.Faults.{judged_question}
use Rattle.judgements.specs.Accepted.{AcceptedExactly}
use Rattle.catalogue.specs.Stored.{columns_of, stored_tables}
use Rattle.plan_reading.specs.Judging.{nodes_of_plan, JudgedExactly}
use Rattle.relations.specs.Limits.{byte_limit}
use Rattle.bundles.specs.Reading.{bundle_in}
use Rattle.bundles.specs.ReadCall.{ReadOutcome, read_refused, read_outcome}
use Rattle.bundles.specs.Writing.{bundle_text}
use Rattle.bundles.specs.WriteCall.{WriteOutcome, write_outcome}
use Rattle.bundles.specs.RoundTrip.{wrote, found_bundle, RoundTrip}
use Rattle.bundles.specs.FirstWrong.{RightText, FirstWrong}
use Rattle.translation.specs.TranslateCall.{plan_buffer_words, is_short, plan_of, TranslateOutcome, unwritten, written, translate_outcome}
use Rattle.running.specs.RunCall.{run_refusal, cleared, RunOutcome, answered, run_outcome}
use Rattle.desk.specs.AnswerCall.{AnswerOutcome, plan_in, plan_ran, answer_outcome}
use Rattle.demands.specs.Refusals.{Line, outcome_by, wrong_text, translate_lines, run_lines, answer_lines, read_lines, write_lines}

-- Demand 1.

-- "A refusal's other result numbers are 0." "A refusal changes no buffer, but for the work area on 10 and 11": "all words within capacity are 0 afterwards".
abbrev pub refused_run : (work output : List ℕ) (status place : ℕ) → RunOutcome
refused_run work output status place = record { numbers = run_refusal status place; work = cond (leb 10 status) (cleared work) work; output = output }

-- "and the plan in Answer, which stays written from 9 on"
abbrev pub refused_answer : (plan planWritten work output : List ℕ) (status place : ℕ) → AnswerOutcome
refused_answer plan planWritten work output status place =
    record { numbers = run_refusal status place; plan = cond (leb 9 status) planWritten plan; work = cond (leb 10 status) (cleared work) work; output = output }

abbrev pub NoneGiven : List Line → Type 0
NoneGiven lines = All (λ l. l.given ≡ false) lines

-- a call is answered exactly when no line is given
abbrev pub AnsweredExactly : (status : ℕ) → List Line → Type 0
AnsweredExactly status lines = (status ≡ 0 → NoneGiven lines) × (NoneGiven lines → status ≡ 0)

pub record TranslateDemand (catalogue question : List ℕ) (mode : ℕ) (plan : List ℕ) : Type 0 where
  pub table : translate_outcome catalogue question mode plan ≡ outcome_by (translate_lines catalogue question plan) (unwritten catalogue question mode plan) (written catalogue question mode plan)
  pub exactly : AnsweredExactly (translate_outcome catalogue question mode plan).numbers.status (translate_lines catalogue question plan)

pub record RunDemand (catalogue tables plan work output : List ℕ) : Type 0 where
  pub table : run_outcome catalogue tables plan work output
      ≡ outcome_by (run_lines catalogue tables plan work output) (refused_run work output) (answered catalogue tables (nodes_of_plan plan) (cleared work) output)
  pub exactly : AnsweredExactly (run_outcome catalogue tables plan work output).numbers.status (run_lines catalogue tables plan work output)

pub record AnswerDemand (catalogue tables question : List ℕ) (mode : ℕ) (plan work output : List ℕ) : Type 0 where
  pub table : answer_outcome catalogue tables question mode plan work output
      ≡ outcome_by (answer_lines catalogue tables question mode plan work output)
      (refused_answer plan (sets plan 0 (flat node_words (plan_of catalogue question mode))) work output)
      (plan_ran (written catalogue question mode plan) (answered catalogue tables (plan_of catalogue question mode) (cleared work) output))
  pub exactly : AnsweredExactly (answer_outcome catalogue tables question mode plan work output).numbers.status (answer_lines catalogue tables question mode plan work output)
  -- a plan that translation writes is legal
  pub never9 : (answer_outcome catalogue tables question mode plan work output).numbers.status ≡ 9 → ⊥

-- Line 12 by texts alone, with no reader in sight: not given exactly when the text is that of a bundle and within the limit; "over: place 0";
-- else the place is the first wrong line.
pub record WrongText (text : List ℕ) : Type 0 where
  pub right : (wrong_text text).given ≡ false → (length text ≤ byte_limit) × RightText text
  pub passed : length text ≤ byte_limit → RightText text → (wrong_text text).given ≡ false
  pub over : byte_limit < length text → (wrong_text text).place ≡ 0
  pub first : length text ≤ byte_limit → (wrong_text text).given ≡ true → FirstWrong text (wrong_text text).place

-- read hands back the bundle that the text is
abbrev pub read_bundle : (text catalogue tables question : List ℕ) → ReadOutcome
read_bundle text catalogue tables question =
    found_bundle (bundle_in text).mode (bundle_in text).catalogue (bundle_in text).tables (bundle_in text).nodes catalogue tables question

pub record ReadDemand (text catalogue tables question : List ℕ) : Type 0 where
  pub table : read_outcome text catalogue tables question ≡ outcome_by (read_lines text catalogue tables question) (read_refused catalogue tables question) (read_bundle text catalogue tables question)
  pub exactly : AnsweredExactly (read_outcome text catalogue tables question).numbers.status (read_lines text catalogue tables question)
  pub wrong : WrongText text

abbrev pub refused_write : (text : List ℕ) (status place : ℕ) → WriteOutcome
refused_write text status place = record { numbers = record { status = status; place = place; bytes = 0 }; text = text }

pub record WriteDemand (mode : ℕ) (catalogue tables question text : List ℕ) : Type 0 where
  pub table : write_outcome mode catalogue tables question text
      ≡ outcome_by (write_lines mode catalogue tables question text) (refused_write text) (wrote (bundle_text mode catalogue tables question) text)
  pub exactly : AnsweredExactly (write_outcome mode catalogue tables question text).numbers.status (write_lines mode catalogue tables question text)

pub record Demand1 : Type 0 where
  -- once 7 is past, 1 to 6 refuse nothing but what document 01's lines 1 to 4 name and trees that are not in good form; 9 nothing but illegal plans
  pub accepting : (catalogue question : List ℕ) → catalogue_ok catalogue ≡ true → AcceptedExactly (judged_question catalogue question) catalogue question
  pub judging : (catalogue : List ℕ) → JudgedExactly catalogue
  pub reading : (text catalogue tables question : List ℕ) → ReadDemand text catalogue tables question
  pub writing : (mode : ℕ) (catalogue tables question text : List ℕ) → WriteDemand mode catalogue tables question text
  pub translating : (catalogue question : List ℕ) (mode : ℕ) (plan : List ℕ) → TranslateDemand catalogue question mode plan
  pub running : (catalogue tables plan work output : List ℕ) → RunDemand catalogue tables plan work output
  pub answering : (catalogue tables question : List ℕ) (mode : ℕ) (plan work output : List ℕ) → AnswerDemand catalogue tables question mode plan work output

-- "uniqueness of that outcome is proved": what a call leaves is one outcome
pub record OneOutcome : Type 0 where
  pub of_translate : (catalogue question : List ℕ) (mode : ℕ) (plan : List ℕ) (one other : TranslateOutcome) → one ≡ translate_outcome catalogue question mode plan
      → other ≡ translate_outcome catalogue question mode plan → one ≡ other
  pub of_run : (catalogue tables plan work output : List ℕ) (one other : RunOutcome) → one ≡ run_outcome catalogue tables plan work output
      → other ≡ run_outcome catalogue tables plan work output → one ≡ other
  pub of_answer : (catalogue tables question : List ℕ) (mode : ℕ) (plan work output : List ℕ) (one other : AnswerOutcome) → one ≡ answer_outcome catalogue tables question mode plan work output
      → other ≡ answer_outcome catalogue tables question mode plan work output → one ≡ other

-- Demand 2.

-- The value of each node of a plan, which stands at the node's place, has exactly the rows of the node's published meaning, given the values before it.
pub record NodesExact (tables : Tables) (plan : List Node) : Type 0 where
  pub each : (before : List Node) (node : Node) (after : List Node) → plan ≡ before ++ (node ∷ after)
      → Exactly (node_has tables (take (length before) (values tables plan)) node) (value_at (values tables plan) (length before))

-- A call of run that is answered: its words spell a plan, and it leaves that plan's last value, its heavy operations and its room.
pub record RunExact (catalogue tables plan work output : List ℕ) : Type 0 where
  pub spelled : flat node_words (nodes_of_plan plan) ≡ plan
  pub nodes : NodesExact (stored_tables catalogue tables) (nodes_of_plan plan)
  pub left : run_outcome catalogue tables plan work output ≡ answered catalogue tables (nodes_of_plan plan) (cleared work) output

-- A call of translate on an accepted question writes the plan that the rules name, and its words are the front of the buffer.
pub record PlanNamed (catalogue question : List ℕ) (mode : ℕ) (plan : List ℕ) : Type 0 where
  pub left : translate_outcome catalogue question mode plan ≡ written catalogue question mode plan
  pub words : plan_in (translate_outcome catalogue question mode plan) ≡ flat node_words (translate (columns_of catalogue) (is_short mode) (question_of question))

-- A call of answer that is answered runs that plan.
pub record AnswerExact (catalogue tables question : List ℕ) (mode : ℕ) (plan work output : List ℕ) : Type 0 where
  pub nodes : NodesExact (stored_tables catalogue tables) (plan_of catalogue question mode)
  pub left : answer_outcome catalogue tables question mode plan work output
      ≡ plan_ran (written catalogue question mode plan) (answered catalogue tables (plan_of catalogue question mode) (cleared work) output)

pub record Demand2 : Type 0 where
  -- a value is known by the rows that it has
  pub one_value : (has : Row → Bool) (one other : Rows) → Exactly has one → Exactly has other → one ≡ other
  pub running : (catalogue tables plan work output : List ℕ) → (run_outcome catalogue tables plan work output).numbers.status ≡ 0 → RunExact catalogue tables plan work output
  pub translating : (catalogue question : List ℕ) (mode : ℕ) (plan : List ℕ) → catalogue_ok catalogue ≡ true → judged_question catalogue question ≡ Ok tt
      → plan_buffer_words ≤ length plan → PlanNamed catalogue question mode plan
  pub answering : (catalogue tables question : List ℕ) (mode : ℕ) (plan work output : List ℕ) → (answer_outcome catalogue tables question mode plan work output).numbers.status ≡ 0
      → AnswerExact catalogue tables question mode plan work output
  -- "bundle text reads into tables and is written back as the same bytes"
  pub round_trip : RoundTrip

-- Demand 3.

-- the rows of the question's own meaning, no plan in sight, and their width
abbrev pub meaning_rows : (catalogue tables question : List ℕ) → Rows
meaning_rows catalogue tables question = range_rows (stored_tables catalogue tables) (question_of question)

abbrev pub meaning_width : (catalogue question : List ℕ) → ℕ
meaning_width catalogue question = width_of_range (columns_of catalogue) (question_of question)

-- what a call is lent
pub record Buffers : Type 0 where
  pub plan : List ℕ
  pub work : List ℕ
  pub output : List ℕ

abbrev pub answer_with : (catalogue tables question : List ℕ) (mode : ℕ) → Buffers → AnswerOutcome
answer_with catalogue tables question mode lent = answer_outcome catalogue tables question mode lent.plan lent.work lent.output

-- refused by neither 10 nor 11
abbrev pub HadRoom : AnswerOutcome → Type 0
HadRoom left = (left.numbers.status ≡ 10 → ⊥) × (left.numbers.status ≡ 11 → ⊥)

-- a call leaves exactly these rows, as words at the front of its output, which has room for all of them
pub record LeavesRows (meant : Rows) (columns : ℕ) (output : List ℕ) (left : AnswerOutcome) : Type 0 where
  pub good : left.numbers.status ≡ 0
  pub width : left.numbers.width ≡ columns
  pub rows : left.numbers.rows ≡ length meant
  pub written : left.output ≡ sets output 0 (words_of meant)
  pub front : take (length (words_of meant)) left.output ≡ words_of meant

pub record SameAnswer (catalogue tables question : List ℕ) (mode : ℕ) (plain short : Buffers) : Type 0 where
  pub plain_rows : LeavesRows (meaning_rows catalogue tables question) (meaning_width catalogue question) plain.output (answer_with catalogue tables question 0 plain)
  pub short_rows : LeavesRows (meaning_rows catalogue tables question) (meaning_width catalogue question) short.output (answer_with catalogue tables question mode short)
  pub lighter : (answer_with catalogue tables question mode short).numbers.heavy ≤ (answer_with catalogue tables question 0 plain).numbers.heavy

-- an accepted question, plain and short; each call has buffers of its own, of any lengths but for the plan's
pub record Demand3 (catalogue tables question : List ℕ) : Type 0 where
  pub same : tables_ok catalogue tables ≡ true → judged_question catalogue question ≡ Ok tt
      → (mode : ℕ) → (mode ≡ 0 → ⊥) → (plain short : Buffers) → plan_buffer_words ≤ length plain.plan → plan_buffer_words ≤ length short.plan
      → HadRoom (answer_with catalogue tables question 0 plain) → HadRoom (answer_with catalogue tables question mode short)
      → SameAnswer catalogue tables question mode plain short
