-- Document 01, "Running" and "Refusal numbers": what a call of `run` leaves: its numbers, the work area and the output afterwards. Assumes nothing.
use Rattle.std.specs.Prelude.{ℕ, suc, ◌+◌, ◌-◌, min, List, [], ◌∷◌, ◌++◌, cond, not, length, drop, replicate, leb, ltb, Result, Ok, Err}
use Rattle.std.proofs.lemmas.List.Edits.{sets}
use Rattle.relations.specs.Limits.{word_limit}
use Rattle.relations.specs.Values.{Rows}
use Rattle.relations.specs.Nodes.{Node}
use Rattle.relations.specs.Plan.{values, answer, widths, width_at, value_words, heavy, room}
use Rattle.catalogue.specs.Judging.{tables_ok}
use Rattle.values.specs.Words.{words_of}
use Rattle.catalogue.specs.Stored.{columns_of, stored_tables}
use Rattle.plan_reading.specs.Judging.{PlanJudgement, plan_judgement, nodes_of_plan}
use Rattle.running.specs.declared.Done.{Done}
use Rattle.running.specs.declared.RunRefusal.{RunRefusal}
use Rattle.running.specs.declared.RunRefusal.TheVariants.{WrongTables, IllegalPlan, NoRoom, LongAnswer}

-- "Results after status and place: run and answer nodes, heavy, room, width, rows"
pub record RunNumbers : Type 0 where
  pub status : ℕ
  pub place : ℕ
  pub nodes : ℕ
  pub heavy : ℕ
  pub room : ℕ
  pub width : ℕ
  pub rows : ℕ

-- "A refusal's other result numbers are 0"
abbrev pub run_refusal : (status place : ℕ) → RunNumbers
run_refusal status place = record { status = status; place = place; nodes = 0; heavy = 0; room = 0; width = 0; rows = 0 }

abbrev pub run_status : RunRefusal → ℕ
run_status WrongTables = 7
run_status (IllegalPlan node) = 9
run_status (NoRoom node) = 10
run_status (LongAnswer node) = 11

abbrev pub run_place : RunRefusal → ℕ
run_place WrongTables = 0
run_place (IllegalPlan node) = node
run_place (NoRoom node) = node
run_place (LongAnswer node) = node

-- the numbers of each case of the answer
abbrev pub run_numbers : Result Done RunRefusal → RunNumbers
run_numbers (Ok done) = record { status = 0; place = 0; nodes = done.nodes; heavy = done.heavy; room = done.room; width = done.width; rows = done.rows }
run_numbers (Err refusal) = run_refusal (run_status refusal) (run_place refusal)

pub record RunOutcome : Type 0 where
  pub numbers : RunNumbers
  pub work : List ℕ
  pub output : List ℕ

-- "Capacity is the work area's length, at most 16,384."
abbrev pub capacity_of : List ℕ → ℕ
capacity_of work = min (length work) word_limit

-- "Once running starts, all words within capacity are 0 afterwards."
abbrev pub cleared : List ℕ → List ℕ
cleared work = replicate (capacity_of work) 0 ++ drop (capacity_of work) work

-- the words of each value, rows x columns, node by node
abbrev pub sizes_of : List ℕ → List Rows → List ℕ
sizes_of [] made = []
sizes_of (width ∷ widths) [] = []
sizes_of (width ∷ widths) (rows ∷ made) = value_words width rows ∷ sizes_of widths made

-- "10: room passes capacity", at the "first node that passes it"
pub data Fit : Type 0 where
  fits : Fit
  passes_at : ℕ → Fit

unfoldable pub fit_of : (capacity used place : ℕ) → List ℕ → Fit
fit_of capacity used place [] = fits
fit_of capacity used place (size ∷ sizes) = cond (leb (used + size) capacity) (fit_of capacity (used + size) (suc place) sizes) (passes_at place)

module _ (catalogue tables : List ℕ) (plan : List Node) where
  abbrev pub answer_rows : Rows
  answer_rows = answer (stored_tables catalogue tables) plan

  abbrev pub last_place : ℕ
  last_place = length plan - 1

  -- an answer's width is its node's, also when it has no rows
  abbrev pub answer_width : ℕ
  answer_width = width_at (widths (columns_of catalogue) plan) last_place

  abbrev pub plan_room : ℕ
  plan_room = room (columns_of catalogue) (stored_tables catalogue tables) plan

  abbrev pub fit_within : (capacity : ℕ) → Fit
  fit_within capacity = fit_of capacity 0 0 (sizes_of (widths (columns_of catalogue) plan) (values (stored_tables catalogue tables) plan))

  -- running has started: what it leaves of the work area is the same for every outcome
  module _ (work output : List ℕ) where
    abbrev pub stopped : (status place : ℕ) → RunOutcome
    stopped status place = record { numbers = run_refusal status place; work = work; output = output }

    abbrev pub answered : RunOutcome
    answered =
        record {
          numbers = record { status = 0; place = 0; nodes = length plan; heavy = heavy plan; room = plan_room; width = answer_width; rows = length answer_rows };
          work = work;
          output = sets output 0 (words_of answer_rows);
        }

    -- "11: answer words over the output's length", at the "last plan node"
    abbrev pub ran_outcome : Fit → RunOutcome
    ran_outcome (passes_at place) = stopped 10 place
    ran_outcome fits = cond (ltb (length output) (value_words answer_width answer_rows)) (stopped 11 last_place) answered

module _ (catalogue tables plan work output : List ℕ) where
  -- refused before that: no buffer changes
  abbrev pub refused : (status place : ℕ) → RunOutcome
  refused status place = record { numbers = run_refusal status place; work = work; output = output }

  abbrev pub judged_outcome : PlanJudgement → RunOutcome
  judged_outcome (Err illegal) = refused 9 illegal.0
  judged_outcome (Ok count) = ran_outcome catalogue tables (nodes_of_plan plan) (cleared work) output (fit_within catalogue tables (nodes_of_plan plan) (capacity_of work))

  -- "Run: 7, 9, 10, 11"
  unfoldable pub run_outcome : RunOutcome
  run_outcome = cond (not (tables_ok catalogue tables)) (refused 7 0) (judged_outcome (plan_judgement catalogue plan))
