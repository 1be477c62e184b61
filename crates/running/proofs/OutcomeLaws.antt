-- The outcome of a call, case by case. Assumes nothing.
use mathlib.Core.Path.{◌≡◌, refl, sym, ap, ◌∙◌}
use mathlib.Core.Bool.{Bool, true, false, cond}
use mathlib.Core.List.{List, ◌++◌}
use Prim.Native.Nat.{ℕ, ◌+◌, ◌-◌, ◌*◌, ◌≤◌, ◌<◌}
use native.Mathlib.Omega.{arith}
use lib.Dec.{ltb}
use lib.ListN.{length, take, drop, replicate, length-replicate}
use lib.Seq.{sets, length-take-le}
use borrow.Author.Tests.{lt-ltb, le-ltb}
use Rattle.relations.specs.Nodes.{Node}
use Rattle.relations.specs.Plan.{value_words}
use Rattle.catalogue.specs.Judging.{tables_ok}
use Rattle.values.specs.Words.{row_in, words_of}
use Rattle.values.specs.Building.{cleared_from, Blank}
use Rattle.values.specs.declared.rows.Value.{Value}
use Rattle.values.proofs.RowsLaws.{row_inside, length-rows_at, words-rows_at}
use Rattle.plan_reading.specs.Judging.{illegal_at, plan_judgement, nodes_of_plan}
use Rattle.running.specs.RunCall.{RunNumbers, run_numbers, run_refusal, RunOutcome, capacity_of, Fit, fits, passes_at, answer_rows, last_place, answer_width, fit_within, stopped, answered, ran_outcome, refused, run_outcome}
use Rattle.running.specs.PlanRun.{Answered, PlanRun}
use Rattle.running.specs.declared.RunRefusal.{RunRefusal}
use Rattle.running.specs.declared.RunRefusal.TheVariants.{WrongTables, IllegalPlan, NoRoom, LongAnswer}
use Rattle.std.specs.Prelude.{Ok, Err}

-- a work area that was cleared is blank
pub cleared-blank : {words : List ℕ} (work : List ℕ) → words ≡ cleared_from 0 work → Blank 0 words
cleared-blank {words} work e =
    let size : length words - 0 ≡ length work - 0 = omega (arith, ap length e, length-replicate {A = ℕ} (length work - 0) 0) in
    e ∙ ap (λ (n : ℕ). replicate n 0) (sym size)

-- After running: the answer handed out, or a refusal.
module _ (catalogue tables : List ℕ) (plan : List Node) (work after : List ℕ) (same : length after ≡ length work) where
  pub ran_refused : (refusal : RunRefusal) → PlanRun catalogue tables plan after (Err refusal) → (output left : List ℕ)
      → record { numbers = run_numbers (Err refusal); work = left; output = output } ≡ ran_outcome catalogue tables plan left output (fit_within catalogue tables plan (length work))
  ran_refused WrongTables ran output left = absurd ran
  ran_refused (IllegalPlan place) ran output left = absurd ran
  ran_refused (NoRoom place) ran output left = rw (← same, ran)
  ran_refused (LongAnswer place) ran output left = absurd ran

  module _ {value : Value} {heavies room : ℕ} (ran_answer : Answered catalogue tables plan after value heavies room) where
    pub ran_inside : value.base + value.rows * value.width ≤ length work
    ran_inside = omega (arith, ran_answer.inside, same)

    fit : fit_within catalogue tables plan (length work) ≡ fits
    fit = rw same at ran_answer.fit

    many : value.rows ≡ length (answer_rows catalogue tables plan)
    many = sym (length-rows_at value.width value.rows value.base after) ∙ ap length ran_answer.rows

    words : value.rows * value.width ≡ value_words (answer_width catalogue tables plan) (answer_rows catalogue tables plan)
    words = rw (many, ran_answer.width)

    module _ (nodes : ℕ) (nodes-are : length plan ≡ nodes) (output left : List ℕ) where
      pub ran_long : length output < value.rows * value.width
          → record { numbers = run_refusal 11 (nodes - 1); work = left; output = output } ≡ ran_outcome catalogue tables plan left output (fit_within catalogue tables plan (length work))
      ran_long over = rw (fit, ← words, lt-ltb (length output) (value.rows * value.width) over, nodes-are)

      pub ran_done : {written : List ℕ} → value.rows * value.width ≤ length output → written ≡ sets output 0 (row_in after value.base (value.rows * value.width))
          → record { numbers = record { status = 0; place = 0; nodes = nodes; heavy = heavies; room = room; width = value.width; rows = value.rows }; work = left; output = written }
          ≡ ran_outcome catalogue tables plan left output (fit_within catalogue tables plan (length work))
      ran_done room' stored =
          let answer : row_in after value.base (value.rows * value.width) ≡ words_of (answer_rows catalogue tables plan) =
          row_inside after value.base (value.rows * value.width) ran_answer.inside
          ∙ sym (words-rows_at value.width value.rows value.base after) ∙ ap words_of ran_answer.rows in
          rw (fit, ← words, le-ltb (length output) (value.rows * value.width) room', stored, answer, ← nodes-are, ran_answer.heavy, ran_answer.room, ran_answer.width, many)

-- what is left of the work area goes into the outcome as it is
pub ran_with : (catalogue tables : List ℕ) (plan : List Node) (f : List ℕ → List ℕ) (work output : List ℕ) (fit : Fit) {numbers : RunNumbers} {left written : List ℕ}
    → ◌≡◌ {A = RunOutcome} (record { numbers = numbers; work = left; output = written }) (ran_outcome catalogue tables plan work output fit)
    → ◌≡◌ {A = RunOutcome} (record { numbers = numbers; work = f left; output = written }) (ran_outcome catalogue tables plan (f work) output fit)
ran_with catalogue tables plan f work output fit e = ap through e ∙ go fit
  where
    through : RunOutcome → RunOutcome
    through ran = record { numbers = ran.numbers; work = f ran.work; output = ran.output }

    pick : (b : Bool) → through (cond b (stopped catalogue tables plan work output 11 (last_place catalogue tables plan)) (answered catalogue tables plan work output)) ≡ cond b (stopped catalogue tables plan (f work) output 11 (last_place catalogue tables plan)) (answered catalogue tables plan (f work) output)
    pick true = refl
    pick false = refl

    go : (fit : Fit) → through (ran_outcome catalogue tables plan work output fit) ≡ ran_outcome catalogue tables plan (f work) output fit
    go (passes_at place) = refl
    go fits = pick (ltb (length output) (value_words (answer_width catalogue tables plan) (answer_rows catalogue tables plan)))

-- The whole call.
module _ (catalogue tables plan work output : List ℕ) where
  pub outcome-tables : tables_ok catalogue tables ≡ false → refused catalogue tables plan work output 7 0 ≡ run_outcome catalogue tables plan work output
  unfolding run_outcome
  outcome-tables h = rw h

  pub outcome-illegal : tables_ok catalogue tables ≡ true → {place : ℕ} → plan_judgement catalogue plan ≡ illegal_at place → refused catalogue tables plan work output 9 place ≡ run_outcome catalogue tables plan work output
  unfolding run_outcome
  outcome-illegal h e = rw (h, e)

  -- the part within capacity was run, and what is behind it is as it was
  pub outcome_ran : tables_ok catalogue tables ≡ true → {nodes : ℕ} → plan_judgement catalogue plan ≡ Ok nodes → {capacity : ℕ} → capacity ≡ capacity_of work → {outcome : RunOutcome}
      → outcome ≡ ran_outcome catalogue tables (nodes_of_plan plan) (replicate (length (take capacity work)) 0 ++ drop capacity work) output (fit_within catalogue tables (nodes_of_plan plan) (length (take capacity work)))
      → outcome ≡ run_outcome catalogue tables plan work output
  unfolding run_outcome
  outcome_ran h {nodes} e {capacity} c ran =
      let size : length (take capacity work) ≡ capacity = length-take-le capacity work (rw c (omega arith)) in
      rw (h, e, ← c) (rw size at ran)
