-- Demand 3: a call with room leaves exactly the rows of the question's own meaning, in both modes, and the shortened plan is no heavier. Assumes nothing.
use Prim.Native.Nat.{ℕ, ◌≤◌}
use mathlib.Core.Path.{◌≡◌, refl, ap, ◌∙◌}
use mathlib.Core.Bool.{Bool, true, false}
use mathlib.Core.List.{List}
use native.Mathlib.Omega.{arith}
use lib.Dec.{ltb}
use lib.ListN.{length, take}
use lib.Seq.{sets}
use borrow.Author.Tests.{ltb-false, ne_eqb}
use Rattle.std.specs.Prelude.{Ok}
use Rattle.relations.specs.Nodes.{Node}
use Rattle.relations.specs.Values.{Rows}
use Rattle.relations.specs.Plan.{heavy, value_words}
use Rattle.catalogue.specs.Judging.{tables_ok}
use Rattle.values.specs.Words.{words_of}
use Rattle.values.proofs.RowsLaws.{length-words}
use Rattle.values.proofs.WordLaws.{part-sets}
use Rattle.judgements.specs.Faults.{judged_question}
use Rattle.translation.specs.TranslateCall.{plan_buffer_words, is_short, plan_of, written}
use Rattle.running.specs.RunCall.{RunOutcome, capacity_of, cleared, Fit, fits, passes_at, fit_within, answer_rows, answer_width, answered, ran_outcome}
use Rattle.desk.specs.AnswerCall.{AnswerOutcome, plan_ran}
use Rattle.demands.specs.Demands.{meaning_rows, meaning_width, Buffers, answer_with, HadRoom, LeavesRows, Demand3}
use Rattle.demands.proofs.PlansRight.{plans_right, meaning_wide}
use Rattle.demands.proofs.AnswerLaws.{accepted_ran}

-- a run with room is answered, and its output has room for the answer
record WithRoom (catalogue tables : List ℕ) (nodes : List Node) (work output : List ℕ) (ran : RunOutcome) : Type 0 where
  whole : ran ≡ answered catalogue tables nodes work output
  inside : value_words (answer_width catalogue tables nodes) (answer_rows catalogue tables nodes) ≤ length output

with_room : (catalogue tables : List ℕ) (nodes : List Node) (work output : List ℕ) (fit : Fit)
    → ((ran_outcome catalogue tables nodes work output fit).numbers.status ≡ 10 → ⊥) → ((ran_outcome catalogue tables nodes work output fit).numbers.status ≡ 11 → ⊥)
    → WithRoom catalogue tables nodes work output (ran_outcome catalogue tables nodes work output fit)
with_room catalogue tables nodes work output (passes_at place) not10 not11 = absurd (not10 refl)
with_room catalogue tables nodes work output fits not10 not11 = go (ltb (length output) (value_words (answer_width catalogue tables nodes) (answer_rows catalogue tables nodes))) refl
  where
    go : (over : Bool) → ltb (length output) (value_words (answer_width catalogue tables nodes) (answer_rows catalogue tables nodes)) ≡ over → WithRoom catalogue tables nodes work output (ran_outcome catalogue tables nodes work output fits)
    go true over = absurd (not11 (rw over))
    go false over = record { whole = rw over; inside = ltb-false (length output) (value_words (answer_width catalogue tables nodes) (answer_rows catalogue tables nodes)) over }

module _ (catalogue tables question : List ℕ) (ok : tables_ok catalogue tables ≡ true) (accepted : judged_question catalogue question ≡ Ok tt) where
  module _ (mode : ℕ) (lent : Buffers) (long : plan_buffer_words ≤ length lent.plan) (room : HadRoom (answer_with catalogue tables question mode lent)) where
    -- the whole call is the answer of the question's plan
    answered-whole : (answer_with catalogue tables question mode lent ≡ plan_ran (written catalogue question mode lent.plan) (answered catalogue tables (plan_of catalogue question mode) (cleared lent.work) lent.output))
        × (value_words (answer_width catalogue tables (plan_of catalogue question mode)) (answer_rows catalogue tables (plan_of catalogue question mode)) ≤ length lent.output)
    answered-whole =
        let run : RunOutcome = ran_outcome catalogue tables (plan_of catalogue question mode) (cleared lent.work) lent.output (fit_within catalogue tables (plan_of catalogue question mode) (capacity_of lent.work)) in
        let is : answer_with catalogue tables question mode lent ≡ plan_ran (written catalogue question mode lent.plan) run = accepted_ran catalogue tables question mode lent.plan lent.work lent.output ok accepted long in
        let found : WithRoom catalogue tables (plan_of catalogue question mode) (cleared lent.work) lent.output run =
        with_room catalogue tables (plan_of catalogue question mode) (cleared lent.work) lent.output (fit_within catalogue tables (plan_of catalogue question mode) (capacity_of lent.work))
        (λ e. room.0 (ap (λ (left : AnswerOutcome). left.numbers.status) is ∙ e)) (λ e. room.1 (ap (λ (left : AnswerOutcome). left.numbers.status) is ∙ e)) in
        (is ∙ ap (plan_ran (written catalogue question mode lent.plan)) found.whole, found.inside)

    pub leaves-rows : LeavesRows (meaning_rows catalogue tables question) (meaning_width catalogue question) lent.output (answer_with catalogue tables question mode lent)
    leaves-rows =
        let is = answered-whole.0 in
        let rows : answer_rows catalogue tables (plan_of catalogue question mode) ≡ meaning_rows catalogue tables question = (plans_right catalogue tables question ok accepted).rows (is_short mode) in
        let width : answer_width catalogue tables (plan_of catalogue question mode) ≡ meaning_width catalogue question = (plans_right catalogue tables question ok accepted).width (is_short mode) in
        let inside : value_words (meaning_width catalogue question) (meaning_rows catalogue tables question) ≤ length lent.output = rw (rows, width) at answered-whole.1 in
        let words : length (words_of (meaning_rows catalogue tables question)) ≡ value_words (meaning_width catalogue question) (meaning_rows catalogue tables question) =
        length-words (meaning_width catalogue question) (meaning_rows catalogue tables question) (meaning_wide catalogue tables question ok accepted) in
        let left : (answer_with catalogue tables question mode lent).output ≡ sets lent.output 0 (words_of (meaning_rows catalogue tables question)) =
        ap (λ (left : AnswerOutcome). left.output) is ∙ ap (λ (rows : Rows). sets lent.output 0 (words_of rows)) rows in
        record {
          good = ap (λ (left : AnswerOutcome). left.numbers.status) is;
          width = ap (λ (left : AnswerOutcome). left.numbers.width) is ∙ width;
          rows = ap (λ (left : AnswerOutcome). left.numbers.rows) is ∙ ap length rows;
          written = left;
          front = ap (take (length (words_of (meaning_rows catalogue tables question)))) left ∙ part-sets lent.output 0 (words_of (meaning_rows catalogue tables question)) (omega arith);
        }

    heavy_is : (answer_with catalogue tables question mode lent).numbers.heavy ≡ heavy (plan_of catalogue question mode)
    heavy_is = ap (λ (left : AnswerOutcome). left.numbers.heavy) answered-whole.0

-- any mode but 0 writes the one shortened plan
short-plan : (catalogue question : List ℕ) (mode : ℕ) → (mode ≡ 0 → ⊥) → plan_of catalogue question mode ≡ plan_of catalogue question 1
short-plan catalogue question mode short = rw (ne_eqb mode 0 short)

pub demand_3 : (catalogue tables question : List ℕ) → Demand3 catalogue tables question
demand_3 catalogue tables question =
    record {
      same = λ ok accepted mode other plain short plainLong shortLong plainRoom shortRoom.
          record {
            plain_rows = leaves-rows catalogue tables question ok accepted 0 plain plainLong plainRoom;
            short_rows = leaves-rows catalogue tables question ok accepted mode short shortLong shortRoom;
            lighter =
                rw (heavy_is catalogue tables question ok accepted 0 plain plainLong plainRoom, heavy_is catalogue tables question ok accepted mode short shortLong shortRoom, short-plan catalogue question mode other)
                (plans_right catalogue tables question ok accepted).lighter;
          };
    }
