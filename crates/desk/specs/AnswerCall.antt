-- Document 01, "Refusal numbers": what a call of `answer` leaves: its numbers, the plan, the work area and the output afterwards. Assumes nothing.
use Rattle.std.specs.Prelude.{ℕ, ◌*◌, List, cond, not, take, eqb, Result, Ok, Err}
use Rattle.relations.specs.Limits.{plan_node_words}
use Rattle.catalogue.specs.Judging.{tables_ok}
use Rattle.translation.specs.TranslateCall.{TranslateOutcome, translate_outcome}
use Rattle.running.specs.RunCall.{RunNumbers, run_refusal, RunOutcome, run_outcome}
use Rattle.desk.specs.declared.Results.{Results}
use Rattle.desk.specs.declared.Refusal.{Refusal}

-- the numbers of each case of the answer
abbrev pub answer_numbers : Result Results Refusal → RunNumbers
answer_numbers (Ok answer) = record { status = 0; place = 0; nodes = answer.nodes; heavy = answer.heavy; room = answer.room; width = answer.width; rows = answer.rows }
answer_numbers (Err refusal) = run_refusal refusal.status refusal.place

pub record AnswerOutcome : Type 0 where
  pub numbers : RunNumbers
  pub plan : List ℕ
  pub work : List ℕ
  pub output : List ℕ

-- the words of a plan, which stand at the front of its buffer
abbrev pub plan_in : TranslateOutcome → List ℕ
plan_in translated = take (translated.numbers.nodes * plan_node_words) translated.plan

-- what running a written plan leaves, and the plan, which stays written
abbrev pub plan_ran : TranslateOutcome → RunOutcome → AnswerOutcome
plan_ran translated ran = record { numbers = ran.numbers; plan = translated.plan; work = ran.work; output = ran.output }

module _ (catalogue tables question : List ℕ) (mode : ℕ) (plan work output : List ℕ) where
  -- refused before a plan was written: no buffer changes
  abbrev pub unanswered : (status place : ℕ) → AnswerOutcome
  unanswered status place = record { numbers = run_refusal status place; plan = plan; work = work; output = output }

  abbrev pub translated_outcome : TranslateOutcome → AnswerOutcome
  translated_outcome translated =
      cond (eqb translated.numbers.status 0)
      (plan_ran translated (run_outcome catalogue tables (plan_in translated) work output))
      (unanswered translated.numbers.status translated.numbers.place)

  -- "Answer: 7", then what translate refuses, then what run refuses
  unfoldable pub answer_outcome : AnswerOutcome
  answer_outcome = cond (not (tables_ok catalogue tables)) (unanswered 7 0) (translated_outcome (translate_outcome catalogue question mode plan))
