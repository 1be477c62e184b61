-- What the calls of `answer` and of the three C functions ask for, and that what they leave is the outcome named. Assumes nothing.
use Prim.Native.Nat.{ℕ, ◌*◌, ◌≤◌}
use mathlib.Core.Path.{◌≡◌, refl, sym, ap, subst, ◌∙◌}
use mathlib.Core.Bool.{Bool, true, false, cond, not}
use mathlib.Core.List.{List}
use native.Mathlib.Omega.{arith}
use lib.Dec.{ltb}
use lib.ListN.{length, take}
use lib.Seq.{length-sets}
use borrow.Author.Tests.{ne_eqb, ltb-false, not-false}
use Rattle.relations.specs.Limits.{plan_node_words, plan_node_limit}
use Rattle.relations.specs.Lists.{flat}
use Rattle.relations.specs.PlanWords.{node_words}
use Rattle.catalogue.specs.Judging.{catalogue_ok, tables_ok}
use Rattle.question.specs.Judgement.{Judgement, status_of, refused_at, count_ok}
use Rattle.judgements.specs.Faults.{judged_question}
use Rattle.std.specs.Prelude.{Result, Ok, Err, IsErrAnd}
use Rattle.question.specs.declared.judgement.Refusal.{Refusal as QuestionRefusal}
use Rattle.question.specs.declared.judgement.Refusal.TheVariants.{WrongCount, BrokenForm, NotATree, UnknownRelation, Unbound, Unfit}
use Rattle.translation.specs.TranslateCall.{TranslateOutcome, translate_status, translate_place, translate_refusal, plan_buffer_words, plan_of, unwritten, written, judged_outcome, translate_outcome}
use Rattle.translation.specs.declared.call.NotTranslated.{NotTranslated}
use Rattle.running.specs.RunCall.{RunNumbers, run_refusal, run_numbers, RunOutcome, run_outcome}
use Rattle.running.specs.RunBounds.{Bounded}
use Rattle.running.specs.declared.Done.{Done}
use Rattle.running.specs.declared.RunRefusal.{RunRefusal}
use Rattle.running.proofs.RunBounds.{run_bounded}
use Rattle.desk.specs.declared.Results.{Results}
use Rattle.desk.specs.declared.Refusal.{Refusal}
use Rattle.desk.specs.AnswerCall.{answer_numbers, AnswerOutcome, plan_ran, unanswered, answer_outcome}
use Rattle.desk.proofs.PlansLegal.{nodes-between, plan-legal}

-- A fact of either branch, which may use what the test says.

tested : {A : Type 0} (P : A → Type 0) (test : Bool) {x y : A} → (test ≡ true → P x) → (test ≡ false → P y) → P (cond test x y)
tested P true here there = here refl
tested P false here there = there refl

-- An outcome whose numbers, or whose answer, are told in another way.

-- what a `?` hands on of translation's refusal
pub handed_on : (refused : NotTranslated) (answer : Result Results Refusal) → IsErrAnd answer (λ told. told ≡ record { status = translate_status refused; place = translate_place refused })
    → answer_numbers answer ≡ run_refusal (translate_status refused) (translate_place refused)
handed_on refused (Ok _) h = absurd h
handed_on refused (Err told) h = ap (λ (r : Refusal). answer_numbers (Err r)) h

pub run_as : (one other : RunNumbers) (work output : List ℕ) {outcome : RunOutcome} → one ≡ other
    → record { numbers = other; work = work; output = output } ≡ outcome → record { numbers = one; work = work; output = output } ≡ outcome
run_as one other work output e told = rw e told

pub answered_as : (one other : RunNumbers) (plan work output : List ℕ) {outcome : AnswerOutcome} → one ≡ other
    → record { numbers = other; plan = plan; work = work; output = output } ≡ outcome → record { numbers = one; plan = plan; work = work; output = output } ≡ outcome
answered_as one other plan work output e told = rw e told

-- The numbers of a plan that was run are small, whoever wrote it.

pub ran_bounded : (catalogue tables plan work output : List ℕ) (ran : Result Done RunRefusal) (workLeft outputLeft : List ℕ)
    → record { numbers = run_numbers ran; work = workLeft; output = outputLeft } ≡ run_outcome catalogue tables plan work output → Bounded (run_numbers ran)
ran_bounded catalogue tables plan work output ran workLeft outputLeft e = subst (λ (left : RunOutcome). Bounded left.numbers) (sym e) (run_bounded catalogue tables plan work output)

-- Refusal 7.

pub answer-tables : (catalogue tables question : List ℕ) (mode : ℕ) (plan work output : List ℕ) → tables_ok catalogue tables ≡ false
    → unanswered catalogue tables question mode plan work output 7 0 ≡ answer_outcome catalogue tables question mode plan work output
unfolding answer_outcome
answer-tables catalogue tables question mode plan work output e = rw e

-- What translation leaves.
module _ (catalogue question : List ℕ) (mode : ℕ) (plan : List ℕ) where
  -- the plan that the rules name, in a buffer that holds every plan
  record Wrote (left : TranslateOutcome) : Type 0 where
    is_written : left ≡ written catalogue question mode plan
    catalogue-good : catalogue_ok catalogue ≡ true
    accepted : judged_question catalogue question ≡ Ok tt
    long : plan_buffer_words ≤ length plan

  -- status 0: the plan is written; any other: the buffer is as it was
  record Leaves (left : TranslateOutcome) : Type 0 where
    wrote : left.numbers.status ≡ 0 → Wrote left
    kept : (left.numbers.status ≡ 0 → ⊥) → left.plan ≡ plan

  refusal_leaves : (status place : ℕ) → (status ≡ 0 → ⊥) → Leaves (unwritten catalogue question mode plan status place)
  refusal_leaves status place other = record { wrote = λ zero. absurd (other zero); kept = λ other. refl }

  -- no refusal of a question has number 0
  numbered : (refusal : QuestionRefusal) → status_of refusal ≡ 0 → ⊥
  numbered WrongCount e = omega (arith, e)
  numbered (BrokenForm place) e = omega (arith, e)
  numbered (NotATree place) e = omega (arith, e)
  numbered (UnknownRelation place) e = omega (arith, e)
  numbered (Unbound place) e = omega (arith, e)
  numbered (Unfit place) e = omega (arith, e)

  translate-leaves : Leaves (translate_outcome catalogue question mode plan)
  unfolding translate_outcome
  translate-leaves =
      tested Leaves (not (catalogue_ok catalogue)) (λ wrong. refusal_leaves 7 0 (λ e. omega (arith, e)))
      (λ right. tested Leaves (not (count_ok question)) (λ wrong. refusal_leaves 1 0 (λ e. omega (arith, e)))
      (λ counted. tested Leaves (ltb (length plan) plan_buffer_words) (λ wrong. refusal_leaves 8 0 (λ e. omega (arith, e)))
      (λ long. judged (not-false (catalogue_ok catalogue) right) (ltb-false (length plan) plan_buffer_words long) (judged_question catalogue question) refl)))
    where
      judged : catalogue_ok catalogue ≡ true → plan_buffer_words ≤ length plan → (judgement : Judgement) → judged_question catalogue question ≡ judgement
          → Leaves (judged_outcome catalogue question mode plan judgement)
      judged right long (Err refusal) is = refusal_leaves (status_of refusal) (refused_at refusal) (numbered refusal)
      judged right long (Ok tt) is =
          record { wrote = λ zero. record { is_written = refl; catalogue-good = right; accepted = is; long = long }; kept = λ other. absurd (other refl) }

  -- what was written: a legal plan, all of it in the buffer
  module _ (good : (translate_outcome catalogue question mode plan).numbers.status ≡ 0) where
    wrote-plan : Wrote (translate_outcome catalogue question mode plan)
    wrote-plan = translate-leaves.wrote good

    between : (1 ≤ length (plan_of catalogue question mode)) × (length (plan_of catalogue question mode) ≤ plan_node_limit)
    between = nodes-between catalogue (plan_of catalogue question mode) (plan-legal catalogue question wrote-plan.catalogue-good wrote-plan.accepted mode)

    written-fits : (translate_outcome catalogue question mode plan).numbers.nodes * plan_node_words ≤ length (translate_outcome catalogue question mode plan).plan
    written-fits = rw wrote-plan.is_written (omega (arith, between.1, wrote-plan.long, length-sets plan 0 (flat node_words (plan_of catalogue question mode))))

  -- a refusal: its status is not 0, since a plan has nodes
  refusal_not_0 : (status place : ℕ) (left : List ℕ) → record { numbers = translate_refusal status place; plan = left } ≡ translate_outcome catalogue question mode plan → status ≡ 0 → ⊥
  refusal_not_0 status place left refused zero =
      let good : (translate_outcome catalogue question mode plan).numbers.status ≡ 0 = sym (ap (λ (o : TranslateOutcome). o.numbers.status) refused) ∙ zero in
      let none : 0 ≡ length (plan_of catalogue question mode) = ap (λ (o : TranslateOutcome). o.numbers.nodes) (refused ∙ (wrote-plan good).is_written) in
      omega (arith, none, (between good).0)

-- What answer leaves behind it.
module _ (catalogue tables question : List ℕ) (mode : ℕ) (plan : List ℕ) (ok : tables_ok catalogue tables ≡ true) where
  pub answer-refused : (status place : ℕ) (left : List ℕ) → record { numbers = translate_refusal status place; plan = left } ≡ translate_outcome catalogue question mode plan
      → (work output : List ℕ)
      → record { numbers = run_refusal status place; plan = left; work = work; output = output } ≡ answer_outcome catalogue tables question mode plan work output
  unfolding answer_outcome
  answer-refused status place left refused work output =
      let not_0 : status ≡ 0 → ⊥ = refusal_not_0 catalogue question mode plan status place left refused in
      let unchanged : left ≡ plan = rw (← refused) at (translate-leaves catalogue question mode plan).kept not_0 in
      rw (ok, ← refused, ne_eqb status 0 not_0, unchanged)

  module _ (nodes heavies : ℕ) (left : List ℕ) (done : record { numbers = record { status = 0; place = 0; nodes = nodes; heavy = heavies }; plan = left } ≡ translate_outcome catalogue question mode plan) where
    -- the plan's words are in the buffer
    pub plan-inside : nodes * plan_node_words ≤ length left
    plan-inside = rw (← done) at (written-fits catalogue question mode plan (sym (ap (λ (o : TranslateOutcome). o.numbers.status) done)))

    pub answer_ran : (work output : List ℕ) {ran : RunOutcome} → ran ≡ run_outcome catalogue tables (take (nodes * plan_node_words) left) work output
        → record { numbers = ran.numbers; plan = left; work = ran.work; output = ran.output } ≡ answer_outcome catalogue tables question mode plan work output
    unfolding answer_outcome
    answer_ran work output e = rw (ok, ← done) (ap (plan_ran (record { numbers = record { status = 0; place = 0; nodes = nodes; heavy = heavies }; plan = left })) e)
