-- An accepted question: what translating it asks for, and that what it leaves is the outcome named. Assumes nothing.
use Rattle.conditions.specs.Readings.{Names}
use Prim.Native.Nat.{ℕ, ◌*◌, ◌≤◌, ◌<◌}
use mathlib.Core.Path.{◌≡◌, refl, ap, ap₂, ◌∙◌}
use mathlib.Core.Bool.{Bool, true, false, cond, not, So}
use mathlib.Core.List.{List, []}
use native.Mathlib.Omega.{arith}
use lib.Dec.{ltb}
use lib.ListN.{length}
use lib.Seq.{length-sets}
use borrow.Author.Tests.{lt-ltb, le-ltb}
use Rattle.relations.specs.Limits.{plan_node_limit, plan_node_words}
use Rattle.relations.specs.Lists.{flat}
use Rattle.relations.specs.Nodes.{Node}
use Rattle.relations.specs.Plan.{heavy}
use Rattle.relations.specs.Legality.{between, legal_nodes}
use Rattle.relations.specs.PlanWords.{node_words}
use Rattle.relations.proofs.BoolLaws.{and_right}
use Rattle.calculus.specs.Claims.{TranslationRight}
use Rattle.calculus.proofs.Theorems.{translation_right}
use Rattle.catalogue.specs.Judging.{catalogue_words, catalogue_ok, CatalogueNumbers, catalogue_numbers, judged_catalogue}
use Rattle.std.specs.Prelude.{Result, Ok, Err, IsErrAnd}
use Rattle.translation.specs.declared.call.Translated.{Translated}
use Rattle.translation.specs.declared.call.NotTranslated.{NotTranslated}
use Rattle.translation.specs.declared.call.NotTranslated.TheVariants.{WrongQuestion, WrongCatalogue}
use Rattle.catalogue.proofs.PairLaws.{refused}
use Rattle.catalogue.specs.Stored.{relations_of, columns_of}
use Rattle.catalogue.proofs.TableLaws.{known_columns}
use Rattle.judgements.specs.Accepted.{QuestionRight}
use Rattle.nodes.specs.Nodes.{node_count}
use Rattle.question.specs.Judgement.{Judgement, count_ok, judge_count, status_of, refused_at}
use Rattle.question.specs.Walk.{judged_by_walk}
use Rattle.question.specs.Trees.{question_of}
use Rattle.question.specs.declared.judgement.Refusal.{Refusal}
use Rattle.question.specs.declared.judgement.Refusal.TheVariants.{WrongCount}
use Rattle.judgements.proofs.Accepted.{accepted-right, accepted-passed}
use Rattle.judgements.specs.Faults.{judged_question}
use Rattle.judgements.proofs.FaultsDecide.{faults_decide}
use Rattle.question.proofs.Counts.{counted}
use Rattle.translation.specs.TranslateCall.{TranslateOutcome, translate_numbers, translate_refusal, plan_of, plan_buffer_words, unwritten, written, judged_outcome, behind_catalogue, is_short, translate_outcome}
use Rattle.emission.specs.HeavyCount.{heavy_in}
use Rattle.plan_steps.specs.Ranges.{RangeDone}
use Rattle.plan_writing.specs.Translating.{RangeReady}
use Rattle.plan_steps.specs.declared.ranges.MadeRange.{MadeRange}
use Rattle.emission.proofs.HeavyLaws.{heavy-written}

module _ (catalogue question : List ℕ) (ok : catalogue_ok catalogue ≡ true) (accepted : judged_by_walk catalogue question ≡ Ok tt) where
  right : QuestionRight catalogue question
  right = accepted-right catalogue question (known_columns catalogue ok) accepted

  translated : TranslationRight (columns_of catalogue) (relations_of catalogue) (question_of question)
  translated = translation_right (columns_of catalogue) (relations_of catalogue) (question_of question) right.good

  pub last_named : Names question (node_count question)
  last_named =
      let count = counted question (accepted-passed catalogue question accepted).count in
      (count.some, omega arith)

  pub few-nodes : node_count question ≤ 64
  few-nodes = omega (arith, right.whole, right.few)

  module _ (plan : List ℕ) (long : plan_buffer_words ≤ length plan) where
    pub question_ready : RangeReady catalogue plan (question_of question) 0
    question_ready =
        record {
          good = right.good;
          stored = known_columns catalogue ok;
          room = record { nodes = omega (arith, right.few); buffer = long };
        }

    module _ (mode : ℕ) (after : List ℕ) (made : MadeRange) (done : RangeDone catalogue (is_short mode) plan (question_of question) 0 after made) where
      abbrev nodes : List Node
      nodes = plan_of catalogue question mode

      counted-nodes : made.count ≡ length nodes
      counted-nodes = omega (arith, done.written.counted)

      pub plan-fits : (made.count ≤ plan_node_limit) × (made.count * plan_node_words ≤ length after)
      plan-fits =
          let few : made.count ≤ plan_node_limit = omega (arith, counted-nodes, translated.small (is_short mode), right.few) in
          (few, omega (arith, few, long, ap length done.written.words, length-sets plan 0 (flat node_words nodes)))

      pub accepted-written : (heavies : ℕ) → heavies ≡ heavy_in made.count after
          → record { numbers = record { status = 0; place = 0; nodes = made.count; heavy = heavies }; plan = after } ≡ written catalogue question mode plan
      accepted-written heavies e =
          let legal : So (legal_nodes (columns_of catalogue) (relations_of catalogue) [] nodes) = and_right (between 1 plan_node_limit (length nodes)) (legal_nodes (columns_of catalogue) (relations_of catalogue) [] nodes) (translated.legal (is_short mode) right.few) in
          let room : length (flat node_words nodes) ≤ length plan = omega (arith, done.written.whole, counted-nodes, plan-fits.0, long) in
          let heavy_is : heavies ≡ heavy nodes = e ∙ ap₂ heavy_in counted-nodes done.written.words ∙ heavy-written (columns_of catalogue) (relations_of catalogue) plan nodes room legal in
          rw (counted-nodes, heavy_is, done.written.words)

abbrev left_by : Result Translated NotTranslated → List ℕ → TranslateOutcome
left_by answer after = record { numbers = translate_numbers answer; plan = after }

-- What a `?` hands on: the refusal that it was given, as translation's own.
module _ (after : List ℕ) where
  pub handed_catalogue : (answer : Result Translated NotTranslated) → IsErrAnd answer (λ refusal. refusal ≡ WrongCatalogue) → left_by answer after ≡ record { numbers = translate_refusal 7 0; plan = after }
  handed_catalogue (Ok _) h = absurd h
  handed_catalogue (Err refusal) h = ap (λ (r : NotTranslated). left_by (Err r) after) h

  pub handed_question : (refusal : Refusal) (answer : Result Translated NotTranslated) → IsErrAnd answer (λ given. given ≡ WrongQuestion refusal) → left_by answer after ≡ record { numbers = translate_refusal (status_of refusal) (refused_at refusal); plan = after }
  handed_question refusal (Ok _) h = absurd h
  handed_question refusal (Err given) h = ap (λ (r : NotTranslated). left_by (Err r) after) h

-- Each return is the case of the definition that the tests before it decide.

-- the answer of `judge_catalogue`
module _ (catalogue : List ℕ) where
  pub catalogue-good : {words : ℕ} → catalogue_numbers (Ok words) ≡ judged_catalogue catalogue → catalogue_ok catalogue ≡ true
  catalogue-good {words} e = go (catalogue_ok catalogue) e
    where
      go : (good : Bool) → catalogue_numbers (Ok words) ≡ cond good (catalogue_numbers (Ok (catalogue_words catalogue))) refused → good ≡ true
      go true h = refl
      go false h = let never : ◌≡◌ {A = ℕ} 0 7 = ap (λ (n : CatalogueNumbers). n.status) h in absurd (omega arith)

  catalogue-wrong : refused ≡ judged_catalogue catalogue → catalogue_ok catalogue ≡ false
  catalogue-wrong e = go (catalogue_ok catalogue) e
    where
      go : (good : Bool) → refused ≡ cond good (catalogue_numbers (Ok (catalogue_words catalogue))) refused → good ≡ false
      go true h = let never : ◌≡◌ {A = ℕ} 7 0 = ap (λ (n : CatalogueNumbers). n.status) h in absurd (omega arith)
      go false h = refl

-- the answer of `judge_count`
module _ (question : List ℕ) where
  count-good : Ok tt ≡ judge_count question → count_ok question ≡ true
  count-good e = go (count_ok question) e
    where
      go : (good : Bool) → ◌≡◌ {A = Judgement} (Ok tt) (cond good (Ok tt) (Err WrongCount)) → good ≡ true
      go true h = refl
      go false h = absurd cc

  count-wrong : (refusal : Refusal) → Err refusal ≡ judge_count question → count_ok question ≡ false
  count-wrong refusal e = go (count_ok question) e
    where
      go : (good : Bool) → ◌≡◌ {A = Judgement} (Err refusal) (cond good (Ok tt) (Err WrongCount)) → good ≡ false
      go true h = absurd cc
      go false h = refl

module _ (catalogue question : List ℕ) (mode : ℕ) (plan : List ℕ) where
  pub refused_catalogue : refused ≡ judged_catalogue catalogue → unwritten catalogue question mode plan 7 0 ≡ translate_outcome catalogue question mode plan
  unfolding translate_outcome
  refused_catalogue e = rw (catalogue-wrong catalogue e)

  module _ (good : catalogue_ok catalogue ≡ true) where
    pub refused_count : (refusal : Refusal) → Err refusal ≡ judge_count question → unwritten catalogue question mode plan (status_of refusal) (refused_at refusal) ≡ translate_outcome catalogue question mode plan
    unfolding translate_outcome
    refused_count refusal e =
        let wrong : count_ok question ≡ false = count-wrong question refusal e in
        let first : refusal ≡ WrongCount = only (rw wrong at e) in
        rw (good, wrong, first)
      where
        only : ◌≡◌ {A = Judgement} (Err refusal) (Err WrongCount) → refusal ≡ WrongCount
        only h = cc

    module _ (counted : Ok tt ≡ judge_count question) where
      pub refused_short : length plan < plan_buffer_words → unwritten catalogue question mode plan 8 0 ≡ translate_outcome catalogue question mode plan
      unfolding translate_outcome
      refused_short h = rw (good, count-good question counted, lt-ltb (length plan) plan_buffer_words h)

      pub question_judged : plan_buffer_words ≤ length plan → (judgement : Judgement) → judgement ≡ judged_by_walk catalogue question → judged_outcome catalogue question mode plan judgement ≡ translate_outcome catalogue question mode plan
      unfolding translate_outcome
      question_judged h judgement e =
          rw (good, count-good question counted, le-ltb (length plan) plan_buffer_words h) (ap (judged_outcome catalogue question mode plan) (e ∙ faults_decide catalogue question (known_columns catalogue good)))
