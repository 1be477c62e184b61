-- The theorems: translation is right, for every question in good form (specs/Claims).
use mathlib.Core.Path.{◌≡◌, refl, sym, ◌∙◌}
use mathlib.Core.Bool.{Bool, true, false, So}
use mathlib.Core.List.{List, []}
use Prim.Native.Nat.{ℕ, ◌*◌, ◌≤◌, ◌<◌}
use native.Mathlib.Omega.{arith}
use lib.ListN.{length}
use Rattle.relations.specs.Legality.{between, legal_nodes, legal_plan}
use Rattle.relations.specs.Limits.{plan_node_limit, question_node_limit}
use Rattle.relations.specs.Machine.{run, last_or}
use Rattle.relations.specs.Nodes.{Node}
use Rattle.relations.specs.Plan.{answer, value_at, value_of_node}
use Rattle.relations.specs.Values.{Tables, Rows, Ascending, Wide}
use Rattle.relations.proofs.BoolLaws.{and_both}
use Rattle.relations.proofs.CountLaws.{one_is_some}
use Rattle.relations.proofs.LegalityLaws.{between_so}
use Rattle.relations.proofs.ListLaws.{filter_same}
use Rattle.calculus.specs.Claims.{TablesOf, TranslationRight, KeepsExactly, OneSelectsAsSome}
use Rattle.calculus.specs.Form.{GoodRange, GoodCondition}
use Rattle.calculus.specs.Meaning.{range_rows, Environment, condition_holds, bound}
use Rattle.calculus.specs.Question.{Range, Condition, range_nodes, for_some, for_at_least}
use Rattle.calculus.specs.Scope.{Scope, columns_in, environment_of}
use Rattle.calculus.specs.Translation.{translate, itself, translate_condition}
use Rattle.calculus.proofs.HeavyTheorem.{lighter}
use Rattle.calculus.proofs.LegalTheorem.{range-fits, nodes-legal}
use Rattle.calculus.proofs.SizeTheorem.{range_size}
use Rattle.calculus.proofs.ValueTheorem.{range-value, condition-value}

-- a translated question has at least one node
some-nodes : (columns : ℕ → ℕ) (relations : ℕ) (short : Bool) (question : Range) → GoodRange columns relations question → 1 ≤ length (translate columns short question)
some-nodes columns relations short question good = (range-fits columns relations short question good [] 0 refl).0

pub translation_right : (columns : ℕ → ℕ) (relations : ℕ) (question : Range) → GoodRange columns relations question → TranslationRight columns relations question
translation_right columns relations question good = record { plain_meaning = meaning false; short_meaning = meaning true; same_answer = λ tables stored. meaning false tables stored ∙ sym (meaning true tables stored); lighter = lighter columns question; small = small; legal = legal }
  where
    meaning : (short : Bool) (tables : Tables) → TablesOf columns tables → answer tables (translate columns short question) ≡ range_rows tables question
    meaning short tables stored = (range-value tables columns relations stored short question good [] 0 refl).1

    small : (short : Bool) → length (translate columns short question) ≤ 4 * range_nodes question
    small short = range_size columns short question 0

    legal : (short : Bool) → range_nodes question ≤ question_node_limit → So (legal_plan columns relations (translate columns short question))
    legal short few-nodes =
        let plan : List Node = translate columns short question in
        and_both (between 1 plan_node_limit (length plan)) (legal_nodes columns relations [] plan) (between_so 1 plan_node_limit (length plan) (some-nodes columns relations short question good, omega (arith, small short))) (nodes-legal columns relations short question good)

-- T(f, P) is exactly the rows of P that meet f
pub keeps-exactly : (columns : ℕ → ℕ) (relations : ℕ) (short : Bool) (f : Condition) (s : Scope) → GoodCondition columns relations f s → KeepsExactly columns short f s
keeps-exactly columns relations short f s good = record { kept = λ tables stored made p below ascending wide. condition-value tables columns relations stored short f s good made (length made) p refl below (ascending, wide) }

-- at least one row: some row
pub one_selects_as_some : (columns : ℕ → ℕ) (relations : ℕ) (variable : ℕ) (range : Range) (f : Condition) (s : Scope) → GoodCondition columns relations (for_at_least variable range f 1) s → OneSelectsAsSome columns variable range f s
unfolding GoodCondition condition_holds
one_selects_as_some columns relations variable range f s good = record { same_meaning = meaning; same_plans = plans }
  where
    meaning : (tables : Tables) (e : Environment) → condition_holds tables (for_at_least variable range f 1) e ≡ condition_holds tables (for_some variable range f) e
    meaning tables e = one_is_some (λ row. condition_holds tables f (bound e variable row)) (range_rows tables range)

    good-some : GoodCondition columns relations (for_some variable range f) s
    good-some = (good.0, good.1, good.2, good.3)

    plans : (short : Bool) (tables : Tables) → TablesOf columns tables → (made : List Rows) (p : ℕ) → p < length made → Ascending (value_at made p) → Wide (columns_in s) (value_at made p)
        → last_or [] (run (value_of_node tables) made (translate_condition columns short (for_at_least variable range f 1) itself s p (length made))) ≡ last_or [] (run (value_of_node tables) made (translate_condition columns short (for_some variable range f) itself s p (length made)))
    plans short tables stored made p below ascending wide = (keeps-exactly columns relations short (for_at_least variable range f 1) s good).kept tables stored made p below ascending wide ∙ (filter_same (λ row. condition_holds tables (for_at_least variable range f 1) (environment_of s row)) (λ row. condition_holds tables (for_some variable range f) (environment_of s row)) (λ row. meaning tables (environment_of s row)) (value_at made p) ∙ sym ((keeps-exactly columns relations short (for_some variable range f) s good-some).kept tables stored made p below ascending wide))
