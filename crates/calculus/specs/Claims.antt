-- What is claimed of translation: demand 3 on trees. Proved in proofs/Theorems.
use Rattle.std.specs.Prelude.{◌≡◌, Bool, true, false, List, [], ℕ, ◌*◌, ◌≤◌, ◌<◌, length}
use Rattle.std.proofs.Math.Bool.{So}
use Rattle.relations.specs.Limits.{question_node_limit}
use Rattle.relations.specs.Lists.{filter}
use Rattle.relations.specs.Values.{Rows, Tables, Ascending, Wide}
use Rattle.relations.specs.Machine.{run, last_or}
use Rattle.relations.specs.Plan.{value_at, value_of_node, answer, heavy}
use Rattle.relations.specs.Legality.{legal_plan}
use Rattle.calculus.specs.Question.{Range, Condition, range_nodes, for_some, for_at_least}
use Rattle.calculus.specs.Meaning.{range_rows, condition_holds, Environment}
use Rattle.calculus.specs.Scope.{Scope, columns_in, environment_of}
use Rattle.calculus.specs.Translation.{itself, translate_condition, translate}

-- tables of the catalogue's widths
abbrev pub TablesOf : (ℕ → ℕ) → Tables → Type 0
TablesOf columns tables = (relation : ℕ) → Wide (columns relation) (tables relation)

pub record TranslationRight (columns : ℕ → ℕ) (relations : ℕ) (question : Range) : Type 0 where
  pub plain_meaning : (tables : Tables) → TablesOf columns tables → answer tables (translate columns false question) ≡ range_rows tables question
  pub short_meaning : (tables : Tables) → TablesOf columns tables → answer tables (translate columns true question) ≡ range_rows tables question
  pub same_answer : (tables : Tables) → TablesOf columns tables → answer tables (translate columns false question) ≡ answer tables (translate columns true question)
  pub lighter : heavy (translate columns true question) ≤ heavy (translate columns false question)
  pub small : (short : Bool) → length (translate columns short question) ≤ 4 * range_nodes question
  pub legal : (short : Bool) → range_nodes question ≤ question_node_limit → So (legal_plan columns relations (translate columns short question))

-- "T(f, P) is the plan node for the rows of P that meet f": exactly those, whatever stands in the plan before
pub record KeepsExactly (columns : ℕ → ℕ) (short : Bool) (f : Condition) (s : Scope) : Type 0 where
  pub kept : (tables : Tables) → TablesOf columns tables → (made : List Rows) (p : ℕ) → p < length made → Ascending (value_at made p) → Wide (columns_in s) (value_at made p)
      → last_or [] (run (value_of_node tables) made (translate_condition columns short f itself s p (length made))) ≡ filter (λ row. condition_holds tables f (environment_of s row)) (value_at made p)

-- document 02, "At least so many": with k = 1 it selects what "some" selects, in the question's meaning and in both plans
pub record OneSelectsAsSome (columns : ℕ → ℕ) (variable : ℕ) (range : Range) (f : Condition) (s : Scope) : Type 0 where
  pub same_meaning : (tables : Tables) (e : Environment) → condition_holds tables (for_at_least variable range f 1) e ≡ condition_holds tables (for_some variable range f) e
  pub same_plans : (short : Bool) (tables : Tables) → TablesOf columns tables → (made : List Rows) (p : ℕ) → p < length made → Ascending (value_at made p) → Wide (columns_in s) (value_at made p)
      → last_or [] (run (value_of_node tables) made (translate_condition columns short (for_at_least variable range f 1) itself s p (length made))) ≡ last_or [] (run (value_of_node tables) made (translate_condition columns short (for_some variable range f) itself s p (length made)))
