-- An accepted question's plan, short or not: it is legal, so it has nodes, and no more than the limit. Assumes nothing.
use Prim.Native.Nat.{ℕ, ◌≤◌}
use mathlib.Core.Path.{◌≡◌, ◌∙◌}
use mathlib.Core.Bool.{true, So}
use mathlib.Core.List.{List, []}
use lib.ListN.{length}
use Rattle.std.specs.Prelude.{Ok}
use Rattle.relations.specs.Limits.{plan_node_limit}
use Rattle.relations.specs.Nodes.{Node}
use Rattle.relations.specs.Legality.{between, legal_nodes, legal_plan}
use Rattle.relations.proofs.BoolLaws.{and_left}
use Rattle.relations.proofs.LegalityLaws.{so_between}
use Rattle.calculus.specs.Claims.{TranslationRight}
use Rattle.calculus.proofs.Theorems.{translation_right}
use Rattle.catalogue.specs.Judging.{catalogue_ok}
use Rattle.catalogue.specs.Stored.{relations_of, columns_of}
use Rattle.catalogue.proofs.TableLaws.{known_columns}
use Rattle.judgements.specs.Accepted.{QuestionRight}
use Rattle.judgements.specs.Faults.{judged_question}
use Rattle.question.specs.Trees.{question_of}
use Rattle.judgements.proofs.Accepted.{accepted-right}
use Rattle.judgements.proofs.FaultsDecide.{faults_decide}
use Rattle.translation.specs.TranslateCall.{is_short, plan_of}

pub nodes-between : (catalogue : List ℕ) (nodes : List Node) → So (legal_plan (columns_of catalogue) (relations_of catalogue) nodes) → (1 ≤ length nodes) × (length nodes ≤ plan_node_limit)
nodes-between catalogue nodes legal = so_between 1 plan_node_limit (length nodes) (and_left (between 1 plan_node_limit (length nodes)) (legal_nodes (columns_of catalogue) (relations_of catalogue) [] nodes) legal)

module _ (catalogue question : List ℕ) (ok : catalogue_ok catalogue ≡ true) (accepted : judged_question catalogue question ≡ Ok tt) where
  pub question-right : QuestionRight catalogue question
  question-right = accepted-right catalogue question (known_columns catalogue ok) (faults_decide catalogue question (known_columns catalogue ok) ∙ accepted)

  pub translated_right : TranslationRight (columns_of catalogue) (relations_of catalogue) (question_of question)
  translated_right = translation_right (columns_of catalogue) (relations_of catalogue) (question_of question) question-right.good

  pub plan-legal : (mode : ℕ) → So (legal_plan (columns_of catalogue) (relations_of catalogue) (plan_of catalogue question mode))
  plan-legal mode = translated_right.legal (is_short mode) question-right.few
