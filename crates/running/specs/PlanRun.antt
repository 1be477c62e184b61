-- What running the nodes of a legal plan leaves in the work area, all of which is room.
use Rattle.std.specs.Prelude.{◌≡◌, List, ℕ, ◌≤◌, length, Result, Ok, Err}
use Rattle.relations.specs.Nodes.{Node}
use Rattle.relations.specs.Plan.{heavy as heavyOf}
use Rattle.values.specs.Words.{rows_of, end}
use Rattle.values.specs.declared.rows.Value.{Value}
use Rattle.running.specs.RunCall.{fits, passes_at, answer_rows, answer_width, plan_room, fit_within}
use Rattle.running.specs.declared.Worked.{Worked}
use Rattle.running.specs.declared.RunRefusal.{RunRefusal}
use Rattle.running.specs.declared.RunRefusal.TheVariants.{NoRoom}

-- the value is the plan's answer and stands in the work area
pub record Answered (catalogue tables : List ℕ) (plan : List Node) (work : List ℕ) (value : Value) (heavies words : ℕ) : Type 0 where
  pub fit : fit_within catalogue tables plan (length work) ≡ fits
  pub inside : end value ≤ length work
  pub rows : rows_of value work ≡ answer_rows catalogue tables plan
  pub width : value.width ≡ answer_width catalogue tables plan
  pub heavy : heavies ≡ heavyOf plan
  pub room : words ≡ plan_room catalogue tables plan

-- no other refusal comes from it
abbrev pub PlanRun : (catalogue tables : List ℕ) (plan : List Node) (work : List ℕ) → Result Worked RunRefusal → Type 0
PlanRun catalogue tables plan work (Ok worked) = Answered catalogue tables plan work worked.value worked.heavy worked.room
PlanRun catalogue tables plan work (Err (NoRoom place)) = fit_within catalogue tables plan (length work) ≡ passes_at place
PlanRun catalogue tables plan work (Err _) = ⊥
