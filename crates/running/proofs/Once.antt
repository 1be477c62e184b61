-- A plan's run leaves one outcome. Assumes nothing.
use mathlib.Core.Path.{◌≡◌, refl, sym, ap, ◌∙◌}
use mathlib.Core.List.{List}
use Prim.Native.Nat.{ℕ}
use lib.ListN.{length}
use Rattle.relations.specs.Values.{Rows}
use Rattle.relations.specs.Nodes.{Node}
use Rattle.values.specs.Words.{rows_of}
use Rattle.running.specs.RunCall.{fits, passes_at, fit_within}
use Rattle.running.specs.PlanRun.{PlanRun}
use Rattle.running.specs.declared.Worked.{Worked}
use Rattle.running.specs.declared.RunRefusal.{RunRefusal}
use Rattle.running.specs.declared.RunRefusal.TheVariants.{WrongTables, IllegalPlan, NoRoom, LongAnswer}
use Rattle.std.specs.Prelude.{Result, Ok, Err}

-- What a plan's run tells, apart from where its answer stands in the work area: the refusal, or the answer's rows, width and numbers.
pub data Told : Type 0 where
  refused_as : RunRefusal → Told
  rows_told : Rows → (width heavies words : ℕ) → Told

abbrev pub told_by : List ℕ → Result Worked RunRefusal → Told
told_by work (Ok worked) = rows_told (rows_of worked.value work) worked.value.width worked.heavy worked.room
told_by work (Err refusal) = refused_as refusal

one_told : {rows others : Rows} {w v h g m n : ℕ} → rows ≡ others → w ≡ v → h ≡ g → m ≡ n → rows_told rows w h m ≡ rows_told others v g n
one_told a b c d = rw (a, b, c, d)

-- a refusal is for room, and names the place
refused_once : (catalogue tables : List ℕ) (plan : List Node) (work : List ℕ) (refusal : RunRefusal) → PlanRun catalogue tables plan work (Err refusal)
    → (place : ℕ) × (refusal ≡ NoRoom place) × (fit_within catalogue tables plan (length work) ≡ passes_at place)
refused_once catalogue tables plan work WrongTables a = absurd a
refused_once catalogue tables plan work (IllegalPlan place) a = absurd a
refused_once catalogue tables plan work (NoRoom place) a = (place, refl, a)
refused_once catalogue tables plan work (LongAnswer place) a = absurd a

pub plan-run-once : (catalogue tables : List ℕ) (plan : List Node) (work₁ work₂ : List ℕ) (one other : Result Worked RunRefusal) → length work₁ ≡ length work₂
    → PlanRun catalogue tables plan work₁ one → PlanRun catalogue tables plan work₂ other → told_by work₁ one ≡ told_by work₂ other
plan-run-once catalogue tables plan work₁ work₂ (Ok one) (Ok other) e a b = one_told (a.rows ∙ sym b.rows) (a.width ∙ sym b.width) (a.heavy ∙ sym b.heavy) (a.room ∙ sym b.room)
plan-run-once catalogue tables plan work₁ work₂ (Ok one) (Err other) e a b =
    let no = refused_once catalogue tables plan work₂ other b in
    let fit : fits ≡ passes_at no.0 = sym a.fit ∙ ap (λ (n : ℕ). fit_within catalogue tables plan n) e ∙ no.2 in absurd cc
plan-run-once catalogue tables plan work₁ work₂ (Err one) (Ok other) e a b =
    let no = refused_once catalogue tables plan work₁ one a in
    let fit : fits ≡ passes_at no.0 = sym b.fit ∙ ap (λ (n : ℕ). fit_within catalogue tables plan n) (sym e) ∙ no.2 in absurd cc
plan-run-once catalogue tables plan work₁ work₂ (Err one) (Err other) e a b =
    let no = refused_once catalogue tables plan work₁ one a in
    let nor = refused_once catalogue tables plan work₂ other b in
    let fit : passes_at no.0 ≡ passes_at nor.0 = sym no.2 ∙ ap (λ (n : ℕ). fit_within catalogue tables plan n) e ∙ nor.2 in
    let same : no.0 ≡ nor.0 = cc in
    ap refused_as (no.1 ∙ ap NoRoom same ∙ sym nor.1)
