-- What the translating functions leave is one outcome. Assumes nothing.
use Prim.Native.Nat.{ℕ}
use mathlib.Core.Path.{◌≡◌, sym, ap₂, ◌∙◌}
use mathlib.Core.Bool.{Bool}
use mathlib.Core.List.{List}
use Rattle.calculus.specs.Question.{Range, Bindings}
use Rattle.conditions.specs.declared.scope.Scope.{Scope as Carried}
use Rattle.emission.proofs.WrittenLaws.{written_unique}
use Rattle.plan_steps.specs.Ranges.{RangeDone}
use Rattle.plan_writing.specs.Translating.{BindingsDone}
use Rattle.plan_steps.specs.declared.ranges.MadeRange.{MadeRange}

module _ {catalogue : List ℕ} {short : Bool} {before after other : List ℕ} {n : ℕ} where
  pub range_unique : {range : Range} {made as-well : MadeRange} → RangeDone catalogue short before range n after made → RangeDone catalogue short before range n other as-well → (after ≡ other) × (made ≡ as-well)
  range_unique d e =
      let one = written_unique d.written e.written in
      (one.0, ap₂ (λ (count width : ℕ). record { count = count; width = width }) one.1 (d.width ∙ sym e.width))

  pub bindings_unique : {bindings : Bindings} {scope grown as-well : Carried} {p count total : ℕ} → BindingsDone catalogue short before bindings scope p n after grown count → BindingsDone catalogue short before bindings scope p n other as-well total → (after ≡ other) × (grown ≡ as-well) × (count ≡ total)
  bindings_unique d e =
      let one = written_unique d.written e.written in
      (one.0, d.is ∙ sym e.is, one.1)
