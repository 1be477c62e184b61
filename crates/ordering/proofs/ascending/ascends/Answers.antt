use Prim.Native.Nat.{ℕ, ◌-◌}
use mathlib.Core.Path.{◌≡◌, refl, sym, ap, ◌∙◌}
use mathlib.Core.Bool.{Bool, true, false}
use Rattle.sorting.specs.Numbers.{all_below}
use Rattle.sorting.proofs.SortLaws.{all_none, all_turn}
use Rattle.ordering.proofs.AscendLaws.{before-next}
use native.Mathlib.Omega.{arith}
use Rattle.ordering.proofs.ascending.ascends.Invariants.{ahead}
use Rattle.ordering.proofs.ascending.ascends.Goals as goal

pub returns-then-not-stands_before : goal.returns-then-not-stands_before
returns-then-not-stands_before c = let s = c.args in let v = s.value in let l = s.words.now in let k = c.loop-next in let i : ℕ = k.next - 1 in
    let f : ahead l v (i - 1) ≡ false = before-next l v.base i v.width c.row.result.now c.stands_before.result (omega arith) c.row.ensures c.stands_before.ensures ∙ c.if-not-stands_before.true in
    sym (k.invariant ∙ all_turn (ahead l v) i (omega arith) ∙ rw f refl)

pub loop-next-preserved : goal.loop-next-preserved
loop-next-preserved c = let s = c.args in let v = s.value in let l = s.words.now in let k = c.loop-next in let i : ℕ = k.next - 1 in
    let f : ahead l v (i - 1) ≡ true = before-next l v.base i v.width c.row.result.now c.stands_before.result (omega arith) c.row.ensures c.stands_before.ensures ∙ c.if-not-stands_before.false in
    k.invariant ∙ all_turn (ahead l v) i (omega arith) ∙ rw f refl

pub returns : goal.returns
returns c = let s = c.args in let f : ℕ → Bool = ahead s.words.now s.value in let k = c.loop-next in let z : k.next - 1 ≡ 0 = omega arith in sym (k.invariant ∙ ap (all_below f) z ∙ all_none f)
