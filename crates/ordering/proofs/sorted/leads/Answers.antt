use borrow.Author.Tests.{ne_eqb, eq-eqb}
use Prim.Native.Nat.{◌-◌, ◌+◌}
use mathlib.Core.Path.{◌≡◌, refl, sym, ap, ◌∙◌}
use mathlib.Core.Bool.{true, false}
use lib.ListN.{get_or}
use lib.Dec.{eqb}
use Rattle.sorting.specs.Numbers.{all_below}
use Rattle.sorting.proofs.SortLaws.{all_none, all_turn}
use native.Mathlib.Omega.{arith}
use Rattle.ordering.proofs.sorted.leads.Goals as goal

pub returns-then-list-i : goal.returns-then-list-i
returns-then-list-i c = let l = c.args.list.now in let k = c.loop-i in let f : eqb (get_or l (k.i - 1) 0) (k.i - 1 + 1) ≡ false = ne_eqb (get_or l (k.i - 1) 0) (k.i - 1 + 1) (λ q. omega (arith, q)) in
    sym (k.invariant ∙ all_turn (λ i. eqb (get_or l i 0) (i + 1)) k.i (omega arith) ∙ rw f refl)

pub loop-i-preserved : goal.loop-i-preserved
loop-i-preserved c = let l = c.args.list.now in let k = c.loop-i in let f : eqb (get_or l (k.i - 1) 0) (k.i - 1 + 1) ≡ true = eq-eqb (get_or l (k.i - 1) 0) (k.i - 1 + 1) (omega arith) in
    k.invariant ∙ all_turn (λ i. eqb (get_or l i 0) (i + 1)) k.i (omega arith) ∙ rw f refl

pub returns : goal.returns
returns c = let l = c.args.list.now in let k = c.loop-i in let z : k.i ≡ 0 = omega arith in sym (k.invariant ∙ ap (all_below (λ i. eqb (get_or l i 0) (i + 1))) z ∙ all_none (λ i. eqb (get_or l i 0) (i + 1)))
