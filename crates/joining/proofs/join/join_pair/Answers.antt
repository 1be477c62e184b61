use mathlib.Core.Path.{◌≡◌, sym, ap, ◌∙◌}
use mathlib.Core.Bool.{true, false}
use Prim.Native.Nat.{◌+◌}
use Rattle.values.specs.Words.{row_in}
use Rattle.values.proofs.FillLaws.{filled_still}
use Rattle.partners.specs.Sieves.{sifts}
use Rattle.joining.proofs.join.join_pair.Goals as goal

pub returns-then-lets_through : goal.returns-then-lets_through
returns-then-lets_through c = let s = c.args in
    let e : sifts s.sieve.now (row_in s.work.now s.pair.right s.pair.more) ≡ true = ap (sifts s.sieve.now) (sym c.row.ensures) ∙ sym c.lets_through.ensures ∙ c.if-lets_through.true in
    rw e c.place_pair.ensures

pub returns-else-lets_through : goal.returns-else-lets_through
returns-else-lets_through c = let s = c.args in let p = c.requires in
    let e : sifts s.sieve.now (row_in s.work.now s.pair.right s.pair.more) ≡ false = ap (sifts s.sieve.now) (sym c.row.ensures) ∙ sym c.lets_through.ensures ∙ c.if-lets_through.false in
    rw e (filled_still (s.pair.width + s.pair.more) s.out s.made s.work.now p.4 p.5)
