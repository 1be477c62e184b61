-- The rows of a value from a number on, and what passes among them. Assumes nothing.
use mathlib.Core.Path.{◌≡◌, refl, sym, ap, ◌∙◌}
use mathlib.Core.Bool.{Bool, true, false}
use mathlib.Core.Logic.{◌⊎◌, inl, inr}
use mathlib.Core.List.{List, [], ◌∷◌}
use Prim.Native.Nat.{ℕ, zero, suc, ◌+◌, ◌-◌, ◌*◌, ◌≤◌}
use native.Mathlib.Nat.{zero-mul, suc-mul}
use native.Mathlib.Omega.{arith}
use Rattle.relations.specs.Lists.{any, filter}
use Rattle.relations.specs.Rows.{Row}
use Rattle.relations.specs.Values.{Rows}
use Rattle.relations.specs.Columns.{Triple, meets}
use Rattle.relations.proofs.BoolLaws.{true_or_false}
use Rattle.relations.proofs.ListLaws.{any_same, filter_same}
use Rattle.partners.specs.Sieves.{sifts, Sieve}
use Rattle.partners.specs.declared.sieve.Entry.{Entry}

-- so many rows, and the rest
pub times_rest : (m n w : ℕ) → m ≤ n → m * w + (n - m) * w ≡ n * w
times_rest zero n w h = let e : n - zero ≡ n = omega arith in rw (e, zero-mul) (omega arith)
times_rest (suc m) zero w h = absurd (omega arith)
times_rest (suc m) (suc n) w h = let e : suc n - suc m ≡ n - m = omega arith in rw e (omega (arith, suc-mul m w, suc-mul n w, times_rest m n w (omega arith)))

-- some row passes exactly if some row is kept
any-kept : (test : Row → Bool) (rows : Rows) → any test rows ≡ any (λ row. true) (filter test rows)
any-kept test [] = refl
any-kept test (x ∷ rows) = go (true_or_false (test x)) (any-kept test rows)
  where
    go : (test x ≡ true) ⊎ (test x ≡ false) → any test rows ≡ any (λ row. true) (filter test rows) → any test (x ∷ rows) ≡ any (λ row. true) (filter test (x ∷ rows))
    go (inl e) ih = rw e
    go (inr e) ih = rw e ih

any_by_filter : (test : Row → Bool) (rows others : Rows) → filter test rows ≡ filter test others → any test rows ≡ any test others
any_by_filter test rows others e = any-kept test rows ∙ ap (any (λ row. true)) e ∙ sym (any-kept test others)

-- what a sieve lets through of some rows that have all those of others, told by the triples
module _ {triples : List Triple} {left : Row} {sieve : List Entry} (made : Sieve triples left sieve) (rows others : Rows) (all : filter (sifts sieve) rows ≡ filter (sifts sieve) others) where
  pub any_through : any (sifts sieve) others ≡ any (meets triples left) rows
  any_through = sym (any_by_filter (sifts sieve) rows others all) ∙ any_same (sifts sieve) (meets triples left) made.same rows

  pub filter_through : filter (sifts sieve) others ≡ filter (meets triples left) rows
  filter_through = sym all ∙ filter_same (sifts sieve) (meets triples left) made.same rows
