-- Operators and their numbers. Assumes nothing.
use Prim.Native.Nat.{ℕ}
use mathlib.Core.Path.{◌≡◌, refl, ap, ◌∙◌}
use mathlib.Core.Bool.{Bool, true, false, cond}
use mathlib.Core.Option.{some, none}
use lib.Dec.{eqb}
use borrow.Author.Tests.{ne_eqb}
use Rattle.relations.specs.Comparison.{Operator, equal, operator_number, operator_of, operator_for, operator_named}
use Rattle.relations.proofs.ComparisonLaws.{operator-back}

pub named_back : (o : Operator) → operator_named (operator_number o) ≡ o
named_back o = ap operator_for (operator-back o)

-- the operator that a number was made of
pub made_of : {number : ℕ} (o : Operator) → number ≡ operator_number o → operator_named number ≡ o
made_of o e = ap operator_named e ∙ named_back o

-- where a number is an operator's, it is the operator of that number
pub operator-named : (number : ℕ) (o : Operator) → operator_of number ≡ some o → operator_named number ≡ o
operator-named number o h = ap operator_for h

-- a number from 2 to 6 apart, every number reads as "="
pub no_operator : (number : ℕ) → (number ≡ 2 → ⊥) → (number ≡ 3 → ⊥) → (number ≡ 4 → ⊥) → (number ≡ 5 → ⊥) → (number ≡ 6 → ⊥) → operator_named number ≡ equal
no_operator number b c d e f = rw (ne_eqb number 2 b, ne_eqb number 3 c, ne_eqb number 4 d, ne_eqb number 5 e, ne_eqb number 6 f) (first (eqb number 1))
  where
    first : (one : Bool) → operator_for (cond one (some equal) none) ≡ equal
    first true = refl
    first false = refl
