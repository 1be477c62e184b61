-- The six comparison operators. Document 01, "The question": "Operators: 1 =, 2 <>, 3 <, 4 <=, 5 >, 6 >=."
use Rattle.std.specs.Prelude.{Bool, not, cond, ℕ, ltb, leb, eqb}
use Rattle.std.proofs.Math.Option.{Option, some, none}

pub data Operator : Type 0 where
  equal not_equal less at_most greater at_least : Operator

abbrev pub holds : Operator → ℕ → ℕ → Bool
holds equal x y = eqb x y
holds not_equal x y = not (eqb x y)
holds less x y = ltb x y
holds at_most x y = leb x y
holds greater x y = ltb y x
holds at_least x y = leb y x

-- the operator that holds where this one doesn't (S3, S4, S6)
abbrev pub opposite : Operator → Operator
opposite equal = not_equal
opposite not_equal = equal
opposite less = at_least
opposite at_most = greater
opposite greater = at_most
opposite at_least = less

-- the operator for the sides turned: "the operator is turned when the sides are"
abbrev pub turned : Operator → Operator
turned equal = equal
turned not_equal = not_equal
turned less = greater
turned at_most = at_least
turned greater = less
turned at_least = at_most

abbrev pub operator_number : Operator → ℕ
operator_number equal = 1
operator_number not_equal = 2
operator_number less = 3
operator_number at_most = 4
operator_number greater = 5
operator_number at_least = 6

abbrev pub operator_of : ℕ → Option Operator
operator_of number =
    cond (eqb number 1) (some equal) (cond (eqb number 2) (some not_equal) (cond (eqb number 3) (some less) (cond (eqb number 4) (some at_most) (cond (eqb number 5) (some greater) (cond (eqb number 6) (some at_least) none)))))

-- the operator of a number; a number that is none's, which no legal plan and no question of good form has, reads as "="
abbrev pub operator_for : Option Operator → Operator
operator_for (some operator) = operator
operator_for none = equal

abbrev pub operator_named : ℕ → Operator
operator_named number = operator_for (operator_of number)
