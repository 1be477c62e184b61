-- A list of triples is read exactly where every operator is 1 to 6. Assumes nothing.
use Prim.Native.Nat.{ℕ, zero, suc, ◌<◌}
use mathlib.Core.Path.{◌≡◌, refl}
use mathlib.Core.Bool.{Bool, true, false, ◌&&◌}
use mathlib.Core.List.{List, [], ◌∷◌}
use mathlib.Core.Option.{Option, some, none}
use native.Mathlib.Omega.{arith}
use lib.ListN.{get_or, drop}
use lib.Seq.{drop-drop}
use borrow.Author.Tests.{lt-leb, le-leb, ne_eqb}
use Rattle.relations.specs.Lists.{all}
use Rattle.relations.specs.Comparison.{Operator, equal, not_equal, less, at_most, greater, at_least, operator_of}
use Rattle.relations.specs.Columns.{Triple, attribute}
use Rattle.relations.specs.Legality.{between}
use Rattle.relations.specs.PlanWords.{triple_before, read_triples}
use Rattle.plan_reading.specs.Decoding.{spaced}
use Rattle.plan_reading.proofs.WordLaws.{get_d_front}

-- something is read where the test holds, and nothing where it doesn't
abbrev pub ReadIf : {A : Type 0} → Option A → Bool → Type 0
ReadIf {A} read true = (found : A) × (read ≡ some found)
ReadIf read false = read ≡ none

pub operator_read : (number : ℕ) → ReadIf (operator_of number) (between 1 6 number)
operator_read zero = refl
operator_read (suc zero) = (equal, refl)
operator_read (suc (suc zero)) = (not_equal, refl)
operator_read (suc (suc (suc zero))) = (less, refl)
operator_read (suc (suc (suc (suc zero)))) = (at_most, refl)
operator_read (suc (suc (suc (suc (suc zero))))) = (greater, refl)
operator_read (suc (suc (suc (suc (suc (suc zero)))))) = (at_least, refl)
operator_read (suc (suc (suc (suc (suc (suc (suc more))))))) = large (suc (suc (suc (suc (suc (suc (suc more))))))) (omega arith)
  where
    large : (number : ℕ) → 6 < number → ReadIf (operator_of number) (between 1 6 number)
    large number h =
        let bound : between 1 6 number ≡ false = rw (le-leb 1 number (omega arith), lt-leb number 6 h) in
        let unknown : operator_of number ≡ none = rw (ne_eqb number 1 (λ e. omega arith), ne_eqb number 2 (λ e. omega arith), ne_eqb number 3 (λ e. omega arith), ne_eqb number 4 (λ e. omega arith), ne_eqb number 5 (λ e. omega arith), ne_eqb number 6 (λ e. omega arith)) in
        rw bound unknown

pub triples_read : (count : ℕ) (list : List ℕ) → ReadIf (read_triples count list) (all (between 1 6) (spaced 3 count (drop 1 list)))
unfolding spaced
triples_read zero list = ([], refl)
triples_read (suc count) list =
    rw (get_d_front list 1, drop-drop 3 1 list, ← drop-drop 1 3 list)
    (go (operator_of (get_or list 1 0)) (between 1 6 (get_or list 1 0)) (operator_read (get_or list 1 0)) (read_triples count (drop 3 list)) (all (between 1 6) (spaced 3 count (drop 1 (drop 3 list)))) (triples_read count (drop 3 list)))
  where
    go : (operator : Option Operator) (known : Bool) → ReadIf operator known → (behind : Option (List Triple)) (others : Bool) → ReadIf behind others → ReadIf (triple_before operator list behind) (known && others)
    go operator true o behind true b = (record { left = attribute (get_or list 0 0); operator = o.0; right = attribute (get_or list 2 0) } ∷ b.0, rw (o.1, b.1))
    go operator true o behind false b = rw (o.1, b)
    go operator false o behind others b = rw o
