-- Rows made of others, word by word or in two runs. Assumes nothing.
use mathlib.Core.Path.{◌≡◌, sym, ap, ◌∙◌}
use mathlib.Core.List.{List, [], ◌∷◌, ◌++◌, map}
pub use mathlib.Core.List.{map-append}
use Prim.Native.Nat.{ℕ, ◌+◌, ◌≤◌, ◌<◌}
use native.Mathlib.Omega.{arith}
use native.Mathlib.Numerals.{add-one}
use lib.ListN.{length, get_or, set, take, replicate, length-map, length-replicate}
use lib.Seq.{sets, take-suc, length-take-le}
use Rattle.relations.specs.Limits.{column_limit}
use Rattle.relations.specs.Rows.{Row}
use Rattle.relations.specs.Columns.{attribute, column, pick}
use Rattle.relations.proofs.StoreLaws.{sets-append}
use Rattle.values.proofs.WordLaws.{part-sets}
use Rattle.operations.specs.Aside.{aside}

-- two runs, one behind the other, from the front
pub two_runs : (us vs : List ℕ) (n : ℕ) → length us ≡ n → sets (aside us) n vs ≡ aside (us ++ vs)
two_runs us vs n e =
    let j : 0 + length us ≡ n = omega arith in ap (λ (x : ℕ). sets (aside us) x vs) (sym j) ∙ sym (sets-append (replicate column_limit 0) 0 us vs)

-- a turn of the loop that picks columns
pub pick_suc : (made columns : List ℕ) (row : Row) (i x : ℕ) → i < length columns → made ≡ aside (pick (map attribute (take i columns)) row) → x ≡ column row (attribute (get_or columns i 0))
    → set made i x ≡ aside (pick (map attribute (take (i + 1) columns)) row)
pick_suc made columns row i x k e q =
    rw (add-one, take-suc columns i 0 k, map-append attribute (take i columns) (get_or columns i 0 ∷ []), e, q)
    (behind-aside (pick (map attribute (take i columns)) row) i (column row (attribute (get_or columns i 0))) many
    ∙ ap aside (sym (map-append (λ a. column row a) (map attribute (take i columns)) (attribute (get_or columns i 0) ∷ []))))
  where
    many : length (pick (map attribute (take i columns)) row) ≡ i
    many = length-map (map attribute (take i columns)) (λ a. column row a) ∙ length-map (take i columns) attribute ∙ length-take-le i columns (omega arith)

    behind-aside : (front : Row) (n y : ℕ) → length front ≡ n → set (aside front) n y ≡ aside (front ++ (y ∷ []))
    behind-aside front n y e' = two_runs front (y ∷ []) n e'

-- the row is what stands at the front
pub aside_taken : (row : Row) (n : ℕ) → length row ≡ n → n ≤ column_limit → take n (aside row) ≡ row
aside_taken row n e h =
    ap (λ (x : ℕ). take x (aside row)) (sym e) ∙ part-sets (replicate column_limit 0) 0 row (omega (arith, length-replicate {A = ℕ} column_limit 0))
