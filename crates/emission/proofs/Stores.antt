-- Runs of stores, one behind another. Assumes nothing.
use Prim.Native.Nat.{ℕ, suc, ◌+◌, ◌<◌}
use mathlib.Core.Path.{◌≡◌, sym, ap, ◌∙◌}
use mathlib.Core.List.{List, [], ◌∷◌}
use native.Mathlib.Omega.{arith}
use native.Mathlib.Numerals.{add-one}
use lib.ListN.{length, get_or, take, set}
use lib.Seq.{sets, take-suc, length-take-le}
use Rattle.relations.proofs.StoreLaws.{sets-append}

-- one store more of a run
pub sets_more : (l p : List ℕ) (i j : ℕ) (vs : List ℕ) → j < length vs → p ≡ sets l i (take j vs) → set p (i + j) (get_or vs j 0) ≡ sets l i (take (j + 1) vs)
sets_more l p i j vs h e =
    ap (λ (q : List ℕ). set q (i + j) (get_or vs j 0)) e
    ∙ ap (λ (k : ℕ). set (sets l i (take j vs)) (i + k) (get_or vs j 0)) (sym (length-take-le j vs (omega arith)))
    ∙ sym (sets-append l i (take j vs) (get_or vs j 0 ∷ []))
    ∙ ap (sets l i) (sym (take-suc vs j 0 h)) ∙ ap (λ (k : ℕ). sets l i (take k vs)) (sym (add-one j))
