-- A run of stores (`sets`) is the run of its first part, then that of its second behind it. Assumes nothing.
use Prim.Native.Nat.{ℕ, suc, ◌+◌}
use mathlib.Core.Path.{◌≡◌}
use mathlib.Core.List.{List, [], ◌∷◌, ◌++◌}
use native.Mathlib.Nat.{add-zero, add-suc, suc-add}
use lib.ListN.{length, set}
use lib.Seq.{sets}

pub sets-append : (l : List ℕ) (i : ℕ) (us vs : List ℕ) → sets l i (us ++ vs) ≡ sets (sets l i us) (i + length us) vs
sets-append l i [] vs = rw add-zero
sets-append l i (u ∷ us) vs = rw (add-suc i (length us), ← suc-add i (length us)) (sets-append (set l i u) (suc i) us vs)
