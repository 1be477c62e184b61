-- Words of 32 bits: lists of them joined and cut. Assumes nothing.
use Prim.Native.Nat.{ℕ, zero, suc}
use mathlib.Core.List.{List, [], ◌∷◌, ◌++◌}
use lib.ListN.{take, drop}
use Rattle.lines.specs.Words32.{Words32}

pub words32_append : (xs ys : List ℕ) → Words32 xs → Words32 ys → Words32 (xs ++ ys)
words32_append [] ys h k = k
words32_append (x ∷ xs) ys h k = (h.0, words32_append xs ys h.1 k)

pub words32_take : (n : ℕ) (words : List ℕ) → Words32 words → Words32 (take n words)
words32_take zero words h = tt
words32_take (suc n) [] h = tt
words32_take (suc n) (word ∷ words) h = (h.0, words32_take n words h.1)

pub words32_drop : (n : ℕ) (words : List ℕ) → Words32 words → Words32 (drop n words)
words32_drop zero words h = h
words32_drop (suc n) [] h = tt
words32_drop (suc n) (word ∷ words) h = words32_drop n words h.1
