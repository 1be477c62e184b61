-- Document 01: "Values are unsigned 32-bit numbers". Assumes nothing.
use Rattle.std.specs.Prelude.{ℕ, ◌≤◌, List, [], ◌∷◌}
use Rattle.relations.specs.Limits.{greatest_number}

-- "Values are unsigned 32-bit numbers": each of some words is
abbrev pub Words32 : List ℕ → Type 0
Words32 [] = Unit
Words32 (word ∷ words) = (word ≤ greatest_number) × Words32 words
