-- What each function that puts bytes into a text leaves: the bytes stand from `at` on as far as there is room, and all others are as they were. Assumes nothing.
use Rattle.std.specs.Prelude.{ℕ, ◌+◌, ◌≡◌, List, length}
use Rattle.std.proofs.lemmas.List.Edits.{sets}

-- A position that no writer passes. It is far above the end of every text, and far below the number where positions would wrap.
abbrev pub furthest : ℕ
furthest = 4294967296

pub record Put (at : ℕ) (bytes before after : List ℕ) (end : ℕ) : Type 0 where
  pub end_at : end ≡ at + length bytes
  pub stored : after ≡ sets before at bytes
