-- References counted by two masks: nodes seen once or more, and nodes seen twice or more. Digit j of a mask is std's `bit_at`. Assumes nothing.
use Rattle.std.specs.Prelude.{ℕ, ◌-◌, min, max, ◌≡◌, List}
use Rattle.std.specs.Int.{bit_at}
use Rattle.nodes.specs.References.{hit, seen}

-- what one reference more does to the masks
pub record Stepped (o t reference o' t' : ℕ) : Type 0 where
  pub once : (j : ℕ) → bit_at o' j ≡ max (bit_at o j) (hit reference j)
  pub twice : (j : ℕ) → bit_at t' j ≡ max (bit_at t j) (min (bit_at o j) (hit reference j))

-- the masks of the references
pub record Marks (o t : ℕ) (references : List ℕ) : Type 0 where
  pub once : (j : ℕ) → bit_at o j ≡ min 1 (seen references j)
  pub twice : (j : ℕ) → bit_at t j ≡ min 1 (seen references j - 1)
