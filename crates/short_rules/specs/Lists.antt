-- What the short rules list. Assumes nothing.
use Rattle.std.specs.Prelude.{ℕ, Bool, cond}
use Rattle.calculus.specs.Question.{Atom}
use Rattle.calculus.specs.Leaves.{equates_with, equates_outside}

-- S5's two kinds of equations: z = a variable outside, z = y
abbrev pub links : Bool → ℕ → ℕ → Atom → Bool
links outside z y a = cond outside (equates_outside z y a) (equates_with z y a)
