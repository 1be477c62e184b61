-- Working through a list from left to right: each step sees what the steps before it made.
use Rattle.std.specs.Prelude.{List, [], ◌∷◌, ◌++◌, pred, get_or, length}

module _ {N X : Type 0} (step : List X → N → X) where
  -- what is made already, then what each node makes
  unfoldable pub run : List X → List N → List X
  run made [] = made
  run made (node ∷ nodes) = run (made ++ (step made node ∷ [])) nodes

-- the last thing made
abbrev pub last_or {ℓ} : {X : Type ℓ} → X → List X → X
last_or nothing made = get_or made (pred (length made)) nothing
