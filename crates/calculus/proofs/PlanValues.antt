-- Values while a plan grows: relations' laws of running, at the values of plan nodes.
use mathlib.Core.Path.{◌≡◌, ◌∙◌, ap}
use mathlib.Core.List.{List, [], ◌∷◌, ◌++◌}
use Prim.Native.Nat.{ℕ, suc, ◌+◌, ◌<◌, pred}
use native.Mathlib.Omega.{arith}
use lib.ListN.{length}
use lib.Seq.{get_or_at}
use Rattle.relations.specs.Machine.{run, last_or}
use Rattle.relations.specs.Nodes.{Node}
use Rattle.relations.specs.Plan.{value_at, value_of_node}
use Rattle.relations.specs.Values.{Rows, Tables}
use Rattle.relations.proofs.MachineLaws.{run-append, run_length, run-keeps, run_one, last_one, last_end, last_at}
use Rattle.calculus.specs.ShortRules.{last_number}

-- the values after more nodes; the last value
abbrev pub after : Tables → List Rows → List Node → List Rows
after tables made nodes = run (value_of_node tables) made nodes

abbrev pub last_value : List Rows → Rows
last_value made = last_or [] made

-- `omega` takes a call of `last_number` for an unknown: this says what it is
suc_pred : (k : ℕ) → 0 < k → suc (pred k) ≡ k
suc_pred k h = omega arith

pub last_number_is : (n : ℕ) (xs : List Node) → 0 < n + length xs → suc (last_number n xs) ≡ n + length xs
last_number_is n xs h = suc_pred (n + length xs) h

module _ (tables : Tables) where
  pub after_append : (made : List Rows) (xs ys : List Node) → after tables made (xs ++ ys) ≡ after tables (after tables made xs) ys
  after_append made xs ys = run-append (value_of_node tables) made xs ys

  pub after_cons : (made : List Rows) (x : Node) (xs : List Node) → after tables made (x ∷ xs) ≡ after tables (after tables made (x ∷ [])) xs
  after_cons made x xs = after_append made (x ∷ []) xs

  pub last_after_one : (made : List Rows) (x : Node) → last_value (after tables made (x ∷ [])) ≡ value_of_node tables made x
  last_after_one made x = last_one (value_of_node tables) [] made x

  pub last_after_end : (made : List Rows) (xs : List Node) (x : Node) → last_value (after tables made (xs ++ (x ∷ []))) ≡ value_of_node tables (after tables made xs) x
  last_after_end made xs x = last_end (value_of_node tables) [] made xs x

  -- n values are there already

  pub value_at_last : (made : List Rows) (n : ℕ) → length made ≡ n → (xs : List Node) → value_at (after tables made xs) (last_number n xs) ≡ last_value (after tables made xs)
  value_at_last made n e xs = last_at (value_of_node tables) [] made n e xs

  pub after_grows : (made : List Rows) (n : ℕ) → length made ≡ n → (xs : List Node) → length (after tables made xs) ≡ n + length xs
  after_grows made n e xs = run_length (value_of_node tables) made xs ∙ ap (λ k. k + length xs) e

  pub value-kept : (made : List Rows) (n : ℕ) → length made ≡ n → (xs : List Node) (j : ℕ) → j < n → value_at (after tables made xs) j ≡ value_at made j
  value-kept made n e xs j h = run-keeps (value_of_node tables) [] made xs j (omega arith)

  -- one more node: where its value stands
  pub value_here : (made : List Rows) (n : ℕ) → length made ≡ n → (x : Node) → value_at (after tables made (x ∷ [])) n ≡ value_of_node tables made x
  value_here made n e x = ap (λ w. value_at w n) (run_one (value_of_node tables) made x) ∙ get_or_at made (value_of_node tables made x) [] [] n e
