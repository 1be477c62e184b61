-- What the plain rules write, for any translations T and U of their parts: the forms that the laws of values and of legality share.
use mathlib.Core.Bool.{Bool}
use mathlib.Core.List.{List, [], ◌∷◌, ◌++◌}
use Prim.Native.Nat.{ℕ, suc, ◌+◌, pred}
use lib.ListN.{length}
use Rattle.relations.specs.Columns.{Attribute}
use Rattle.relations.specs.Nodes.{Node, project, join, unite, subtract, tally}
use Rattle.calculus.specs.Scope.{Scope, columns_in, all_columns}
use Rattle.calculus.specs.ShortRules.{last_number, project_nodes}

-- And: T(g, T(f, P))
abbrev pub plain_and : (ℕ → ℕ → List Node) → (ℕ → ℕ → List Node) → ℕ → ℕ → List Node
plain_and T U p n = T p n ++ U (last_number n (T p n)) (n + length (T p n))

-- Or: T(f, P), T(g, P), union
abbrev pub plain_or : (ℕ → ℕ → List Node) → (ℕ → ℕ → List Node) → ℕ → ℕ → List Node
plain_or T U p n = (T p n ++ U p (n + length (T p n))) ++ (unite (last_number n (T p n)) (last_number n (T p n ++ U p (n + length (T p n)))) ∷ [])

-- Not: T(f, P), difference from P
abbrev pub plain_not : (ℕ → ℕ → List Node) → ℕ → ℕ → List Node
plain_not T p n = T p n ++ (subtract p (last_number n (T p n)) ∷ [])

-- a range T, the product with P, then U on it
abbrev pub plain_product : (ℕ → List Node) → (ℕ → ℕ → List Node) → ℕ → ℕ → List Node
plain_product T U p n = T n ++ (join p (pred (n + length (T n))) [] ∷ U (n + length (T n)) (suc (n + length (T n))))

-- the last number of a product's U
abbrev pub plain_last : (ℕ → List Node) → (ℕ → ℕ → List Node) → ℕ → ℕ
plain_last T U n = last_number (suc (n + length (T n))) (U (n + length (T n)) (suc (n + length (T n))))

abbrev pub plain_some : Scope → (ℕ → List Node) → (ℕ → ℕ → List Node) → ℕ → ℕ → List Node
plain_some s T U p n = plain_product T U p n ++ (project (plain_last T U n) (all_columns (columns_in s)) ∷ [])

abbrev pub plain_every : Scope → (ℕ → List Node) → (ℕ → ℕ → List Node) → ℕ → ℕ → List Node
plain_every s T U p n = plain_product T U p n ++ (subtract (n + length (T n)) (plain_last T U n) ∷ project (suc (plain_last T U n)) (all_columns (columns_in s)) ∷ subtract p (suc (suc (plain_last T U n))) ∷ [])

abbrev pub plain_at_least : ℕ → (ℕ → List Node) → (ℕ → ℕ → List Node) → ℕ → ℕ → List Node
plain_at_least least T U p n = plain_product T U p n ++ (tally p (plain_last T U n) least ∷ [])

-- S5 after y's range T; O writes the division
abbrev pub after_range : (ℕ → List Node) → (ℕ → ℕ → ℕ → List Node) → ℕ → ℕ → List Node
after_range T O p n = T n ++ O (pred (n + length (T n))) p (n + length (T n))

-- Range operation: left T, right U, then the node N
abbrev pub plain_sides : (ℕ → ℕ → Node) → (ℕ → List Node) → (ℕ → List Node) → ℕ → List Node
plain_sides N T U n = (T n ++ U (n + length (T n))) ++ (N (last_number n (T n)) (last_number n (T n ++ U (n + length (T n)))) ∷ [])

-- a next binding: its range T, the product, then the rest U of the chain
abbrev pub plain_binding : (ℕ → List Node) → (ℕ → ℕ → List Node) → ℕ → ℕ → List Node
plain_binding T U p n = (T n ++ (join p (last_number n (T n)) [] ∷ [])) ++ U (n + length (T n)) (suc (n + length (T n)))

-- Alpha: first range T, products B, condition W, project on the targets
abbrev pub plain_alpha : Bool → Scope → List Attribute → (ℕ → List Node) → (ℕ → ℕ → List Node) → (ℕ → ℕ → List Node) → ℕ → List Node
plain_alpha short s attributes T B W n =
    let first = T n in
    let chain = first ++ B (last_number n first) (n + length first) in
    let kept = chain ++ W (last_number n chain) (n + length chain) in
    kept ++ project_nodes short (columns_in s) (last_number n kept) attributes
