-- Document 01, refusal 3: "a node but the last isn't referenced exactly once". Assumes nothing.
use Rattle.std.specs.Prelude.{ℕ, zero, suc, ◌+◌, List, [], ◌∷◌, ◌++◌, Bool, cond, not, eqb}
use Rattle.nodes.specs.Nodes.{node_at}
use Rattle.nodes.specs.declared.node.Node.{Node}

-- what a node refers to; 0 is none
abbrev pub reference_list : Node → List ℕ
reference_list node = node.a ∷ node.b ∷ node.c ∷ []

-- the references of the first n nodes
unfoldable pub references_to : List ℕ → ℕ → List ℕ
references_to words zero = []
references_to words (suc n) = references_to words n ++ reference_list (node_at words n)

-- 1 where a reference names node j, else 0
abbrev pub hit : ℕ → ℕ → ℕ
hit reference j = cond (eqb reference (suc j)) 1 0

-- how many of the references name node j
unfoldable pub seen : List ℕ → ℕ → ℕ
seen [] j = 0
seen (w ∷ ws) j = hit w j + seen ws j

-- the first of the k numbers from j on at which the test holds, or j + k
unfoldable pub first_from : (ℕ → Bool) → ℕ → ℕ → ℕ
first_from test zero j = j
first_from test (suc k) j = cond (test j) j (first_from test k (suc j))

-- the lowest of the nodes below n at which the test holds, or n
abbrev pub lowest : (ℕ → Bool) → ℕ → ℕ
lowest test n = first_from test n 0

abbrev pub not_once : List ℕ → ℕ → Bool
not_once references j = not (eqb (seen references j) 1)
