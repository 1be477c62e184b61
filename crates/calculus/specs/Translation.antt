-- Translation, plain (short = false) and shortened (short = true). Document 01, "Translation": "Nodes are written in the order named."
-- Each function gives the new nodes, for a plan that has n nodes already; the value asked for is that of the last of them.
use Rattle.std.specs.Prelude.{Bool, true, false, ◌&&◌, ◌||◌, List, [], ◌∷◌, ◌++◌, ℕ, suc, ◌+◌, pred, length}
use Rattle.relations.specs.Lists.{flat}
use Rattle.relations.specs.Nodes.{Node, load, project, join, unite, intersect, subtract, tally}
use Rattle.calculus.specs.Question.{Range, table, alpha, range_or, range_and, range_and_not, Bindings, no_more, bind, MaybeCondition, no_condition, on_condition, Condition, atom, condition_and, condition_or, condition_not, for_some, for_every, for_at_least}
use Rattle.calculus.specs.Scope.{Scope, extend, columns_in, all_columns, target_columns}
use Rattle.calculus.specs.Form.{width_of_range, alpha_scope}
use Rattle.calculus.specs.Leaves.{leaves}
use Rattle.calculus.specs.ShortRules.{last_number, select_node, project_nodes, short_rule2_fits, short_rule2_nodes, short_rule3_fits, short_rule3_nodes, short_rule4_fits, short_rule4_nodes, short_rule5_fits, short_rule5_nodes, short_rule6_fits, short_rule6_nodes}

-- what the node above wants of a condition: the rows that meet it; those that don't (S3, S6); the division of S5 by the variable y, whose range is node k
-- the last two are asked only of conditions that their rules fit: of an atom or a "some", and of a "some"; elsewhere they are not looked at
pub data Wanted : Type 0 where
  itself : Wanted
  its_opposite : Wanted
  division_by : ℕ → ℕ → Wanted

module _ (columns : ℕ → ℕ) (short : Bool) where
  unfoldable mutual
    pub translate_range : Range → ℕ → List Node
    -- Table: load.
    translate_range (table relation) n = load relation ∷ []
    -- Alpha: first range; for each next one its nodes, then a product; T of the condition; project on the targets.
    translate_range (alpha targets variable range bindings restriction) n =
        let first = translate_range range n in
        let s = alpha_scope columns variable range bindings in
        let products = translate_bindings bindings (last_number n first) (n + length first) in
        let kept = translate_maybe restriction s (last_number n (first ++ products)) (n + length (first ++ products)) in
        (first ++ products ++ kept) ++ project_nodes short (columns_in s) (last_number n (first ++ products ++ kept)) (flat (target_columns s) targets)
    -- Range operation: left, right, then 9, 10 or 11.
    translate_range (range_or a b) n =
        let left = translate_range a n in
        let right = translate_range b (n + length left) in
        left ++ right ++ (unite (last_number n left) (last_number n (left ++ right)) ∷ [])
    translate_range (range_and a b) n =
        let left = translate_range a n in
        let right = translate_range b (n + length left) in
        left ++ right ++ (intersect (last_number n left) (last_number n (left ++ right)) ∷ [])
    translate_range (range_and_not a b) n =
        let left = translate_range a n in
        let right = translate_range b (n + length left) in
        left ++ right ++ (subtract (last_number n left) (last_number n (left ++ right)) ∷ [])

    pub translate_bindings : Bindings → ℕ → ℕ → List Node
    translate_bindings no_more p n = []
    translate_bindings (bind variable range bindings) p n =
        let next = translate_range range n in
        next ++ (join p (last_number n next) [] ∷ []) ++ translate_bindings bindings (n + length next) (suc (n + length next))

    pub translate_maybe : MaybeCondition → Scope → ℕ → ℕ → List Node
    translate_maybe no_condition s p n = []
    translate_maybe (on_condition f) s p n = translate_condition f itself s p n

    -- T(f, P): the new nodes for the rows of node p, P, that meet f; P's columns are those of the scope
    pub translate_condition : Condition → Wanted → Scope → ℕ → ℕ → List Node
    -- Atom: select. S6 for its opposite.
    translate_condition (atom a) itself s p n = select_node s p a ∷ []
    translate_condition (atom a) its_opposite s p n = short_rule6_nodes s p a
    translate_condition (atom a) (division_by y k) s p n = []
    -- And: T(g, T(f, P)).
    translate_condition (condition_and f g) wanted s p n =
        let first = translate_condition f itself s p n in
        first ++ translate_condition g itself s (last_number n first) (n + length first)
    -- Or: T(f,P), T(g,P), union.
    translate_condition (condition_or f g) wanted s p n =
        let left = translate_condition f itself s p n in
        let right = translate_condition g itself s p (n + length left) in
        left ++ right ++ (unite (last_number n left) (last_number n (left ++ right)) ∷ [])
    -- Not: T(f,P), difference from P; S3 and S6 first.
    translate_condition (condition_not f) wanted s p n = elim (short && (short_rule3_fits f || short_rule6_fits f)) [
      | true ↦ translate_condition f its_opposite s p n
      | false ↦ let meeting = translate_condition f itself s p n in
          meeting ++ (subtract p (last_number n meeting) ∷ [])
    ]
    -- Some: range, product with P, T, project to P's columns (which are never all columns: every range has one); S2 first.
    translate_condition (for_some x range f) itself s p n =
        let first = translate_range range n in
        let q = n + length first in
        elim (short && short_rule2_fits x f) [
          | true ↦ short_rule2_nodes s x (width_of_range columns range) (leaves f) first p n
          | false ↦ let meeting = translate_condition f itself (extend s x (width_of_range columns range)) q (suc q) in
              first ++ (join p (pred q) [] ∷ meeting) ++ (project (last_number (suc q) meeting) (all_columns (columns_in s)) ∷ [])
        ]
    translate_condition (for_some x range f) its_opposite s p n = short_rule3_nodes s x (width_of_range columns range) (leaves f) (translate_range range n) p n
    translate_condition (for_some z range f) (division_by y k) s p n = short_rule5_nodes s y k z (width_of_range columns range) (leaves f) (translate_range range n) p n
    -- Every: range, product Q, T(f,Q), difference from Q, project to P's columns, difference from P; S4 and S5 first.
    translate_condition (for_every x range f) wanted s p n =
        let first = translate_range range n in
        let q = n + length first in
        elim (short && short_rule4_fits x f) [
          | true ↦ short_rule4_nodes s x (width_of_range columns range) (leaves f) first p n
          | false ↦ elim (short && short_rule5_fits x f) [
            | true ↦ first ++ translate_condition f (division_by x (pred q)) s p q
            | false ↦ let meeting = translate_condition f itself (extend s x (width_of_range columns range)) q (suc q) in
                let last = last_number (suc q) meeting in
                first ++ (join p (pred q) [] ∷ meeting) ++ (subtract q last ∷ project (suc last) (all_columns (columns_in s)) ∷ subtract p (suc (suc last)) ∷ [])
          ]
        ]
    -- At least so many: range, product, T, operation 13; in both modes.
    translate_condition (for_at_least x range f least) wanted s p n =
        let first = translate_range range n in
        let q = n + length first in
        let meeting = translate_condition f itself (extend s x (width_of_range columns range)) q (suc q) in
        first ++ (join p (pred q) [] ∷ meeting) ++ (tally p (last_number (suc q) meeting) least ∷ [])

  -- the plan of a question
  abbrev pub translate : Range → List Node
  translate question = translate_range question 0
