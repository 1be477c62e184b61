-- A plan has at most four nodes for each node of the question.
use mathlib.Core.Path.{◌≡◌, refl, ap}
use mathlib.Core.Bool.{Bool, true, false, ◌&&◌, ◌||◌, cond}
use mathlib.Core.List.{List, [], ◌∷◌, ◌++◌, map}
use Prim.Native.Nat.{ℕ, suc, ◌+◌, ◌*◌, ◌≤◌, pred}
use native.Mathlib.Omega.{arith}
use lib.ListN.{length, length-append, length-map}
use Rattle.relations.specs.Columns.{Attribute}
use Rattle.relations.specs.Lists.{filter, flat}
use Rattle.relations.specs.Nodes.{Node, project, join, semijoin, antijoin, divide, unite, intersect, subtract, tally}
use Rattle.calculus.specs.Form.{width_of_range, alpha_scope}
use Rattle.calculus.specs.Leaves.{leaves, opposite_atom, alone_on, compares_with_other, equates_with, equates_outside, own_attribute}
use Rattle.calculus.specs.Question.{Atom, Range, table, alpha, range_or, range_and, range_and_not, Bindings, no_more, bind, MaybeCondition, no_condition, on_condition, Condition, atom, condition_and, condition_or, condition_not, for_some, for_every, range_nodes, binding_nodes, maybe_nodes, condition_nodes, for_at_least}
use Rattle.calculus.specs.Scope.{entry, Scope, extend, columns_in, all_columns, target_columns}
use Rattle.calculus.specs.ShortRules.{last_number, select_nodes, short_rule1_fits, project_nodes, short_rule2_fits, triple_of, short_rule3_fits, short_rule4_fits, short_rule5_fits, outside_triples, division_pairs, short_rule6_fits}
use Rattle.calculus.specs.Translation.{Wanted, itself, its_opposite, division_by, translate_range, translate_bindings, translate_maybe, translate_condition}

pub selects_size : (cs : List Atom) (s : Scope) (p n : ℕ) → length (select_nodes s cs p n) ≡ length cs
selects_size [] s p n = refl
selects_size (a ∷ cs) s p n = ap suc (selects_size cs s n (suc n))

pub projects_size : (short : Bool) (w p : ℕ) (cs : List Attribute) → length (project_nodes short w p cs) ≤ 1
projects_size short w p cs = go (short && short_rule1_fits w cs)
  where
    go : (b : Bool) → length (cond b [] (project p cs ∷ [])) ≤ 1
    go true = omega arith
    go false = omega arith

pub filter-size : {A : Type 0} (p : A → Bool) (xs : List A) → length (filter p xs) ≤ length xs
filter-size p [] = omega arith
filter-size p (x ∷ xs) = go (p x) (filter-size p xs)
  where
    go : (b : Bool) → length (filter p xs) ≤ length xs → length (cond b (x ∷ filter p xs) (filter p xs)) ≤ suc (length xs)
    go true h = omega arith
    go false h = omega arith

pub leaves-size : (f : Condition) → length (leaves f) ≤ condition_nodes f
unfolding condition_nodes
leaves-size (atom a) = omega arith
leaves-size (condition_and f g) = omega (arith, length-append (leaves f) (leaves g), leaves-size f, leaves-size g)
leaves-size (condition_or f g) = omega (arith, length-append (leaves f) (leaves g), leaves-size f, leaves-size g)
leaves-size (condition_not f) = omega arith
leaves-size (for_some v R f) = omega arith
leaves-size (for_every v R f) = omega arith
leaves-size (for_at_least v R f least) = omega arith

alone_size : (s : Scope) (v : ℕ) (f : Condition) (p n : ℕ) → length (select_nodes s (filter (alone_on v) (leaves f)) p n) ≤ condition_nodes f
alone_size s v f p n = omega (arith, selects_size (filter (alone_on v) (leaves f)) s p n, filter-size (alone_on v) (leaves f), leaves-size f)

opposite-size : (s : Scope) (v : ℕ) (f : Condition) (p n : ℕ) → length (select_nodes s (filter (alone_on v) (map opposite_atom (leaves f))) p n) ≤ condition_nodes f
opposite-size s v f p n = omega (arith, selects_size (filter (alone_on v) (map opposite_atom (leaves f))) s p n, filter-size (alone_on v) (map opposite_atom (leaves f)), length-map (leaves f) opposite_atom, leaves-size f)

abbrev extra : Wanted → ℕ
extra itself = 0
extra its_opposite = 0
extra (division_by y k) = 2

-- lists put together, and their weights
length_three : (x y z : List Node) → length ((x ++ y) ++ z) ≡ length x + length y + length z
length_three x y z = omega (arith, length-append (x ++ y) z, length-append x y)

length_four : (x y z u : List Node) → length (((x ++ y) ++ z) ++ u) ≡ length x + length y + length z + length u
length_four x y z u = omega (arith, length-append ((x ++ y) ++ z) u, length_three x y z)

choose_size : (b : Bool) (A B : List Node) (k : ℕ) → length A ≤ k → length B ≤ k → length {A = Node} (elim b [ true ↦ A | false ↦ B ]) ≤ k
choose_size true A B k f g = f
choose_size false A B k f g = g

module _ (columns : ℕ → ℕ) (short : Bool) where
  mutual
    unfolding translate_range range_nodes

    pub range_size : (R : Range) (n : ℕ) → length (translate_range columns short R n) ≤ 4 * range_nodes R
    range_size (table k) n = omega arith
    range_size (alpha ts v R bs w) n =
        let s : Scope = alpha_scope columns v R bs in
        let x : List Node = translate_range columns short R n in
        let y : List Node = translate_bindings columns short bs (last_number n x) (n + length x) in
        let z : List Node = translate_maybe columns short w s (last_number n (x ++ y)) (n + length (x ++ y)) in
        let u : List Node = project_nodes short (columns_in s) (last_number n ((x ++ y) ++ z)) (flat (target_columns s) ts) in
        omega (arith, length_four x y z u, projects_size short (columns_in s) (last_number n ((x ++ y) ++ z)) (flat (target_columns s) ts), range_size R n, bindings-size bs (last_number n x) (n + length x), maybe_size w s (last_number n (x ++ y)) (n + length (x ++ y)))
    range_size (range_or a b) n =
        let x : List Node = translate_range columns short a n in
        let y : List Node = translate_range columns short b (n + length x) in
        omega (arith, length_three x y (unite (last_number n x) (last_number n (x ++ y)) ∷ []), range_size a n, range_size b (n + length x))
    range_size (range_and a b) n =
        let x : List Node = translate_range columns short a n in
        let y : List Node = translate_range columns short b (n + length x) in
        omega (arith, length_three x y (intersect (last_number n x) (last_number n (x ++ y)) ∷ []), range_size a n, range_size b (n + length x))
    range_size (range_and_not a b) n =
        let x : List Node = translate_range columns short a n in
        let y : List Node = translate_range columns short b (n + length x) in
        omega (arith, length_three x y (subtract (last_number n x) (last_number n (x ++ y)) ∷ []), range_size a n, range_size b (n + length x))

    pub bindings-size : (bs : Bindings) (p n : ℕ) → length (translate_bindings columns short bs p n) ≤ 4 * binding_nodes bs
    bindings-size no_more p n = omega arith
    bindings-size (bind v R bs) p n =
        let x : List Node = translate_range columns short R n in
        let y : List Node = translate_bindings columns short bs (n + length x) (suc (n + length x)) in
        omega (arith, length_three x (join p (last_number n x) [] ∷ []) y, range_size R n, bindings-size bs (n + length x) (suc (n + length x)))

    pub maybe_size : (w : MaybeCondition) (s : Scope) (p n : ℕ) → length (translate_maybe columns short w s p n) ≤ 4 * maybe_nodes w
    maybe_size no_condition s p n = omega arith
    maybe_size (on_condition c) s p n = omega (arith, condition-size c itself s p n)

    pub condition-size : (c : Condition) (k : Wanted) (s : Scope) (p n : ℕ) → length (translate_condition columns short c k s p n) ≤ 4 * condition_nodes c + extra k
    condition-size (atom a) itself s p n = omega arith
    condition-size (atom a) its_opposite s p n = omega arith
    condition-size (atom a) (division_by y j) s p n = omega arith
    condition-size (condition_and f g) k s p n =
        let x : List Node = translate_condition columns short f itself s p n in
        omega (arith, length-append x (translate_condition columns short g itself s (last_number n x) (n + length x)), condition-size f itself s p n, condition-size g itself s (last_number n x) (n + length x))
    condition-size (condition_or f g) k s p n =
        let x : List Node = translate_condition columns short f itself s p n in
        let y : List Node = translate_condition columns short g itself s p (n + length x) in
        omega (arith, length_three x y (unite (last_number n x) (last_number n (x ++ y)) ∷ []), condition-size f itself s p n, condition-size g itself s p (n + length x))
    condition-size (condition_not f) k s p n =
        let x : List Node = translate_condition columns short f itself s p n in
        choose_size (short && (short_rule3_fits f || short_rule6_fits f)) (translate_condition columns short f its_opposite s p n) (x ++ (subtract p (last_number n x) ∷ [])) (4 * (condition_nodes f + 1) + extra k) (omega (arith, condition-size f its_opposite s p n)) (omega (arith, length-append x (subtract p (last_number n x) ∷ []), condition-size f itself s p n))
    condition-size (for_some v R f) itself s p n =
        let x : List Node = translate_range columns short R n in
        let l : ℕ = n + length x in
        let y : List Node = select_nodes (entry v (width_of_range columns R) ∷ []) (filter (alone_on v) (leaves f)) (pred l) l in
        let t : Node = semijoin p (last_number n (x ++ y)) (map (triple_of s v) (filter (compares_with_other v) (leaves f))) in
        let z : List Node = translate_condition columns short f itself (extend s v (width_of_range columns R)) l (suc l) in
        let u : Node = project (last_number (suc l) z) (all_columns (columns_in s)) in
        choose_size (short && short_rule2_fits v f) ((x ++ y) ++ (t ∷ [])) ((x ++ (join p (pred l) [] ∷ z)) ++ (u ∷ [])) (4 * (range_nodes R + 1 + condition_nodes f) + 0) (omega (arith, length_three x y (t ∷ []), alone_size (entry v (width_of_range columns R) ∷ []) v f (pred l) l, range_size R n)) (omega (arith, length_three x (join p (pred l) [] ∷ z) (u ∷ []), range_size R n, condition-size f itself (extend s v (width_of_range columns R)) l (suc l)))
    condition-size (for_some v R f) its_opposite s p n =
        let x : List Node = translate_range columns short R n in
        let l : ℕ = n + length x in
        let y : List Node = select_nodes (entry v (width_of_range columns R) ∷ []) (filter (alone_on v) (leaves f)) (pred l) l in
        omega (arith, length_three x y (antijoin p (last_number n (x ++ y)) (map (triple_of s v) (filter (compares_with_other v) (leaves f))) ∷ []), alone_size (entry v (width_of_range columns R) ∷ []) v f (pred l) l, range_size R n)
    condition-size (for_some v R f) (division_by y j) s p n =
        let x : List Node = translate_range columns short R n in
        let l : ℕ = n + length x in
        let sel : List Node = select_nodes (entry v (width_of_range columns R) ∷ []) (filter (alone_on v) (leaves f)) (pred l) l in
        let outs : List Atom = filter (equates_outside v y) (leaves f) in
        let lnks : List Atom = filter (equates_with v y) (leaves f) in
        let pr : List Node = project_nodes true (width_of_range columns R) (last_number n (x ++ sel)) (map (own_attribute v) outs ++ map (own_attribute v) lnks) in
        let q : ℕ = n + length ((x ++ sel) ++ pr) in
        omega (arith, length_four x sel pr (divide (pred q) j (division_pairs v lnks (suc (length outs))) ∷ semijoin p q (outside_triples s v outs 1) ∷ antijoin p j [] ∷ unite (suc q) (suc (suc q)) ∷ []), alone_size (entry v (width_of_range columns R) ∷ []) v f (pred l) l, projects_size true (width_of_range columns R) (last_number n (x ++ sel)) (map (own_attribute v) outs ++ map (own_attribute v) lnks), range_size R n)
    condition-size (for_every v R f) k s p n =
        let x : List Node = translate_range columns short R n in
        let l : ℕ = n + length x in
        let cs : List Atom = map opposite_atom (leaves f) in
        let y : List Node = select_nodes (entry v (width_of_range columns R) ∷ []) (filter (alone_on v) cs) (pred l) l in
        let t : Node = antijoin p (last_number n (x ++ y)) (map (triple_of s v) (filter (compares_with_other v) cs)) in
        let z : List Node = translate_condition columns short f itself (extend s v (width_of_range columns R)) l (suc l) in
        let i : ℕ = last_number (suc l) z in
        let o : List Node = translate_condition columns short f (division_by v (pred l)) s p l in
        let u : List Node = subtract l i ∷ project (suc i) (all_columns (columns_in s)) ∷ subtract p (suc (suc i)) ∷ [] in
        choose_size (short && short_rule4_fits v f) ((x ++ y) ++ (t ∷ [])) (elim (short && short_rule5_fits v f) [ true ↦ x ++ o | false ↦ (x ++ (join p (pred l) [] ∷ z)) ++ u ]) (4 * (range_nodes R + condition_nodes f + 1) + extra k) (omega (arith, length_three x y (t ∷ []), opposite-size (entry v (width_of_range columns R) ∷ []) v f (pred l) l, range_size R n)) (choose_size (short && short_rule5_fits v f) (x ++ o) ((x ++ (join p (pred l) [] ∷ z)) ++ u) (4 * (range_nodes R + condition_nodes f + 1) + extra k) (omega (arith, length-append x o, range_size R n, condition-size f (division_by v (pred l)) s p l)) (omega (arith, length_three x (join p (pred l) [] ∷ z) u, range_size R n, condition-size f itself (extend s v (width_of_range columns R)) l (suc l))))
    condition-size (for_at_least v R f least) k s p n =
        let x : List Node = translate_range columns short R n in
        let l : ℕ = n + length x in
        let z : List Node = translate_condition columns short f itself (extend s v (width_of_range columns R)) l (suc l) in
        omega (arith, length_three x (join p (pred l) [] ∷ z) (tally p (last_number (suc l) z) least ∷ []), range_size R n, condition-size f itself (extend s v (width_of_range columns R)) l (suc l))
