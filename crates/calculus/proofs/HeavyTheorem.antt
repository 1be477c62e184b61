-- The shortened plan has no more heavy nodes than the plain one: both are compared with a count over the tree.
use mathlib.Core.Path.{◌≡◌, refl, ◌∙◌, ap}
use mathlib.Core.Bool.{Bool, true, false, ◌&&◌, ◌||◌, cond}
use mathlib.Core.List.{List, [], ◌∷◌, ◌++◌, map}
use Prim.Native.Nat.{ℕ, suc, ◌+◌, ◌≤◌, pred}
use native.Mathlib.Omega.{arith}
use lib.ListN.{length, length-append}
use Rattle.relations.specs.Columns.{Attribute}
use Rattle.relations.specs.Lists.{filter, flat}
use Rattle.relations.specs.Nodes.{Node, project, join, semijoin, antijoin, divide, unite, intersect, subtract, tally}
use Rattle.relations.specs.Plan.{heavy_node, heavy}
use Rattle.relations.proofs.ListLaws.{filter-append}
use Rattle.calculus.specs.Form.{width_of_range, alpha_scope}
use Rattle.calculus.specs.Leaves.{leaves, opposite_atom, alone_on, compares_with_other, equates_with, equates_outside, own_attribute}
use Rattle.calculus.specs.Question.{fixed, of_variable, Atom, compare, Range, table, alpha, range_or, range_and, range_and_not, Bindings, no_more, bind, MaybeCondition, no_condition, on_condition, Condition, atom, condition_and, condition_or, condition_not, for_some, for_every, for_at_least}
use Rattle.calculus.specs.Scope.{entry, Scope, extend, columns_in, all_columns, target_columns}
use Rattle.calculus.specs.ShortRules.{last_number, select_node, select_nodes, short_rule1_fits, project_nodes, short_rule2_fits, triple_of, short_rule3_fits, short_rule4_fits, short_rule5_fits, outside_triples, division_pairs, short_rule6_fits}
use Rattle.calculus.specs.Translation.{Wanted, itself, its_opposite, division_by, translate_range, translate_bindings, translate_maybe, translate_condition}

pub heavy-append : (xs ys : List Node) → heavy (xs ++ ys) ≡ heavy xs + heavy ys
heavy-append xs ys = ap length (filter-append heavy_node xs ys) ∙ length-append (filter heavy_node xs) (filter heavy_node ys)

select_light : (s : Scope) (p : ℕ) (a : Atom) → heavy_node (select_node s p a) ≡ false
select_light s p (compare v a o (fixed c)) = refl
select_light s p (compare v a o (of_variable u b)) = refl

one_light : (s : Scope) (p : ℕ) (a : Atom) → heavy (select_node s p a ∷ []) ≡ 0
one_light s p a = rw (select_light s p a)

selects_light : (s : Scope) (cs : List Atom) (p n : ℕ) → heavy (select_nodes s cs p n) ≡ 0
selects_light s [] p n = refl
selects_light s (a ∷ cs) p n = rw (select_light s p a) (selects_light s cs n (suc n))

projects_light : (short : Bool) (w p : ℕ) (cs : List Attribute) → heavy (project_nodes short w p cs) ≡ 0
projects_light short w p cs = go (short && short_rule1_fits w cs)
  where
    go : (b : Bool) → heavy (cond b [] (project p cs ∷ [])) ≡ 0
    go true = refl
    go false = refl

-- the heavy nodes of the plain plan, by the tree
unfoldable mutual
  pub heavy_of_range : Range → ℕ
  heavy_of_range (table k) = 0
  heavy_of_range (alpha ts v R bs w) = heavy_of_range R + heavy_of_bindings bs + heavy_of_maybe w
  heavy_of_range (range_or a b) = heavy_of_range a + heavy_of_range b + 1
  heavy_of_range (range_and a b) = heavy_of_range a + heavy_of_range b + 1
  heavy_of_range (range_and_not a b) = heavy_of_range a + heavy_of_range b + 1

  pub heavy_of_bindings : Bindings → ℕ
  heavy_of_bindings no_more = 0
  heavy_of_bindings (bind v R bs) = heavy_of_range R + 1 + heavy_of_bindings bs

  pub heavy_of_maybe : MaybeCondition → ℕ
  heavy_of_maybe no_condition = 0
  heavy_of_maybe (on_condition c) = heavy_of_condition c

  pub heavy_of_condition : Condition → ℕ
  heavy_of_condition (atom a) = 0
  heavy_of_condition (condition_and f g) = heavy_of_condition f + heavy_of_condition g
  heavy_of_condition (condition_or f g) = heavy_of_condition f + heavy_of_condition g + 1
  heavy_of_condition (condition_not f) = heavy_of_condition f + 1
  heavy_of_condition (for_some v R f) = heavy_of_range R + 1 + heavy_of_condition f
  heavy_of_condition (for_every v R f) = heavy_of_range R + heavy_of_condition f + 3
  heavy_of_condition (for_at_least v R f least) = heavy_of_range R + heavy_of_condition f + 2

abbrev extra : Wanted → ℕ
extra itself = 0
extra its_opposite = 0
extra (division_by y k) = 1

-- lists put together, and their weights
heavy-three : (x y z : List Node) → heavy ((x ++ y) ++ z) ≡ heavy x + heavy y + heavy z
heavy-three x y z = omega (arith, heavy-append (x ++ y) z, heavy-append x y)

heavy_four : (x y z u : List Node) → heavy (((x ++ y) ++ z) ++ u) ≡ heavy x + heavy y + heavy z + heavy u
heavy_four x y z u = omega (arith, heavy-append ((x ++ y) ++ z) u, heavy-three x y z)

choose_at_most : (b : Bool) (A B : List Node) (k : ℕ) → heavy A ≤ k → heavy B ≤ k → heavy (elim b [ true ↦ A | false ↦ B ]) ≤ k
choose_at_most true A B k f g = f
choose_at_most false A B k f g = g

module _ (columns : ℕ → ℕ) (short : Bool) where
  mutual
    unfolding translate_range heavy_of_range

    pub range_at_most : (R : Range) (n : ℕ) → heavy (translate_range columns short R n) ≤ heavy_of_range R
    range_at_most (table k) n = omega arith
    range_at_most (alpha ts v R bs w) n =
        let s : Scope = alpha_scope columns v R bs in
        let x : List Node = translate_range columns short R n in
        let y : List Node = translate_bindings columns short bs (last_number n x) (n + length x) in
        let z : List Node = translate_maybe columns short w s (last_number n (x ++ y)) (n + length (x ++ y)) in
        let u : List Node = project_nodes short (columns_in s) (last_number n ((x ++ y) ++ z)) (flat (target_columns s) ts) in
        omega (arith, heavy_four x y z u, projects_light short (columns_in s) (last_number n ((x ++ y) ++ z)) (flat (target_columns s) ts), range_at_most R n, bindings_at_most bs (last_number n x) (n + length x), maybe_at_most w s (last_number n (x ++ y)) (n + length (x ++ y)))
    range_at_most (range_or a b) n =
        let x : List Node = translate_range columns short a n in
        let y : List Node = translate_range columns short b (n + length x) in
        omega (arith, heavy-three x y (unite (last_number n x) (last_number n (x ++ y)) ∷ []), range_at_most a n, range_at_most b (n + length x))
    range_at_most (range_and a b) n =
        let x : List Node = translate_range columns short a n in
        let y : List Node = translate_range columns short b (n + length x) in
        omega (arith, heavy-three x y (intersect (last_number n x) (last_number n (x ++ y)) ∷ []), range_at_most a n, range_at_most b (n + length x))
    range_at_most (range_and_not a b) n =
        let x : List Node = translate_range columns short a n in
        let y : List Node = translate_range columns short b (n + length x) in
        omega (arith, heavy-three x y (subtract (last_number n x) (last_number n (x ++ y)) ∷ []), range_at_most a n, range_at_most b (n + length x))

    pub bindings_at_most : (bs : Bindings) (p n : ℕ) → heavy (translate_bindings columns short bs p n) ≤ heavy_of_bindings bs
    bindings_at_most no_more p n = omega arith
    bindings_at_most (bind v R bs) p n =
        let x : List Node = translate_range columns short R n in
        let y : List Node = translate_bindings columns short bs (n + length x) (suc (n + length x)) in
        omega (arith, heavy-three x (join p (last_number n x) [] ∷ []) y, range_at_most R n, bindings_at_most bs (n + length x) (suc (n + length x)))

    pub maybe_at_most : (w : MaybeCondition) (s : Scope) (p n : ℕ) → heavy (translate_maybe columns short w s p n) ≤ heavy_of_maybe w
    maybe_at_most no_condition s p n = omega arith
    maybe_at_most (on_condition c) s p n = omega (arith, condition_at_most c itself s p n)

    pub condition_at_most : (c : Condition) (k : Wanted) (s : Scope) (p n : ℕ) → heavy (translate_condition columns short c k s p n) ≤ heavy_of_condition c + extra k
    condition_at_most (atom a) itself s p n = omega (arith, one_light s p a)
    condition_at_most (atom a) its_opposite s p n = omega (arith, one_light s p (opposite_atom a))
    condition_at_most (atom a) (division_by y j) s p n = omega arith
    condition_at_most (condition_and f g) k s p n =
        let x : List Node = translate_condition columns short f itself s p n in
        omega (arith, heavy-append x (translate_condition columns short g itself s (last_number n x) (n + length x)), condition_at_most f itself s p n, condition_at_most g itself s (last_number n x) (n + length x))
    condition_at_most (condition_or f g) k s p n =
        let x : List Node = translate_condition columns short f itself s p n in
        let y : List Node = translate_condition columns short g itself s p (n + length x) in
        omega (arith, heavy-three x y (unite (last_number n x) (last_number n (x ++ y)) ∷ []), condition_at_most f itself s p n, condition_at_most g itself s p (n + length x))
    condition_at_most (condition_not f) k s p n =
        let x : List Node = translate_condition columns short f itself s p n in
        choose_at_most (short && (short_rule3_fits f || short_rule6_fits f)) (translate_condition columns short f its_opposite s p n) (x ++ (subtract p (last_number n x) ∷ [])) (heavy_of_condition f + 1 + extra k) (omega (arith, condition_at_most f its_opposite s p n)) (omega (arith, heavy-append x (subtract p (last_number n x) ∷ []), condition_at_most f itself s p n))
    condition_at_most (for_some v R f) itself s p n =
        let x : List Node = translate_range columns short R n in
        let l : ℕ = n + length x in
        let y : List Node = select_nodes (entry v (width_of_range columns R) ∷ []) (filter (alone_on v) (leaves f)) (pred l) l in
        let t : Node = semijoin p (last_number n (x ++ y)) (map (triple_of s v) (filter (compares_with_other v) (leaves f))) in
        let z : List Node = translate_condition columns short f itself (extend s v (width_of_range columns R)) l (suc l) in
        let u : Node = project (last_number (suc l) z) (all_columns (columns_in s)) in
        choose_at_most (short && short_rule2_fits v f) ((x ++ y) ++ (t ∷ [])) ((x ++ (join p (pred l) [] ∷ z)) ++ (u ∷ [])) (heavy_of_range R + 1 + heavy_of_condition f + 0) (omega (arith, heavy-three x y (t ∷ []), selects_light (entry v (width_of_range columns R) ∷ []) (filter (alone_on v) (leaves f)) (pred l) l, range_at_most R n)) (omega (arith, heavy-three x (join p (pred l) [] ∷ z) (u ∷ []), range_at_most R n, condition_at_most f itself (extend s v (width_of_range columns R)) l (suc l)))
    condition_at_most (for_some v R f) its_opposite s p n =
        let x : List Node = translate_range columns short R n in
        let l : ℕ = n + length x in
        let y : List Node = select_nodes (entry v (width_of_range columns R) ∷ []) (filter (alone_on v) (leaves f)) (pred l) l in
        omega (arith, heavy-three x y (antijoin p (last_number n (x ++ y)) (map (triple_of s v) (filter (compares_with_other v) (leaves f))) ∷ []), selects_light (entry v (width_of_range columns R) ∷ []) (filter (alone_on v) (leaves f)) (pred l) l, range_at_most R n)
    condition_at_most (for_some v R f) (division_by y j) s p n =
        let x : List Node = translate_range columns short R n in
        let l : ℕ = n + length x in
        let sel : List Node = select_nodes (entry v (width_of_range columns R) ∷ []) (filter (alone_on v) (leaves f)) (pred l) l in
        let outs : List Atom = filter (equates_outside v y) (leaves f) in
        let lnks : List Atom = filter (equates_with v y) (leaves f) in
        let pr : List Node = project_nodes true (width_of_range columns R) (last_number n (x ++ sel)) (map (own_attribute v) outs ++ map (own_attribute v) lnks) in
        let q : ℕ = n + length ((x ++ sel) ++ pr) in
        omega (arith, heavy_four x sel pr (divide (pred q) j (division_pairs v lnks (suc (length outs))) ∷ semijoin p q (outside_triples s v outs 1) ∷ antijoin p j [] ∷ unite (suc q) (suc (suc q)) ∷ []), selects_light (entry v (width_of_range columns R) ∷ []) (filter (alone_on v) (leaves f)) (pred l) l, projects_light true (width_of_range columns R) (last_number n (x ++ sel)) (map (own_attribute v) outs ++ map (own_attribute v) lnks), range_at_most R n)
    condition_at_most (for_every v R f) k s p n =
        let x : List Node = translate_range columns short R n in
        let l : ℕ = n + length x in
        let cs : List Atom = map opposite_atom (leaves f) in
        let y : List Node = select_nodes (entry v (width_of_range columns R) ∷ []) (filter (alone_on v) cs) (pred l) l in
        let t : Node = antijoin p (last_number n (x ++ y)) (map (triple_of s v) (filter (compares_with_other v) cs)) in
        let z : List Node = translate_condition columns short f itself (extend s v (width_of_range columns R)) l (suc l) in
        let i : ℕ = last_number (suc l) z in
        let o : List Node = translate_condition columns short f (division_by v (pred l)) s p l in
        let u : List Node = subtract l i ∷ project (suc i) (all_columns (columns_in s)) ∷ subtract p (suc (suc i)) ∷ [] in
        choose_at_most (short && short_rule4_fits v f) ((x ++ y) ++ (t ∷ [])) (elim (short && short_rule5_fits v f) [ true ↦ x ++ o | false ↦ (x ++ (join p (pred l) [] ∷ z)) ++ u ]) (heavy_of_range R + heavy_of_condition f + 3 + extra k) (omega (arith, heavy-three x y (t ∷ []), selects_light (entry v (width_of_range columns R) ∷ []) (filter (alone_on v) cs) (pred l) l, range_at_most R n)) (choose_at_most (short && short_rule5_fits v f) (x ++ o) ((x ++ (join p (pred l) [] ∷ z)) ++ u) (heavy_of_range R + heavy_of_condition f + 3 + extra k) (omega (arith, heavy-append x o, range_at_most R n, condition_at_most f (division_by v (pred l)) s p l)) (omega (arith, heavy-three x (join p (pred l) [] ∷ z) u, range_at_most R n, condition_at_most f itself (extend s v (width_of_range columns R)) l (suc l))))
    condition_at_most (for_at_least v R f least) k s p n =
        let x : List Node = translate_range columns short R n in
        let l : ℕ = n + length x in
        let z : List Node = translate_condition columns short f itself (extend s v (width_of_range columns R)) l (suc l) in
        omega (arith, heavy-three x (join p (pred l) [] ∷ z) (tally p (last_number (suc l) z) least ∷ []), range_at_most R n, condition_at_most f itself (extend s v (width_of_range columns R)) l (suc l))

module _ (columns : ℕ → ℕ) where
  mutual
    unfolding translate_range heavy_of_range

    pub range_plain : (R : Range) (n : ℕ) → heavy_of_range R ≤ heavy (translate_range columns false R n)
    range_plain (table k) n = omega arith
    range_plain (alpha ts v R bs w) n =
        let s : Scope = alpha_scope columns v R bs in
        let x : List Node = translate_range columns false R n in
        let y : List Node = translate_bindings columns false bs (last_number n x) (n + length x) in
        let z : List Node = translate_maybe columns false w s (last_number n (x ++ y)) (n + length (x ++ y)) in
        omega (arith, heavy_four x y z (project (last_number n ((x ++ y) ++ z)) (flat (target_columns s) ts) ∷ []), range_plain R n, bindings_plain bs (last_number n x) (n + length x), maybe_plain w s (last_number n (x ++ y)) (n + length (x ++ y)))
    range_plain (range_or a b) n =
        let x : List Node = translate_range columns false a n in
        let y : List Node = translate_range columns false b (n + length x) in
        omega (arith, heavy-three x y (unite (last_number n x) (last_number n (x ++ y)) ∷ []), range_plain a n, range_plain b (n + length x))
    range_plain (range_and a b) n =
        let x : List Node = translate_range columns false a n in
        let y : List Node = translate_range columns false b (n + length x) in
        omega (arith, heavy-three x y (intersect (last_number n x) (last_number n (x ++ y)) ∷ []), range_plain a n, range_plain b (n + length x))
    range_plain (range_and_not a b) n =
        let x : List Node = translate_range columns false a n in
        let y : List Node = translate_range columns false b (n + length x) in
        omega (arith, heavy-three x y (subtract (last_number n x) (last_number n (x ++ y)) ∷ []), range_plain a n, range_plain b (n + length x))

    pub bindings_plain : (bs : Bindings) (p n : ℕ) → heavy_of_bindings bs ≤ heavy (translate_bindings columns false bs p n)
    bindings_plain no_more p n = omega arith
    bindings_plain (bind v R bs) p n =
        let x : List Node = translate_range columns false R n in
        let y : List Node = translate_bindings columns false bs (n + length x) (suc (n + length x)) in
        omega (arith, heavy-three x (join p (last_number n x) [] ∷ []) y, range_plain R n, bindings_plain bs (n + length x) (suc (n + length x)))

    pub maybe_plain : (w : MaybeCondition) (s : Scope) (p n : ℕ) → heavy_of_maybe w ≤ heavy (translate_maybe columns false w s p n)
    maybe_plain no_condition s p n = omega arith
    maybe_plain (on_condition c) s p n = omega (arith, condition_plain c s p n)

    pub condition_plain : (c : Condition) (s : Scope) (p n : ℕ) → heavy_of_condition c ≤ heavy (translate_condition columns false c itself s p n)
    condition_plain (atom a) s p n = omega arith
    condition_plain (condition_and f g) s p n =
        let x : List Node = translate_condition columns false f itself s p n in
        omega (arith, heavy-append x (translate_condition columns false g itself s (last_number n x) (n + length x)), condition_plain f s p n, condition_plain g s (last_number n x) (n + length x))
    condition_plain (condition_or f g) s p n =
        let x : List Node = translate_condition columns false f itself s p n in
        let y : List Node = translate_condition columns false g itself s p (n + length x) in
        omega (arith, heavy-three x y (unite (last_number n x) (last_number n (x ++ y)) ∷ []), condition_plain f s p n, condition_plain g s p (n + length x))
    condition_plain (condition_not f) s p n =
        let x : List Node = translate_condition columns false f itself s p n in
        omega (arith, heavy-append x (subtract p (last_number n x) ∷ []), condition_plain f s p n)
    condition_plain (for_some v R f) s p n =
        let x : List Node = translate_range columns false R n in
        let l : ℕ = n + length x in
        let z : List Node = translate_condition columns false f itself (extend s v (width_of_range columns R)) l (suc l) in
        omega (arith, heavy-three x (join p (pred l) [] ∷ z) (project (last_number (suc l) z) (all_columns (columns_in s)) ∷ []), range_plain R n, condition_plain f (extend s v (width_of_range columns R)) l (suc l))
    condition_plain (for_every v R f) s p n =
        let x : List Node = translate_range columns false R n in
        let l : ℕ = n + length x in
        let z : List Node = translate_condition columns false f itself (extend s v (width_of_range columns R)) l (suc l) in
        let i : ℕ = last_number (suc l) z in
        omega (arith, heavy-three x (join p (pred l) [] ∷ z) (subtract l i ∷ project (suc i) (all_columns (columns_in s)) ∷ subtract p (suc (suc i)) ∷ []), range_plain R n, condition_plain f (extend s v (width_of_range columns R)) l (suc l))
    condition_plain (for_at_least v R f least) s p n =
        let x : List Node = translate_range columns false R n in
        let l : ℕ = n + length x in
        let z : List Node = translate_condition columns false f itself (extend s v (width_of_range columns R)) l (suc l) in
        omega (arith, heavy-three x (join p (pred l) [] ∷ z) (tally p (last_number (suc l) z) least ∷ []), range_plain R n, condition_plain f (extend s v (width_of_range columns R)) l (suc l))

  pub lighter : (R : Range) → heavy (translate_range columns true R 0) ≤ heavy (translate_range columns false R 0)
  lighter R = omega (arith, range_at_most columns true R 0, range_plain R 0)
