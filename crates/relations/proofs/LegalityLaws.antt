-- Legality read as facts and made from facts.
use mathlib.Core.Path.{◌≡◌, refl}
use mathlib.Core.Bool.{Bool, ◌&&◌, So}
use mathlib.Core.List.{List, [], ◌∷◌, ◌++◌}
use Prim.Native.Nat.{ℕ, ◌+◌, ◌≤◌, ◌<◌}
use native.Mathlib.Omega.{arith}
use lib.Dec.{ltb, leb, eqb}
use borrow.Author.Tests.{ltb-true, leb-true, eqb-true, lt-ltb, le-leb, eq-eqb}
use lib.ListN.{length}
use Rattle.relations.specs.Limits.{column_limit, triple_limit, pair_limit}
use Rattle.relations.specs.Lists.{all, All}
use Rattle.relations.specs.Columns.{Attribute, Triple, Pair, left_numbers}
use Rattle.relations.specs.Nodes.{Node, load, project, select_constant, select_attribute, join, semijoin, antijoin, divide, unite, intersect, subtract, tally}
use Rattle.relations.specs.Machine.{run}
use Rattle.relations.specs.Plan.{width_at, width_of_node}
use Rattle.relations.specs.PlanWords.{count_fits}
use Rattle.relations.specs.Legality.{between, inside, triple_inside, pair_inside, distinct, lower, legal_triples, legal_sides, legal_node, legal_nodes, legal_tally}
use Rattle.relations.proofs.BoolLaws.{and_left, and_right, and_both}
use Rattle.relations.proofs.ListLaws.{all_mono, all_of, of_all}

abbrev pub Between : ℕ → ℕ → ℕ → Type 0
Between least most count = (least ≤ count) × (count ≤ most)

abbrev pub Inside : ℕ → Attribute → Type 0
Inside width a = Between 1 width a.number

abbrev pub TripleInside : ℕ → ℕ → Triple → Type 0
TripleInside leftWidth rightWidth t = Inside leftWidth t.left × Inside rightWidth t.right

abbrev pub PairInside : ℕ → ℕ → Pair → Type 0
PairInside leftWidth rightWidth p = Inside leftWidth p.left × Inside rightWidth p.right

abbrev pub TriplesFacts : List ℕ → ℕ → ℕ → List Triple → Type 0
TriplesFacts made left right triples = (left < length made) × (right < length made) × (length triples ≤ triple_limit) × All (TripleInside (width_at made left) (width_at made right)) triples

abbrev pub SidesFacts : List ℕ → ℕ → ℕ → Type 0
SidesFacts made left right = (left < length made) × (right < length made) × (width_at made left ≡ width_at made right)

abbrev pub DivideFacts : List ℕ → ℕ → ℕ → List Pair → Type 0
DivideFacts made left right pairs = (left < length made) × (right < length made) × Between 1 pair_limit (length pairs) × All (PairInside (width_at made left) (width_at made right)) pairs × So (distinct (left_numbers pairs)) × (length pairs < width_at made left)

abbrev pub TallyFacts : List ℕ → ℕ → ℕ → ℕ → Type 0
TallyFacts made left right least = (left < length made) × (right < length made) × (width_at made left < width_at made right) × (1 ≤ least)

-- a node's legality as facts
abbrev pub LegalFacts : ℕ → List ℕ → Node → Type 0
LegalFacts relations made (load relation) = relation < relations
LegalFacts relations made (project left attributes) = (left < length made) × Between 1 column_limit (length attributes) × All (Inside (width_at made left)) attributes
LegalFacts relations made (select_constant left a operator c) = (left < length made) × Inside (width_at made left) a
LegalFacts relations made (select_attribute left a operator b) = (left < length made) × Inside (width_at made left) a × Inside (width_at made left) b
LegalFacts relations made (join left right triples) = TriplesFacts made left right triples × (width_at made left + width_at made right ≤ column_limit)
LegalFacts relations made (semijoin left right triples) = TriplesFacts made left right triples
LegalFacts relations made (antijoin left right triples) = TriplesFacts made left right triples
LegalFacts relations made (divide left right pairs) = DivideFacts made left right pairs
LegalFacts relations made (unite left right) = SidesFacts made left right
LegalFacts relations made (intersect left right) = SidesFacts made left right
LegalFacts relations made (subtract left right) = SidesFacts made left right
LegalFacts relations made (tally left right least) = TallyFacts made left right least

-- from facts to the test

pub between_so : (least most count : ℕ) → Between least most count → So (between least most count)
between_so least most count h = and_both (leb least count) (leb count most) (le-leb least count h.0) (le-leb count most h.1)

inside_so : (width : ℕ) (a : Attribute) → Inside width a → So (inside width a)
inside_so width a h = between_so 1 width a.number h

triple_so : (v w : ℕ) (t : Triple) → TripleInside v w t → So (triple_inside v w t)
triple_so v w t h = and_both (inside v t.left) (inside w t.right) (inside_so v t.left h.0) (inside_so w t.right h.1)

pair_so : (v w : ℕ) (p : Pair) → PairInside v w p → So (pair_inside v w p)
pair_so v w p h = and_both (inside v p.left) (inside w p.right) (inside_so v p.left h.0) (inside_so w p.right h.1)

lower_so : (made : List ℕ) (place : ℕ) → place < length made → So (lower made place)
lower_so made place h = lt-ltb place (length made) h

triples_so : (made : List ℕ) (left right : ℕ) (triples : List Triple) → TriplesFacts made left right triples → So (legal_triples made left right triples)
triples_so made left right triples h =
    let each : So (all (triple_inside (width_at made left) (width_at made right)) triples) = of_all (triple_inside (width_at made left) (width_at made right)) triples (all_mono (triple_so (width_at made left) (width_at made right)) triples h.3) in
    rw (lower_so made left h.0, lower_so made right h.1, le-leb (length triples) triple_limit h.2, each)

sides_so : (made : List ℕ) (left right : ℕ) → SidesFacts made left right → So (legal_sides made left right)
sides_so made left right h = rw (lower_so made left h.0, lower_so made right h.1, eq-eqb (width_at made left) (width_at made right) h.2)

pub legal-holds : (relations : ℕ) (made : List ℕ) (node : Node) → LegalFacts relations made node → So (legal_node relations made node)
legal-holds relations made (load relation) h = lt-ltb relation relations h
legal-holds relations made (project left attributes) h =
    let each : So (all (inside (width_at made left)) attributes) = of_all (inside (width_at made left)) attributes (all_mono (inside_so (width_at made left)) attributes h.2) in
    rw (lower_so made left h.0, between_so 1 column_limit (length attributes) h.1, each)
legal-holds relations made (select_constant left a operator c) h = rw (lower_so made left h.0, inside_so (width_at made left) a h.1)
legal-holds relations made (select_attribute left a operator b) h = and_both (lower made left) (inside (width_at made left) a && inside (width_at made left) b) (lower_so made left h.0) (and_both (inside (width_at made left) a) (inside (width_at made left) b) (inside_so (width_at made left) a h.1) (inside_so (width_at made left) b h.2))
legal-holds relations made (join left right triples) h = rw (triples_so made left right triples h.0, le-leb (width_at made left + width_at made right) column_limit h.1)
legal-holds relations made (semijoin left right triples) h = triples_so made left right triples h
legal-holds relations made (antijoin left right triples) h = triples_so made left right triples h
legal-holds relations made (divide left right pairs) h =
    let each : So (all (pair_inside (width_at made left) (width_at made right)) pairs) = of_all (pair_inside (width_at made left) (width_at made right)) pairs (all_mono (pair_so (width_at made left) (width_at made right)) pairs h.3) in
    rw (lower_so made left h.0, lower_so made right h.1, between_so 1 pair_limit (length pairs) h.2, each, h.4, lt-ltb (length pairs) (width_at made left) h.5)
legal-holds relations made (unite left right) h = sides_so made left right h
legal-holds relations made (intersect left right) h = sides_so made left right h
legal-holds relations made (subtract left right) h = sides_so made left right h
legal-holds relations made (tally left right least) h = rw (lower_so made left h.0, lower_so made right h.1, lt-ltb (width_at made left) (width_at made right) h.2, le-leb 1 least h.3)

-- from the test to facts

pub so_between : (least most count : ℕ) → So (between least most count) → Between least most count
so_between least most count h = (leb-true least count (and_left (leb least count) (leb count most) h), leb-true count most (and_right (leb least count) (leb count most) h))

so_triple : (v w : ℕ) (t : Triple) → So (triple_inside v w t) → TripleInside v w t
so_triple v w t h = (so_between 1 v t.left.number (and_left (inside v t.left) (inside w t.right) h), so_between 1 w t.right.number (and_right (inside v t.left) (inside w t.right) h))

so_pair : (v w : ℕ) (p : Pair) → So (pair_inside v w p) → PairInside v w p
so_pair v w p h = (so_between 1 v p.left.number (and_left (inside v p.left) (inside w p.right) h), so_between 1 w p.right.number (and_right (inside v p.left) (inside w p.right) h))

so_triples : (made : List ℕ) (left right : ℕ) (triples : List Triple) → So (legal_triples made left right triples) → TriplesFacts made left right triples
so_triples made left right triples h =
    let w : ℕ = width_at made left in
    let u : ℕ = width_at made right in
    let h₁ : So (lower made right && (leb (length triples) triple_limit && all (triple_inside w u) triples)) = and_right (lower made left) (lower made right && (leb (length triples) triple_limit && all (triple_inside w u) triples)) h in
    let h₂ : So (leb (length triples) triple_limit && all (triple_inside w u) triples) = and_right (lower made right) (leb (length triples) triple_limit && all (triple_inside w u) triples) h₁ in
    (ltb-true left (length made) (and_left (lower made left) (lower made right && (leb (length triples) triple_limit && all (triple_inside w u) triples)) h), ltb-true right (length made) (and_left (lower made right) (leb (length triples) triple_limit && all (triple_inside w u) triples) h₁), leb-true (length triples) triple_limit (and_left (leb (length triples) triple_limit) (all (triple_inside w u) triples) h₂), all_mono (so_triple w u) triples (all_of (triple_inside w u) triples (and_right (leb (length triples) triple_limit) (all (triple_inside w u) triples) h₂)))

so_sides : (made : List ℕ) (left right : ℕ) → So (legal_sides made left right) → SidesFacts made left right
so_sides made left right h =
    let equal : Bool = eqb (width_at made left) (width_at made right) in
    let h₁ : So (lower made right && equal) = and_right (lower made left) (lower made right && equal) h in
    (ltb-true left (length made) (and_left (lower made left) (lower made right && equal) h), ltb-true right (length made) (and_left (lower made right) equal h₁), eqb-true (width_at made left) (width_at made right) (and_right (lower made right) equal h₁))

so_divide : (made : List ℕ) (left right : ℕ) (pairs : List Pair) → So (lower made left && (lower made right && (between 1 pair_limit (length pairs) && (all (pair_inside (width_at made left) (width_at made right)) pairs && (distinct (left_numbers pairs) && ltb (length pairs) (width_at made left)))))) → DivideFacts made left right pairs
so_divide made left right pairs h =
    let w : ℕ = width_at made left in
    let u : ℕ = width_at made right in
    let t₄ : Bool = distinct (left_numbers pairs) && ltb (length pairs) w in
    let t₃ : Bool = all (pair_inside w u) pairs && t₄ in
    let t₂ : Bool = between 1 pair_limit (length pairs) && t₃ in
    let t₁ : Bool = lower made right && t₂ in
    let h₁ : So t₁ = and_right (lower made left) t₁ h in
    let h₂ : So t₂ = and_right (lower made right) t₂ h₁ in
    let h₃ : So t₃ = and_right (between 1 pair_limit (length pairs)) t₃ h₂ in
    let h₄ : So t₄ = and_right (all (pair_inside w u) pairs) t₄ h₃ in
    (ltb-true left (length made) (and_left (lower made left) t₁ h), ltb-true right (length made) (and_left (lower made right) t₂ h₁), so_between 1 pair_limit (length pairs) (and_left (between 1 pair_limit (length pairs)) t₃ h₂), all_mono (so_pair w u) pairs (all_of (pair_inside w u) pairs (and_left (all (pair_inside w u) pairs) t₄ h₃)), and_left (distinct (left_numbers pairs)) (ltb (length pairs) w) h₄, ltb-true (length pairs) w (and_right (distinct (left_numbers pairs)) (ltb (length pairs) w) h₄))

so_tally : (made : List ℕ) (left right least : ℕ) → So (legal_tally made left right least) → TallyFacts made left right least
so_tally made left right least h =
    let wider : Bool = ltb (width_at made left) (width_at made right) in
    let some-rows : Bool = leb 1 least in
    let h₁ : So (lower made right && (wider && some-rows)) = and_right (lower made left) (lower made right && (wider && some-rows)) h in
    let h₂ : So (wider && some-rows) = and_right (lower made right) (wider && some-rows) h₁ in
    (ltb-true left (length made) (and_left (lower made left) (lower made right && (wider && some-rows)) h), ltb-true right (length made) (and_left (lower made right) (wider && some-rows) h₁), ltb-true (width_at made left) (width_at made right) (and_left wider some-rows h₂), leb-true 1 least (and_right wider some-rows h₂))

pub legal_facts : (relations : ℕ) (made : List ℕ) (node : Node) → So (legal_node relations made node) → LegalFacts relations made node
legal_facts relations made (load relation) h = ltb-true relation relations h
legal_facts relations made (project left attributes) h =
    let each : Bool = all (inside (width_at made left)) attributes in
    let count : Bool = between 1 column_limit (length attributes) in
    let h₁ : So (count && each) = and_right (lower made left) (count && each) h in
    (ltb-true left (length made) (and_left (lower made left) (count && each) h), so_between 1 column_limit (length attributes) (and_left count each h₁), all_mono (λ a k. so_between 1 (width_at made left) a.number k) attributes (all_of (inside (width_at made left)) attributes (and_right count each h₁)))
legal_facts relations made (select_constant left a operator c) h = (ltb-true left (length made) (and_left (lower made left) (inside (width_at made left) a) h), so_between 1 (width_at made left) a.number (and_right (lower made left) (inside (width_at made left) a) h))
legal_facts relations made (select_attribute left a operator b) h =
    let first : Bool = inside (width_at made left) a in
    let second : Bool = inside (width_at made left) b in
    let h₁ : So (first && second) = and_right (lower made left) (first && second) h in
    (ltb-true left (length made) (and_left (lower made left) (first && second) h), so_between 1 (width_at made left) a.number (and_left first second h₁), so_between 1 (width_at made left) b.number (and_right first second h₁))
legal_facts relations made (join left right triples) h =
    let narrow : Bool = leb (width_at made left + width_at made right) column_limit in
    (so_triples made left right triples (and_left (legal_triples made left right triples) narrow h), leb-true (width_at made left + width_at made right) column_limit (and_right (legal_triples made left right triples) narrow h))
legal_facts relations made (semijoin left right triples) h = so_triples made left right triples h
legal_facts relations made (antijoin left right triples) h = so_triples made left right triples h
legal_facts relations made (divide left right pairs) h = so_divide made left right pairs h
legal_facts relations made (unite left right) h = so_sides made left right h
legal_facts relations made (intersect left right) h = so_sides made left right h
legal_facts relations made (subtract left right) h = so_sides made left right h
legal_facts relations made (tally left right least) h = so_tally made left right least h

-- legal nodes, then more
pub legal-append : (columns : ℕ → ℕ) (relations : ℕ) (made : List ℕ) (xs ys : List Node) → So (legal_nodes columns relations made xs) → So (legal_nodes columns relations (run (width_of_node columns) made xs) ys) → So (legal_nodes columns relations made (xs ++ ys))
unfolding run legal_nodes
legal-append columns relations made [] ys h k = k
legal-append columns relations made (x ∷ xs) ys h k =
    let after : List ℕ = made ++ (width_of_node columns made x ∷ []) in
    and_both (legal_node relations made x) (legal_nodes columns relations after (xs ++ ys)) (and_left (legal_node relations made x) (legal_nodes columns relations after xs) h) (legal-append columns relations after xs ys (and_right (legal_node relations made x) (legal_nodes columns relations after xs) h) k)

-- a legal node's count is within its operation's bounds
pub legal-count : (relations : ℕ) (made : List ℕ) (node : Node) → So (legal_node relations made node) → So (count_fits node)
legal-count relations made node h = go node (legal_facts relations made node h)
  where
    go : (node : Node) → LegalFacts relations made node → So (count_fits node)
    go (load relation) f = refl
    go (project left attributes) f = between_so 1 column_limit (length attributes) f.1
    go (select_constant left a operator c) f = refl
    go (select_attribute left a operator b) f = refl
    go (join left right triples) f = between_so 0 triple_limit (length triples) (omega arith, f.0.2)
    go (semijoin left right triples) f = between_so 0 triple_limit (length triples) (omega arith, f.2)
    go (antijoin left right triples) f = between_so 0 triple_limit (length triples) (omega arith, f.2)
    go (divide left right pairs) f = between_so 1 pair_limit (length pairs) f.2
    go (unite left right) f = refl
    go (intersect left right) f = refl
    go (subtract left right) f = refl
    go (tally left right least) f = refl
