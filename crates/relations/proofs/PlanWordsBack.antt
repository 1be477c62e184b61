-- Nodes and their words: what is written is read back.
use mathlib.Core.Path.{◌≡◌, refl, sym, ◌∙◌, ap, subst}
use mathlib.Core.Bool.{◌&&◌, ◌||◌, cond, So}
use mathlib.Core.List.{List, [], ◌∷◌, ◌++◌, map}
use mathlib.Core.Option.{some, none}
use Prim.Native.Nat.{ℕ, zero, suc, ◌*◌, ◌-◌, ◌≤◌}
use native.Mathlib.Omega.{arith}
use lib.Dec.{leb, eqb}
use borrow.Author.Tests.{leb-true}
use lib.ListN.{length, drop, replicate, length-append, length-map, length-replicate}
use lib.Seq.{take_at, drop_at}
use Rattle.relations.specs.Limits.{plan_node_words, list_words}
use Rattle.relations.specs.Lists.{flat}
use Rattle.relations.specs.Columns.{Attribute, attribute, Triple, Pair}
use Rattle.relations.specs.Nodes.{Node, load, project, select_constant, select_attribute, join, semijoin, antijoin, divide, unite, intersect, subtract, tally, Operation, loading, projecting, selecting_constant, selecting_attribute, joining, semijoining, antijoining, dividing, uniting, intersecting, subtracting, tallying, operation_of_node, operation_number, operation_of}
use Rattle.relations.specs.Legality.{between}
use Rattle.relations.specs.PlanWords.{Shape, shape_of, triple_words, pair_words, Parts, parts_of, node_words, count_fits, all_zero, shape_fits, read_triples, read_pairs, read_parts, read_known, read_node}
use Rattle.relations.proofs.BoolLaws.{and_right, and_both}
use Rattle.relations.proofs.ListLaws.{length-flat}
use Rattle.relations.proofs.ComparisonLaws.{operator-back}

-- zeros behind the list

zeros_zero : (n : ℕ) → So (all_zero (replicate n 0))
zeros_zero zero = refl
zeros_zero (suc n) = zeros_zero n

-- reading back the lists

pub attributes_back : (attributes : List Attribute) → map attribute (map (λ a. a.number) attributes) ≡ attributes
attributes_back [] = refl
attributes_back (a ∷ attributes) = ap (λ rest. a ∷ rest) (attributes_back attributes)

pub triples_back : (triples : List Triple) (behind : List ℕ) → read_triples (length triples) (flat triple_words triples ++ behind) ≡ some triples
triples_back [] behind = refl
triples_back (t ∷ triples) behind = rw (operator-back t.operator, triples_back triples behind)

pub pairs-back : (pairs : List Pair) (behind : List ℕ) → read_pairs (length pairs) (flat pair_words pairs ++ behind) ≡ pairs
pairs-back [] behind = refl
pairs-back (p ∷ pairs) behind = rw (pairs-back pairs behind)

-- the used list words are unit x count, and all fit into a node

used_words : (node : Node) → length (parts_of node).list ≡ (shape_of (operation_of_node node)).unit * (parts_of node).count
used_words (load relation) = refl
used_words (project left attributes) = omega (arith, length-map attributes (λ a. a.number))
used_words (select_constant left a operator c) = refl
used_words (select_attribute left a operator b) = refl
used_words (join left right triples) = length-flat 3 triple_words triples (λ t. refl)
used_words (semijoin left right triples) = length-flat 3 triple_words triples (λ t. refl)
used_words (antijoin left right triples) = length-flat 3 triple_words triples (λ t. refl)
used_words (divide left right pairs) = length-flat 2 pair_words pairs (λ p. refl)
used_words (unite left right) = refl
used_words (intersect left right) = refl
used_words (subtract left right) = refl
used_words (tally left right least) = refl

-- the most that an operation's list takes
pub shape_room : (operation : Operation) (count : ℕ) → count ≤ (shape_of operation).most_count → (shape_of operation).unit * count ≤ list_words
shape_room loading count h = omega arith
shape_room projecting count h = omega arith
shape_room selecting_constant count h = omega arith
shape_room selecting_attribute count h = omega arith
shape_room joining count h = omega arith
shape_room semijoining count h = omega arith
shape_room antijoining count h = omega arith
shape_room dividing count h = omega arith
shape_room uniting count h = omega arith
shape_room intersecting count h = omega arith
shape_room subtracting count h = omega arith
shape_room tallying count h = omega arith

list-fits : (node : Node) → So (count_fits node) → length (parts_of node).list ≤ list_words
list-fits node h =
    let shape : Shape = shape_of (operation_of_node node) in
    let most : (parts_of node).count ≤ shape.most_count = leb-true (parts_of node).count shape.most_count (and_right (leb shape.least_count (parts_of node).count) (leb (parts_of node).count shape.most_count) h) in
    subst (λ n. n ≤ list_words) (sym (used_words node)) (shape_room (operation_of_node node) (parts_of node).count most)

pub words_size : (node : Node) → So (count_fits node) → length (node_words node) ≡ plan_node_words
words_size node h = omega (arith, list-fits node h, length-append (parts_of node).list (replicate (list_words - length (parts_of node).list) 0), length-replicate {A = ℕ} (list_words - length (parts_of node).list) 0)

-- what is written is read back

right-fits : (node : Node) → So ((shape_of (operation_of_node node)).uses_right || eqb (parts_of node).right 0)
right-fits (load relation) = refl
right-fits (project left attributes) = refl
right-fits (select_constant left a operator c) = refl
right-fits (select_attribute left a operator b) = refl
right-fits (join left right triples) = refl
right-fits (semijoin left right triples) = refl
right-fits (antijoin left right triples) = refl
right-fits (divide left right pairs) = refl
right-fits (unite left right) = refl
right-fits (intersect left right) = refl
right-fits (subtract left right) = refl
right-fits (tally left right least) = refl

parts_back : (node : Node) (n : ℕ) → read_parts (operation_of_node node) (parts_of node).left (parts_of node).right (parts_of node).count ((parts_of node).list ++ replicate n 0) ≡ some node
parts_back (load relation) n = refl
parts_back (project left attributes) n = rw (take_at (map (λ a. a.number) attributes) (replicate n 0) (length attributes) (length-map attributes (λ a. a.number)), attributes_back attributes)
parts_back (select_constant left a operator c) n = rw (operator-back operator)
parts_back (select_attribute left a operator b) n = rw (operator-back operator)
parts_back (join left right triples) n = rw (triples_back triples (replicate n 0))
parts_back (semijoin left right triples) n = rw (triples_back triples (replicate n 0))
parts_back (antijoin left right triples) n = rw (triples_back triples (replicate n 0))
parts_back (divide left right pairs) n = rw (pairs-back pairs (replicate n 0))
parts_back (unite left right) n = refl
parts_back (intersect left right) n = refl
parts_back (subtract left right) n = refl
parts_back (tally left right least) n = refl

pub operation-back : (operation : Operation) → operation_of (operation_number operation) ≡ some operation
operation-back loading = refl
operation-back projecting = refl
operation-back selecting_constant = refl
operation-back selecting_attribute = refl
operation-back joining = refl
operation-back semijoining = refl
operation-back antijoining = refl
operation-back dividing = refl
operation-back uniting = refl
operation-back intersecting = refl
operation-back subtracting = refl
operation-back tallying = refl

pub words_back : (node : Node) → So (count_fits node) → read_node (node_words node) ≡ some node
words_back node h =
    let parts : Parts = parts_of node in
    let operation : Operation = operation_of_node node in
    let n : ℕ = list_words - length parts.list in
    let behind : drop ((shape_of operation).unit * parts.count) (parts.list ++ replicate n 0) ≡ replicate n 0 = drop_at parts.list (replicate n 0) ((shape_of operation).unit * parts.count) (used_words node) in
    let zeros : So (all_zero (drop ((shape_of operation).unit * parts.count) (parts.list ++ replicate n 0))) = subst (λ l. So (all_zero l)) (sym behind) (zeros_zero n) in
    let fits : So (shape_fits (shape_of operation) parts.right parts.count (parts.list ++ replicate n 0)) = and_both ((shape_of operation).uses_right || eqb parts.right 0) (between (shape_of operation).least_count (shape_of operation).most_count parts.count && all_zero (drop ((shape_of operation).unit * parts.count) (parts.list ++ replicate n 0))) (right-fits node) (and_both (between (shape_of operation).least_count (shape_of operation).most_count parts.count) (all_zero (drop ((shape_of operation).unit * parts.count) (parts.list ++ replicate n 0))) h zeros) in
    ap (λ known. read_known known (node_words node)) (operation-back operation) ∙ (ap (λ b. cond b (read_parts operation parts.left parts.right parts.count (parts.list ++ replicate n 0)) none) fits ∙ parts_back node n)
