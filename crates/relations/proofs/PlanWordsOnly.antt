-- Nodes and their words: only what would be written is read; with PlanWordsBack, the two agree both ways.
use mathlib.Core.Path.{◌≡◌, refl, sym, ◌∙◌, ap, ap₂, subst}
use mathlib.Core.Bool.{Bool, true, false, ◌&&◌, ◌||◌, cond, So}
use mathlib.Core.List.{List, [], ◌∷◌, ◌++◌, map}
use mathlib.Core.Option
use mathlib.Core.Option.{Option, some, none}
use Prim.Native.Nat.{ℕ, zero, suc, ◌*◌, ◌-◌, ◌≤◌}
use native.Mathlib.Omega.{arith}
use lib.Dec.{leb, eqb}
use borrow.Author.Tests.{eqb-true, leb-true}
use lib.ListN.{get_or, length, take, drop, replicate, length-map, length-drop, take-append-drop}
use lib.Seq.{length-take-le}
use Rattle.relations.specs.Limits.{plan_node_words, head_words, list_words}
use Rattle.relations.specs.Lists.{flat}
use Rattle.relations.specs.Comparison.{Operator, operator_number, operator_of}
use Rattle.relations.specs.Columns.{attribute, constant, Triple}
use Rattle.relations.specs.Nodes.{Node, load, project, select_constant, select_attribute, join, semijoin, antijoin, divide, unite, intersect, subtract, tally, Operation, loading, projecting, selecting_constant, selecting_attribute, joining, semijoining, antijoining, dividing, uniting, intersecting, subtracting, tallying, operation_of_node, operation_number, operation_of}
use Rattle.relations.specs.Legality.{between}
use Rattle.relations.specs.PlanWords.{shape_of, triple_words, pair_words, Parts, parts_of, parts_words, node_words, count_fits, all_zero, shape_fits, with_operator, triple_before, read_triples, read_pairs, read_parts, read_known, read_node, WordsAndBack}
use Rattle.relations.proofs.BoolLaws.{and_left, and_right}
use Rattle.relations.proofs.ComparisonLaws.{operator-only}
use Rattle.relations.proofs.PlanWordsBack.{shape_room, words_size, words_back}

zero_zeros : (words : List ℕ) → So (all_zero words) → words ≡ replicate (length words) 0
zero_zeros [] h = refl
zero_zeros (x ∷ words) h = ap₂ ◌∷◌ (sym (eqb-true 0 x (and_left (eqb 0 x) (all_zero words) h))) (zero_zeros words (and_right (eqb 0 x) (all_zero words) h))

numbers-back : (numbers : List ℕ) → map (λ a. a.number) (map attribute numbers) ≡ numbers
numbers-back [] = refl
numbers-back (x ∷ numbers) = ap (λ rest. x ∷ rest) (numbers-back numbers)

operation-only : (number : ℕ) (operation : Operation) → operation_of number ≡ some operation → operation_number operation ≡ number
operation-only number operation h = go (eqb number 1) (eqb number 2) (eqb number 3) (eqb number 4) (eqb number 5) (eqb number 6) (eqb number 7) (eqb number 8) (eqb number 9) (eqb number 10) (eqb number 11) (eqb number 13) refl refl refl refl refl refl refl refl refl refl refl refl h
  where
    is : (k : ℕ) (p : Operation) → operation_number p ≡ k → eqb number k ≡ true → Path (Option Operation) (some p) (some operation) → operation_number operation ≡ number
    is k p e t q =
        let same : p ≡ operation = cc in
        sym (ap operation_number same) ∙ (e ∙ sym (eqb-true number k t))

    go : (a b c d e f g h i j k l : Bool) → eqb number 1 ≡ a → eqb number 2 ≡ b → eqb number 3 ≡ c → eqb number 4 ≡ d → eqb number 5 ≡ e → eqb number 6 ≡ f → eqb number 7 ≡ g → eqb number 8 ≡ h → eqb number 9 ≡ i → eqb number 10 ≡ j → eqb number 11 ≡ k → eqb number 13 ≡ l
        → cond a (some loading) (cond b (some projecting) (cond c (some selecting_constant) (cond d (some selecting_attribute) (cond e (some joining) (cond f (some semijoining) (cond g (some antijoining) (cond h (some dividing) (cond i (some uniting) (cond j (some intersecting) (cond k (some subtracting) (cond l (some tallying) none))))))))))) ≡ some operation → operation_number operation ≡ number
    go true b c d e f g h i j k l h₁ h₂ h₃ h₄ h₅ h₆ h₇ h₈ h₉ h₁₀ h₁₁ h₁₃ q = is 1 loading refl h₁ q
    go false true c d e f g h i j k l h₁ h₂ h₃ h₄ h₅ h₆ h₇ h₈ h₉ h₁₀ h₁₁ h₁₃ q = is 2 projecting refl h₂ q
    go false false true d e f g h i j k l h₁ h₂ h₃ h₄ h₅ h₆ h₇ h₈ h₉ h₁₀ h₁₁ h₁₃ q = is 3 selecting_constant refl h₃ q
    go false false false true e f g h i j k l h₁ h₂ h₃ h₄ h₅ h₆ h₇ h₈ h₉ h₁₀ h₁₁ h₁₃ q = is 4 selecting_attribute refl h₄ q
    go false false false false true f g h i j k l h₁ h₂ h₃ h₄ h₅ h₆ h₇ h₈ h₉ h₁₀ h₁₁ h₁₃ q = is 5 joining refl h₅ q
    go false false false false false true g h i j k l h₁ h₂ h₃ h₄ h₅ h₆ h₇ h₈ h₉ h₁₀ h₁₁ h₁₃ q = is 6 semijoining refl h₆ q
    go false false false false false false true h i j k l h₁ h₂ h₃ h₄ h₅ h₆ h₇ h₈ h₉ h₁₀ h₁₁ h₁₃ q = is 7 antijoining refl h₇ q
    go false false false false false false false true i j k l h₁ h₂ h₃ h₄ h₅ h₆ h₇ h₈ h₉ h₁₀ h₁₁ h₁₃ q = is 8 dividing refl h₈ q
    go false false false false false false false false true j k l h₁ h₂ h₃ h₄ h₅ h₆ h₇ h₈ h₉ h₁₀ h₁₁ h₁₃ q = is 9 uniting refl h₉ q
    go false false false false false false false false false true k l h₁ h₂ h₃ h₄ h₅ h₆ h₇ h₈ h₉ h₁₀ h₁₁ h₁₃ q = is 10 intersecting refl h₁₀ q
    go false false false false false false false false false false true l h₁ h₂ h₃ h₄ h₅ h₆ h₇ h₈ h₉ h₁₀ h₁₁ h₁₃ q = is 11 subtracting refl h₁₁ q
    go false false false false false false false false false false false true h₁ h₂ h₃ h₄ h₅ h₆ h₇ h₈ h₉ h₁₀ h₁₁ h₁₃ q = is 13 tallying refl h₁₃ q
    go false false false false false false false false false false false false h₁ h₂ h₃ h₄ h₅ h₆ h₇ h₈ h₉ h₁₀ h₁₁ h₁₃ q = absurd (let z : ◌≡◌ {A = ℕ} 0 1 = cc in omega arith)

triples_only : (count : ℕ) (list : List ℕ) (triples : List Triple) → read_triples count list ≡ some triples → 3 * count ≤ length list → (length triples ≡ count) × (flat triple_words triples ≡ take (3 * count) list)
triples_only zero list triples h room =
    let same : [] ≡ triples = cc in
    (ap length (sym same), ap (flat triple_words) (sym same))
triples_only (suc count) [] triples h room = absurd (omega arith)
triples_only (suc count) (a ∷ []) triples h room = absurd (omega arith)
triples_only (suc count) (a ∷ o ∷ []) triples h room = absurd (omega arith)
triples_only (suc count) (a ∷ o ∷ b ∷ list) triples h room = go (operator_of o) refl (read_triples count list) refl h (λ rest e. triples_only count list rest e (omega arith))
  where
    three : 3 * suc count ≡ suc (suc (suc (3 * count)))
    three = omega arith

    go : (known : Option Operator) → operator_of o ≡ known → (behind : Option (List Triple)) → read_triples count list ≡ behind → triple_before known (a ∷ o ∷ b ∷ list) behind ≡ some triples → ((rest : List Triple) → read_triples count list ≡ some rest → (length rest ≡ count) × (flat triple_words rest ≡ take (3 * count) list)) → (length triples ≡ suc count) × (flat triple_words triples ≡ take (3 * suc count) (a ∷ o ∷ b ∷ list))
    go none e behind f k ih = absurd (let z : ◌≡◌ {A = ℕ} 0 1 = cc in omega arith)
    go (some p) e none f k ih = absurd (let z : ◌≡◌ {A = ℕ} 0 1 = cc in omega arith)
    go (some p) e (some rest) f k ih =
        let t : Triple = record { left = attribute a; operator = p; right = attribute b } in
        let same : t ∷ rest ≡ triples = cc in
        (sym (ap length same) ∙ ap suc (ih rest f).0, sym (ap (flat triple_words) same) ∙ (ap₂ (λ i l. a ∷ i ∷ b ∷ l) (operator-only o p e) (ih rest f).1 ∙ sym (ap (λ k. take k (a ∷ o ∷ b ∷ list)) three)))

pairs-only : (count : ℕ) (list : List ℕ) → 2 * count ≤ length list → (length (read_pairs count list) ≡ count) × (flat pair_words (read_pairs count list) ≡ take (2 * count) list)
pairs-only zero list room = (refl, refl)
pairs-only (suc count) [] room = absurd (omega arith)
pairs-only (suc count) (a ∷ []) room = absurd (omega arith)
pairs-only (suc count) (a ∷ b ∷ list) room =
    let two : 2 * suc count ≡ suc (suc (2 * count)) = omega arith in
    let ih : (length (read_pairs count list) ≡ count) × (flat pair_words (read_pairs count list) ≡ take (2 * count) list) = pairs-only count list (omega arith) in
    (ap suc ih.0, ap (λ l. a ∷ b ∷ l) ih.1 ∙ sym (ap (λ k. take k (a ∷ b ∷ list)) two))

-- the parts that a node of that operation has
abbrev Given : Operation → ℕ → ℕ → ℕ → List ℕ → Parts
Given operation l r n words = record { left = l; right = r; count = n; list = take ((shape_of operation).unit * n) words }

abbrev HasParts : Operation → ℕ → ℕ → ℕ → List ℕ → Node → Type 0
HasParts operation l r n words node = (operation_of_node node ≡ operation) × (parts_of node ≡ Given operation l r n words)

has_read : (operation : Operation) (l r n : ℕ) (words : List ℕ) (made node : Node) → Path (Option Node) (some made) (some node) → HasParts operation l r n words made → HasParts operation l r n words node
has_read operation l r n words made node e h =
    let same : made ≡ node = cc in
    subst (HasParts operation l r n words) same h

module _ (l r n : ℕ) (words : List ℕ) (node : Node) where
  -- a node with nothing in its list
  no_list : (operation : Operation) (made : Node) → (shape_of operation).unit ≡ 0 → n ≡ 0 → operation_of_node made ≡ operation → parts_of made ≡ record { left = l; right = r; count = 0; list = [] } → Path (Option Node) (some made) (some node) → HasParts operation l r n words node
  no_list operation made u z e p q =
      let nothing : (shape_of operation).unit * n ≡ 0 = ap₂ ◌*◌ u z in
      has_read operation l r n words made node q (e, p ∙ ap₂ {C = Parts} (λ k used. record { left = l; right = r; count = k; list = used }) (sym z) (sym (ap (λ k. take k words) nothing)))

  -- a select: one attribute, one operator, one more word
  one_select : (operation : Operation) (make : ℕ → Operator → ℕ → Node) → (shape_of operation).unit ≡ 3 → n ≡ 1 → r ≡ 0 → 3 ≤ length words → ((a : ℕ) (o : Operator) (b : ℕ) → operation_of_node (make a o b) ≡ operation) → ((a : ℕ) (o : Operator) (b : ℕ) → parts_of (make a o b) ≡ record { left = l; right = 0; count = 1; list = a ∷ operator_number o ∷ b ∷ [] }) → with_operator (get_or words 1 0) (λ o. make (get_or words 0 0) o (get_or words 2 0)) ≡ some node → HasParts operation l r n words node
  one_select operation make u z rz room e p q = go (operator_of (get_or words 1 0)) refl q
    where
      three : (list : List ℕ) → 3 ≤ length list → get_or list 0 0 ∷ get_or list 1 0 ∷ get_or list 2 0 ∷ [] ≡ take 3 list
      three [] h = absurd (omega arith)
      three (a ∷ []) h = absurd (omega arith)
      three (a ∷ b ∷ []) h = absurd (omega arith)
      three (a ∷ b ∷ c ∷ list) h = refl

      used : (shape_of operation).unit * n ≡ 3
      used = ap₂ ◌*◌ u z

      go : (known : Option Operator) → operator_of (get_or words 1 0) ≡ known → Option.map (λ o. make (get_or words 0 0) o (get_or words 2 0)) known ≡ some node → HasParts operation l r n words node
      go none f k = absurd (let z : ◌≡◌ {A = ℕ} 0 1 = cc in omega arith)
      go (some o) f k =
          let list : get_or words 0 0 ∷ operator_number o ∷ get_or words 2 0 ∷ [] ≡ take ((shape_of operation).unit * n) words = ap (λ i. get_or words 0 0 ∷ i ∷ get_or words 2 0 ∷ []) (operator-only (get_or words 1 0) o f) ∙ (three words room ∙ sym (ap (λ k. take k words) used)) in
          has_read operation l r n words (make (get_or words 0 0) o (get_or words 2 0)) node k (e (get_or words 0 0) o (get_or words 2 0), p (get_or words 0 0) o (get_or words 2 0) ∙ (ap₂ {C = Parts} (λ i k. record { left = l; right = i; count = k; list = get_or words 0 0 ∷ operator_number o ∷ get_or words 2 0 ∷ [] }) (sym rz) (sym z) ∙ ap {B = Parts} (λ used. record { left = l; right = r; count = n; list = used }) list))

  -- one number
  one_number : (operation : Operation) (make : ℕ → Node) → (shape_of operation).unit ≡ 1 → n ≡ 1 → 1 ≤ length words → ((a : ℕ) → operation_of_node (make a) ≡ operation) → ((a : ℕ) → parts_of (make a) ≡ record { left = l; right = r; count = 1; list = a ∷ [] }) → Path (Option Node) (some (make (get_or words 0 0))) (some node) → HasParts operation l r n words node
  one_number operation make u z room e p q = has_read operation l r n words (make (get_or words 0 0)) node q (e (get_or words 0 0), p (get_or words 0 0) ∙ ap₂ {C = Parts} (λ k used. record { left = l; right = r; count = k; list = used }) (sym z) (one words room ∙ sym (ap (λ k. take k words) used)))
    where
      one : (list : List ℕ) → 1 ≤ length list → get_or list 0 0 ∷ [] ≡ take 1 list
      one [] h = absurd (omega arith)
      one (a ∷ list) h = refl

      used : (shape_of operation).unit * n ≡ 1
      used = ap₂ ◌*◌ u z

  -- a node of triples
  some_triples : (operation : Operation) (make : List Triple → Node) → (shape_of operation).unit ≡ 3 → 3 * n ≤ length words → ((triples : List Triple) → operation_of_node (make triples) ≡ operation) → ((triples : List Triple) → parts_of (make triples) ≡ record { left = l; right = r; count = length triples; list = flat triple_words triples }) → Option.map make (read_triples n words) ≡ some node → HasParts operation l r n words node
  some_triples operation make u room e p q = go (read_triples n words) refl q
    where
      go : (known : Option (List Triple)) → read_triples n words ≡ known → Option.map make known ≡ some node → HasParts operation l r n words node
      go none f k = absurd (let z : ◌≡◌ {A = ℕ} 0 1 = cc in omega arith)
      go (some triples) f k =
          let h : (length triples ≡ n) × (flat triple_words triples ≡ take (3 * n) words) = triples_only n words triples f room in
          let list : flat triple_words triples ≡ take ((shape_of operation).unit * n) words = h.1 ∙ ap (λ i. take (i * n) words) (sym u) in
          has_read operation l r n words (make triples) node k (e triples, p triples ∙ ap₂ {C = Parts} (λ k used. record { left = l; right = r; count = k; list = used }) h.0 list)

  parts_only : (operation : Operation) → So ((shape_of operation).uses_right || eqb r 0) → (shape_of operation).least_count ≤ n → n ≤ (shape_of operation).most_count → (shape_of operation).unit * n ≤ length words → read_parts operation l r n words ≡ some node → HasParts operation l r n words node
  parts_only loading side least most room h = no_list loading (load l) refl (omega arith) refl (ap {B = Parts} (λ i. record { left = l; right = i; count = 0; list = [] }) (sym (eqb-true r 0 side))) h
  parts_only projecting side least most room h =
      let one : 1 * n ≡ n = omega arith in
      let many : length (map attribute (take n words)) ≡ n = length-map (take n words) attribute ∙ length-take-le n words (omega arith) in
      let list : map (λ a. a.number) (map attribute (take n words)) ≡ take (1 * n) words = numbers-back (take n words) ∙ sym (ap (λ k. take k words) one) in
      has_read projecting l r n words (project l (map attribute (take n words))) node h (refl, ap₂ {C = Parts} (λ i k. record { left = l; right = i; count = k; list = map (λ a. a.number) (map attribute (take n words)) }) (sym (eqb-true r 0 side)) many ∙ ap {B = Parts} (λ used. record { left = l; right = r; count = n; list = used }) list)
  parts_only selecting_constant side least most room h = one_select selecting_constant (λ a o b. select_constant l (attribute a) o (constant b)) refl (omega arith) (eqb-true r 0 side) (omega arith) (λ a o b. refl) (λ a o b. refl) h
  parts_only selecting_attribute side least most room h = one_select selecting_attribute (λ a o b. select_attribute l (attribute a) o (attribute b)) refl (omega arith) (eqb-true r 0 side) (omega arith) (λ a o b. refl) (λ a o b. refl) h
  parts_only joining side least most room h = some_triples joining (join l r) refl room (λ triples. refl) (λ triples. refl) h
  parts_only semijoining side least most room h = some_triples semijoining (semijoin l r) refl room (λ triples. refl) (λ triples. refl) h
  parts_only antijoining side least most room h = some_triples antijoining (antijoin l r) refl room (λ triples. refl) (λ triples. refl) h
  parts_only dividing side least most room h =
      let pairs : (length (read_pairs n words) ≡ n) × (flat pair_words (read_pairs n words) ≡ take (2 * n) words) = pairs-only n words room in
      has_read dividing l r n words (divide l r (read_pairs n words)) node h (refl, ap₂ {C = Parts} (λ k used. record { left = l; right = r; count = k; list = used }) pairs.0 pairs.1)
  parts_only uniting side least most room h = no_list uniting (unite l r) refl (omega arith) refl refl h
  parts_only intersecting side least most room h = no_list intersecting (intersect l r) refl (omega arith) refl refl h
  parts_only subtracting side least most room h = no_list subtracting (subtract l r) refl (omega arith) refl refl h
  parts_only tallying side least most room h = one_number tallying (tally l r) refl (omega arith) (omega arith) (λ a. refl) (λ a. refl) h

head_split : (words : List ℕ) → length words ≡ plan_node_words → get_or words 0 0 ∷ get_or words 1 0 ∷ get_or words 2 0 ∷ get_or words 3 0 ∷ drop head_words words ≡ words
head_split [] h = absurd (omega arith)
head_split (a ∷ []) h = absurd (omega arith)
head_split (a ∷ b ∷ []) h = absurd (omega arith)
head_split (a ∷ b ∷ c ∷ []) h = absurd (omega arith)
head_split (a ∷ b ∷ c ∷ d ∷ words) h = refl

-- a list whose words from k on are zero
zeros_behind : (k : ℕ) (list : List ℕ) → k ≤ length list → length list ≡ list_words → So (all_zero (drop k list)) → take k list ++ replicate (list_words - length (take k list)) 0 ≡ list
zeros_behind k list h e z =
    let size : length (drop k list) ≡ list_words - length (take k list) = omega (arith, length-drop k list, length-take-le k list h) in
    ap (λ n. take k list ++ replicate n 0) (sym size) ∙ (ap (λ l. take k list ++ l) (sym (zero_zeros (drop k list) z)) ∙ take-append-drop k list)

words-only : (words : List ℕ) (node : Node) → length words ≡ plan_node_words → read_node words ≡ some node → So (count_fits node) × (node_words node ≡ words)
words-only words node size h = go (operation_of (get_or words 0 0)) refl h
  where
    l : ℕ
    l = get_or words 1 0

    r : ℕ
    r = get_or words 2 0

    n : ℕ
    n = get_or words 3 0

    list : List ℕ
    list = drop head_words words

    go : (known : Option Operation) → operation_of (get_or words 0 0) ≡ known → read_known known words ≡ some node → So (count_fits node) × (node_words node ≡ words)
    go none e k = absurd (let z : ◌≡◌ {A = ℕ} 0 1 = cc in omega arith)
    go (some operation) e k = fits (shape_fits (shape_of operation) r n list) refl k
      where
        bounds : Bool
        bounds = between (shape_of operation).least_count (shape_of operation).most_count n

        fits : (b : Bool) → shape_fits (shape_of operation) r n list ≡ b → cond b (read_parts operation l r n list) none ≡ some node → So (count_fits node) × (node_words node ≡ words)
        fits false f q = absurd (let z : ◌≡◌ {A = ℕ} 0 1 = cc in omega arith)
        fits true f q =
            let side : Bool = (shape_of operation).uses_right || eqb r 0 in
            let zeros : Bool = all_zero (drop ((shape_of operation).unit * n) list) in
            let in_bounds : So bounds = and_left bounds zeros (and_right side (bounds && zeros) f) in
            let least : (shape_of operation).least_count ≤ n = leb-true (shape_of operation).least_count n (and_left (leb (shape_of operation).least_count n) (leb n (shape_of operation).most_count) in_bounds) in
            let most : n ≤ (shape_of operation).most_count = leb-true n (shape_of operation).most_count (and_right (leb (shape_of operation).least_count n) (leb n (shape_of operation).most_count) in_bounds) in
            let whole : length list ≡ list_words = omega (arith, length-drop head_words words) in
            let used : (shape_of operation).unit * n ≤ length list = subst (λ k. (shape_of operation).unit * n ≤ k) (sym whole) (shape_room operation n most) in
            let has : HasParts operation l r n list node = parts_only l r n list node operation (and_left side (bounds && zeros) f) least most used q in
            let same : node_words node ≡ words = ap₂ parts_words (ap operation_number has.0 ∙ operation-only (get_or words 0 0) operation e) has.1 ∙ (ap (λ tail. get_or words 0 0 ∷ l ∷ r ∷ n ∷ tail) (zeros_behind ((shape_of operation).unit * n) list used whole (and_right bounds zeros (and_right side (bounds && zeros) f))) ∙ head_split words size) in
            (subst (λ o. So (between (shape_of o).least_count (shape_of o).most_count (parts_of node).count)) (sym has.0) (subst (λ k. So (between (shape_of operation).least_count (shape_of operation).most_count k)) (sym (ap (λ parts. parts.count) has.1)) in_bounds), same)

pub words_and_back : WordsAndBack
words_and_back = record { size = words_size; back = words_back; only = words-only }
