-- A node's list: words put behind those that it has, and what it names. Assumes nothing.
use Prim.Native.Nat.{ℕ, zero, suc, ◌+◌, ◌-◌, ◌/◌, ◌≤◌, ◌<◌}
use mathlib.Core.Path.{◌≡◌, refl, sym, ap, ap₂, ◌∙◌}
use mathlib.Core.List.{List, [], ◌∷◌, ◌++◌, map, append-nil}
use native.Mathlib.Omega.{arith}
use native.Mathlib.Numerals.{add-one}
use lib.ListN.{length, get_or, drop, replicate, length-append, length-map, length-replicate}
use lib.Seq.{sets, sets-eq, take-append_seam}
use Rattle.relations.specs.Limits.{list_words}
use Rattle.relations.specs.Columns.{Attribute, attribute, Triple, Pair}
use Rattle.relations.specs.Nodes.{project}
use Rattle.relations.specs.Lists.{flat}
use Rattle.relations.specs.PlanWords.{triple_words, pair_words, node_words, read_triples, read_pairs}
use Rattle.calculus.specs.Scope.{columns_from, all_columns}
use Rattle.calculus.proofs.ScopeLaws.{columns_length}
use Rattle.relations.proofs.ListLaws.{length-flat}
use Rattle.relations.proofs.PlanWordsBack.{attributes_back, triples_back, pairs-back}
use Rattle.relations.proofs.StoreLaws.{sets-append}
use Rattle.emission.specs.NodeLists.{padded, node_list, grown_by, numbers_of, attributes_in, known_triples, triples_in, pairs_in, ListsAttributes, ListsTriples, ListsPairs}
use Rattle.emission.specs.Joins.{combination_number, paired, linked, linking_number, linking_unit, ListsFor}
use Rattle.emission.specs.declared.node_list.NodeList.{NodeList}
use Rattle.nodes.specs.declared.node.Combination.{Combination}
use Rattle.nodes.specs.declared.node.Combination.TheVariants.{Or, And, AndNot}
use Rattle.emission.specs.declared.emit.Linking.{Linking}
use Rattle.emission.specs.declared.emit.Linking.TheVariants.{Semijoin, Antijoin, Divide}

abbrev list_of : List ℕ → ℕ → NodeList
list_of words used = record { words = words; used = used }

pub grown_used : (list : NodeList) (more : List ℕ) {longer : NodeList} → longer ≡ grown_by list more → longer.used ≡ list.used + length more
unfolding grown_by
grown_used list more e = ap (λ (l : NodeList). l.used) e

pub grown_none : (list : NodeList) → grown_by list [] ≡ list
unfolding grown_by
grown_none list =
    let e : list.used + 0 ≡ list.used = omega arith in
    ap (list_of list.words) e

pub grown_step : (list : NodeList) (xs ys : List ℕ) {longer : NodeList} → longer ≡ grown_by list xs → grown_by longer ys ≡ grown_by list (xs ++ ys)
unfolding grown_by
grown_step list xs ys grown =
    let e : list.used + length xs + length ys ≡ list.used + length (xs ++ ys) = omega (arith, length-append xs ys) in
    ap (λ (l : NodeList). grown_by l ys) grown ∙ ap₂ list_of (sym (sets-append list.words list.used xs ys)) e

pub grown_then : (a : NodeList) (xs ys : List ℕ) {b c : NodeList} → b ≡ grown_by a xs → c ≡ grown_by b ys → c ≡ grown_by a (xs ++ ys)
grown_then a xs ys e f = f ∙ grown_step a xs ys e

-- a list grown from nothing is that of the words that were put there

drop_zeros : (k n : ℕ) → drop {A = ℕ} k (replicate n 0) ≡ replicate (n - k) 0
drop_zeros zero n =
    let e : n - 0 ≡ n = omega arith in
    rw e
drop_zeros (suc k) zero =
    let e : 0 - suc k ≡ 0 = omega arith in
    rw e
drop_zeros (suc k) (suc n) =
    let e : suc n - suc k ≡ n - k = omega arith in
    rw e (drop_zeros k n)

pub grown-list : (more : List ℕ) {nothing list : NodeList} → nothing ≡ node_list [] → list ≡ grown_by nothing more → length more ≤ list_words → list ≡ node_list more
unfolding grown_by
grown-list more none e h =
    let k : 0 + length more ≡ length more = omega arith in
    let zeros : padded [] ≡ replicate list_words 0 = refl in
    let words : sets (padded []) 0 more ≡ padded more = sets-eq more (padded []) 0 (omega arith) ∙ rw (k, zeros, drop_zeros (length more) list_words) in
    e ∙ ap (λ (l : NodeList). grown_by l more) none ∙ ap₂ list_of words k

-- A list that a loop grows: there is room for the words that are still to come, and with them it will be the whole.
pub record Grows (list : NodeList) (more : List ℕ) (whole : NodeList) : Type 0 where
  pub room : list.used + length more ≤ list_words
  pub becomes : grown_by list more ≡ whole

pub grows_from : (more : List ℕ) {nothing : NodeList} → nothing ≡ node_list [] → length more ≤ list_words → Grows nothing more (node_list more)
grows_from more none h = record { room = omega (arith, ap (λ (l : NodeList). l.used) none); becomes = grown-list more none refl h }

module _ {list whole : NodeList} {now : List ℕ} (g : Grows list now whole) where
  pub grows_on : (xs ys : List ℕ) {longer : NodeList} → now ≡ xs ++ ys → longer ≡ grown_by list xs → Grows longer ys whole
  grows_on xs ys e grown =
      record {
        room = omega (arith, g.room, ap length e, length-append xs ys, grown_used list xs grown);
        becomes = grown_step list xs ys grown ∙ ap (grown_by list) (sym e) ∙ g.becomes;
      }

  pub grows_as : (ys : List ℕ) → now ≡ ys → Grows list ys whole
  grows_as ys e = record { room = omega (arith, g.room, ap length e); becomes = ap (grown_by list) (sym e) ∙ g.becomes }

  pub grown : now ≡ [] → list ≡ whole
  grown e = sym (grown_none list) ∙ ap (grown_by list) (sym e) ∙ g.becomes

-- attributes listed

pub numbers-append : (xs ys : List Attribute) → numbers_of (xs ++ ys) ≡ numbers_of xs ++ numbers_of ys
numbers-append [] ys = refl
numbers-append (x ∷ xs) ys = ap (λ rest. x.number ∷ rest) (numbers-append xs ys)

pub columns_step : (left column : ℕ) → 0 < left → numbers_of (columns_from left column) ≡ column ∷ numbers_of (columns_from (left - 1) (column + 1))
columns_step zero column h = absurd (omega arith)
columns_step (suc left) column h =
    let e : suc left - 1 ≡ left = omega arith in
    rw (add-one, e)

pub columns_none : (left column : ℕ) → left ≡ 0 → numbers_of (columns_from left column) ≡ []
columns_none left column e = rw e

pub columns-long : (count first : ℕ) → length (numbers_of (columns_from count first)) ≡ count
columns-long count first = length-map (columns_from count first) (λ (a : Attribute). a.number) ∙ columns_length count first

-- what a list names is what it was made of

triples_used : (triples : List Triple) → length (flat triple_words triples) / 3 ≡ length triples
triples_used triples = omega (arith, length-flat 3 triple_words triples (λ t. refl))

pairs_used : (pairs : List Pair) → length (flat pair_words pairs) / 2 ≡ length pairs
pairs_used pairs = omega (arith, length-flat 2 pair_words pairs (λ p. refl))

module _ {list : NodeList} where
  pub names_attributes : (listed : List Attribute) → list ≡ node_list (numbers_of listed) → attributes_in list ≡ listed
  names_attributes listed e = ap attributes_in e ∙ ap (map attribute) (take-append_seam (numbers_of listed) (replicate (list_words - length (numbers_of listed)) 0)) ∙ attributes_back listed

  pub names_triples : (listed : List Triple) → list ≡ node_list (flat triple_words listed) → triples_in list ≡ listed
  names_triples listed e = ap triples_in e ∙ ap (λ (k : ℕ). known_triples (read_triples k (padded (flat triple_words listed)))) (triples_used listed) ∙ ap known_triples (triples_back listed (replicate (list_words - length (flat triple_words listed)) 0))

  pub names_pairs : (listed : List Pair) → list ≡ node_list (flat pair_words listed) → pairs_in list ≡ listed
  names_pairs listed e = ap pairs_in e ∙ ap (λ (k : ℕ). read_pairs k (padded (flat pair_words listed))) (pairs_used listed) ∙ pairs-back listed (replicate (list_words - length (flat pair_words listed)) 0)

  pub lists_attributes : (listed : List Attribute) → list ≡ node_list (numbers_of listed) → ListsAttributes list
  lists_attributes listed e = e ∙ ap (λ (l : List Attribute). node_list (numbers_of l)) (sym (names_attributes listed e))

  pub lists_triples : (listed : List Triple) → list ≡ node_list (flat triple_words listed) → ListsTriples list
  lists_triples listed e = e ∙ ap (λ (l : List Triple). node_list (flat triple_words l)) (sym (names_triples listed e))

  pub lists_pairs : (listed : List Pair) → list ≡ node_list (flat pair_words listed) → ListsPairs list
  lists_pairs listed e = e ∙ ap (λ (l : List Pair). node_list (flat pair_words l)) (sym (names_pairs listed e))

-- the words of nodes with a list
module _ (list : NodeList) (left right : ℕ) where
  pub linked-words : (how : Linking) → ListsFor how list → linking_number how ∷ left ∷ right ∷ list.used / linking_unit how ∷ list.words ≡ node_words (linked how left right list)
  linked-words Semijoin e = ap (λ (l : NodeList). 6 ∷ left ∷ right ∷ l.used / 3 ∷ l.words) e ∙ rw (triples_used (triples_in list))
  linked-words Antijoin e = ap (λ (l : NodeList). 7 ∷ left ∷ right ∷ l.used / 3 ∷ l.words) e ∙ rw (triples_used (triples_in list))
  linked-words Divide e = ap (λ (l : NodeList). 8 ∷ left ∷ right ∷ l.used / 2 ∷ l.words) e ∙ rw (pairs_used (pairs_in list))

-- a full list has no zeros behind it
pub padded_full : (words : List ℕ) → length words ≡ list_words → padded words ≡ words
padded_full words e =
    let none : list_words - length words ≡ 0 = omega arith in
    rw none (append-nil words)

pub padded_long : (list : List ℕ) → length list ≤ list_words → length (padded list) ≡ list_words
padded_long list h = omega (arith, length-append list (replicate (list_words - length list) 0), length-replicate {A = ℕ} (list_words - length list) 0)

pub padded_at : (list : List ℕ) (zeros place : ℕ) → get_or (list ++ replicate zeros 0) place 0 ≡ get_or list place 0
padded_at [] zero place = refl
padded_at [] (suc zeros) zero = refl
padded_at [] (suc zeros) (suc place) = padded_at [] zeros place
padded_at (word ∷ list) zeros zero = refl
padded_at (word ∷ list) zeros (suc place) = padded_at list zeros place

pub get_d_behind : (list : List ℕ) (place : ℕ) → length list ≤ place → get_or list place 0 ≡ 0
get_d_behind [] place h = refl
get_d_behind (word ∷ list) zero h = absurd (omega arith)
get_d_behind (word ∷ list) (suc place) h = get_d_behind list place (omega arith)

pub pair_words_lem : (how : Combination) (left right : ℕ) → combination_number how ∷ left ∷ right ∷ 0 ∷ padded (0 ∷ []) ≡ node_words (paired how left right)
pair_words_lem Or left right = refl
pair_words_lem And left right = refl
pair_words_lem AndNot left right = refl

-- the first columns, listed
pub first-listed : (columns : ℕ) {nothing list : NodeList} → columns ≤ list_words → nothing ≡ node_list [] → list ≡ grown_by nothing (numbers_of (all_columns columns)) → list ≡ node_list (numbers_of (all_columns columns))
first-listed columns h none e = grown-list _ none e (omega (arith, length-map (all_columns columns) (λ (a : Attribute). a.number), columns_length columns 1))
