-- A plan node's list words as the code holds them: those used, then zeros. Assumes nothing.
use Rattle.std.specs.Prelude.{ℕ, ◌+◌, ◌-◌, ◌/◌, ◌≡◌, List, [], ◌++◌, map, length, take, replicate}
use Rattle.std.proofs.Math.Option.{Option, some, none}
use Rattle.std.proofs.lemmas.List.Edits.{sets}
use Rattle.relations.specs.Limits.{list_words}
use Rattle.relations.specs.Lists.{flat}
use Rattle.relations.specs.Columns.{Attribute, attribute, Triple, Pair}
use Rattle.relations.specs.PlanWords.{triple_words, pair_words, read_triples, read_pairs}
use Rattle.emission.specs.declared.node_list.NodeList.{NodeList}

abbrev pub padded : List ℕ → List ℕ
padded used = used ++ replicate (list_words - length used) 0

abbrev pub node_list : List ℕ → NodeList
node_list used = record { words = padded used; used = length used }

-- a list with more words behind those that it had
unfoldable pub grown_by : NodeList → List ℕ → NodeList
grown_by list more = record { words = sets list.words list.used more; used = list.used + length more }

abbrev pub numbers_of : List Attribute → List ℕ
numbers_of attributes = map (λ a. a.number) attributes

-- what a list names, read as `relations` reads a node's list words

abbrev pub attributes_in : NodeList → List Attribute
attributes_in list = map attribute (take list.used list.words)

abbrev pub known_triples : Option (List Triple) → List Triple
known_triples (some triples) = triples
known_triples none = []

abbrev pub triples_in : NodeList → List Triple
triples_in list = known_triples (read_triples (list.used / 3) list.words)

abbrev pub pairs_in : NodeList → List Pair
pairs_in list = read_pairs (list.used / 2) list.words

-- a list of these and of nothing else

abbrev pub ListsAttributes : NodeList → Type 0
ListsAttributes list = list ≡ node_list (numbers_of (attributes_in list))

abbrev pub ListsTriples : NodeList → Type 0
ListsTriples list = list ≡ node_list (flat triple_words (triples_in list))

abbrev pub ListsPairs : NodeList → Type 0
ListsPairs list = list ≡ node_list (flat pair_words (pairs_in list))
