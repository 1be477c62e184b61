-- What the code's triples and pairs stand for, and how they are read from a node's list words.
use Rattle.std.specs.Prelude.{List, [], ◌∷◌, ℕ, zero, suc, ◌/◌, length, get_or, drop}
use Rattle.relations.specs.Comparison.{operator_named}
use Rattle.relations.specs.Columns as columns
use Rattle.terms.specs.Terms.{attribute_in, operator_in}
use Rattle.operations.specs.declared.columns.Triple.{Triple}
use Rattle.operations.specs.declared.columns.Pair.{Pair}

abbrev pub triple_in : Triple → columns.Triple
triple_in t = record { left = attribute_in t.left; operator = operator_in t.operator; right = attribute_in t.right }

abbrev pub pair_in : Pair → columns.Pair
pair_in p = record { left = attribute_in p.left; right = attribute_in p.right }

-- the triple and the pair at the front of the list words
abbrev pub first_triple : List ℕ → columns.Triple
first_triple list = record { left = columns.attribute (get_or list 0 0); operator = operator_named (get_or list 1 0); right = columns.attribute (get_or list 2 0) }

abbrev pub first_pair : List ℕ → columns.Pair
first_pair list = record { left = columns.attribute (get_or list 0 0); right = columns.attribute (get_or list 1 0) }

-- so many triples; where relations' `read_triples` reads any, these are they (proofs/ListLaws, triples_read)
abbrev pub triples_in : ℕ → List ℕ → List columns.Triple
triples_in zero list = []
triples_in (suc count) list = first_triple list ∷ triples_in count (drop 3 list)

-- all triples of list words that have no others
abbrev pub triples_of : List ℕ → List columns.Triple
triples_of list = triples_in (length list / 3) list
