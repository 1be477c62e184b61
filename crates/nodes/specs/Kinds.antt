-- Document 01, "The question": the table of kinds. Of which sort a node is, what each of its words a to e is, and what may stand there. Assumes nothing.
-- A new kind is a line of `fields_of`, a word in the sentence on its sort, and a line of `form_of` (Nodes).
use Rattle.std.specs.Prelude.{ℕ, Bool, true, cond, ◌&&◌, ◌||◌, ltb, leb, eqb}
use Rattle.relations.specs.Limits.{column_limit, variable_count, operator_count}
use Rattle.nodes.specs.declared.kinds.Sort.{Sort}
use Rattle.nodes.specs.declared.kinds.Sort.TheVariants.{Target, Binding, Range, Condition}
use Rattle.nodes.specs.declared.kinds.Field.{Field}
use Rattle.nodes.specs.declared.kinds.Field.TheVariants.{Unused, Number, Positive, Variable, Attribute, AttributeOrRow, Operator, Reference, Optional}
use Rattle.nodes.specs.declared.kinds.Fields.{Fields}

-- "A range is kind 1, 2, 5, 6 or 7; a condition 8 to 14." Document 02, item 8: "condition kind 16".
abbrev pub is_target : ℕ → Bool
is_target kind = eqb kind 3

abbrev pub is_binding : ℕ → Bool
is_binding kind = eqb kind 4

abbrev pub is_range : ℕ → Bool
is_range kind = eqb kind 1 || eqb kind 2 || (leb 5 kind && leb kind 7)

abbrev pub is_condition : ℕ → Bool
is_condition kind = (leb 8 kind && leb kind 14) || eqb kind 16

abbrev pub is_of : Sort → ℕ → Bool
is_of Target kind = is_target kind
is_of Binding kind = is_binding kind
is_of Range kind = is_range kind
is_of Condition kind = is_condition kind

abbrev pub five : (a b c d e : Field) → Fields
five a b c d e = record { a = a; b = b; c = c; d = d; e = e }

abbrev pub three : (a b c : Field) → Fields
three a b c = five a b c Unused Unused

abbrev pub two : (a b : Field) → Fields
two a b = three a b Unused

abbrev pub one : Field → Fields
one a = two a Unused

unfoldable pub fields_of : ℕ → Fields
fields_of kind =
    cond (eqb kind 1) (one Number)
    (cond (eqb kind 2) (three (Reference Target) (Reference Binding) (Optional Condition))
    (cond (eqb kind 3) (three Variable AttributeOrRow (Optional Target))
    (cond (eqb kind 4) (three Variable (Reference Range) (Optional Binding))
    (cond (eqb kind 5 || eqb kind 6 || eqb kind 7) (two (Reference Range) (Reference Range))
    (cond (eqb kind 8) (five Variable Attribute Operator Number Unused)
    (cond (eqb kind 9) (five Variable Attribute Operator Variable Attribute)
    (cond (eqb kind 10 || eqb kind 11) (two (Reference Condition) (Reference Condition))
    (cond (eqb kind 12) (one (Reference Condition))
    (cond (eqb kind 13 || eqb kind 14) (three Variable (Reference Range) (Reference Condition))
    (cond (eqb kind 16) (five Variable (Reference Range) (Reference Condition) Positive Unused)
    (one Unused)))))))))))

-- What may stand in a word, where `kind` says of which kind the node is that a reference names: "Each reference names a node of its field's sort", "0 means none, only
-- where marked ?", "Unused words are 0", "Variables are 0 to 25, attributes 1 to 32", "Operators: 1 .. 6"; document 02, item 8: "a number k of at least 1".
module _ (kind : ℕ → ℕ) where
  abbrev pub field_fits : Field → ℕ → Bool
  field_fits Unused word = eqb word 0
  field_fits Number word = true
  field_fits Positive word = leb 1 word
  field_fits Variable word = ltb word variable_count
  field_fits Attribute word = leb 1 word && leb word column_limit
  field_fits AttributeOrRow word = leb word column_limit
  field_fits Operator word = leb 1 word && leb word operator_count
  field_fits (Reference sort) word = is_of sort (kind word)
  field_fits (Optional sort) word = eqb word 0 || is_of sort (kind word)

  abbrev pub words_fit : Fields → (a b c d e : ℕ) → Bool
  words_fit fields a b c d e = field_fits fields.a a && field_fits fields.b b && field_fits fields.c c && field_fits fields.d d && field_fits fields.e e

-- the node that a word names, as a node's number plus one; 0 is none
abbrev pub reference_in : Field → ℕ → ℕ
reference_in Unused word = 0
reference_in Number word = 0
reference_in Positive word = 0
reference_in Variable word = 0
reference_in Attribute word = 0
reference_in AttributeOrRow word = 0
reference_in Operator word = 0
reference_in (Reference sort) word = word
reference_in (Optional sort) word = word
