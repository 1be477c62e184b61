-- The numbers that the documents fix. Nothing else names one of them by its digits.
use Rattle.std.specs.Prelude.{ℕ, ◌+◌}

-- "No value is over 32 columns"; also the attributes of a project, the columns in scope, an alpha's width.
abbrev pub column_limit : ℕ
column_limit = 32

-- "1 to 256 nodes of 36 words": op, left, right and count, then the list, a word for each column that a project may pick
abbrev pub plan_node_limit : ℕ
plan_node_limit = 256

abbrev pub head_words : ℕ
head_words = 4

abbrev pub list_words : ℕ
list_words = column_limit

abbrev pub plan_node_words : ℕ
plan_node_words = head_words + list_words

-- "count 0 to 8 triples", "1 to 8 pairs"
abbrev pub triple_limit : ℕ
triple_limit = 8

abbrev pub pair_limit : ℕ
pair_limit = 8

-- "1 to 64 nodes of six words"
abbrev pub question_node_limit : ℕ
question_node_limit = 64

abbrev pub question_node_words : ℕ
question_node_words = 6

-- "Variables are 0 to 25"
abbrev pub variable_count : ℕ
variable_count = 26

-- "Operators: 1 =, 2 <>, 3 <, 4 <=, 5 >, 6 >="
abbrev pub operator_count : ℕ
operator_count = 6

-- "at most 16,384 words in all"; also the capacity
abbrev pub word_limit : ℕ
word_limit = 16384

-- "What the desk holds": pairs of a catalogue, columns and rows of a stored table.
abbrev pub catalogue_pair_limit : ℕ
catalogue_pair_limit = 16

abbrev pub stored_column_limit : ℕ
stored_column_limit = 8

abbrev pub row_limit : ℕ
row_limit = 16384

-- "Bundle text and the program": bytes of a text; every number is a word of 32 bits.
abbrev pub byte_limit : ℕ
byte_limit = 65536

abbrev pub greatest_number : ℕ
greatest_number = 4294967295
