-- Each line that a bundle may have next: what it reads as, by the definitions of `lines` and `bundles`, and where it may be asked for. Assumes nothing.
use Rattle.std.specs.Prelude.{ℕ, ◌+◌, ◌≤◌, ◌<◌, ◌≡◌, List, [], ◌∷◌, cond, ltb, length, drop, Option, Some, None}
use Rattle.relations.specs.Limits.{word_limit, question_node_limit, question_node_words}
use Rattle.lines.specs.Marks.{plain_line, short_line, relation_key, row_key, node_key}
use Rattle.lines.specs.Put.{furthest}
use Rattle.lines.specs.Reading.{goes_on, wrong_at, Read, nothing, begins, keyed_line}
use Rattle.bundles.specs.Reading.{relation, no_relation, relation_of}
use Rattle.bundle_lines.specs.declared.Line.{Line}
use Rattle.bundle_lines.specs.declared.Line.TheVariants.{Mode, Relation, Row, Node}
use Rattle.lines.specs.declared.reader.Reader.{Reader}
use Rattle.bundles.specs.Reading as reads

-- The line that must come next: the words on it, what was kept to so far, and what it reads as.
abbrev pub words_on : Line → ℕ
words_on Mode = 1
words_on (Relation total) = 2
words_on (Row columns) = columns
words_on (Node before) = question_node_words

abbrev pub Lawful : Line → Type 0
Lawful Mode = Unit {0}
Lawful (Relation total) = total ≤ word_limit
Lawful (Row columns) = 0 < columns
Lawful (Node before) = Unit {0}

abbrev pub mode_read : (mode line : ℕ) → List ℕ → Read
mode_read mode line bytes = record { words = mode ∷ []; next = goes_on (line + 1) bytes }

abbrev pub pair_read : (line : ℕ) → reads.Relation → Read
pair_read line (relation columns rows bytes) = record { words = columns ∷ rows ∷ []; next = goes_on (line + 1) bytes }
pair_read line no_relation = nothing (wrong_at line)

abbrev pub one_line : Line → (line : ℕ) → List ℕ → Read
one_line Mode line bytes =
    cond (begins plain_line bytes) (mode_read 0 line (drop (length plain_line) bytes))
    (cond (begins short_line bytes) (mode_read 1 line (drop (length short_line) bytes)) (nothing (wrong_at line)))
one_line (Relation total) line bytes =
    cond (begins relation_key bytes) (pair_read line (relation_of total (drop (length relation_key) bytes))) (nothing (wrong_at line))
one_line (Row columns) line bytes = keyed_line row_key columns line bytes
one_line (Node before) line bytes = cond (ltb before question_node_limit) (keyed_line node_key question_node_words line bytes) (nothing (wrong_at line))

-- where a line is asked for: the limits were kept so far, and its words have a place
abbrev pub LineAsked : Line → (to : ℕ) → Type 0
LineAsked kind to = Lawful kind × (to + words_on kind ≤ furthest)

-- a relation line's pair, as the code hands it on: what is read there, and where the line ends
abbrev pub pair_in : (text : List ℕ) → Option (ℕ × ℕ × ℕ) → reads.Relation
pair_in text (Some (columns, rows, next)) = relation columns rows (drop next text)
pair_in text None = no_relation

abbrev pub PairBehind : Reader → Option (ℕ × ℕ × ℕ) → Type 0
PairBehind reader (Some (columns, rows, next)) = (reader.at + 1 ≤ next) × (next ≤ length reader.text.now)
PairBehind reader None = Unit {0}

pub record PairRead (reader : Reader) (total : ℕ) (answer : Option (ℕ × ℕ × ℕ)) : Type 0 where
  pub means : cond (begins relation_key (drop reader.at reader.text.now)) (relation_of total (drop (length relation_key) (drop reader.at reader.text.now))) no_relation ≡ pair_in reader.text.now answer
  pub behind : PairBehind reader answer
