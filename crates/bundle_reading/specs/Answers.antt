-- What the answers of the code's inner steps say of a text, as those of `lines` do. Each leaves one outcome, also of a wrong line,
-- and where a reader is lent, one place at which it stands (proofs/Once.antt). Assumes nothing.
use Rattle.std.specs.Prelude.{ℕ, ◌+◌, ◌*◌, ◌/◌, ◌≤◌, ◌≡◌, List, length, Result, Ok, Err}
use Rattle.std.proofs.lemmas.List.Edits.{sets}
use Rattle.relations.specs.Limits.{word_limit, question_node_words}
use Rattle.catalogue.specs.Judging.{catalogue_words}
use Rattle.lines.specs.Reading.{Next, goes_on, wrong_at, Read}
use Rattle.bundles.specs.Reading.{ReadTables}
use Rattle.bundle_reading.specs.declared.TablesRead.{TablesRead}
use Rattle.bundle_reading.specs.declared.Bundle.{Bundle}
use Rattle.lines.specs.declared.reader.Reader.{Reader}
use Rattle.lines.specs.declared.reader.WrongLine.{WrongLine}
use Rattle.lines.specs.Answers.{standing, Stays, LinesRead}
use Rattle.bundles.specs.Reading as reads

-- tables: what was read stands behind the pairs and the words that were read before
abbrev pub TablesCounted : (before : TablesRead) (found : ReadTables) → Result TablesRead WrongLine → Type 0
TablesCounted before found (Ok read) =
    (2 * read.pairs ≡ 2 * before.pairs + length found.catalogue) × (read.words ≡ before.words + catalogue_words found.catalogue) × (read.words ≤ word_limit)
TablesCounted before found (Err wrong) = Unit {0}

pub record TablesFound (start : Reader) (found : ReadTables) (read : TablesRead) (catalogue₀ catalogue₁ tables₀ tables₁ : List ℕ) (stop : Reader) (answer : Result TablesRead WrongLine) : Type 0 where
  pub means : found.next ≡ standing stop answer
  pub stays : Stays start stop answer
  pub text : stop.text.now ≡ start.text.now
  pub counted : TablesCounted read found answer
  pub catalogue : catalogue₁ ≡ sets catalogue₀ (2 * read.pairs) found.catalogue
  pub tables : tables₁ ≡ sets tables₀ read.words found.tables

-- nodes: their words as those of other lines, and whole ones counted
abbrev pub NodesCounted : (found : Read) → Result ℕ WrongLine → Type 0
NodesCounted found (Ok nodes) = nodes ≡ length found.words / question_node_words
NodesCounted found (Err wrong) = Unit {0}

pub record NodesFound (start : Reader) (found : Read) (before after : List ℕ) (stop : Reader) (answer : Result ℕ WrongLine) : Type 0 where
  pub lines : LinesRead start found 0 before after stop answer
  pub counted : NodesCounted found answer

-- all lines: the numbers of a bundle, or the wrong line
abbrev pub lines_answer : reads.Bundle → Next → Result Bundle WrongLine
lines_answer bundle (goes_on line bytes) =
    Ok (record {
      mode = bundle.mode;
      pairs = length bundle.catalogue / 2;
      words = length bundle.tables;
      nodes = length bundle.nodes / question_node_words;
    })
lines_answer bundle (wrong_at line) = Err (record { 0 = line })

pub record BundleFound (found : reads.Bundle) (catalogue₀ catalogue₁ tables₀ tables₁ question₀ question₁ : List ℕ) (answer : Result Bundle WrongLine) : Type 0 where
  pub means : answer ≡ lines_answer found found.next
  pub catalogue : catalogue₁ ≡ sets catalogue₀ 0 found.catalogue
  pub tables : tables₁ ≡ sets tables₀ 0 found.tables
  pub question : question₁ ≡ sets question₀ 0 found.nodes
