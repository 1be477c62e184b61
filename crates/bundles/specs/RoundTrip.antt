-- Document 01, "Bundle text and the program": reading and writing undo one another. Whatever `read` accepts, `write` gives back as the same
-- bytes; whatever `write` writes of words of 32 bits, `read` reads back as the same words. Proved in proofs/RoundTrip.antt. Assumes nothing.
use Rattle.std.specs.Prelude.{ℕ, ◌+◌, ◌*◌, ◌/◌, ◌≤◌, ◌≡◌, List, [], ◌∷◌, true, false, cond, length, take, eqb}
use Rattle.std.proofs.lemmas.List.Edits.{sets}
use Rattle.relations.specs.Limits.{question_node_words, byte_limit}
use Rattle.catalogue.specs.Judging.{tables_ok}
use Rattle.bundles.specs.Writing.{bundle_text}
use Rattle.bundles.specs.Reading.{Bundle, bundle_in}
use Rattle.lines.specs.Reading.{goes_on}
use Rattle.bundles.specs.ReadCall.{ReadOutcome, small_buffers, read_outcome}
use Rattle.bundles.specs.WriteCall.{WriteOutcome, nodes_ok, write_outcome}
use Rattle.lines.specs.Words32.{Words32}

-- Texts and bundles.

-- A text that was read to its end as `found`, with the bytes `rest` left: nothing is left, the text is the text of what was found,
-- and what was found is what `write` accepts.
pub record BundleAsText (text : List ℕ) (found : Bundle) (rest : List ℕ) : Type 0 where
  pub ended : rest ≡ []
  pub text_is : bundle_text found.mode found.catalogue found.tables found.nodes ≡ text
  pub short-text : length text ≤ byte_limit
  pub mode-number : found.mode ≤ 1
  pub tables_ok_lem : tables_ok found.catalogue found.tables ≡ true
  pub nodes_ok_lem : nodes_ok found.nodes ≡ true
  pub tables_32 : Words32 found.tables
  pub nodes_32 : Words32 found.nodes

-- the lines of the tables of a catalogue: a relation line and the rows of each
unfoldable pub table_lines : List ℕ → ℕ
table_lines [] = 0
table_lines (columns ∷ []) = 0
table_lines (columns ∷ rows ∷ more) = 1 + rows + table_lines more

-- What the text of a bundle reads as: "mode (1 for short)", the same words, and no bytes at the line behind its last one.
abbrev pub bundle_of : (mode : ℕ) (catalogue tables nodes : List ℕ) → Bundle
bundle_of mode catalogue tables nodes =
    record {
      mode = cond (eqb mode 0) 0 1;
      catalogue = catalogue;
      tables = tables;
      nodes = nodes;
      next = goes_on (2 + table_lines catalogue + length nodes / question_node_words) [];
    }

-- Calls.

-- a call of `write` that wrote `bytes`: "at the front of its buffer; what is behind stays"
abbrev pub wrote : (bytes buffer : List ℕ) → WriteOutcome
wrote bytes buffer = record { numbers = record { status = 0; place = 0; bytes = length bytes }; text = sets buffer 0 bytes }

-- a call of `read` that found a bundle
abbrev pub found_bundle : (mode : ℕ) (bundleCatalogue bundleTables bundleNodes catalogue tables question : List ℕ) → ReadOutcome
found_bundle mode bundleCatalogue bundleTables bundleNodes catalogue tables question =
    record {
      numbers =
          record {
            status = 0;
            place = 0;
            mode = cond (eqb mode 0) 0 1;
            pairs = length bundleCatalogue / 2;
            words = length bundleTables;
            nodes = length bundleNodes / question_node_words;
          };
      catalogue = sets catalogue 0 bundleCatalogue;
      tables = sets tables 0 bundleTables;
      question = sets question 0 bundleNodes;
    }

-- what `write` is handed of that which a call of `read` left: as many words of each buffer as its numbers say
abbrev pub write_back : ReadOutcome → (buffer : List ℕ) → WriteOutcome
write_back read buffer =
    write_outcome read.numbers.mode (take (2 * read.numbers.pairs) read.catalogue) (take read.numbers.words read.tables)
    (take (question_node_words * read.numbers.nodes) read.question) buffer

-- what `read` is handed of that which a call of `write` left: as many bytes as its numbers say
abbrev pub read_back : WriteOutcome → (catalogue tables question : List ℕ) → ReadOutcome
read_back written catalogue tables question = read_outcome (take written.numbers.bytes written.text) catalogue tables question

pub record RoundTrip : Type 0 where
  -- a text that reads to its end is the text of what it reads as
  pub text_of_reading : (text : List ℕ) (line : ℕ) (rest : List ℕ) → (bundle_in text).next ≡ goes_on line rest → BundleAsText text (bundle_in text) rest
  -- the text of a bundle that `write` accepts reads as that bundle
  pub reading_of_text : (mode : ℕ) (catalogue tables nodes : List ℕ) → tables_ok catalogue tables ≡ true → nodes_ok nodes ≡ true
      → Words32 tables → Words32 nodes → length (bundle_text mode catalogue tables nodes) ≤ byte_limit
      → bundle_in (bundle_text mode catalogue tables nodes) ≡ bundle_of mode catalogue tables nodes
  -- whatever `read` accepts, `write` gives back as the same bytes, in every buffer that has room for them
  pub write_after_read : (text catalogue tables question buffer : List ℕ) → (read_outcome text catalogue tables question).numbers.status ≡ 0
      → length text ≤ length buffer → write_back (read_outcome text catalogue tables question) buffer ≡ wrote text buffer
  -- whatever `write` writes, `read` reads back, into all buffers that it doesn't refuse. (That the words of the catalogue are of 32 bits follows.)
  pub read_after_write : (mode : ℕ) (bundleCatalogue bundleTables bundleNodes text catalogue tables question : List ℕ)
      → (write_outcome mode bundleCatalogue bundleTables bundleNodes text).numbers.status ≡ 0 → Words32 bundleTables → Words32 bundleNodes
      → small_buffers catalogue tables question ≡ false
      → read_back (write_outcome mode bundleCatalogue bundleTables bundleNodes text) catalogue tables question
      ≡ found_bundle mode bundleCatalogue bundleTables bundleNodes catalogue tables question

-- "uniqueness of that outcome is proved": what a call leaves is one outcome
pub record OneOutcome : Type 0 where
  pub of_read : (text catalogue tables question : List ℕ) (one other : ReadOutcome) → one ≡ read_outcome text catalogue tables question
      → other ≡ read_outcome text catalogue tables question → one ≡ other
  pub of_write : (mode : ℕ) (catalogue tables nodes text : List ℕ) (one other : WriteOutcome) → one ≡ write_outcome mode catalogue tables nodes text
      → other ≡ write_outcome mode catalogue tables nodes text → one ≡ other
