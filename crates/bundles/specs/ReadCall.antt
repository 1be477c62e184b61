-- Document 01, "Refusal numbers": what a call of `read` leaves: its numbers, and each buffer afterwards. Assumes nothing.
use Rattle.std.specs.Prelude.{ℕ, ◌*◌, ◌/◌, List, Bool, cond, ◌||◌, length, ltb}
use Rattle.std.proofs.lemmas.List.Edits.{sets}
use Rattle.relations.specs.Limits.{catalogue_pair_limit, word_limit, question_node_limit, question_node_words}
use Rattle.lines.specs.Reading.{Next, goes_on, wrong_at}
use Rattle.bundles.specs.Reading.{bundle_in}
use Rattle.bundles.specs.Reading as reads

-- "Results after status and place: read mode (1 for short), pairs, data words, nodes"
pub record ReadNumbers : Type 0 where
  pub status : ℕ
  pub place : ℕ
  pub mode : ℕ
  pub pairs : ℕ
  pub words : ℕ
  pub nodes : ℕ

-- "A refusal's other result numbers are 0"
abbrev pub read_refusal : (status place : ℕ) → ReadNumbers
read_refusal status place = record { status = status; place = place; mode = 0; pairs = 0; words = 0; nodes = 0 }

pub record ReadOutcome : Type 0 where
  pub numbers : ReadNumbers
  pub catalogue : List ℕ
  pub tables : List ℕ
  pub question : List ℕ

module _ (catalogue tables question : List ℕ) where
  -- "A refusal changes no buffer"
  abbrev pub read_refused : (status place : ℕ) → ReadOutcome
  read_refused status place =
      record { numbers = read_refusal status place; catalogue = catalogue; tables = tables; question = question }

  -- "Success writes what it makes at the front of its buffer; what is behind stays"
  abbrev pub bundle_outcome : reads.Bundle → Next → ReadOutcome
  bundle_outcome bundle (goes_on line bytes) =
      record {
        numbers =
            record {
              status = 0;
              place = 0;
              mode = bundle.mode;
              pairs = length bundle.catalogue / 2;
              words = length bundle.tables;
              nodes = length bundle.nodes / question_node_words;
            };
        catalogue = sets catalogue 0 bundle.catalogue;
        tables = sets tables 0 bundle.tables;
        question = sets question 0 bundle.nodes;
      }
  bundle_outcome bundle (wrong_at line) = read_refused 12 line

-- "reading buffers under 32, 16,384, 384 words"
abbrev pub small_buffers : (catalogue tables question : List ℕ) → Bool
small_buffers catalogue tables question =
    ltb (length catalogue) (2 * catalogue_pair_limit) || ltb (length tables) word_limit || ltb (length question) (question_node_words * question_node_limit)

-- "Read: 14, 12"
unfoldable pub read_outcome : (text catalogue tables question : List ℕ) → ReadOutcome
read_outcome text catalogue tables question =
    cond (small_buffers catalogue tables question) (read_refused catalogue tables question 14 0)
    (bundle_outcome catalogue tables question (bundle_in text) (bundle_in text).next)
