-- Document 01, "Refusal numbers": what a call of `write` leaves: its numbers, and the text buffer afterwards. Assumes nothing.
use Rattle.std.specs.Prelude.{ℕ, ◌/◌, ◌%◌, List, Bool, cond, not, ◌&&◌, length, leb, eqb}
use Rattle.std.proofs.lemmas.List.Edits.{sets}
use Rattle.relations.specs.Limits.{question_node_limit, question_node_words, byte_limit}
use Rattle.catalogue.specs.Judging.{tables_ok}
use Rattle.bundles.specs.Writing.{bundle_text}

-- "Results after status and place: write bytes"
pub record WriteNumbers : Type 0 where
  pub status : ℕ
  pub place : ℕ
  pub bytes : ℕ

-- "A refusal's other result numbers are 0"; 7, 1 and 13 have place 0
abbrev pub write_refusal : (status : ℕ) → WriteNumbers
write_refusal status = record { status = status; place = 0; bytes = 0 }

pub record WriteOutcome : Type 0 where
  pub numbers : WriteNumbers
  pub text : List ℕ

-- "node words not a multiple of 6, or 0 or over 64 nodes"
abbrev pub nodes_ok : List ℕ → Bool
nodes_ok nodes = eqb (length nodes % question_node_words) 0 && leb 1 (length nodes / question_node_words) && leb (length nodes / question_node_words) question_node_limit

-- "text over its buffer or over 65,536 bytes"
abbrev pub text_fits : (bytes text : List ℕ) → Bool
text_fits bytes text = leb (length bytes) byte_limit && leb (length bytes) (length text)

-- "Write: 7, 1, 13"
unfoldable pub write_outcome : (mode : ℕ) (catalogue tables nodes text : List ℕ) → WriteOutcome
write_outcome mode catalogue tables nodes text =
    cond (not (tables_ok catalogue tables)) (record { numbers = write_refusal 7; text = text })
    (cond (not (nodes_ok nodes)) (record { numbers = write_refusal 1; text = text })
    (cond (not (text_fits (bundle_text mode catalogue tables nodes) text)) (record { numbers = write_refusal 13; text = text })
    (record {
      numbers = record { status = 0; place = 0; bytes = length (bundle_text mode catalogue tables nodes) };
      text = sets text 0 (bundle_text mode catalogue tables nodes);
    })))
