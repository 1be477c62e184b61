-- What a call of `write` leaves, by the test that decides it. Assumes nothing.
use mathlib.Core.Path.{◌≡◌}
use Prim.Native.Nat.{ℕ, ◌/◌, ◌%◌, ◌≤◌, ◌<◌}
use mathlib.Core.List.{List}
use mathlib.Core.Bool.{true, false}
use mathlib.Core.Logic.{◌⊎◌, inl, inr}
use native.Mathlib.Omega.{arith}
use borrow.Author.Tests.{eq-eqb, ne_eqb, le-leb, lt-leb}
use lib.ListN.{length}
use lib.Seq.{sets}
use Rattle.relations.specs.Limits.{question_node_words, question_node_limit, byte_limit}
use Rattle.catalogue.specs.Judging.{tables_ok}
use Rattle.bundles.specs.Writing.{bundle_text}
use Rattle.bundles.specs.WriteCall.{nodes_ok, write_refusal, write_outcome}

-- nodes that are not whole, none, or too many
pub some_wrong : (nodes : List ℕ) → (length nodes % question_node_words ≡ 0 → ⊥) ⊎ ((length nodes % question_node_words ≡ 0) × (length nodes / question_node_words ≡ 0)) ⊎ ((length nodes % question_node_words ≡ 0) × (length nodes / question_node_words ≡ 0 → ⊥) × (question_node_limit < length nodes / question_node_words)) → nodes_ok nodes ≡ false
some_wrong nodes (inl part) = rw (ne_eqb _ _ part)
some_wrong nodes (inr (inl (whole, none))) = rw (eq-eqb _ _ whole, lt-leb 1 (length nodes / question_node_words) (omega arith))
some_wrong nodes (inr (inr (whole, some, many))) = rw (eq-eqb _ _ whole, le-leb 1 (length nodes / question_node_words) (omega arith), lt-leb (length nodes / question_node_words) question_node_limit many)

pub none_wrong : (nodes : List ℕ) → length nodes % question_node_words ≡ 0 → (length nodes / question_node_words ≡ 0 → ⊥) → length nodes / question_node_words ≤ question_node_limit → nodes_ok nodes ≡ true
none_wrong nodes whole some few = rw (eq-eqb _ _ whole, le-leb 1 (length nodes / question_node_words) (omega arith), le-leb (length nodes / question_node_words) question_node_limit few)

module _ (mode : ℕ) (catalogue tables nodes text : List ℕ) where
  pub wrong-tables : tables_ok catalogue tables ≡ false → write_outcome mode catalogue tables nodes text ≡ record { numbers = write_refusal 7; text = text }
  unfolding write_outcome
  wrong-tables e = rw e

  module _ (right : tables_ok catalogue tables ≡ true) where
    pub wrong-nodes : nodes_ok nodes ≡ false → write_outcome mode catalogue tables nodes text ≡ record { numbers = write_refusal 1; text = text }
    unfolding write_outcome
    wrong-nodes e = rw (right, e)

    pub small-buffer : nodes_ok nodes ≡ true → {bytes : ℕ} → bytes ≡ length (bundle_text mode catalogue tables nodes) → (byte_limit < bytes) ⊎ ((bytes ≤ byte_limit) × (length text < bytes))
        → write_outcome mode catalogue tables nodes text ≡ record { numbers = write_refusal 13; text = text }
    unfolding write_outcome
    small-buffer e {bytes} b (inl long) = rw (right, e, ← b, lt-leb bytes byte_limit long)
    small-buffer e {bytes} b (inr (short, less)) = rw (right, e, ← b, le-leb bytes byte_limit short, lt-leb bytes (length text) less)

    pub written : nodes_ok nodes ≡ true → {bytes : ℕ} → bytes ≡ length (bundle_text mode catalogue tables nodes) → bytes ≤ byte_limit → bytes ≤ length text
        → write_outcome mode catalogue tables nodes text ≡ record { numbers = record { status = 0; place = 0; bytes = bytes }; text = sets text 0 (bundle_text mode catalogue tables nodes) }
    unfolding write_outcome
    written e {bytes} b short room = rw (right, e, ← b, le-leb bytes byte_limit short, le-leb bytes (length text) room)
