-- What the tests of refusals 1 and 14 say when they pass, as facts about numbers; and that these facts make 1's pass. Assumes nothing.
use Prim.Native.Nat.{ℕ, ◌*◌, ◌/◌, ◌%◌, ◌≤◌}
use mathlib.Core.Path.{◌≡◌}
use mathlib.Core.List.{List}
use mathlib.Core.Bool.{Bool, true, false, ◌&&◌, ◌||◌}
use lib.Dec.{leb, ltb, eqb}
use lib.ListN.{length}
use borrow.Author.Tests.{ltb-false, leb-true, eqb-true, le-leb, eq-eqb}
use Rattle.relations.specs.Limits.{catalogue_pair_limit, word_limit, question_node_limit, question_node_words}
use Rattle.bundles.specs.ReadCall.{small_buffers}
use Rattle.bundles.specs.WriteCall.{nodes_ok}
use Rattle.relations.proofs.BoolLaws.{and_both, and_left, and_right, or_left_false, or_right_false}

pub record GoodNodes (nodes : List ℕ) : Type 0 where
  pub whole : length nodes % question_node_words ≡ 0
  pub some : 1 ≤ length nodes / question_node_words
  pub few : length nodes / question_node_words ≤ question_node_limit

pub good-nodes : (nodes : List ℕ) → nodes_ok nodes ≡ true → GoodNodes nodes
good-nodes nodes ok =
    let multiple : Bool = eqb (length nodes % question_node_words) 0 in
    let one : Bool = leb 1 (length nodes / question_node_words) in
    let most : Bool = leb (length nodes / question_node_words) question_node_limit in
    let first : (multiple && one) ≡ true = and_left (multiple && one) most ok in
    record {
      whole = eqb-true (length nodes % question_node_words) 0 (and_left multiple one first);
      some = leb-true 1 (length nodes / question_node_words) (and_right multiple one first);
      few = leb-true (length nodes / question_node_words) question_node_limit (and_right (multiple && one) most ok);
    }

pub nodes-good : (nodes : List ℕ) → GoodNodes nodes → nodes_ok nodes ≡ true
nodes-good nodes good =
    let multiple : Bool = eqb (length nodes % question_node_words) 0 in
    let one : Bool = leb 1 (length nodes / question_node_words) in
    and_both (multiple && one) (leb (length nodes / question_node_words) question_node_limit)
    (and_both multiple one (eq-eqb (length nodes % question_node_words) 0 good.whole) (le-leb 1 (length nodes / question_node_words) good.some))
    (le-leb (length nodes / question_node_words) question_node_limit good.few)

pub record LargeBuffers (catalogue tables question : List ℕ) : Type 0 where
  pub pairs-room : 2 * catalogue_pair_limit ≤ length catalogue
  pub words-room : word_limit ≤ length tables
  pub nodes-room : question_node_words * question_node_limit ≤ length question

pub large_buffers : (catalogue tables question : List ℕ) → small_buffers catalogue tables question ≡ false → LargeBuffers catalogue tables question
large_buffers catalogue tables question large =
    let no_pairs : Bool = ltb (length catalogue) (2 * catalogue_pair_limit) in
    let no_words : Bool = ltb (length tables) word_limit in
    let no_nodes : Bool = ltb (length question) (question_node_words * question_node_limit) in
    let first : (no_pairs || no_words) ≡ false = or_left_false (no_pairs || no_words) no_nodes large in
    record {
      pairs-room = ltb-false (length catalogue) (2 * catalogue_pair_limit) (or_left_false no_pairs no_words first);
      words-room = ltb-false (length tables) word_limit (or_right_false no_pairs no_words first);
      nodes-room = ltb-false (length question) (question_node_words * question_node_limit) (or_right_false (no_pairs || no_words) no_nodes large);
    }
