-- What an accepted call of `read` left is there: the parts of its buffers that its numbers name can be lent. Assumes nothing.
use Prim.Native.Nat.{ℕ, ◌*◌, ◌≤◌}
use mathlib.Core.Path.{◌≡◌, refl, sym}
use mathlib.Core.List.{List}
use mathlib.Core.Bool.{Bool, true, false, cond}
use native.Mathlib.Omega.{arith}
use lib.ListN.{length, take}
use lib.Seq.{length-take-le, length-sets}
use Rattle.relations.specs.Limits.{question_node_words}
use Rattle.catalogue.proofs.Judgements.{GoodTables, good-tables}
use Rattle.lines.specs.Reading.{Next, goes_on, wrong_at}
use Rattle.bundles.specs.Reading.{bundle_in}
use Rattle.bundles.specs.ReadCall.{ReadOutcome, read_refused, bundle_outcome, small_buffers, read_outcome}
use Rattle.bundles.proofs.Judgements.{GoodNodes, good-nodes, LargeBuffers, large_buffers}
use Rattle.bundles.proofs.ReadingLaws.{reading-text}

pub record PartsThere (pairs words nodes : ℕ) (catalogue tables question : List ℕ) : Type 0 where
  pub pairs-there : 2 * pairs ≤ length catalogue
  pub words-there : words ≤ length tables
  pub nodes-there : question_node_words * nodes ≤ length question

-- and as long as the numbers say
module _ {pairs words nodes : ℕ} {catalogue tables question : List ℕ} (parts : PartsThere pairs words nodes catalogue tables question) where
  pub pairs_long : 2 * pairs ≡ length (take (2 * pairs) catalogue)
  pairs_long = sym (length-take-le (2 * pairs) catalogue parts.pairs-there)

  pub words_long : words ≡ length (take words tables)
  words_long = sym (length-take-le words tables parts.words-there)

  pub nodes_long : question_node_words * nodes ≡ length (take (question_node_words * nodes) question)
  nodes_long = sym (length-take-le (question_node_words * nodes) question parts.nodes-there)

abbrev pub PartsOf : ReadOutcome → Type 0
PartsOf outcome = PartsThere outcome.numbers.pairs outcome.numbers.words outcome.numbers.nodes outcome.catalogue outcome.tables outcome.question

pub accepted_parts : (text catalogue tables question : List ℕ) → (read_outcome text catalogue tables question).numbers.status ≡ 0
    → PartsOf (read_outcome text catalogue tables question)
unfolding read_outcome
accepted_parts text catalogue tables question e = go (small_buffers catalogue tables question) (bundle_in text).next refl refl e
  where
    outcome : Bool → Next → ReadOutcome
    outcome small next = cond small (read_refused catalogue tables question 14 0) (bundle_outcome catalogue tables question (bundle_in text) next)

    cs : List ℕ
    cs = (bundle_in text).catalogue

    ts : List ℕ
    ts = (bundle_in text).tables

    ns : List ℕ
    ns = (bundle_in text).nodes

    go : (small : Bool) (next : Next) → small_buffers catalogue tables question ≡ small → (bundle_in text).next ≡ next → (outcome small next).numbers.status ≡ 0
        → PartsOf (outcome small next)
    go true next s n e = absurd (omega arith)
    go false (goes_on line rest) s n e =
        let is = reading-text text line rest n in
        let rooms : LargeBuffers catalogue tables question = large_buffers catalogue tables question s in
        let good : GoodTables cs ts = good-tables cs ts is.tables_ok_lem in
        let nodes : GoodNodes ns = good-nodes ns is.nodes_ok_lem in
        record {
          pairs-there = omega (arith, good.few, rooms.pairs-room, length-sets catalogue 0 cs);
          words-there = omega (arith, good.fits, good.sum, rooms.words-room, length-sets tables 0 ts);
          nodes-there = omega (arith, nodes.few, rooms.nodes-room, length-sets question 0 ns);
        }
    go false (wrong_at line) s n e = absurd (omega arith)
