-- Reading and writing undo one another: the theorems of specs/RoundTrip.antt, on texts and on calls. Assumes nothing.
use Prim.Native.Nat.{ℕ, ◌+◌, ◌*◌, ◌/◌, ◌≤◌}
use mathlib.Core.Path.{◌≡◌, refl, sym, ap, ◌∙◌}
use mathlib.Core.List.{List}
use mathlib.Core.Bool.{Bool, true, false, cond, not}
use native.Mathlib.Omega.{arith}
use lib.Dec.{leb}
use lib.ListN.{length, take, drop}
use lib.Seq.{sets, sets-eq, take_at}
use borrow.Author.Tests.{leb-true, le-leb}
use Rattle.relations.specs.Limits.{question_node_words, byte_limit}
use Rattle.catalogue.specs.Judging.{tables_ok}
use Rattle.bundles.specs.Writing.{bundle_text}
use Rattle.bundles.specs.Reading.{Bundle, bundle_in}
use Rattle.lines.specs.Reading.{Next, goes_on, wrong_at}
use Rattle.bundles.specs.ReadCall.{read_refused, bundle_outcome, small_buffers, read_outcome}
use Rattle.bundles.specs.WriteCall.{WriteOutcome, write_refusal, nodes_ok, text_fits, write_outcome}
use Rattle.lines.specs.Words32.{Words32}
use Rattle.bundles.specs.RoundTrip.{BundleAsText, bundle_of, wrote, found_bundle, write_back, read_back, RoundTrip, OneOutcome}
use Rattle.relations.proofs.BoolLaws.{and_both, and_left, and_right}
use Rattle.catalogue.proofs.Judgements.{pairs_even, GoodTables, good-tables}
use Rattle.bundles.proofs.Judgements.{GoodNodes, good-nodes, LargeBuffers, large_buffers}
use Rattle.bundles.proofs.ReadingLaws.{reading-text}
use Rattle.bundles.proofs.WritingLaws.{reading_of_text}

-- Buffers: what was written at the front is there.
pub take-sets : (buffer words : List ℕ) (count : ℕ) → length words ≡ count → length words ≤ length buffer → take count (sets buffer 0 words) ≡ words
take-sets buffer words count many room =
    ap (λ (after : List ℕ). take count after) (sets-eq words buffer 0 (omega arith)) ∙ take_at words (drop (0 + length words) buffer) count many

-- Write: which calls are accepted, and what they leave.

pub write_accepts : (mode : ℕ) (catalogue tables nodes buffer : List ℕ) → tables_ok catalogue tables ≡ true → nodes_ok nodes ≡ true
    → length (bundle_text mode catalogue tables nodes) ≤ byte_limit → length (bundle_text mode catalogue tables nodes) ≤ length buffer
    → write_outcome mode catalogue tables nodes buffer ≡ wrote (bundle_text mode catalogue tables nodes) buffer
unfolding write_outcome
write_accepts mode catalogue tables nodes buffer tables_ok_lem nodes_ok_lem short room =
    let bytes : List ℕ = bundle_text mode catalogue tables nodes in
    let fits : text_fits bytes buffer ≡ true =
    and_both (leb (length bytes) byte_limit) (leb (length bytes) (length buffer)) (le-leb (length bytes) byte_limit short)
    (le-leb (length bytes) (length buffer) room)
    in
    rw (tables_ok_lem, nodes_ok_lem, fits)

-- what a call of `write` with status 0 has passed
pub record WriteAccepted (mode : ℕ) (catalogue tables nodes buffer : List ℕ) : Type 0 where
  pub tables_ok_lem : tables_ok catalogue tables ≡ true
  pub nodes_ok_lem : nodes_ok nodes ≡ true
  pub short : length (bundle_text mode catalogue tables nodes) ≤ byte_limit
  pub room : length (bundle_text mode catalogue tables nodes) ≤ length buffer

pub write_accepted : (mode : ℕ) (catalogue tables nodes buffer : List ℕ) → (write_outcome mode catalogue tables nodes buffer).numbers.status ≡ 0
    → WriteAccepted mode catalogue tables nodes buffer
unfolding write_outcome
write_accepted mode catalogue tables nodes buffer e =
    go (tables_ok catalogue tables) (nodes_ok nodes) (text_fits bytes buffer) refl refl refl e
  where
    bytes : List ℕ
    bytes = bundle_text mode catalogue tables nodes

    go : (t n f : Bool) → tables_ok catalogue tables ≡ t → nodes_ok nodes ≡ n → text_fits bytes buffer ≡ f
        → (cond (not t) (record { numbers = write_refusal 7; text = buffer })
        (cond (not n) (record { numbers = write_refusal 1; text = buffer })
        (cond (not f) (record { numbers = write_refusal 13; text = buffer }) (wrote bytes buffer)))).numbers.status ≡ 0
        → WriteAccepted mode catalogue tables nodes buffer
    go true true true t n f e =
        let short : Bool = leb (length bytes) byte_limit in
        let room : Bool = leb (length bytes) (length buffer) in
        record {
          tables_ok_lem = t;
          nodes_ok_lem = n;
          short = leb-true (length bytes) byte_limit (and_left short room f);
          room = leb-true (length bytes) (length buffer) (and_right short room f);
        }
    go true true false t n f e = absurd (omega arith)
    go true false fits t n f e = absurd (omega arith)
    go false nodes_ok_lem fits t n f e = absurd (omega arith)

-- Read, then write.

written_back : (text : List ℕ) (bundle : Bundle) (rest catalogue tables question buffer : List ℕ) (line : ℕ) → BundleAsText text bundle rest
    → small_buffers catalogue tables question ≡ false → length text ≤ length buffer
    → write_back (bundle_outcome catalogue tables question bundle (goes_on line rest)) buffer ≡ wrote text buffer
written_back text bundle rest catalogue tables question buffer line is large room =
    let cs : List ℕ = bundle.catalogue in
    let ts : List ℕ = bundle.tables in
    let ns : List ℕ = bundle.nodes in
    let good : GoodTables cs ts = good-tables cs ts is.tables_ok_lem in
    let nodes : GoodNodes ns = good-nodes ns is.nodes_ok_lem in
    let rooms : LargeBuffers catalogue tables question = large_buffers catalogue tables question large in
    let same : bundle_text bundle.mode cs ts ns ≡ text = is.text_is in
    rw (
      take-sets catalogue cs (2 * (length cs / 2)) (sym (pairs_even cs good.pairs)) (omega (arith, rooms.pairs-room)),
      take-sets tables ts (length ts) refl (omega (arith, rooms.words-room)),
      take-sets question ns (question_node_words * (length ns / question_node_words)) (omega arith) (omega (arith, rooms.nodes-room)),
    )
    (write_accepts bundle.mode cs ts ns buffer is.tables_ok_lem is.nodes_ok_lem (rw same is.short-text) (rw same room)
    ∙ ap (λ (bytes : List ℕ). wrote bytes buffer) same)

write_after_read : (text catalogue tables question buffer : List ℕ) → (read_outcome text catalogue tables question).numbers.status ≡ 0
    → length text ≤ length buffer → write_back (read_outcome text catalogue tables question) buffer ≡ wrote text buffer
unfolding read_outcome
write_after_read text catalogue tables question buffer e room =
    go (small_buffers catalogue tables question) refl (bundle_in text).next refl e
  where
    go : (small : Bool) → small_buffers catalogue tables question ≡ small → (next : Next) → (bundle_in text).next ≡ next
        → (cond small (read_refused catalogue tables question 14 0) (bundle_outcome catalogue tables question (bundle_in text) next)).numbers.status ≡ 0
        → write_back (cond small (read_refused catalogue tables question 14 0) (bundle_outcome catalogue tables question (bundle_in text) next)) buffer
        ≡ wrote text buffer
    go true s next n e = absurd (omega arith)
    go false s (goes_on line rest) n e =
        written_back text (bundle_in text) rest catalogue tables question buffer line (reading-text text line rest n) s room
    go false s (wrong_at line) n e = absurd (omega arith)

-- Write, then read.

read_after_write : (mode : ℕ) (bundleCatalogue bundleTables bundleNodes text catalogue tables question : List ℕ)
    → (write_outcome mode bundleCatalogue bundleTables bundleNodes text).numbers.status ≡ 0 → Words32 bundleTables → Words32 bundleNodes
    → small_buffers catalogue tables question ≡ false
    → read_back (write_outcome mode bundleCatalogue bundleTables bundleNodes text) catalogue tables question
    ≡ found_bundle mode bundleCatalogue bundleTables bundleNodes catalogue tables question
unfolding read_outcome
read_after_write mode cs ts ns text catalogue tables question e h k large =
    let ok : WriteAccepted mode cs ts ns text = write_accepted mode cs ts ns text e in
    let bytes : List ℕ = bundle_text mode cs ts ns in
    let as_bundle : bundle_in bytes ≡ bundle_of mode cs ts ns = reading_of_text mode cs ts ns ok.tables_ok_lem ok.nodes_ok_lem h k ok.short in
    ap (λ (written : WriteOutcome). read_back written catalogue tables question)
    (write_accepts mode cs ts ns text ok.tables_ok_lem ok.nodes_ok_lem ok.short ok.room)
    ∙ ap (λ (front : List ℕ). read_outcome front catalogue tables question) (take-sets text bytes (length bytes) refl ok.room)
    ∙ ap (λ (small : Bool). cond small (read_refused catalogue tables question 14 0) (bundle_outcome catalogue tables question (bundle_in bytes) (bundle_in bytes).next))
    large
    ∙ ap (λ (bundle : Bundle). bundle_outcome catalogue tables question bundle bundle.next) as_bundle

pub round_trip : RoundTrip
round_trip =
    record {
      text_of_reading = reading-text;
      reading_of_text = reading_of_text;
      write_after_read = write_after_read;
      read_after_write = read_after_write;
    }

pub one_outcome : OneOutcome
one_outcome =
    record {
      of_read = λ text catalogue tables question one other p q. p ∙ sym q;
      of_write = λ mode catalogue tables nodes text one other p q. p ∙ sym q;
    }
