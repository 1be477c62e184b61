-- A bundle found, from its tables and its nodes; and what a call of `read` leaves, from the lines found. Assumes nothing.
use mathlib.Core.Path.{◌≡◌, sym, ap, ◌∙◌}
use Prim.Native.Nat.{ℕ, ◌*◌, ◌/◌, ◌≤◌, ◌<◌}
use mathlib.Core.List.{List}
use mathlib.Core.Bool.{true, false}
use mathlib.Core.Logic.{◌⊎◌, inl, inr}
use native.Mathlib.Omega.{arith}
use lib.ListN.{length, drop}
use lib.Seq.{sets}
use borrow.Author.Tests.{lt-ltb, le-ltb}
use Rattle.relations.specs.Limits.{catalogue_pair_limit, word_limit, question_node_limit, question_node_words, byte_limit}
use Rattle.catalogue.specs.Judging.{catalogue_words}
use Rattle.lines.specs.Reading.{Next, goes_on, wrong_at}
use Rattle.bundles.specs.Reading.{ReadTables, nodes_of, with_tables, lines_of, bundle_in}
use Rattle.bundles.specs.ReadCall.{read_refused, bundle_outcome, small_buffers, read_outcome}
use Rattle.lines.specs.Answers.{standing}
use Rattle.bundle_reading.specs.Answers.{TablesCounted, TablesFound, NodesCounted, NodesFound, lines_answer, BundleFound}
use Rattle.lines.specs.declared.reader.Reader.{Reader}
use Rattle.lines.specs.declared.reader.WrongLine.{WrongLine}
use Rattle.bundle_reading.specs.declared.TablesRead.{TablesRead}
use Rattle.bundle_reading.specs.declared.Bundle.{Bundle}
use Rattle.bundle_reading.proofs.CarriesTables.{none_read}
use Rattle.std.specs.Prelude.{Result, Ok, Err}
use Rattle.bundles.specs.Reading as reads

module _ {start here : Reader} {found : ReadTables} {catalogue₀ catalogue₁ tables₀ tables₁ question₀ : List ℕ} {answer : Result TablesRead WrongLine} (mode : ℕ)
    (tables : TablesFound start found none_read catalogue₀ catalogue₁ tables₀ tables₁ here answer) where
  pub wrong-tables : {line : WrongLine} → answer ≡ Err line → BundleFound (with_tables mode found) catalogue₀ catalogue₁ tables₀ tables₁ question₀ question₀ (Err line)
  wrong-tables {line} e =
      let stands : found.next ≡ wrong_at line.0 = tables.means ∙ ap (standing here) e in
      record { means = rw stands; catalogue = tables.catalogue; tables = tables.tables; question = rw stands }

  module _ {question₁ : List ℕ} {stop : Reader} {last : Result ℕ WrongLine} {read : TablesRead} (e : answer ≡ Ok read)
      (nodes : NodesFound here (nodes_of question_node_limit here.line (drop here.at here.text.now)) question₀ question₁ stop last) where
    stands : found.next ≡ goes_on here.line (drop here.at here.text.now)
    stands = tables.means ∙ ap (standing here) e

    pub wrong-nodes : {line : WrongLine} → last ≡ Err line → BundleFound (with_tables mode found) catalogue₀ catalogue₁ tables₀ tables₁ question₀ question₁ (Err line)
    wrong-nodes {line} f =
        let ends : (nodes_of question_node_limit here.line (drop here.at here.text.now)).next ≡ wrong_at line.0 = nodes.lines.means ∙ ap (standing stop) f in
        record { means = rw (stands, ends); catalogue = tables.catalogue; tables = tables.tables; question = rw stands nodes.lines.words }

    pub bundle_found : {many : ℕ} → last ≡ Ok many → length found.tables ≡ catalogue_words found.catalogue
        → BundleFound (with_tables mode found) catalogue₀ catalogue₁ tables₀ tables₁ question₀ question₁ (Ok (record { mode = mode; pairs = read.pairs; words = read.words; nodes = many }))
    bundle_found {many} f full =
        let counted : TablesCounted none_read found (Ok read) = rw e at tables.counted in
        let met : NodesCounted (nodes_of question_node_limit here.line (drop here.at here.text.now)) (Ok many) = rw f at nodes.counted in
        let ends : (nodes_of question_node_limit here.line (drop here.at here.text.now)).next ≡ goes_on stop.line (drop stop.at stop.text.now) = nodes.lines.means ∙ ap (standing stop) f in
        let pairs : length found.catalogue / 2 ≡ read.pairs = omega (arith, counted.0) in
        let words : length found.tables ≡ read.words = omega (arith, counted.1, full) in
        let count : length (nodes_of question_node_limit here.line (drop here.at here.text.now)).words / question_node_words ≡ many = sym met in
        record { means = rw (stands, ends, pairs, words, count); catalogue = tables.catalogue; tables = tables.tables; question = rw stands nodes.lines.words }

module _ (text catalogue tables question : List ℕ) where
  -- the first buffer that is too small, or none
  pub some_small : (length catalogue < 2 * catalogue_pair_limit) ⊎ ((2 * catalogue_pair_limit ≤ length catalogue) × (length tables < word_limit)) ⊎ ((2 * catalogue_pair_limit ≤ length catalogue) × (word_limit ≤ length tables) × (length question < question_node_words * question_node_limit)) → small_buffers catalogue tables question ≡ true
  some_small (inl c) = rw (lt-ltb _ _ c)
  some_small (inr (inl (c, t))) = rw (le-ltb _ _ c, lt-ltb _ _ t)
  some_small (inr (inr (c, t, q))) = rw (le-ltb _ _ c, le-ltb _ _ t, lt-ltb _ _ q)

  pub none_small : 2 * catalogue_pair_limit ≤ length catalogue → word_limit ≤ length tables → question_node_words * question_node_limit ≤ length question → small_buffers catalogue tables question ≡ false
  none_small c t q = rw (le-ltb _ _ c, le-ltb _ _ t, le-ltb _ _ q)

  pub read_small : small_buffers catalogue tables question ≡ true → read_outcome text catalogue tables question ≡ read_refused catalogue tables question 14 0
  unfolding read_outcome
  read_small e = rw e

  pub read_long : small_buffers catalogue tables question ≡ false → byte_limit < length text → read_outcome text catalogue tables question ≡ read_refused catalogue tables question 12 0
  unfolding read_outcome bundle_in
  read_long e h = rw (e, lt-ltb byte_limit (length text) h)

  pub read_lines_lem : small_buffers catalogue tables question ≡ false → length text ≤ byte_limit
      → read_outcome text catalogue tables question ≡ bundle_outcome catalogue tables question (lines_of text) (lines_of text).next
  unfolding read_outcome bundle_in
  read_lines_lem e h = rw (e, le-ltb byte_limit (length text) h)

-- the answer of all lines, and the outcome that goes with it
module _ (catalogue tables question : List ℕ) (bundle : reads.Bundle) where
  pub wrong-outcome : (next : Next) {line : WrongLine} → Err line ≡ lines_answer bundle next → bundle_outcome catalogue tables question bundle next ≡ read_refused catalogue tables question 12 line.0
  wrong-outcome (goes_on after bytes) e = let z : ◌≡◌ {A = ℕ} 0 1 = cc in absurd (omega arith)
  wrong-outcome (wrong_at after) {line} e = let same : after ≡ line.0 = cc in ap (λ (l : ℕ). read_refused catalogue tables question 12 l) same

  pub bundle_outcome_lem : (next : Next) {read : Bundle} → Ok read ≡ lines_answer bundle next
      → bundle_outcome catalogue tables question bundle next ≡ record {
        numbers = record { status = 0; place = 0; mode = read.mode; pairs = read.pairs; words = read.words; nodes = read.nodes };
        catalogue = sets catalogue 0 bundle.catalogue;
        tables = sets tables 0 bundle.tables;
        question = sets question 0 bundle.nodes;
      }
  bundle_outcome_lem (goes_on after bytes) {read} e =
      let m : bundle.mode ≡ read.mode = cc in
      let p : length bundle.catalogue / 2 ≡ read.pairs = cc in
      let w : length bundle.tables ≡ read.words = cc in
      let n : length bundle.nodes / question_node_words ≡ read.nodes = cc in
      rw (m, p, w, n)
  bundle_outcome_lem (wrong_at after) e = let z : ◌≡◌ {A = ℕ} 0 1 = cc in absurd (omega arith)
