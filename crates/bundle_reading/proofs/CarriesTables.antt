-- The invariant of the loop that reads tables: as `Carries`, for two buffers and with their counts. Assumes nothing.
use mathlib.Core.Path.{◌≡◌, refl, sym, ap, ◌∙◌}
use Prim.Native.Nat.{ℕ, ◌+◌, ◌*◌, ◌≤◌}
use mathlib.Core.List.{List, ◌++◌}
use native.Mathlib.Omega.{arith}
use lib.ListN.{length, drop, length-append}
use lib.Seq.{sets}
use Rattle.relations.specs.Limits.{word_limit}
use Rattle.catalogue.specs.Judging.{catalogue_words}
use Rattle.lines.specs.Reading.{Next, goes_on, wrong_at}
use Rattle.bundles.specs.Reading.{ReadTables, no_tables, tables_then, and_tables}
use Rattle.lines.specs.Answers.{standing}
use Rattle.bundle_reading.specs.Answers.{TablesCounted, TablesFound}
use Rattle.lines.specs.declared.reader.Reader.{Reader}
use Rattle.lines.specs.declared.reader.WrongLine.{WrongLine}
use Rattle.std.specs.Prelude.{Result, Ok, Err}
use Rattle.bundle_reading.specs.declared.TablesRead.{TablesRead}
use Rattle.relations.proofs.StoreLaws.{sets-append}
use Rattle.bundles.proofs.ReadingLaws.{TableAsText}

-- nothing was read
abbrev pub none_read : TablesRead
none_read = record { pairs = 0; words = 0 }

pub record CarriesTables (whole rest : ReadTables) (catalogue₀ catalogue tables₀ tables : List ℕ) (read : TablesRead) : Type 0 where
  pub ends : whole.next ≡ rest.next
  pub catalogue-left : sets catalogue₀ 0 whole.catalogue ≡ sets catalogue (2 * read.pairs) rest.catalogue
  pub tables-left : sets tables₀ 0 whole.tables ≡ sets tables read.words rest.tables
  pub pairs_met : 2 * read.pairs + length rest.catalogue ≡ length whole.catalogue
  pub words_met : read.words + catalogue_words rest.catalogue ≡ catalogue_words whole.catalogue

pub carries_tables : (whole : ReadTables) (catalogue tables : List ℕ) → CarriesTables whole whole catalogue catalogue tables tables none_read
carries_tables whole catalogue tables = record { ends = refl; catalogue-left = refl; tables-left = refl; pairs_met = omega arith; words_met = omega arith }

module _ {whole rest : ReadTables} {catalogue₀ catalogue tables₀ tables : List ℕ} {read : TablesRead} (carried : CarriesTables whole rest catalogue₀ catalogue tables₀ tables read) where
  -- no table is left
  pub last_table : {start : Reader} (stop : Reader) → rest ≡ no_tables (goes_on stop.line (drop stop.at stop.text.now)) → stop.text.now ≡ start.text.now → read.words ≤ word_limit
      → TablesFound start whole none_read catalogue₀ catalogue tables₀ tables stop (Ok read)
  unfolding catalogue_words
  last_table stop e t fits =
      record {
        means = carried.ends ∙ ap (λ (x : ReadTables). x.next) e;
        stays = tt;
        text = t;
        counted = (
          omega (arith, carried.pairs_met, ap (λ (x : ReadTables). length x.catalogue) e),
          omega (arith, carried.words_met, ap (λ (x : ReadTables). catalogue_words x.catalogue) e),
          fits,
        );
        catalogue = sym (carried.catalogue-left ∙ ap (λ (x : ReadTables). sets catalogue (2 * read.pairs) x.catalogue) e);
        tables = sym (carried.tables-left ∙ ap (λ (x : ReadTables). sets tables read.words x.tables) e);
      }

  -- a table was read, and others may follow it
  module _ {here stop : Reader} {catalogue' tables' : List ℕ} {first : ReadTables} {answer : Result TablesRead WrongLine} (more : ℕ → List ℕ → ReadTables)
      (is : rest ≡ and_tables first more) (found : TablesFound here first read catalogue catalogue' tables tables' stop answer) where
    pub next-table : {read' : TablesRead} {total : ℕ} {bytes behind : List ℕ} → answer ≡ Ok read' → TableAsText total bytes first behind
        → CarriesTables whole (more stop.line (drop stop.at stop.text.now)) catalogue₀ catalogue' tables₀ tables' read'
    unfolding catalogue_words
    next-table {read'} e table =
        let next : ReadTables = more stop.line (drop stop.at stop.text.now) in
        let counted : TablesCounted read first (Ok read') = rw e at found.counted in
        let stands : first.next ≡ goes_on stop.line (drop stop.at stop.text.now) = found.means ∙ ap (standing stop) e in
        let r : rest ≡ tables_then first.catalogue first.tables (goes_on stop.line (drop stop.at stop.text.now)) more =
        is ∙ ap (λ (x : Next). tables_then first.catalogue first.tables x more) stands in
        let pair_words_lem : catalogue_words first.catalogue ≡ table.columns * table.rows + 0 = ap catalogue_words table.pair in
        let all_words : catalogue_words (first.catalogue ++ next.catalogue) ≡ table.columns * table.rows + catalogue_words next.catalogue =
        ap (λ (front : List ℕ). catalogue_words (front ++ next.catalogue)) table.pair in
        let words_at : read.words + length first.tables ≡ read'.words = omega (arith, counted.1, table.many) in
        record {
          ends = carried.ends ∙ ap (λ (x : ReadTables). x.next) r;
          catalogue-left = carried.catalogue-left ∙ ap (λ (x : ReadTables). sets catalogue (2 * read.pairs) x.catalogue) r
              ∙ sets-append catalogue (2 * read.pairs) first.catalogue next.catalogue ∙ rw (← counted.0, ← found.catalogue);
          tables-left = carried.tables-left ∙ ap (λ (x : ReadTables). sets tables read.words x.tables) r
              ∙ sets-append tables read.words first.tables next.tables ∙ rw (words_at, ← found.tables);
          pairs_met = omega (arith, carried.pairs_met, counted.0, ap (λ (x : ReadTables). length x.catalogue) r, length-append first.catalogue next.catalogue);
          words_met = omega (arith, carried.words_met, counted.1, ap (λ (x : ReadTables). catalogue_words x.catalogue) r);
        }

    -- or a line of it is wrong, and the reader that began stays
    pub wrong-table : {start : Reader} {line : WrongLine} → answer ≡ Err line → TablesFound start whole none_read catalogue₀ catalogue' tables₀ tables' start (Err line)
    wrong-table {line = line} e =
        let r : rest ≡ tables_then first.catalogue first.tables (wrong_at line.0) more =
        is ∙ ap (λ (x : Next). tables_then first.catalogue first.tables x more) (found.means ∙ ap (standing stop) e) in
        record {
          means = carried.ends ∙ ap (λ (x : ReadTables). x.next) r;
          stays = (refl, refl);
          text = refl;
          counted = tt;
          catalogue = sym (carried.catalogue-left ∙ ap (λ (x : ReadTables). sets catalogue (2 * read.pairs) x.catalogue) r ∙ sym found.catalogue);
          tables = sym (carried.tables-left ∙ ap (λ (x : ReadTables). sets tables read.words x.tables) r ∙ sym found.tables);
        }
