use Rattle.lines.proofs.Answered.{passed_on}
use Rattle.bundle_reading.proofs.CarriesTables.{last_table, next-table, wrong-table}
use Rattle.bundle_reading.specs.Answers.{TablesCounted, TablesFound}
use Rattle.bundle_reading.specs.declared.TablesRead.{TablesRead}
use Rattle.bundles.proofs.ReadingLaws.{TableAsText, table_of-text}
use Rattle.bundle_reading.proofs.ReadingSteps.{tables_step, tables-done}
use Rattle.lines.specs.declared.reader.Reader.{Reader}
use Rattle.lines.specs.declared.reader.WrongLine.{WrongLine}
use Rattle.std.specs.Prelude.{Result, Ok}
use Rattle.lines.specs.Answers.{standing}
use Rattle.lines.specs.Marks.{relation_key}
use Rattle.lines.specs.Reading.{begins}
use Rattle.bundles.specs.Reading.{table_of, tables_of}
use Rattle.catalogue.specs.Judging.{catalogue_words}
use Rattle.relations.specs.Limits.{catalogue_pair_limit}
use lib.ListN.{length, drop}
use mathlib.Core.Path.{◌≡◌, sym, ap, ◌∙◌}
use mathlib.Core.List.{List}
use mathlib.Core.Bool.{true}
use Prim.Native.Nat.{ℕ, ◌-◌, ◌+◌}
use native.Mathlib.Omega.{arith}
use Rattle.bundle_reading.proofs.read_tables.Goals as goal

-- a table that was read is the text of one, and one pair more
table_read : (line : ℕ) (bytes : List ℕ) {here stop : Reader} {before read : TablesRead} {catalogue₀ catalogue₁ tables₀ tables₁ : List ℕ} {answer : Result TablesRead WrongLine}
    → TablesFound here (table_of before.words line bytes) before catalogue₀ catalogue₁ tables₀ tables₁ stop answer → begins relation_key bytes ≡ true → answer ≡ Ok read
    → TableAsText before.words bytes (table_of before.words line bytes) (drop stop.at stop.text.now) × (read.pairs ≡ before.pairs + 1) × TablesCounted before (table_of before.words line bytes) (Ok read)
table_read line bytes {stop = stop} {before} {read} found key e =
    let table : TableAsText before.words bytes (table_of before.words line bytes) (drop stop.at stop.text.now) = table_of-text before.words line bytes stop.line (drop stop.at stop.text.now) key (found.means ∙ ap (standing stop) e) in
    let counted : TablesCounted before (table_of before.words line bytes) (Ok read) = rw e at found.counted in
    (table, omega (arith, counted.0, ap length table.pair), counted)

pub returns-in_err-read : goal.returns-in_err-read
returns-in_err-read c = let l = c.loop-read in let r = l.ahead in let bytes = drop r.at r.text.now in
    rw (passed_on c.from_residual.result c.in_err-read.field-0.0 c.from_residual.ensures)
    (wrong-table l.invariant.3 (λ after rest. tables_of (catalogue_pair_limit - l.read.pairs - 1) (l.read.words + catalogue_words (table_of l.read.words r.line bytes).catalogue) after rest)
    (tables_step (catalogue_pair_limit - l.read.pairs) l.read.words r.line bytes (omega arith) ∙ rw (sym c.begins_with.ensures ∙ c.if-begins_with.true))
    c.read_table.ensures c.in_err-read.was)

pub loop-read-smaller : goal.loop-read-smaller
loop-read-smaller c = let l = c.loop-read in let r = l.ahead in
    omega (arith, (table_read r.line (drop r.at r.text.now) c.read_table.ensures (sym c.begins_with.ensures ∙ c.if-begins_with.true) c.in_ok-read.was).1)

pub loop-read-preserved : goal.loop-read-preserved
loop-read-preserved c = let l = c.loop-read in let r = l.ahead in let bytes = drop r.at r.text.now in
    let t = table_read r.line bytes c.read_table.ensures (sym c.begins_with.ensures ∙ c.if-begins_with.true) c.in_ok-read.was in
    let left : catalogue_pair_limit - l.read.pairs - 1 ≡ catalogue_pair_limit - c.in_ok-read.read.pairs = omega (arith, t.1) in
    let carried = next-table l.invariant.3 (λ after rest. tables_of (catalogue_pair_limit - l.read.pairs - 1) (l.read.words + catalogue_words (table_of l.read.words r.line bytes).catalogue) after rest)
    (tables_step (catalogue_pair_limit - l.read.pairs) l.read.words r.line bytes (omega arith) ∙ rw (sym c.begins_with.ensures ∙ c.if-begins_with.true)) c.read_table.ensures c.in_ok-read.was t.0 in
    (omega (arith, t.1), t.2.2, c.read_table.ensures.text ∙ l.invariant.2, rw (left, ← t.2.1) at carried)

pub returns-else-begins_with : goal.returns-else-begins_with
returns-else-begins_with c = let l = c.loop-read in let r = l.ahead in
    last_table l.invariant.3 r (tables_step (catalogue_pair_limit - l.read.pairs) l.read.words r.line (drop r.at r.text.now) (omega arith) ∙ rw (sym c.begins_with.ensures ∙ c.if-begins_with.false)) l.invariant.2 l.invariant.1

pub returns-after-loop-read : goal.returns-after-loop-read
returns-after-loop-read c = let l = c.loop-read in let r = l.ahead in
    last_table l.invariant.3 r (tables-done (catalogue_pair_limit - l.read.pairs) l.read.words r.line (drop r.at r.text.now) (omega arith)) l.invariant.2 l.invariant.1
