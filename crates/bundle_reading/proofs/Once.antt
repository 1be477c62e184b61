-- Each relation that serves as a contract leaves one outcome: one answer, one later list in each buffer, and one place at which a
-- reader stands. Assumes nothing.
use mathlib.Core.Path.{◌≡◌, sym, ◌∙◌}
use Prim.Native.Nat.{ℕ}
use mathlib.Core.List.{List}
use native.Mathlib.Omega.{arith}
use Rattle.lines.specs.Reading.{Read}
use Rattle.bundles.specs.Reading.{ReadTables}
use Rattle.bundle_reading.specs.Answers.{TablesCounted, TablesFound, NodesCounted, NodesFound, BundleFound}
use Rattle.lines.specs.declared.reader.Reader.{Reader}
use Rattle.lines.specs.declared.reader.WrongLine.{WrongLine}
use Rattle.bundle_reading.specs.declared.TablesRead.{TablesRead}
use Rattle.bundle_reading.specs.declared.Bundle.{Bundle}
use Rattle.std.specs.Prelude.{Result, Ok}
use Rattle.lines.proofs.Once.{SameStop, one_answer, stops-once}
use Rattle.bundles.specs.Reading as reads

tables_same : (before : TablesRead) (found : ReadTables) {one other : TablesRead} → TablesCounted before found (Ok one) → TablesCounted before found (Ok other) → one ≡ other
tables_same before found {one} {other} p q = same (omega (arith, p.0, q.0)) (p.1 ∙ sym q.1)
  where
    same : {p q w v : ℕ} → p ≡ q → w ≡ v → ◌≡◌ {A = TablesRead} (record { pairs = p; words = w }) (record { pairs = q; words = v })
    same e f = rw (e, f)

pub tables-once : {start stop₁ stop₂ : Reader} {catalogue₀ catalogue₁ catalogue₂ tables₀ tables₁ tables₂ : List ℕ} {found : ReadTables} {read : TablesRead} {one other : Result TablesRead WrongLine}
    → TablesFound start found read catalogue₀ catalogue₁ tables₀ tables₁ stop₁ one → TablesFound start found read catalogue₀ catalogue₂ tables₀ tables₂ stop₂ other
    → (one ≡ other) × (catalogue₁ ≡ catalogue₂) × (tables₁ ≡ tables₂) × SameStop stop₁ stop₂
tables-once {start} {stop₁} {stop₂} {found = found} {read = read} {one = one} {other = other} a b =
    let same : one ≡ other = one_answer stop₁ stop₂ one other (λ value alike e f. tables_same read found (rw e at a.counted) (rw f at b.counted)) (sym a.means ∙ b.means) in
    (same, a.catalogue ∙ sym b.catalogue, a.tables ∙ sym b.tables, stops-once start stop₁ stop₂ a.means b.means same (a.text ∙ sym b.text) a.stays b.stays)

pub nodes-once : {start stop₁ stop₂ : Reader} {before after₁ after₂ : List ℕ} {found : Read} {one other : Result ℕ WrongLine}
    → NodesFound start found before after₁ stop₁ one → NodesFound start found before after₂ stop₂ other
    → (one ≡ other) × (after₁ ≡ after₂) × SameStop stop₁ stop₂
nodes-once {start} {stop₁} {stop₂} {found = found} {one = one} {other = other} a b =
    let same : one ≡ other = one_answer stop₁ stop₂ one other
    (λ value alike e f. let p : NodesCounted found (Ok value) = rw e at a.counted in let q : NodesCounted found (Ok alike) = rw f at b.counted in p ∙ sym q) (sym a.lines.means ∙ b.lines.means) in
    (same, a.lines.words ∙ sym b.lines.words, stops-once start stop₁ stop₂ a.lines.means b.lines.means same (a.lines.text ∙ sym b.lines.text) a.lines.stays b.lines.stays)

pub bundle_once : {catalogue₀ catalogue₁ catalogue₂ tables₀ tables₁ tables₂ question₀ question₁ question₂ : List ℕ} {found : reads.Bundle} {one other : Result Bundle WrongLine}
    → BundleFound found catalogue₀ catalogue₁ tables₀ tables₁ question₀ question₁ one → BundleFound found catalogue₀ catalogue₂ tables₀ tables₂ question₀ question₂ other
    → (one ≡ other) × (catalogue₁ ≡ catalogue₂) × (tables₁ ≡ tables₂) × (question₁ ≡ question₂)
bundle_once a b = (a.means ∙ sym b.means, a.catalogue ∙ sym b.catalogue, a.tables ∙ sym b.tables, a.question ∙ sym b.question)
