-- One step of the reading of tables and of nodes, at a position of the text: what the loops of the code follow. Assumes nothing.
use mathlib.Core.Path.{◌≡◌, refl}
use Prim.Native.Nat.{ℕ, suc, zero, ◌+◌, ◌-◌, ◌<◌, ◌≤◌}
use mathlib.Core.List.{List}
use mathlib.Core.Bool.{cond}
use native.Mathlib.Omega.{arith}
use lib.ListN.{length, drop, drop_of_length-le}
use Rattle.relations.specs.Limits.{question_node_words}
use Rattle.catalogue.specs.Judging.{catalogue_words}
use Rattle.lines.specs.Marks.{relation_key, node_key}
use Rattle.lines.specs.Reading.{begins, nothing, goes_on, wrong_at, and_then, keyed_line, Read}
use Rattle.bundles.specs.Reading.{table_of, and_tables, no_tables, tables_of, unless_ended, nodes_of}
use Rattle.lines.proofs.ReadingSteps.{at_byte}

pub tables_step : (left total line : ℕ) (bytes : List ℕ) → 0 < left
    → tables_of left total line bytes ≡ cond (begins relation_key bytes)
    (and_tables (table_of total line bytes) (λ after rest. tables_of (left - 1) (total + catalogue_words (table_of total line bytes).catalogue) after rest))
    (no_tables (goes_on line bytes))
unfolding tables_of
tables_step zero total line bytes h = absurd (omega arith)
tables_step (suc more) total line bytes h = let e : suc more - 1 ≡ more = omega arith in rw e

pub tables-done : (left total line : ℕ) (bytes : List ℕ) → left ≤ 0 → tables_of left total line bytes ≡ no_tables (goes_on line bytes)
unfolding tables_of
tables-done zero total line bytes h = refl
tables-done (suc more) total line bytes h = absurd (omega arith)

pub nodes_step : (left line : ℕ) (bytes : List ℕ) → 0 < left
    → nodes_of left line bytes ≡ and_then (keyed_line node_key question_node_words line bytes) (λ after rest. unless_ended after rest (nodes_of (left - 1) after rest))
unfolding nodes_of
nodes_step zero line bytes h = absurd (omega arith)
nodes_step (suc more) line bytes h = let e : suc more - 1 ≡ more = omega arith in rw e

pub nodes-done : (left line : ℕ) (bytes : List ℕ) → left ≤ 0 → nodes_of left line bytes ≡ nothing (wrong_at line)
unfolding nodes_of
nodes-done zero line bytes h = refl
nodes-done (suc more) line bytes h = absurd (omega arith)

pub text-ended : (text : List ℕ) (line at : ℕ) (more : Read) → length text ≤ at → unless_ended line (drop at text) more ≡ nothing (goes_on line (drop at text))
text-ended text line at more h = rw (drop_of_length-le text h)

pub text_goes_on : (text : List ℕ) (line at : ℕ) (more : Read) → at < length text → unless_ended line (drop at text) more ≡ more
text_goes_on text line at more h = rw (at_byte text at h)
