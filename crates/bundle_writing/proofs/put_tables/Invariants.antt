use Prim.Native.Nat.{◌≤◌, ◌+◌, ◌*◌}
use mathlib.Core.Path.{◌≡◌}
use mathlib.Core.Bool.{true}
use lib.ListN.{length, drop}
use Rattle.catalogue.specs.Judging.{pairs_ok, catalogue_words}
use Rattle.bundles.specs.Writing.{tables_text}
use Rattle.lines.proofs.Stores.{StillToPut}
use Rattle.bundle_writing.proofs.put_tables.Given as goal

-- The text of the pairs from the table's on, with the words from `place` on, is still to put; those pairs are ok, and their words are there. Assumes nothing.
abbrev pub invariant-loop-table : goal.invariant-loop-table
invariant-loop-table l = (pairs_ok (drop (2 * l.table) l.catalogue) ≡ true)
    × (l.place + catalogue_words (drop (2 * l.table) l.catalogue) ≤ length l.tables)
    × StillToPut l.at (tables_text l.catalogue l.tables) l.initial.text l.end (tables_text (drop (2 * l.table) l.catalogue) (drop l.place l.tables)) l.text
