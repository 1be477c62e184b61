use Rattle.bundle_reading.proofs.CarriesTables.{CarriesTables}
use Rattle.bundles.specs.Reading.{tables_of}
use Rattle.relations.specs.Limits.{catalogue_pair_limit, word_limit}
use lib.ListN.{drop}
use mathlib.Core.Path.{◌≡◌}
use Prim.Native.Nat.{◌≤◌, ◌-◌}
use Rattle.bundle_reading.proofs.read_tables.Given as goal

-- The loop carries the reading of the tables that are left (`CarriesTables`): a table read is one pair and its words. Assumes nothing.
abbrev pub invariant-loop-read : goal.invariant-loop-read
invariant-loop-read l = (l.read.pairs ≤ catalogue_pair_limit) × (l.read.words ≤ word_limit) × (l.ahead.text.now ≡ l.reader.text.now)
    × CarriesTables (tables_of catalogue_pair_limit 0 l.reader.line (drop l.reader.at l.reader.text.now)) (tables_of (catalogue_pair_limit - l.read.pairs) l.read.words l.ahead.line (drop l.ahead.at l.ahead.text.now)) l.initial.catalogue l.catalogue l.initial.tables l.tables l.read

abbrev pub decreases-loop-read : goal.decreases-loop-read
decreases-loop-read l = catalogue_pair_limit - l.read.pairs
