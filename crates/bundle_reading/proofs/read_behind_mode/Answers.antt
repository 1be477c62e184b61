use Rattle.bundles.proofs.ReadingLaws.{length-tables}
use Rattle.relations.specs.Limits.{catalogue_pair_limit}
use lib.ListN.{drop}
use mathlib.Core.Path.{ap, ◌∙◌}
use Rattle.bundle_reading.proofs.BundleLaws.{bundle_found}
use Rattle.lines.specs.Answers.{standing}
use Rattle.bundle_reading.proofs.read_behind_mode.Goals as goal

pub returns : goal.returns
returns c = let s = c.args.reader in let r = c.read_tables.ensures in
    bundle_found c.args.mode r c.in_ok-pairs.was c.read_nodes.ensures c.in_ok-nodes.was
    (length-tables catalogue_pair_limit 0 s.line (drop s.at s.text.now) _ _ (r.means ∙ ap (standing c.read_tables.new.reader) c.in_ok-pairs.was))
