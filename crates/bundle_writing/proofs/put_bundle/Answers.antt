use native.Mathlib.Nat.{mul-div-le}
use native.Mathlib.Omega.{arith}
use lib.ListN.{length}
use Rattle.relations.specs.Limits.{question_node_words}
use Rattle.bundles.specs.Writing.{bundle_text}
use Rattle.lines.proofs.Stores.{put_then}
use Rattle.catalogue.proofs.Judgements.{good-tables}
use Rattle.bundle_writing.proofs.WritingSteps.{length-bundle, bundle_fits}
use Rattle.bundle_writing.proofs.put_bundle.Goals as goal

pub put_tables-nodes_at-requires : goal.put_tables-nodes_at-requires
put_tables-nodes_at-requires c = let a = c.args in
    let good = good-tables a.catalogue.now a.tables.now c.requires.0 in
    (good.pairs, omega (arith, good.sum), omega (arith, c.put_mode-tables_at.ensures.end_at, length-bundle a.mode a.catalogue.now a.tables.now a.nodes.now, bundle_fits a.mode a.catalogue.now a.tables.now a.nodes.now c.requires.0 c.requires.1))

pub put_lines-requires : goal.put_lines-requires
put_lines-requires c = let a = c.args in (
  omega (arith, mul-div-le (length a.nodes.now) question_node_words),
  omega (arith, c.put_mode-tables_at.ensures.end_at, c.put_tables-nodes_at.ensures.end_at, length-bundle a.mode a.catalogue.now a.tables.now a.nodes.now, bundle_fits a.mode a.catalogue.now a.tables.now a.nodes.now c.requires.0 c.requires.1),
)

pub returns : goal.returns
unfolding bundle_text
returns c = put_then (put_then c.put_mode-tables_at.ensures c.put_tables-nodes_at.ensures) c.put_lines.ensures
