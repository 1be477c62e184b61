use mathlib.Core.Path.{refl, sym, ◌∙◌}
use Rattle.catalogue.specs.Stored.{relations_of}
use Rattle.relations.specs.PlanWords.{read_node}
use Rattle.node_values.specs.NodeRun.{Runs}
use Rattle.node_values.specs.Standing.{widths_of}
use Rattle.node_values.proofs.NodeLaws.{join_narrow, width_read_lem, weight_read_lem, no_node}
use Rattle.node_values.proofs.node.run_node.Goals as goal
use Rattle.node_values.proofs.node.run_node.Goals.{In_ok-node}

runs : (c : In_ok-node) → Runs c.args.catalogue.now c.args.tables.now c.args.words.now c.in_ok-node.node c.args.values.now c.args.out c.args.work.now
runs c = record { size = c.requires.0; read = sym c.in_ok-node.ensures; judged = c.requires.1; legal = c.requires.2; stand = c.requires.3 }

pub returns-in_err-node : goal.returns-in_err-node
returns-in_err-node c = no_node (relations_of c.args.catalogue.now) (widths_of c.args.values.now) (read_node c.args.words.now) (sym c.in_err-node.ensures) c.requires.2

pub width_between-width-requires : goal.width_between-width-requires
width_between-width-requires c = join_narrow (runs (goal.at.width_between-width-requires c).In_ok-node) c.value_at-left.ensures c.value_at-beside.ensures

pub make_value-requires : goal.make_value-requires
make_value-requires c = runs (goal.at.make_value-requires c).In_ok-node

pub returns : goal.returns
returns c =
    record {
      makes = c.in_ok-rows.ensures;
      counts = (
        refl,
        width_read_lem (runs (goal.at.returns c).In_ok-node) c.value_at-left.ensures c.value_at-beside.ensures c.width_between-width.ensures,
        c.weight-heavy.ensures ∙ weight_read_lem (runs (goal.at.returns c).In_ok-node),
      );
    }
