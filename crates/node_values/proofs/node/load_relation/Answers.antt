use mathlib.Core.Path.{◌≡◌}
use Rattle.catalogue.specs.Stored.{columns_of, row_count_of}
use Rattle.catalogue.proofs.TableLaws.{has_column, stored-inside, start_few}
use Rattle.node_values.proofs.LoadLaws.{loaded}
use Rattle.node_values.proofs.node.load_relation.Goals as goal

-- `running::node::load_relation` meets its contract: the relation's words stand in the tables, since refusal 7 is past. Assumes nothing.
pub start_of-base-requires : goal.start_of-base-requires
start_of-base-requires c = start_few c.args.catalogue.now c.args.tables.now c.requires.0 c.args.relation c.requires.1

pub load-requires : goal.load-requires
load-requires c =
    let width : c.columns_of-width.result ≡ columns_of c.args.catalogue.now c.args.relation = c.columns_of-width.ensures in
    let rows : c.rows_of-rows.result ≡ row_count_of c.args.catalogue.now c.args.relation = c.rows_of-rows.ensures in
    (rw width (has_column c.args.catalogue.now c.args.tables.now c.requires.0 c.args.relation c.requires.1).0, rw (width, rows, c.start_of-base.ensures) (stored-inside c.args.catalogue.now c.args.tables.now c.requires.0 c.args.relation c.requires.1), c.requires.2, c.requires.3)

pub returns : goal.returns
returns c =
    loaded c.args.catalogue.now c.args.tables.now c.args.relation c.start_of-base.ensures c.rows_of-rows.ensures c.columns_of-width.ensures c.load.ensures
