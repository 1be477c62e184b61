-- The shown text and P1 to P10, computed.
use mathlib.Core.Path.{refl}
use Rattle.relations.specs.Lists.{All}
use Rattle.relations.specs.Machine.{run}
use Rattle.calculus.specs.Form.{width_of_range}
use Rattle.calculus.specs.Translation.{translate_range}
use Rattle.catalogue.specs.Judging.{pairs_ok, catalogue_words}
use Rattle.values.specs.Words.{words_of}
use Rattle.nodes.specs.Kinds.{fields_of}
use Rattle.nodes.specs.Nodes.{kind_named, form_of, node_at}
use Rattle.nodes.specs.References.{references_to, seen, first_from}
use Rattle.question.specs.Trees.{trees_below, tree_of, reading}
use Rattle.judgements.specs.Faults.{fault_at, judged_question}
use Rattle.catalogue.specs.Stored.{start_of, rows_in}
use Rattle.plan_reading.specs.Judging.{judge_plan_nodes, nodes_in}
use Rattle.translation.specs.TranslateCall.{translate_outcome}
use Rattle.running.specs.RunCall.{fit_of, run_outcome}
use Rattle.desk.specs.AnswerCall.{answer_outcome}
use Rattle.lines.specs.Reading.{more_digits, number, numbers, begins, keyed_line, keyed_lines}
use Rattle.bundles.specs.Reading.{relation_of, table_of, tables_of, nodes_of, lines_of, bundle_in}
use Rattle.bundles.specs.ReadCall.{read_outcome}
use Rattle.demands.specs.Papers.{papers, Holds, ShownRead, PapersHold}

-- the shown text, read
shown_read_lem : ShownRead
unfolding read_outcome bundle_in lines_of tables_of table_of relation_of nodes_of keyed_lines keyed_line begins numbers number more_digits catalogue_words
shown_read_lem = record { numbers = refl; catalogue = refl; tables = refl; question = refl }

-- each line in the table's order
each_line : All Holds papers
unfolding answer_outcome translate_outcome run_outcome pairs_ok catalogue_words judged_question node_at kind_named fields_of form_of references_to seen first_from trees_below tree_of reading fault_at translate_range width_of_range judge_plan_nodes nodes_in start_of rows_in run fit_of words_of
each_line = (record { numbers = refl; rows = refl }, (record { numbers = refl; rows = refl }, (record { numbers = refl; rows = refl }, (record { numbers = refl; rows = refl }, (record { numbers = refl; rows = refl }, (record { numbers = refl; rows = refl }, (record { numbers = refl; rows = refl }, (record { numbers = refl; rows = refl }, (record { numbers = refl; rows = refl }, (record { numbers = refl; rows = refl }, (record { numbers = refl; rows = refl }, (record { numbers = refl; rows = refl }, tt))))))))))))

pub papers_hold : PapersHold
papers_hold = record { shown = shown_read_lem; each = each_line }
