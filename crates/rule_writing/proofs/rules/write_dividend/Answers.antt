use Rattle.std.proofs.Common.{sym, ap₂, true, false, arith}
use Rattle.calculus.specs.ShortRules.{project_nodes, short_rule5_columns}
use Rattle.conditions.specs.Leaves.{atoms_of}
use Rattle.emission.proofs.NodeListLaws.{lists_attributes, names_attributes}
use Rattle.emission.proofs.WrittenLaws.{written_then, room_after, last_is, written_as}
use Rattle.rule_writing.proofs.RuleLaws.{behind-size, columns_room, columns_listed}
use Rattle.rule_writing.proofs.rules.write_dividend.Goals as goal

pub extend_by_own_columns-requires-2 : goal.extend_by_own_columns-requires-2
extend_by_own_columns-requires-2 c =
    (c.requires.rule.leaves-fit, columns_room c.args.z c.args.y (atoms_of c.args.words.now false c.args.leaves.now) c.requires.few_shared c.requires.few_outside c.new-columns.ensures c.extend_by_own_columns.ensures)

pub write_project-requires : goal.write_project-requires
write_project-requires c =
    let atoms = atoms_of c.args.words.now false c.args.leaves.now in (
      lists_attributes (short_rule5_columns c.args.z c.args.y atoms) (columns_listed c.args.z c.args.y atoms c.requires.few_shared c.requires.few_outside c.new-columns.ensures c.extend_by_own_columns.ensures c.extend_by_own_columns-2.ensures),
      room_after 1 c.requires.rule.room c.write_own_selects-count.ensures (omega (arith, behind-size c.args.z c.args.width atoms c.args.n)),
    )

pub returns : goal.returns
returns c =
    let atoms = atoms_of c.args.words.now false c.args.leaves.now in
    let columns = names_attributes (short_rule5_columns c.args.z c.args.y atoms) (columns_listed c.args.z c.args.y atoms c.requires.few_shared c.requires.few_outside c.new-columns.ensures c.extend_by_own_columns.ensures c.extend_by_own_columns-2.ensures) in
    let w = c.write_own_selects-count.ensures in
    written_then w (written_as (ap₂ (project_nodes true c.args.width) (last_is w) (sym columns)) c.write_project.ensures)
