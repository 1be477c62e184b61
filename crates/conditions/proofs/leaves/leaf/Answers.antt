use Rattle.conditions.proofs.LeafLaws.{found_narrow, found_is}
use Rattle.conditions.proofs.leaves.leaf.Goals as goal

pub opposite_atom-requires : goal.opposite_atom-requires
opposite_atom-requires c = found_narrow c.args.words.now c.args.number c.decode.ensures c.atom_in-atom.ensures

pub returns-else-opposite : goal.returns-else-opposite
returns-else-opposite c = (rw c.if-opposite.false (found_is c.args.words.now c.args.number c.decode.ensures c.atom_in-atom.ensures), found_narrow c.args.words.now c.args.number c.decode.ensures c.atom_in-atom.ensures)
