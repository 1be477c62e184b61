use Rattle.nodes.proofs.Bits.{placed}
use Rattle.nodes.specs.References.{references_to}
use lib.Bits.{xor_lt}
use native.Mathlib.Omega.{arith}
use Rattle.nodes.proofs.references.lowest_not_once.Goals as goal

pub returns : goal.returns
returns c = let r = c.see_all-seen.result in
    placed (references_to c.args.words.now c.args.nodes) r.once r.twice (xor_lt 64 r.once r.twice (omega arith) (omega arith)) c.see_all-seen.ensures
