use Rattle.nodes.proofs.Bits.{stepped, one_shifted}
use native.Mathlib.Omega.{arith}
use Rattle.nodes.proofs.references.Seen.and.Goals as goal

-- a reference that names a node sets its own digit, in the second mask where the first had it
pub returns : goal.returns
returns c = let a = c.args in
    stepped a.self.once a.self.twice a.reference _ (omega (arith, c.if-reference-eq0.false)) (one_shifted a.reference c.requires (omega (arith, c.if-reference-eq0.false)))
