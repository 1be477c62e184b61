use Rattle.std.proofs.Common.{sym, ◌∙◌, ◌/◌, length, refl, arith}
use Rattle.semijoins.proofs.KeyLaws.{renumbers_turn}
use Rattle.semijoins.proofs.keyed.are_renumbered.Goals as goal

pub returns-then-not-is_renumbered : goal.returns-then-not-is_renumbered
returns-then-not-is_renumbered c = let s = c.args in let l = c.loop-k in sym (l.invariant ∙ renumbers_turn s.columns.now s.triples.now s.other.now (length s.triples.now / 3) l.k (omega arith) c.is_renumbered.ensures ∙ rw c.if-not-is_renumbered.true refl)

pub loop-k-preserved : goal.loop-k-preserved
loop-k-preserved c = let s = c.args in let l = c.loop-k in l.invariant ∙ renumbers_turn s.columns.now s.triples.now s.other.now (length s.triples.now / 3) l.k (omega arith) c.is_renumbered.ensures ∙ rw c.if-not-is_renumbered.false refl
