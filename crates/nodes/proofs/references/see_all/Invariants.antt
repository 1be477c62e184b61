use Rattle.nodes.specs.References.{references_to}
use Rattle.nodes.specs.Marks.{Marks}
use Rattle.nodes.proofs.references.see_all.Given as goal

-- the masks are those of the references of the nodes passed
abbrev pub invariant-loop-i : goal.invariant-loop-i
invariant-loop-i l = Marks l.seen.once l.seen.twice (references_to l.words l.i)
