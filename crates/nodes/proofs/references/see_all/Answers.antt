use Rattle.nodes.proofs.Forms.{node_lower}
use Rattle.nodes.proofs.Bits.{none_marked, marked_node}
use Rattle.nodes.specs.declared.node.Node.{Node}
use Rattle.nodes.specs.References.{references_to}
use mathlib.Core.Path.{ap}
use native.Mathlib.Omega.{arith}
use Rattle.nodes.proofs.references.see_all.Goals as goal

pub loop-i-init : goal.loop-i-init
unfolding references_to
loop-i-init c = rw (c.default-seen.ensures.0, c.default-seen.ensures.1) none_marked

pub and-requires : goal.and-requires
and-requires c = let h = node_lower c.args.words.now c.loop-i.i in omega (arith, ap (λ (r : Node). r.a) c.decode-node.ensures)

pub and-requires-in-loop-i : goal.and-requires-in-loop-i
and-requires-in-loop-i c = let h = node_lower c.args.words.now c.loop-i.i in omega (arith, ap (λ (r : Node). r.b) c.decode-node.ensures)

pub and-seen-requires : goal.and-seen-requires
and-seen-requires c = let h = node_lower c.args.words.now c.loop-i.i in omega (arith, ap (λ (r : Node). r.c) c.decode-node.ensures)

pub loop-i-preserved : goal.loop-i-preserved
loop-i-preserved c = let r = c.decode-node.ensures in
    marked_node c.args.words.now c.loop-i.i c.loop-i.invariant (rw r at c.and.ensures) (rw r at c.and-in-loop-i.ensures) (rw r at c.and-seen.ensures)
