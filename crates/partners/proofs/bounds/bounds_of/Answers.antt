use Rattle.std.proofs.Common.{sym, ◌∙◌, ℕ, arith, length-append}
use Rattle.partners.proofs.BoundSteps.{bounding_here, bounding_low, bounding_both, begins-next}
use Rattle.partners.proofs.bounds.bounds_of.Goals as goal

pub returns-in_default : goal.returns-in_default
returns-in_default c = let l = c.loop-k in bounding_here l.invariant.begins l.invariant.same (omega (arith, l.invariant.many))

pub returns-then-span-ge-NO_WORD : goal.returns-then-span-ge-NO_WORD
returns-then-span-ge-NO_WORD c = let l = c.loop-k in bounding_here l.invariant.begins l.invariant.same (omega (arith, l.invariant.many))

pub returns-then-span-ge-NO_WORD-2 : goal.returns-then-span-ge-NO_WORD-2
returns-then-span-ge-NO_WORD-2 c = let l = c.loop-k in
    bounding_low l.invariant.begins l.invariant.many c.in-Some.i _ c.in-Some.ensures (omega arith) c.push.ensures l.invariant.same

pub returns-then-span : goal.returns-then-span
returns-then-span c = let l = c.loop-k in
    bounding_both l.invariant.begins l.invariant.many c.in-Some.i _ c.in-Some.ensures (omega arith) c.push.ensures (c.push-in-loop-k.ensures ∙ rw l.invariant.same) (omega arith)

pub loop-k-preserved : goal.loop-k-preserved
loop-k-preserved c = let l = c.loop-k in record {
  begins = rw c.push.ensures (begins-next l.invariant.begins l.invariant.many c.in-Some.i _ c.in-Some.ensures (omega arith) c.if-span.false (omega arith));
  same = c.push-in-loop-k.ensures ∙ rw (l.invariant.same, sym c.if-span.false) (sym c.push.ensures);
  many = rw c.push.ensures (omega (arith, l.invariant.many, length-append {A = ℕ}));
}

pub returns : goal.returns
returns c = let l = c.loop-k in bounding_here l.invariant.begins l.invariant.same (omega (arith, l.invariant.many))
