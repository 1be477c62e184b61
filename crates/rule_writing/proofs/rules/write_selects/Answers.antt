use Rattle.std.proofs.Common.{sym, ap, ◌∙◌, length, arith}
use Prim.Native.Nat.{pred}
use Rattle.relations.specs.Lists.{filter}
use Rattle.calculus.specs.Leaves.{alone_on}
use Rattle.calculus.specs.ShortRules.{select_nodes}
use Rattle.question.specs.Trees.{atom_of}
use Rattle.conditions.specs.Scopes.{scope_of}
use Rattle.emission.proofs.WrittenLaws.{written_then, written-nothing, room_after, room-less, written_as}
use Rattle.short_rules.proofs.LeafSteps.{rest_none, filter_in, filter_out}
use Rattle.rule_writing.proofs.RuleLaws.{selects_next}
use Rattle.rule_writing.proofs.rules.write_selects.Goals as goal
use Rattle.rule_writing.proofs.rules.write_selects.Goals.{then-alone_on, else-alone_on}

pub loop-number-preserved : goal.loop-number-preserved
loop-number-preserved c =
    let l = c.loop-number in
    let words = c.args.words.now in
    let numbers = c.args.leaves.now in
    let own = scope_of c.args.own.now in
    let told = ap (alone_on c.args.x) (sym c.leaf-atom.ensures.0) ∙ sym c.alone_on.ensures in
    elim c.if-alone_on.branch [
      | then-alone_on w ↦
          let one = w.write_select-count.ensures in
          let passes = filter_in words c.args.opposite numbers l.number-index (omega arith) (alone_on c.args.x) (told ∙ w.if-alone_on.true) in
          let next = selects_next words c.args.opposite numbers l.number-index (omega arith) own c.args.x l.count w.write_select-count.result (atom_of c.leaf-atom.result) c.leaf-atom.ensures.0 (sym c.alone_on.ensures ∙ w.if-alone_on.true) one.counted in
          rw (w.plan-is, w.count-is) (omega (arith, one.counted), room_after _ l.invariant.1 one (omega (arith, ap length passes)), λ after r v. l.invariant.2 after r (written_as next (written_then one v)))
      | else-alone_on w ↦
          let passed = filter_out words c.args.opposite numbers l.number-index (omega arith) (alone_on c.args.x) (told ∙ w.if-alone_on.false) in
          rw (w.plan-is, w.count-is) (l.invariant.0, room-less _ l.invariant.1 (omega (arith, ap length passed)), λ after r v. l.invariant.2 after r (written_as (ap (λ atoms. select_nodes own atoms (pred l.count) l.count) passed) v))
    ]

pub returns : goal.returns
returns c =
    let l = c.loop-number in
    let none = rest_none c.args.words.now c.args.opposite c.args.leaves.now l.number-index (omega arith) in
    l.invariant.2 l.plan l.count (written_as (ap (λ atoms. select_nodes (scope_of c.args.own.now) (filter (alone_on c.args.x) atoms) (pred l.count) l.count) none) (written-nothing l.plan l.count))
