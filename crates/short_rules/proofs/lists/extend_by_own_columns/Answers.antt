use Rattle.std.proofs.Common.{◌∷◌, [], false, sym, ap, ◌∙◌, map, arith}
use Rattle.relations.specs.Lists.{filter}
use Rattle.calculus.specs.Leaves.{own_attribute}
use Rattle.conditions.specs.Atoms.{sides_of}
use Rattle.conditions.specs.declared.atom.Sides.{Sides}
use Rattle.emission.specs.NodeLists.{grown_by, numbers_of}
use Rattle.emission.proofs.NodeListLaws.{grows_on, grows_as, grown}
use Rattle.short_rules.specs.Lists.{links}
use Rattle.short_rules.proofs.LeafSteps.{rest_none, filter_out, own_next}
use Rattle.short_rules.proofs.lists.extend_by_own_columns.Goals as goal
use Rattle.short_rules.proofs.lists.extend_by_own_columns.Goals.{then-links, else-links}

pub loop-number-preserved : goal.loop-number-preserved
loop-number-preserved c =
    let l = c.loop-number in
    let a = c.leaf-atom.ensures.0 in
    let told = ap (links c.args.outside c.args.z c.args.y) (sym a) ∙ sym c.links.ensures in
    elim c.if-links.branch [
      | then-links w ↦
          let own = ap (λ (d : Sides). d.own.0) (w.sides_of.ensures ∙ ap (sides_of c.args.z) a) in
          rw w.list-is (grows_on l.invariant (_ ∷ []) _
          (own_next c.args.words.now false c.args.leaves.now l.number-index (omega arith) (links c.args.outside c.args.z c.args.y) c.args.z (told ∙ w.if-links.true))
          (w.push.ensures ∙ ap (λ k. grown_by l.list (k ∷ [])) own))
      | else-links w ↦
          rw w.list-is (grows_as l.invariant _
          (ap (λ atoms. numbers_of (map (own_attribute c.args.z) atoms)) (filter_out c.args.words.now false c.args.leaves.now l.number-index (omega arith) (links c.args.outside c.args.z c.args.y) (told ∙ w.if-links.false))))
    ]

pub returns : goal.returns
returns c = let l = c.loop-number in
    grown l.invariant (ap (λ atoms. numbers_of (map (own_attribute c.args.z) (filter (links c.args.outside c.args.z c.args.y) atoms))) (rest_none c.args.words.now false c.args.leaves.now l.number-index (omega arith)))
