use Rattle.std.proofs.Common.{◌∷◌, [], false, sym, ap, ◌∙◌, arith}
use Rattle.relations.specs.Lists.{flat, filter}
use Rattle.relations.specs.PlanWords.{pair_words}
use Rattle.calculus.specs.Leaves.{equates_with}
use Rattle.calculus.specs.ShortRules.{division_pairs}
use Rattle.conditions.specs.Atoms.{sides_of}
use Rattle.conditions.specs.Leaves.{atoms_of}
use Rattle.conditions.specs.declared.atom.Sides.{Sides}
use Rattle.emission.specs.NodeLists.{grown_by}
use Rattle.emission.proofs.NodeListLaws.{grows_from, grows_on, grows_as, grown}
use Rattle.short_rules.proofs.LeafSteps.{rest_none, filter_out, pairs_next}
use Rattle.short_rules.proofs.ListLaws.{pairs-size}
use Rattle.short_rules.proofs.lists.division_pairs.Goals as goal
use Rattle.short_rules.proofs.lists.division_pairs.Goals.{then-equates_with, else-equates_with}

pub loop-number-init : goal.loop-number-init
loop-number-init c = (omega arith, grows_from _ c.new-list.ensures (omega (arith, c.requires.1, pairs-size c.args.z (filter (equates_with c.args.z c.args.y) (atoms_of c.args.words.now false c.args.leaves.now)) c.args.first)))

pub loop-number-preserved : goal.loop-number-preserved
loop-number-preserved c =
    let l = c.loop-number in
    let a = c.leaf-atom.ensures.0 in
    let told = ap (equates_with c.args.z c.args.y) (sym a) ∙ sym c.equates_with.ensures in
    elim c.if-equates_with.branch [
      | then-equates_with w ↦
          let other = ap (λ (d : Sides). d.other.0) (w.sides_of.ensures ∙ ap (sides_of c.args.z) a) in
          rw (w.list-is, w.column-is) (
            omega arith,
            grows_on l.invariant.1 _ _
                (pairs_next c.args.words.now false c.args.leaves.now l.number-index (omega arith) (equates_with c.args.z c.args.y) c.args.z l.column (told ∙ w.if-equates_with.true))
                (w.extend.ensures ∙ ap (λ k. grown_by l.list (l.column ∷ k ∷ [])) other),
          )
      | else-equates_with w ↦
          rw (w.list-is, w.column-is) (
            omega arith,
            grows_as l.invariant.1 _
                (ap (λ atoms. flat pair_words (division_pairs c.args.z atoms l.column)) (filter_out c.args.words.now false c.args.leaves.now l.number-index (omega arith) (equates_with c.args.z c.args.y) (told ∙ w.if-equates_with.false))),
          )
    ]

pub returns : goal.returns
returns c = let l = c.loop-number in
    grown l.invariant.1 (ap (λ atoms. flat pair_words (division_pairs c.args.z (filter (equates_with c.args.z c.args.y) atoms) l.column)) (rest_none c.args.words.now false c.args.leaves.now l.number-index (omega arith)))
