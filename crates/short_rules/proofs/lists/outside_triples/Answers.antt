use Rattle.std.proofs.Common.{ℕ, ap₂, ◌∷◌, [], false, sym, ap, ◌∙◌, arith}
use Rattle.relations.specs.Lists.{flat, filter}
use Rattle.relations.specs.PlanWords.{triple_words}
use Rattle.calculus.specs.Scope.{column_number}
use Rattle.calculus.specs.Leaves.{equates_outside}
use Rattle.calculus.specs.ShortRules.{outside_triples}
use Rattle.conditions.specs.Scopes.{scope_of}
use Rattle.conditions.specs.Atoms.{sides_of}
use Rattle.conditions.specs.Leaves.{atoms_of}
use Rattle.conditions.specs.declared.atom.Sides.{Sides}
use Rattle.emission.specs.NodeLists.{grown_by}
use Rattle.emission.proofs.NodeListLaws.{grows_from, grows_on, grows_as, grown}
use Rattle.short_rules.proofs.LeafSteps.{rest_none, filter_out, outside_next}
use Rattle.short_rules.proofs.ListLaws.{outside_size}
use Rattle.short_rules.proofs.lists.outside_triples.Goals as goal
use Rattle.short_rules.proofs.lists.outside_triples.Goals.{then-equates_outside, else-equates_outside}

pub loop-number-init : goal.loop-number-init
loop-number-init c =
    let s = scope_of c.args.scope.now in
    (omega arith, grows_from _ c.new-list.ensures (omega (arith, c.requires.2, outside_size s c.args.z (filter (equates_outside c.args.z c.args.y) (atoms_of c.args.words.now false c.args.leaves.now)) 1)))

pub loop-number-preserved : goal.loop-number-preserved
loop-number-preserved c =
    let l = c.loop-number in
    let s = scope_of c.args.scope.now in
    let a = c.leaf-atom.ensures.0 in
    let told = ap (equates_outside c.args.z c.args.y) (sym a) ∙ sym c.equates_outside.ensures in
    elim c.if-equates_outside.branch [
      | then-equates_outside w ↦
          let other = w.column_of-other.ensures ∙ ap (λ (d : Sides). column_number s d.variable d.other.0) (w.sides_of-sides.ensures ∙ ap (sides_of c.args.z) a) in
          rw (w.list-is, w.column-is) (
            omega arith,
            grows_on l.invariant.1 _ _
                (outside_next c.args.words.now false c.args.leaves.now l.number-index (omega arith) (equates_outside c.args.z c.args.y) s c.args.z l.column (told ∙ w.if-equates_outside.true))
                (w.extend.ensures ∙ ap₂ (λ (k m : ℕ). grown_by l.list (k ∷ m ∷ l.column ∷ [])) other w.from.ensures),
          )
      | else-equates_outside w ↦
          rw (w.list-is, w.column-is) (
            omega arith,
            grows_as l.invariant.1 _
                (ap (λ atoms. flat triple_words (outside_triples s c.args.z atoms l.column)) (filter_out c.args.words.now false c.args.leaves.now l.number-index (omega arith) (equates_outside c.args.z c.args.y) (told ∙ w.if-equates_outside.false))),
          )
    ]

pub returns : goal.returns
returns c = let l = c.loop-number in
    grown l.invariant.1 (ap (λ atoms. flat triple_words (outside_triples (scope_of c.args.scope.now) c.args.z (filter (equates_outside c.args.z c.args.y) atoms) l.column)) (rest_none c.args.words.now false c.args.leaves.now l.number-index (omega arith)))
