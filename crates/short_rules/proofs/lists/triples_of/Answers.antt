use Rattle.std.proofs.Common.{[], ◌∷◌, ap, ◌∙◌, arith}
use Rattle.relations.specs.Lists.{flat}
use Rattle.relations.specs.PlanWords.{triple_words}
use Rattle.calculus.specs.Question as calculus
use Rattle.calculus.specs.ShortRules.{triples_of}
use Rattle.conditions.specs.Scopes.{scope_of}
use Rattle.conditions.specs.Leaves.{atoms_of}
use Rattle.emission.specs.NodeLists.{grown_by}
use Rattle.emission.proofs.NodeListLaws.{grows_from, grows_on, grown}
use Rattle.short_rules.proofs.LeafSteps.{rest_none, triples_next}
use Rattle.short_rules.proofs.ListLaws.{triples_fit}
use Rattle.short_rules.proofs.lists.triples_of.Goals as goal

pub loop-number-init : goal.loop-number-init
loop-number-init c = grows_from _ c.new-list.ensures (triples_fit (scope_of c.args.scope.now) c.args.x (atoms_of c.args.words.now c.args.opposite c.args.leaves.now) c.requires.2)

pub loop-number-preserved : goal.loop-number-preserved
loop-number-preserved c = let l = c.loop-number in
    grows_on l.invariant _ _ (triples_next c.args.words.now c.args.opposite c.args.leaves.now l.number-index (omega arith) (scope_of c.args.scope.now) c.args.x)
    (c.extend_by_triple.ensures ∙ ap (λ (a : calculus.Atom). grown_by l.list (flat triple_words (triples_of (scope_of c.args.scope.now) c.args.x (a ∷ [])))) c.leaf.ensures.0)

pub returns : goal.returns
returns c = let l = c.loop-number in
    grown l.invariant (ap (λ atoms. flat triple_words (triples_of (scope_of c.args.scope.now) c.args.x atoms)) (rest_none c.args.words.now c.args.opposite c.args.leaves.now l.number-index (omega arith)))
