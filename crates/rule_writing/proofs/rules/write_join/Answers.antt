use Rattle.std.proofs.Common.{ℕ, ◌∷◌, [], List, sym, ap₂, arith}
use Rattle.relations.specs.Columns.{Triple}
use Rattle.relations.specs.Nodes.{semijoin, antijoin}
use Rattle.calculus.specs.ShortRules.{triples_of}
use Rattle.conditions.specs.Leaves.{atoms_of}
use Rattle.conditions.specs.Scopes.{scope_of}
use Rattle.emission.proofs.NodeListLaws.{lists_triples, names_triples}
use Rattle.emission.proofs.WrittenLaws.{written_then, room_after, last_is, written_as}
use Rattle.rule_writing.proofs.RuleLaws.{behind-size}
use Rattle.rule_writing.proofs.rules.write_join.Goals as goal
use Rattle.rule_writing.proofs.rules.write_join.Goals.{then-anti, else-anti}

pub link-requires : goal.link-requires
link-requires c =
    let atoms = atoms_of c.args.words.now c.args.opposite c.args.leaves.now in
    let room = room_after 1 c.requires.1.room c.write_own_selects-count.ensures (omega (arith, behind-size c.args.x c.args.width atoms c.args.n)) in
    let listed = lists_triples (triples_of (scope_of c.args.scope.now) c.args.x atoms) c.triples_of-triples.ensures in
    elim c.if-anti.branch [ then-anti w ↦ rw w.how-is (room, listed) | else-anti w ↦ rw w.how-is (room, listed) ]

pub returns : goal.returns
returns c =
    let triples = triples_of (scope_of c.args.scope.now) c.args.x (atoms_of c.args.words.now c.args.opposite c.args.leaves.now) in
    let selects = c.write_own_selects-count.ensures in
    let named = sym (names_triples triples c.triples_of-triples.ensures) in
    elim c.if-anti.branch [
      | then-anti w ↦ rw w.if-anti.true (written_then selects (written_as (ap₂ (λ (m : ℕ) (l : List Triple). antijoin c.args.p m l ∷ []) (last_is selects) named) (rw w.how-is at c.link.ensures)))
      | else-anti w ↦ rw w.if-anti.false (written_then selects (written_as (ap₂ (λ (m : ℕ) (l : List Triple). semijoin c.args.p m l ∷ []) (last_is selects) named) (rw w.how-is at c.link.ensures)))
    ]
