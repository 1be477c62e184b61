use Rattle.rule_writing.proofs.RuleLaws.{dividend_size, division_written, pairs-counted}
use mathlib.Core.Bool.{false}
use Rattle.emission.proofs.NodeListLaws.{names_triples, names_pairs, lists_triples, lists_pairs}
use Rattle.emission.proofs.WrittenLaws.{room_after, room-less, written_as}
use Rattle.emission.specs.NodeLists.{node_list}
use Rattle.conditions.specs.Leaves.{atoms_of}
use Rattle.conditions.specs.Scopes.{scope_of}
use Rattle.calculus.specs.ShortRules.{outside_triples, division_pairs}
use Rattle.calculus.specs.Leaves.{equates_with, equates_outside}
use Rattle.relations.specs.Columns.{Triple, Pair}
use Rattle.relations.specs.Lists.{filter, flat}
use Rattle.relations.specs.Nodes.{divide, semijoin, antijoin}
use Rattle.relations.specs.PlanWords.{pair_words}
use lib.ListN.{length}
use mathlib.Core.List.{List, [], ◌∷◌}
use mathlib.Core.Path.{◌≡◌, sym, ap}
use Prim.Native.Nat.{suc, ◌-◌}
use native.Mathlib.Omega.{arith}
use Rattle.rule_writing.proofs.rules.write_division.Goals as goal

pub link-divided-requires : goal.link-divided-requires
link-divided-requires c =
    let r = room_after 4 c.requires.1.rule.room c.write_dividend-q.ensures (omega (arith, dividend_size c.args.y c.args.z c.args.width ((atoms_of c.args.words.now false c.args.leaves.now)) c.args.n)) in
    (room-less 1 r (omega arith), lists_pairs ((division_pairs c.args.z (filter (equates_with c.args.z c.args.y) ((atoms_of c.args.words.now false c.args.leaves.now))) (suc (length (filter (equates_outside c.args.z c.args.y) ((atoms_of c.args.words.now false c.args.leaves.now))))))) ((let the-fact : c.division_pairs-pairs.result ≡ node_list (flat pair_words ((division_pairs c.args.z (filter (equates_with c.args.z c.args.y) ((atoms_of c.args.words.now false c.args.leaves.now))) (suc (length (filter (equates_outside c.args.z c.args.y) ((atoms_of c.args.words.now false c.args.leaves.now)))))))) = pairs-counted (scope_of c.args.scope.now) c.args.z c.args.y ((atoms_of c.args.words.now false c.args.leaves.now)) c.outside_triples-triples.ensures c.division_pairs-pairs.ensures in the-fact)))

pub link-matched-requires : goal.link-matched-requires
link-matched-requires c =
    let r = room_after 4 c.requires.1.rule.room c.write_dividend-q.ensures (omega (arith, dividend_size c.args.y c.args.z c.args.width ((atoms_of c.args.words.now false c.args.leaves.now)) c.args.n)) in
    (room_after 1 r c.link-divided.ensures (omega arith), lists_triples ((outside_triples (scope_of c.args.scope.now) c.args.z (filter (equates_outside c.args.z c.args.y) ((atoms_of c.args.words.now false c.args.leaves.now))) 1)) c.outside_triples-triples.ensures)

pub link-unmatched-requires : goal.link-unmatched-requires
link-unmatched-requires c =
    let r = room_after 4 c.requires.1.rule.room c.write_dividend-q.ensures (omega (arith, dividend_size c.args.y c.args.z c.args.width ((atoms_of c.args.words.now false c.args.leaves.now)) c.args.n)) in
    (room_after 1 (room_after 3 r c.link-divided.ensures (omega arith)) c.link-matched.ensures (omega arith), lists_triples [] c.new.ensures)

pub pair-requires : goal.pair-requires
pair-requires c =
    let r = room_after 4 c.requires.1.rule.room c.write_dividend-q.ensures (omega (arith, dividend_size c.args.y c.args.z c.args.width ((atoms_of c.args.words.now false c.args.leaves.now)) c.args.n)) in
    room_after 1 (room_after 2 (room_after 3 r c.link-divided.ensures (omega arith)) c.link-matched.ensures (omega arith)) c.link-unmatched.ensures (omega arith)

pub returns : goal.returns
returns c =
    let q = c.write_dividend-q.result in
    division_written
    c.write_dividend-q.ensures
    (written_as (ap (λ (l : List Pair). divide (q - 1) c.args.k l ∷ []) (sym (names_pairs ((division_pairs c.args.z (filter (equates_with c.args.z c.args.y) ((atoms_of c.args.words.now false c.args.leaves.now))) (suc (length (filter (equates_outside c.args.z c.args.y) ((atoms_of c.args.words.now false c.args.leaves.now))))))) ((let the-fact : c.division_pairs-pairs.result ≡ node_list (flat pair_words ((division_pairs c.args.z (filter (equates_with c.args.z c.args.y) ((atoms_of c.args.words.now false c.args.leaves.now))) (suc (length (filter (equates_outside c.args.z c.args.y) ((atoms_of c.args.words.now false c.args.leaves.now)))))))) = pairs-counted (scope_of c.args.scope.now) c.args.z c.args.y ((atoms_of c.args.words.now false c.args.leaves.now)) c.outside_triples-triples.ensures c.division_pairs-pairs.ensures in the-fact))))) c.link-divided.ensures)
    (written_as (ap (λ (l : List Triple). semijoin c.args.p q l ∷ []) (sym (names_triples ((outside_triples (scope_of c.args.scope.now) c.args.z (filter (equates_outside c.args.z c.args.y) ((atoms_of c.args.words.now false c.args.leaves.now))) 1)) c.outside_triples-triples.ensures))) c.link-matched.ensures)
    (written_as (ap (λ (l : List Triple). antijoin c.args.p c.args.k l ∷ []) (sym (names_triples [] c.new.ensures))) c.link-unmatched.ensures)
    c.pair.ensures
