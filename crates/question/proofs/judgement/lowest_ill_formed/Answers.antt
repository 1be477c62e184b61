use mathlib.Core.Path.{◌≡◌}
use mathlib.Core.Bool.{Bool, true, false}
use Prim.Native.Nat.{ℕ}
use borrow.Author.Tests.{tests}
use Rattle.std.proofs.Common.{rules}
use Rattle.std.proofs.lemmas.Iterator.{first_from_Range}
use Rattle.nodes.specs.Nodes.{node_at, is_ill_formed}
use Rattle.question.proofs.Searches.{lowest_found}
use Rattle.question.proofs.judgement.lowest_ill_formed.Goals as goal

pub returns : goal.returns
returns c = let test : ℕ → Bool = λ i. is_ill_formed (node_at c.args.words.now i).form in
    lowest_found test c.args.nodes c.find.result (first_from_Range _ _ _ _ (λ i. test i ≡ true) (λ i. test i ≡ false) c.find.ensures.ran (λ x q k. search (rules, tests)) (λ x q k. search (rules, tests)))
