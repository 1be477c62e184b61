use Prim.Native.Nat.{ℕ, ◌/◌}
use mathlib.Core.Path.{◌≡◌, ap, ap₂, ◌∙◌}
use mathlib.Core.List.{List, ◌∷◌}
use lib.ListN.{length}
use Rattle.relations.specs.Limits.{list_words}
use Rattle.emission.specs.NodeLists.{padded}
use Rattle.emission.specs.Joins.{linking_number, linking_unit}
use Rattle.emission.specs.declared.node_list.NodeList.{NodeList}
use Rattle.emission.proofs.NodeListLaws.{padded_full, padded_long, linked-words}
use Rattle.emission.proofs.WrittenLaws.{written_one}
use native.Mathlib.Omega.{arith}
use borrow.Author.Rules.{rules}
use Rattle.emission.proofs.emit.link.Goals as goal

pub returns : goal.returns
returns c =
    let list : NodeList = c.args.list in
    let l : length list.words ≡ list_words = search rules in
    written_one _ _ c.push.ensures
    (ap₂ (λ (number unit : ℕ). number ∷ c.args.left ∷ c.args.right ∷ list.used / unit ∷ padded list.words) c.linking_number.ensures c.linking_unit.ensures
    ∙ ap (λ (words : List ℕ). linking_number c.args.how ∷ c.args.left ∷ c.args.right ∷ list.used / linking_unit c.args.how ∷ words) (padded_full list.words l)
    ∙ linked-words list c.args.left c.args.right c.args.how c.requires.1)
    (omega (arith, padded_long list.words (omega arith)))
