use Rattle.std.proofs.Common.{sym, ap, ◌∙◌, ◌≡◌, ◌+◌, ◌*◌, ◌-◌, ℕ, List, length, set, get_or, arith, rules}
use Rattle.relations.specs.Limits.{head_words, list_words, plan_node_words}
use Rattle.emission.specs.NodeLists.{padded}
use Rattle.emission.proofs.NodeListLaws.{padded_long, padded_at}
use Rattle.emission.proofs.Stores.{sets_more}
use Rattle.emission.proofs.emit.push.Goals as goal

pub loop-j-preserved : goal.loop-j-preserved
loop-j-preserved c =
    let list : List ℕ = c.args.list.now in
    let e : c.unwrap_or.result ≡ get_or list c.loop-j.j 0 = search rules in
    ap (λ (v : ℕ). set c.loop-j.plan (c.args.n * plan_node_words + head_words + c.loop-j.j) v) (e ∙ sym (padded_at list (list_words - length list) c.loop-j.j))
    ∙ sets_more _ _ (c.args.n * plan_node_words + head_words) c.loop-j.j (padded list) (omega (arith, padded_long list c.requires.1)) c.loop-j.invariant
