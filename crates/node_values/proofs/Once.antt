-- A node's run leaves one outcome. Assumes nothing.
use mathlib.Core.Path.{◌≡◌, refl}
use mathlib.Core.List.{List}
use mathlib.Core.Option as maybe
use Rattle.std.specs.Prelude.{Option, Some, None}
use Prim.Native.Nat.{ℕ}
use Rattle.relations.specs.Values.{Rows}
use Rattle.relations.specs.Nodes.{Node}
use Rattle.values.proofs.MakeLaws.{makes_unique}
use Rattle.node_values.specs.NodeRun.{placed_of, Counts, NodeRun}
use Rattle.node_values.specs.declared.node.Made.{Made}

one_made : (out width heavy : ℕ) (one other : Option Made) → Counts out width heavy one → Counts out width heavy other → placed_of one ≡ placed_of other → one ≡ other
one_made out width heavy (Some one) (Some other) a b e =
    let rows : one.value.rows ≡ other.value.rows = cc in
    rw (a.0, a.1, a.2, b.0, b.1, b.2, rows)
one_made out width heavy (Some one) None a b e = absurd cc
one_made out width heavy None (Some other) a b e = absurd cc
one_made out width heavy None None a b e = refl

pub node_run-once : {catalogue tables widths before after₁ after₂ : List ℕ} {read : maybe.Option Node} {made : List Rows} {out : ℕ} {one other : Option Made}
    → NodeRun catalogue tables read widths made out before after₁ one → NodeRun catalogue tables read widths made out before after₂ other → (one ≡ other) × (after₁ ≡ after₂)
node_run-once {one = one} {other = other} a b = let same = makes_unique a.makes b.makes in (one_made _ _ _ one other a.counts b.counts same.1, same.0)
