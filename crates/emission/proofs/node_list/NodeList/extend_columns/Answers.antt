use Rattle.std.proofs.Common.{◌≡◌, ◌∷◌, ◌+◌, ◌-◌, [], refl, arith}
use Rattle.emission.proofs.NodeListLaws.{columns_step, columns_none, columns-long, grows_on, grown}
use Rattle.emission.proofs.node_list.NodeList.extend_columns.Goals as goal

pub loop-column-init : goal.loop-column-init
loop-column-init c =
    let all : c.args.first + c.args.count - c.args.first ≡ c.args.count = omega arith in
    rw all (record { room = omega (arith, c.requires.0, columns-long c.args.count c.args.first); becomes = refl })

pub loop-column-preserved : goal.loop-column-preserved
loop-column-preserved c =
    let l = c.loop-column in
    let left : c.args.first + c.args.count - (l.column + 1) ≡ c.args.first + c.args.count - l.column - 1 = omega arith in
    grows_on l.invariant (_ ∷ []) _ (rw left (columns_step (c.args.first + c.args.count - l.column) l.column (omega arith))) c.push.ensures

pub returns : goal.returns
returns c = let l = c.loop-column in
    grown l.invariant (columns_none _ l.column (omega arith))
