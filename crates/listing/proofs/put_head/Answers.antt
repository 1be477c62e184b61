use native.Mathlib.Omega.{arith}
use Rattle.listing.specs.Listing.{status_key, nodes_key, heavy_key, room_key, width_key, rows_key, head_text}
use Rattle.lines.proofs.Stores.{put_then}
use Rattle.listing.proofs.Lengths.{line-length, line-ends}
use Rattle.listing.proofs.put_head.Goals as goal

-- The six lines are put one behind another, and they are the head. Each line is short (`line-length`), so every position is within reach. Assumes nothing.
pub put_line-nodes_at-requires : goal.put_line-nodes_at-requires
put_line-nodes_at-requires c = omega (arith, line-length status_key 0)

pub put_line-heavy_at-requires : goal.put_line-heavy_at-requires
put_line-heavy_at-requires c = omega (arith, line-length nodes_key c.args.results.nodes, line-ends status_key 0 c.put_line-nodes_at.ensures)

pub put_line-room_at-requires : goal.put_line-room_at-requires
put_line-room_at-requires c = let a = c.args.results in
    omega (arith, line-length heavy_key a.heavy, line-ends status_key 0 c.put_line-nodes_at.ensures, line-ends nodes_key a.nodes c.put_line-heavy_at.ensures)

pub put_line-width_at-requires : goal.put_line-width_at-requires
put_line-width_at-requires c = let a = c.args.results in
    omega (arith, line-length room_key a.room, line-ends status_key 0 c.put_line-nodes_at.ensures, line-ends nodes_key a.nodes c.put_line-heavy_at.ensures, line-ends heavy_key a.heavy c.put_line-room_at.ensures)

pub put_line-rows_at-requires : goal.put_line-rows_at-requires
put_line-rows_at-requires c = let a = c.args.results in
    omega (
      arith,
      line-length width_key a.width,
      line-ends status_key 0 c.put_line-nodes_at.ensures,
      line-ends nodes_key a.nodes c.put_line-heavy_at.ensures,
      line-ends heavy_key a.heavy c.put_line-room_at.ensures,
      line-ends room_key a.room c.put_line-width_at.ensures,
    )

pub put_line-requires : goal.put_line-requires
put_line-requires c = let a = c.args.results in
    omega (
      arith,
      line-length rows_key a.rows,
      line-ends status_key 0 c.put_line-nodes_at.ensures,
      line-ends nodes_key a.nodes c.put_line-heavy_at.ensures,
      line-ends heavy_key a.heavy c.put_line-room_at.ensures,
      line-ends room_key a.room c.put_line-width_at.ensures,
      line-ends width_key a.width c.put_line-rows_at.ensures,
    )

pub returns : goal.returns
unfolding head_text
returns c = put_then (put_then (put_then (put_then (put_then c.put_line-nodes_at.ensures c.put_line-heavy_at.ensures) c.put_line-room_at.ensures) c.put_line-width_at.ensures) c.put_line-rows_at.ensures) c.put_line.ensures
