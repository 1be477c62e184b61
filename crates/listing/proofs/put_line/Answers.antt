use native.Mathlib.Omega.{arith}
use Rattle.lines.specs.Writing.{numbers_text}
use Rattle.lines.proofs.Stores.{put_then}
use Rattle.listing.proofs.Lengths.{line_parts}
use Rattle.listing.proofs.put_line.Goals as goal

-- `listing::put_line` meets its contract: the key, the digits and the line feed are put one behind another, and they are the line.
-- Assumes nothing.
pub put_bytes-number_at-requires : goal.put_bytes-number_at-requires
put_bytes-number_at-requires c = omega (arith, line_parts c.args.key.now c.args.number, c.requires)

pub put_number-end-requires : goal.put_number-end-requires
put_number-end-requires c = omega (arith, line_parts c.args.key.now c.args.number, c.requires, c.put_bytes-number_at.ensures.end_at)

pub put_bytes-requires : goal.put_bytes-requires
put_bytes-requires c = omega (arith, line_parts c.args.key.now c.args.number, c.requires, c.put_bytes-number_at.ensures.end_at, c.put_number-end.ensures.end_at)

pub returns : goal.returns
unfolding numbers_text
returns c = put_then c.put_bytes-number_at.ensures (put_then c.put_number-end.ensures c.put_bytes.ensures)
