use native.Mathlib.Omega.{arith}
use Rattle.listing.specs.Listing.{status_key, place_key, refusal_text}
use Rattle.lines.proofs.Stores.{put_then}
use Rattle.listing.proofs.Lengths.{line-length, line-ends}
use Rattle.listing.proofs.put_refusal.Goals as goal

pub put_line-place_at-requires : goal.put_line-place_at-requires
put_line-place_at-requires c = omega (arith, line-length status_key c.args.refusal.status)

pub put_line-requires : goal.put_line-requires
put_line-requires c = omega (arith, line-length place_key c.args.refusal.place, line-ends status_key c.args.refusal.status c.put_line-place_at.ensures)

pub returns : goal.returns
unfolding refusal_text
returns c = put_then c.put_line-place_at.ensures c.put_line.ensures
