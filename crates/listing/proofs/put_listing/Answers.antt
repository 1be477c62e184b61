use native.Mathlib.Omega.{arith}
use Rattle.listing.specs.Listing.{listing_text}
use Rattle.lines.proofs.Stores.{put_then}
use Rattle.listing.proofs.Lengths.{rows_reach}
use Rattle.listing.proofs.put_listing.Goals as goal

pub put_lines-requires : goal.put_lines-requires
put_lines-requires c = let a = c.args.results in (omega (arith, c.requires.there), rows_reach a.nodes a.heavy a.room a.width a.rows c.args.words.now c.requires c.put_head-words_at.ensures)

pub returns : goal.returns
unfolding listing_text
returns c = put_then c.put_head-words_at.ensures c.put_lines.ensures
