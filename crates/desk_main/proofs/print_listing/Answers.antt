use native.Mathlib.Omega.{arith}
use lib.ListN.{length-take}
use Rattle.listing.proofs.Lengths.{listing_ends}
use Rattle.desk_main.proofs.print_listing.Goals as goal

pub slice_bounds-text-end : goal.slice_bounds-text-end
slice_bounds-text-end c = omega (arith, listing_ends _ _ _ _ _ _ c.requires c.put_listing-bytes.ensures, c.put_listing-bytes.auto.text)

pub slice_bounds-print-end : goal.slice_bounds-print-end
slice_bounds-print-end c = omega (arith, listing_ends _ _ _ _ _ _ c.requires c.put_listing-bytes.ensures, c.put_listing-bytes.auto.text, length-take c.put_listing-bytes.result c.put_listing-bytes.new.text)
