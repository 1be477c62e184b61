use native.Mathlib.Omega.{arith}
use lib.ListN.{length-take}
use Rattle.listing.proofs.Lengths.{refusal_ends}
use Rattle.desk_main.proofs.print_refusal.Goals as goal

pub slice_bounds-text-end : goal.slice_bounds-text-end
slice_bounds-text-end c = omega (arith, refusal_ends _ _ c.put_refusal-bytes.ensures, c.put_refusal-bytes.auto.text)

pub slice_bounds-print-end : goal.slice_bounds-print-end
slice_bounds-print-end c = omega (arith, refusal_ends _ _ c.put_refusal-bytes.ensures, c.put_refusal-bytes.auto.text, length-take c.put_refusal-bytes.result c.put_refusal-bytes.new.text)
