-- What `write` hands back is within the buffer (`bytes-within`), so the part that it names can be written.
use Rattle.bundle_writing.proofs.Rooms.{bytes-within}
use lib.ListN.{length-take}
use mathlib.Core.Path.{refl}
use native.Mathlib.Omega.{arith}
use Rattle.text_main.proofs.write_back.Goals as goal

pub slice_bounds-text-end : goal.slice_bounds-text-end
slice_bounds-text-end c = omega (arith, bytes-within _ _ _ _ _ c.write.ensures refl c.in-Ok.is, c.write.auto.text)

pub slice_bounds-write_all-end : goal.slice_bounds-write_all-end
slice_bounds-write_all-end c = omega (arith, bytes-within _ _ _ _ _ c.write.ensures refl c.in-Ok.is, c.write.auto.text, length-take c.in-Ok.bytes c.write.new.text)
