use Rattle.std.proofs.lemmas.List.{drop_min, take_all, length-drop}
use Rattle.lines.proofs.ReadingSteps.{begins_is}
use lib.ListN.{length, drop}
use Prim.Native.Nat.{◌-◌}
use mathlib.Core.Path.{◌∙◌}
use native.Mathlib.Omega.{arith}
use Rattle.lines.proofs.reading.begins_with.Goals as goal

pub returns : goal.returns
returns c =
    c.starts_with.ensures.value
    ∙ rw (take_all (length c.args.text.now - c.min.result) (drop c.min.result c.args.text.now) (omega (arith, length-drop c.min.result c.args.text.now)), c.min.ensures, drop_min, begins_is)
