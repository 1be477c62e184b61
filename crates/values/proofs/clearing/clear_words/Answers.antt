use mathlib.Core.Path.{ap, ◌∙◌}
use Prim.Native.Nat.{◌-◌}
use native.Mathlib.Omega.{arith}
use lib.ListN.{replicate, length-replicate}
use Rattle.values.proofs.WordLaws.{put_mid-sets, length_part}
use Rattle.values.proofs.clearing.clear_words.Goals as goal

pub returns : goal.returns
returns c = let s = c.args in let n = s.to - s.from in
    put_mid-sets s.work.now (replicate n 0) s.from n (c.fill.ensures.after (λ y e. e) ∙ ap (λ k. replicate k 0) (length_part s.from n s.work.now (omega arith))) (length-replicate n 0) (omega arith)
