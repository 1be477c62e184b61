use mathlib.Core.Path.{refl}
use native.Mathlib.Omega.{arith}
use Rattle.desk.proofs.AnswerSize.{answer-size}
use Rattle.desk_main.proofs.print_answer.Goals as goal

pub print_listing-requires : goal.print_listing-requires
print_listing-requires c = let size = answer-size _ _ _ _ _ _ _ c.answer.ensures refl c.in-Ok.is in
    let kept = c.answer.auto.output in
    record { some = size.0; there = omega (arith, size.1, kept); few = omega (arith, kept) }
