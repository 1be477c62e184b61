-- The parts of the buffers that `read` names are there (`bundle_parts`), and a refusal's place is a small number (`place-within-answer`), which a word holds.
use mathlib.Core.Path.{refl}
use native.Mathlib.Omega.{arith}
use Rattle.bundles.proofs.Rooms.{pairs_long, words_long, nodes_long}
use Rattle.lines.proofs.Answered.{passed_on}
use Rattle.bundle_reading.proofs.Rooms.{bundle_parts, place-within-answer}
use Rattle.standard_input.specs.declared.InputError.TheVariants.{Refused}
use Rattle.standard_input.proofs.read_bundle.Goals as goal

pub returns-in_err-bundle : goal.returns-in_err-bundle
returns-in_err-bundle g c =
    rw (passed_on c.from_residual-in_err-bundle.result (Refused c.in_err-bundle.field-0.0) c.from_residual-in_err-bundle.ensures)
    (omega (arith, place-within-answer _ _ _ _ c.read.ensures refl c.in_err-bundle.was))

pub overflow_mul-result : goal.overflow_mul-result
overflow_mul-result g c = omega (arith, (bundle_parts _ _ _ _ c.read.ensures refl c.in_ok-bundle.was).pairs-there, c.read.auto.catalogue)

pub overflow_mul-result-2 : goal.overflow_mul-result-2
overflow_mul-result-2 g c = omega (arith, (bundle_parts _ _ _ _ c.read.ensures refl c.in_ok-bundle.was).nodes-there, c.read.auto.question)

pub returns : goal.returns
returns g c = let p = bundle_parts _ _ _ _ c.read.ensures refl c.in_ok-bundle.was in ((p.pairs-there, pairs_long p), (p.words-there, words_long p), (p.nodes-there, nodes_long p))
