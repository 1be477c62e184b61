-- What a caller learns of the numbers that `read` hands back: the parts of the buffers that a bundle's name are there, so that they can be lent, and a wrong
-- line is a small number. Assumes nothing.
use Prim.Native.Nat.{ℕ, ◌≤◌}
use mathlib.Core.Path.{◌≡◌, sym, ap, subst, ◌∙◌}
use mathlib.Core.List.{List}
use native.Mathlib.Omega.{arith}
use Rattle.bundles.specs.ReadCall.{ReadNumbers, ReadOutcome, read_outcome}
use Rattle.bundle_reading.specs.ReadAnswer.{read_numbers}
use Rattle.std.specs.Prelude.{Result, Ok, Err}
use Rattle.bundle_reading.specs.declared.Bundle.{Bundle}
use Rattle.bundle_reading.specs.declared.ReadRefusal.{ReadRefusal}
use Rattle.bundles.proofs.Rooms.{PartsThere, PartsOf, accepted_parts}
use Rattle.bundles.proofs.LineNumbers.{line_limit, place-within}

-- `read` answered with a bundle
pub bundle_parts : (text catalogue tables question : List ℕ) {after : ReadOutcome} {answer : Result Bundle ReadRefusal} {bundle : Bundle}
    → after ≡ read_outcome text catalogue tables question → after.numbers ≡ read_numbers answer → answer ≡ Ok bundle
    → PartsThere bundle.pairs bundle.words bundle.nodes after.catalogue after.tables after.question
bundle_parts text catalogue tables question {after} {answer} {bundle} e f g =
    let numbers : after.numbers ≡ read_numbers (Ok bundle) = f ∙ ap read_numbers g in
    let accepted : (read_outcome text catalogue tables question).numbers.status ≡ 0 =
    ap (λ (o : ReadOutcome). o.numbers.status) (sym e) ∙ ap (λ (n : ReadNumbers). n.status) numbers
    in
    let parts : PartsOf after = subst PartsOf (sym e) (accepted_parts text catalogue tables question accepted) in
    rw (
      ap (λ (n : ReadNumbers). n.pairs) numbers,
      ap (λ (n : ReadNumbers). n.words) numbers,
      ap (λ (n : ReadNumbers). n.nodes) numbers,
    ) at parts

-- `read` refused
pub place-within-answer : (text catalogue tables question : List ℕ) {after : ReadOutcome} {answer : Result Bundle ReadRefusal} {refusal : ReadRefusal}
    → after ≡ read_outcome text catalogue tables question → after.numbers ≡ read_numbers answer → answer ≡ Err refusal → (read_numbers (Err refusal)).place ≤ line_limit
place-within-answer text catalogue tables question {after} {answer} {refusal} e f g =
    let place : (read_outcome text catalogue tables question).numbers.place ≡ (read_numbers (Err refusal)).place =
    ap (λ (n : ReadNumbers). n.place) (ap (λ (o : ReadOutcome). o.numbers) (sym e) ∙ f ∙ ap read_numbers g)
    in
    omega (arith, place-within text catalogue tables question, place)
