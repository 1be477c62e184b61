-- What a caller learns of the bytes that an accepted call of `write` hands back: they are within its buffer, so that they can be lent. Assumes nothing.
use Prim.Native.Nat.{ℕ, ◌≤◌}
use mathlib.Core.Path.{◌≡◌, sym, ap, ◌∙◌}
use mathlib.Core.List.{List}
use native.Mathlib.Omega.{arith}
use lib.ListN.{length}
use Rattle.bundles.specs.WriteCall.{WriteOutcome, write_outcome}
use Rattle.bundle_writing.specs.WriteAnswer.{write_numbers}
use Rattle.std.specs.Prelude.{Result, Ok}
use Rattle.bundle_writing.specs.declared.WriteRefusal.{WriteRefusal}
use Rattle.bundles.proofs.RoundTrip.{write_accepts, write_accepted}

-- `write` answered with its bytes
pub bytes-within : (mode : ℕ) (catalogue tables nodes text : List ℕ) {after : WriteOutcome} {answer : Result ℕ WriteRefusal} {bytes : ℕ}
    → after ≡ write_outcome mode catalogue tables nodes text → after.numbers ≡ write_numbers answer → answer ≡ Ok bytes → bytes ≤ length text
bytes-within mode catalogue tables nodes text {after} {answer} {bytes} e f g =
    let numbers : (write_outcome mode catalogue tables nodes text).numbers ≡ write_numbers (Ok bytes) =
    ap (λ (o : WriteOutcome). o.numbers) (sym e) ∙ f ∙ ap write_numbers g
    in
    let ok = write_accepted mode catalogue tables nodes text (ap (λ n. n.status) numbers) in
    let made = ap (λ (o : WriteOutcome). o.numbers.bytes) (write_accepts mode catalogue tables nodes text ok.tables_ok_lem ok.nodes_ok_lem ok.short ok.room) in
    omega (arith, ok.room, made, ap (λ n. n.bytes) numbers)
