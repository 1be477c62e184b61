-- Runs of stores, one behind another: what a writer has still to put when a part of its bytes stands. Assumes nothing.
use Prim.Native.Nat.{ℕ, ◌+◌, ◌≤◌}
use mathlib.Core.Path.{◌≡◌, refl, sym, ap, ◌∙◌}
use mathlib.Core.List.{List, [], ◌∷◌, ◌++◌}
use native.Mathlib.Omega.{arith}
use native.Mathlib.Numerals.{add-one}
use lib.ListN.{length, set, length-append}
use lib.Seq.{sets}
use Rattle.relations.proofs.StoreLaws.{sets-append}
use Rattle.lines.specs.Put.{Put}

-- Of `bytes`, to be put into `before` from `at` on, there are still `rest` to be put into `now` from `next` on.
pub record StillToPut (at : ℕ) (bytes before : List ℕ) (next : ℕ) (rest now : List ℕ) : Type 0 where
  pub ends : at + length bytes ≡ next + length rest
  pub stores : sets before at bytes ≡ sets now next rest

pub put_start : (at : ℕ) (bytes before : List ℕ) → StillToPut at bytes before at bytes before
put_start at bytes before = record { ends = refl; stores = refl }

pub put_on : {at : ℕ} {bytes before : List ℕ} {next : ℕ} {rest now : List ℕ} {behind : ℕ} (some more : List ℕ) {after : List ℕ}
    → StillToPut at bytes before next rest now → rest ≡ some ++ more → Put next some now after behind → StillToPut at bytes before behind more after
put_on {next = next} {now = now} some more s e p = record {
  ends = omega (arith, s.ends, ap length e, length-append some more, p.end_at);
  stores = s.stores ∙ ap (sets now next) e ∙ sets-append now next some more ∙ rw (p.stored, p.end_at);
}

pub put_byte : {at : ℕ} {bytes before : List ℕ} {next : ℕ} {rest now : List ℕ} (byte : ℕ) (more : List ℕ) {after : List ℕ}
    → StillToPut at bytes before next rest now → rest ≡ byte ∷ more → after ≡ set now next byte → StillToPut at bytes before (next + 1) more after
put_byte {next = next} {now = now} byte more s e p = record {
  ends = omega (arith, s.ends, ap length e);
  stores = s.stores ∙ ap (sets now next) e ∙ rw (p, add-one);
}

pub put_end : {at : ℕ} {bytes before : List ℕ} {next : ℕ} {rest now : List ℕ} → StillToPut at bytes before next rest now → rest ≡ [] → Put at bytes before now next
put_end {next = next} {now = now} s e = record {
  end_at = omega (arith, s.ends, ap length e);
  stored = sym (s.stores ∙ ap (sets now next) e);
}

-- a room for all the bytes is one for those that come next
pub put_fits : {at : ℕ} {bytes before : List ℕ} {next : ℕ} {rest now : List ℕ} (some more : List ℕ) (room : ℕ)
    → StillToPut at bytes before next rest now → rest ≡ some ++ more → at + length bytes ≤ room → next + length some ≤ room
put_fits some more room s e h = omega (arith, s.ends, ap length e, length-append some more)

-- the last of several writers, one behind another
pub put_last : {at : ℕ} {bytes before : List ℕ} {next : ℕ} {rest now after : List ℕ} {end : ℕ}
    → StillToPut at bytes before next rest now → Put next rest now after end → Put at bytes before after end
put_last s p = record { end_at = omega (arith, s.ends, p.end_at); stored = p.stored ∙ sym s.stores }

-- two writers, one behind the other, put the first one's bytes and then the second one's
pub put_then : {at between end : ℕ} {first second before middle after : List ℕ}
    → Put at first before middle between → Put between second middle after end → Put at (first ++ second) before after end
put_then {at} {first = first} {second = second} {before = before} p q = record {
  end_at = omega (arith, p.end_at, q.end_at, length-append first second);
  stored = q.stored ∙ rw (p.stored, p.end_at) (sym (sets-append before at first second));
}
