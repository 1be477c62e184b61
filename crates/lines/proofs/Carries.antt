-- The invariant of every loop that reads lines into a buffer: where the whole reading ends, and what it leaves in the buffer,
-- is what the reading of the rest gives from here. Assumes nothing.
use mathlib.Core.Path.{◌≡◌, refl, sym, ap, ◌∙◌}
use Prim.Native.Nat.{ℕ, ◌+◌}
use mathlib.Core.List.{List}
use native.Mathlib.Omega.{arith}
use native.Mathlib.Numerals.{add-one}
use lib.ListN.{length, drop, set, length-append}
use lib.Seq.{sets}
use Rattle.lines.specs.Reading.{Read, Next, goes_on, wrong_at, nothing, value, or_wrong, and_then, words_then}
use Rattle.lines.specs.Answers.{standing, LinesRead}
use Rattle.relations.proofs.StoreLaws.{sets-append}
use Rattle.lines.specs.declared.reader.Reader.{Reader}
use Rattle.lines.specs.declared.reader.WrongLine.{WrongLine}
use Rattle.std.specs.Prelude.{Result, Ok, Err}
use Rattle.lines.specs.Reading as reads

pub record Carries (whole rest : Read) (to place : ℕ) (before now : List ℕ) : Type 0 where
  pub ends : whole.next ≡ rest.next
  pub leaves : sets before to whole.words ≡ sets now place rest.words
  pub counts : place + length rest.words ≡ to + length whole.words

pub carries_start : (whole : Read) (to : ℕ) (before : List ℕ) → Carries whole whole to to before before
carries_start whole to before = record { ends = refl; leaves = refl; counts = refl }

module _ {whole rest : Read} {to place : ℕ} {before now : List ℕ} (carried : Carries whole rest to place before now) where
  pub carries_by : {other : Read} → rest ≡ other → Carries whole other to place before now
  carries_by e = rw e at carried

  -- the reading ends here, behind what was read or at a wrong line, where the reader stays that began
  pub carries_done : {T : Type 0} {value : T} {start : Reader} (stop : Reader) → rest ≡ nothing (goes_on stop.line (drop stop.at stop.text.now)) → stop.text.now ≡ start.text.now → LinesRead start whole to before now stop (Ok value)
  carries_done stop e t =
      record { means = carried.ends ∙ ap (λ (r : Read). r.next) e; stays = tt; text = t; words = sym (carried.leaves ∙ ap (λ (r : Read). sets now place r.words) e) }

  pub carries_wrong : {T : Type 0} {start : Reader} {line : WrongLine} → rest ≡ nothing (wrong_at line.0) → LinesRead {T = T} start whole to before now start (Err line)
  carries_wrong e =
      record { means = carried.ends ∙ ap (λ (r : Read). r.next) e; stays = (refl, refl); text = refl; words = sym (carried.leaves ∙ ap (λ (r : Read). sets now place r.words) e) }

  -- a number was read and kept
  pub carries_number : {n : ℕ} {bytes after : List ℕ} {found : reads.Number} (line : ℕ) (more : ℕ → List ℕ → Read) → rest ≡ or_wrong line found more → found ≡ value n bytes → after ≡ set now place n
      → Carries whole (more n bytes) to (place + 1) before after
  carries_number {n} {bytes} line more e f k =
      let r : rest ≡ or_wrong line (value n bytes) more = e ∙ ap (λ x. or_wrong line x more) f in
      record {
        ends = carried.ends ∙ ap (λ (x : Read). x.next) r;
        leaves = carried.leaves ∙ ap (λ (x : Read). sets now place x.words) r ∙ rw (add-one, k);
        counts = omega (arith, carried.counts, ap (λ (x : Read). length x.words) r);
      }

  -- lines were read, and their words kept
  pub carries_lines : {here stop : Reader} {after : List ℕ} {first : Read} {answer : Result Unit WrongLine} (width : ℕ) (more : ℕ → List ℕ → Read)
      → rest ≡ and_then first more → LinesRead here first place now after stop answer → answer ≡ Ok tt → length first.words ≡ width
      → Carries whole (more stop.line (drop stop.at stop.text.now)) to (place + width) before after
  carries_lines {stop = stop} {after} {first} width more e read a w =
      let n : first.next ≡ goes_on stop.line (drop stop.at stop.text.now) = read.means ∙ ap (standing stop) a in
      let r : rest ≡ words_then first.words (goes_on stop.line (drop stop.at stop.text.now)) more = e ∙ ap (λ (x : Next). words_then first.words x more) n in
      record {
        ends = carried.ends ∙ ap (λ (x : Read). x.next) r;
        leaves = carried.leaves ∙ ap (λ (x : Read). sets now place x.words) r
            ∙ sets-append now place first.words (more stop.line (drop stop.at stop.text.now)).words ∙ rw (w, read.words);
        counts = omega (arith, carried.counts, ap (λ (x : Read). length x.words) r, length-append first.words (more stop.line (drop stop.at stop.text.now)).words);
      }

  -- or a line of them is wrong
  pub carries_off : {T : Type 0} {start here stop : Reader} {after : List ℕ} {first : Read} {answer : Result Unit WrongLine} {line : WrongLine} (more : ℕ → List ℕ → Read)
      → rest ≡ and_then first more → LinesRead here first place now after stop answer → answer ≡ Err line → LinesRead {T = T} start whole to before after start (Err line)
  carries_off {stop = stop} {first = first} {line = line} more e read a =
      let n : first.next ≡ wrong_at line.0 = read.means ∙ ap (standing stop) a in
      let r : rest ≡ words_then first.words (wrong_at line.0) more = e ∙ ap (λ (x : Next). words_then first.words x more) n in
      record {
        means = carried.ends ∙ ap (λ (x : Read). x.next) r;
        stays = (refl, refl);
        text = refl;
        words = sym (carried.leaves ∙ ap (λ (x : Read). sets now place x.words) r ∙ sym read.words);
      }
