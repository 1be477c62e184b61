-- Each relation that serves as a contract leaves one outcome: one answer, one later list in each buffer, and one place at which a
-- reader stands. Assumes nothing.
use mathlib.Core.Path.{◌≡◌, refl, sym, ap, ◌∙◌}
use Prim.Native.Nat.{ℕ, ◌≤◌}
use mathlib.Core.List.{List}
use native.Mathlib.Omega.{arith}
use lib.ListN.{length, drop, length-drop}
use Rattle.lines.specs.Reading.{Next, Read, goes_on}
use Rattle.lines.specs.Answers.{number_in, Behind, NumberRead, standing, Stays, LinesRead}
use Rattle.lines.specs.Put.{Put}
use Rattle.lines.specs.declared.reader.Reader.{Reader}
use Rattle.lines.specs.declared.reader.WrongLine.{WrongLine}
use Rattle.std.specs.Prelude.{Option, Some, None, Result, Ok, Err}
use Rattle.lines.specs.Reading as reads

-- a position inside a text is known by the bytes from there on
one_position : (text : List ℕ) (one other : ℕ) → one ≤ length text → other ≤ length text → drop one text ≡ drop other text → one ≡ other
one_position text one other h k e = omega (arith, length-drop one text, length-drop other text, ap (λ (bytes : List ℕ). length bytes) e)

one_number : (text : List ℕ) (from : ℕ) (one other : Option (ℕ × ℕ)) → Behind text from one → Behind text from other → number_in text one ≡ number_in text other → one ≡ other
one_number text from (Some (m, p)) (Some (n, q)) b d e =
    let number : m ≡ n = cc in
    let rest : drop p text ≡ drop q text = cc in
    rw (number, one_position text p q b.1 d.1 rest)
one_number text from (Some (m, p)) None b d e = let z : ◌≡◌ {A = ℕ} 0 1 = cc in absurd (omega arith)
one_number text from None (Some (n, q)) b d e = let z : ◌≡◌ {A = ℕ} 0 1 = cc in absurd (omega arith)
one_number text from None None b d e = refl

pub one_answer : {T : Type 0} (here there : Reader) (one other : Result T WrongLine) → ((value alike : T) → one ≡ Ok value → other ≡ Ok alike → value ≡ alike) → standing here one ≡ standing there other → one ≡ other
one_answer here there (Ok value) (Ok alike) same e = ap Ok (same value alike refl refl)
one_answer here there (Ok value) (Err n) same e = let z : ◌≡◌ {A = ℕ} 0 1 = cc in absurd (omega arith)
one_answer here there (Err m) (Ok value) same e = let z : ◌≡◌ {A = ℕ} 0 1 = cc in absurd (omega arith)
one_answer here there (Err m) (Err n) same e = let line : m.0 ≡ n.0 = cc in ap (λ (l : ℕ). Err (record { 0 = l })) line

-- readers of one text that stand at one line of the same bytes are at one position
pub record SameStop (here there : Reader) : Type 0 where
  pub at : here.at ≡ there.at
  pub line : here.line ≡ there.line
  pub text : here.text.now ≡ there.text.now

pub one_stop : (here there : Reader) → here.text.now ≡ there.text.now → goes_on here.line (drop here.at here.text.now) ≡ goes_on there.line (drop there.at there.text.now) → SameStop here there
one_stop here there t e =
    let line : here.line ≡ there.line = cc in
    let rest : drop here.at here.text.now ≡ drop there.at there.text.now = cc in
    record { at = one_position here.text.now here.at there.at here.placed.0 (rw t there.placed.0) (rest ∙ rw t); line = line; text = t }

pub number-once : {text : List ℕ} {from : ℕ} {found : reads.Number} {one other : Option (ℕ × ℕ)} → NumberRead text from found one → NumberRead text from found other → one ≡ other
number-once {text} {from} {one = one} {other = other} a b = one_number text from one other a.behind b.behind (sym a.means ∙ b.means)

-- behind what was read, or where they began
pub stops-once : {T : Type 0} (start here there : Reader) {next : Next} {one other : Result T WrongLine} → next ≡ standing here one → next ≡ standing there other → one ≡ other
    → here.text.now ≡ there.text.now → Stays start here one → Stays start there other → SameStop here there
stops-once {T} start here there {next} {one} {other} m n same t s z = go one m s (sym same)
  where
    go : (answer : Result T WrongLine) → next ≡ standing here answer → Stays start here answer → other ≡ answer → SameStop here there
    go (Ok value) m s e = one_stop here there t (sym m ∙ n ∙ ap (standing there) e)
    go (Err wrong) m s e = let stayed : Stays {T = T} start there (Err wrong) = rw e at z in record { at = s.0 ∙ sym stayed.0; line = s.1 ∙ sym stayed.1; text = t }

pub lines-once : {start stop₁ stop₂ : Reader} {before after₁ after₂ : List ℕ} {found : Read} {to : ℕ} {one other : Result Unit WrongLine}
    → LinesRead start found to before after₁ stop₁ one → LinesRead start found to before after₂ stop₂ other
    → (one ≡ other) × (after₁ ≡ after₂) × SameStop stop₁ stop₂
lines-once {start} {stop₁} {stop₂} {one = one} {other = other} a b =
    let same : one ≡ other = one_answer stop₁ stop₂ one other (λ value alike e f. refl) (sym a.means ∙ b.means) in
    (same, a.words ∙ sym b.words, stops-once start stop₁ stop₂ a.means b.means same (a.text ∙ sym b.text) a.stays b.stays)

pub put_once : {at end₁ end₂ : ℕ} {bytes before after₁ after₂ : List ℕ} → Put at bytes before after₁ end₁ → Put at bytes before after₂ end₂ → (end₁ ≡ end₂) × (after₁ ≡ after₂)
put_once a b = (a.end_at ∙ sym b.end_at, a.stored ∙ sym b.stored)
