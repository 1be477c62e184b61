-- What the answers of the code's inner steps say of a text: positions stand for the bytes from there on. Each leaves one outcome,
-- also of a wrong line, and where a reader is lent, one place at which it stands (proofs/Once.antt). Assumes nothing.
use Rattle.std.specs.Prelude.{ℕ, ◌+◌, ◌≤◌, ◌≡◌, List, length, drop, Option, Some, None, Result, Ok, Err}
use Rattle.std.proofs.lemmas.List.Edits.{sets}
use Rattle.lines.specs.Reading.{value, no_number, Next, goes_on, wrong_at, Read}
use Rattle.lines.specs.declared.reader.Reader.{Reader}
use Rattle.lines.specs.declared.reader.WrongLine.{WrongLine}
use Rattle.lines.specs.Reading as reads

module _ (text : List ℕ) where
  -- a number: the position behind it stands for the bytes there, and lies in the text, at `from` or later
  abbrev pub number_in : Option (ℕ × ℕ) → reads.Number
  number_in (Some (n, next)) = value n (drop next text)
  number_in None = no_number

  abbrev pub Behind : ℕ → Option (ℕ × ℕ) → Type 0
  Behind from (Some (n, next)) = (from ≤ next) × (next ≤ length text)
  Behind from None = Unit {0}

  pub record NumberRead (from : ℕ) (found : reads.Number) (answer : Option (ℕ × ℕ)) : Type 0 where
    pub means : found ≡ number_in answer
    pub behind : Behind from answer

-- lines: a reader stands at its line, whose bytes are those from its position on
abbrev pub standing : {T : Type 0} → Reader → Result T WrongLine → Next
standing reader (Ok done) = goes_on reader.line (drop reader.at reader.text.now)
standing reader (Err wrong) = wrong_at wrong.0

-- a reader that passed a line stands behind it, in the same text, at the next line
pub record GoneOn (start : Reader) (next : ℕ) (stop : Reader) : Type 0 where
  pub at : stop.at ≡ next
  pub line : stop.line ≡ start.line + 1
  pub text : stop.text.now ≡ start.text.now

-- where a line is wrong, the reader stands where it stood
abbrev pub Stays : {T : Type 0} → (start stop : Reader) → Result T WrongLine → Type 0
Stays start stop (Ok done) = Unit {0}
Stays start stop (Err wrong) = (stop.at ≡ start.at) × (stop.line ≡ start.line)

-- the words that a reading met are kept from `to` on, and the reader stands behind what was read, or where it stood, in the same text
pub record LinesRead {T : Type 0} (start : Reader) (found : Read) (to : ℕ) (before after : List ℕ) (stop : Reader) (answer : Result T WrongLine) : Type 0 where
  pub means : found.next ≡ standing stop answer
  pub stays : Stays start stop answer
  pub text : stop.text.now ≡ start.text.now
  pub words : after ≡ sets before to found.words
