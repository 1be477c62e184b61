-- Document 01, "Bundle text and the program": what numbers and lines read as, from a text's front. Assumes nothing.
-- A reading lists the words that it met, and says where it stands: at a line whose bytes are still to come, or at the first wrong line.
-- So "something missing at the end" is a line whose bytes are [], and an "unended line" one whose LF is not among them: each is wrong at its own number.
use Rattle.std.specs.Prelude.{ℕ, zero, suc, ◌+◌, ◌-◌, ◌*◌, List, [], ◌∷◌, ◌++◌, Bool, true, false, cond, ◌&&◌, length, drop, leb, eqb}
use Rattle.relations.specs.Limits.{greatest_number}
use Rattle.lines.specs.Marks.{zero_digit, digit, separator}

-- Numbers: a number and the bytes behind it.
pub data Number : Type 0 where
  value : ℕ → List ℕ → Number
  no_number : Number

unfoldable pub more_digits : ℕ → List ℕ → Number
more_digits n [] = value n []
more_digits n (byte ∷ bytes) =
    cond (digit byte)
    (cond (leb (n * 10 + (byte - zero_digit)) greatest_number) (more_digits (n * 10 + (byte - zero_digit)) bytes) no_number)
    (value n (byte ∷ bytes))

-- "decimal, no leading zeros": behind a 0 no digit is read, and so none may stand there
unfoldable pub number : List ℕ → Number
number [] = no_number
number (byte ∷ bytes) =
    cond (eqb byte zero_digit) (value 0 bytes) (cond (digit byte) (more_digits (byte - zero_digit) bytes) no_number)

-- a number that must have the byte `end` behind it
abbrev pub ended_by : ℕ → Number → Number
ended_by end (value n []) = no_number
ended_by end (value n (byte ∷ bytes)) = cond (eqb byte end) (value n bytes) no_number
ended_by end no_number = no_number

abbrev pub number_then : ℕ → List ℕ → Number
number_then end bytes = ended_by end (number bytes)

-- Lines.
pub data Next : Type 0 where
  goes_on : (line : ℕ) → List ℕ → Next
  wrong_at : (line : ℕ) → Next

pub record Read : Type 0 where
  pub words : List ℕ
  pub next : Next

abbrev pub nothing : Next → Read
nothing next = record { words = []; next = next }

abbrev pub words_then : List ℕ → Next → (ℕ → List ℕ → Read) → Read
words_then words (goes_on line bytes) more = record { words = words ++ (more line bytes).words; next = (more line bytes).next }
words_then words (wrong_at line) more = record { words = words; next = wrong_at line }

abbrev pub and_then : Read → (ℕ → List ℕ → Read) → Read
and_then first more = words_then first.words first.next more

abbrev pub or_wrong : ℕ → Number → (ℕ → List ℕ → Read) → Read
or_wrong line (value n bytes) more = record { words = n ∷ (more n bytes).words; next = (more n bytes).next }
or_wrong line no_number more = nothing (wrong_at line)

-- the rest of a line: `count` numbers, "one space between", and LF
unfoldable pub numbers : (count line : ℕ) → List ℕ → Read
numbers zero line bytes = nothing (goes_on (line + 1) bytes)
numbers (suc more) line bytes = or_wrong line (number_then (separator more) bytes) (λ n rest. numbers more line rest)

unfoldable pub begins : (key bytes : List ℕ) → Bool
begins [] bytes = true
begins (k ∷ key) [] = false
begins (k ∷ key) (byte ∷ bytes) = eqb byte k && begins key bytes

-- "key=value lines": one line, and `count` lines of `width` numbers each
unfoldable pub keyed_line : (key : List ℕ) (count line : ℕ) → List ℕ → Read
keyed_line key count line bytes = cond (begins key bytes) (numbers count line (drop (length key) bytes)) (nothing (wrong_at line))

unfoldable pub keyed_lines : (key : List ℕ) (width count line : ℕ) → List ℕ → Read
keyed_lines key width zero line bytes = nothing (goes_on line bytes)
keyed_lines key width (suc more) line bytes = and_then (keyed_line key width line bytes) (λ after rest. keyed_lines key width more after rest)
