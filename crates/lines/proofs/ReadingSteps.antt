-- One step of each reading, at a position of the text: what the loops of the code follow. Assumes nothing.
use mathlib.Core.Path.{◌≡◌, refl, ◌∙◌}
use Prim.Native.Nat.{ℕ, suc, zero, ◌+◌, ◌-◌, ◌*◌, ◌<◌, ◌≤◌}
use mathlib.Core.List.{List, [], ◌∷◌}
use mathlib.Core.Bool.{true, false, cond, false≢true}
use native.Mathlib.Omega.{arith}
use native.Mathlib.Numerals.{add-one}
use lib.Dec.{leb, eqb}
use lib.ListN.{length, get_or, drop, drop_of_length-le}
use lib.Seq.{drop-cons, drop-drop}
use Rattle.std.specs.List.{starts_with}
use Rattle.relations.proofs.ComparisonLaws.{eqb_symmetric}
use Rattle.relations.specs.Limits.{greatest_number}
use Rattle.lines.specs.Marks.{zero_digit, digit, separator}
use Rattle.relations.proofs.BoolLaws.{and_right}
use Rattle.lines.specs.Reading.{value, no_number, more_digits, number, number_then, begins, nothing, goes_on, wrong_at, or_wrong, numbers, and_then, keyed_line, keyed_lines}

-- the byte at a position, and the bytes behind it
pub at_byte : (text : List ℕ) (i : ℕ) → i < length text → drop i text ≡ get_or text i 0 ∷ drop (i + 1) text
at_byte text i h = drop-cons text i 0 h ∙ rw add-one

-- whether a key begins there, as the library's `starts_with` tests it
pub begins_is : (key bytes : List ℕ) → begins key bytes ≡ starts_with eqb bytes key
unfolding begins
begins_is [] bytes = refl
begins_is (k ∷ key) [] = refl
begins_is (k ∷ key) (byte ∷ bytes) = rw (eqb_symmetric byte k, begins_is key bytes)

pub digits_step : (n : ℕ) (text : List ℕ) (i : ℕ) → i < length text
    → more_digits n (drop i text) ≡ cond (digit (get_or text i 0))
    (cond (leb (n * 10 + (get_or text i 0 - zero_digit)) greatest_number) (more_digits (n * 10 + (get_or text i 0 - zero_digit)) (drop (i + 1) text)) no_number)
    (value n (drop i text))
unfolding more_digits
digits_step n text i h = rw (at_byte text i h)

pub digits-done : (n : ℕ) (text : List ℕ) (i : ℕ) → length text ≤ i → more_digits n (drop i text) ≡ value n (drop i text)
unfolding more_digits
digits-done n text i h = rw (drop_of_length-le text h)

pub number_step : (text : List ℕ) (i : ℕ) {byte : ℕ} → i < length text → byte ≡ get_or text i 0
    → number (drop i text) ≡ cond (eqb byte zero_digit) (value 0 (drop (i + 1) text)) (cond (digit byte) (more_digits (byte - zero_digit) (drop (i + 1) text)) no_number)
unfolding number
number_step text i h is = rw (at_byte text i h, is)

pub number-done : (text : List ℕ) (i : ℕ) → length text ≤ i → number (drop i text) ≡ no_number
unfolding number
number-done text i h = rw (drop_of_length-le text h)

pub numbers_step : (left line : ℕ) (bytes : List ℕ) → 0 < left
    → numbers left line bytes ≡ or_wrong line (number_then (separator (left - 1)) bytes) (λ n rest. numbers (left - 1) line rest)
unfolding numbers
numbers_step zero line bytes h = absurd (omega arith)
numbers_step (suc more) line bytes h = let e : suc more - 1 ≡ more = omega arith in rw e

pub numbers-done : (left line : ℕ) (bytes : List ℕ) → left ≤ 0 → numbers left line bytes ≡ nothing (goes_on (line + 1) bytes)
unfolding numbers
numbers-done zero line bytes h = refl
numbers-done (suc more) line bytes h = absurd (omega arith)

pub lines_step : (key : List ℕ) (width left line : ℕ) (bytes : List ℕ) → 0 < left
    → keyed_lines key width left line bytes ≡ and_then (keyed_line key width line bytes) (λ after rest. keyed_lines key width (left - 1) after rest)
unfolding keyed_lines
lines_step key width zero line bytes h = absurd (omega arith)
lines_step key width (suc more) line bytes h = let e : suc more - 1 ≡ more = omega arith in rw e

pub lines-done : (key : List ℕ) (width left line : ℕ) (bytes : List ℕ) → left ≤ 0 → keyed_lines key width left line bytes ≡ nothing (goes_on line bytes)
unfolding keyed_lines
lines-done key width zero line bytes h = refl
lines-done key width (suc more) line bytes h = absurd (omega arith)

-- a key that stands there has room there
pub begins-room : (key bytes : List ℕ) → begins key bytes ≡ true → length key ≤ length bytes
unfolding begins
begins-room [] bytes e = omega arith
begins-room (k ∷ key) [] e = absurd (false≢true e)
begins-room (k ∷ key) (byte ∷ bytes) e = let h : length key ≤ length bytes = begins-room key bytes (and_right (eqb byte k) (begins key bytes) e) in omega arith

-- a line whose key stands there goes on behind the key
pub line_begun : (key text : List ℕ) (count line at : ℕ) → begins key (drop at text) ≡ true → keyed_line key count line (drop at text) ≡ numbers count line (drop (at + length key) text)
unfolding keyed_line
line_begun key text count line at e = rw (e, drop-drop (length key) at text)

pub line_other : (key bytes : List ℕ) (count line : ℕ) → begins key bytes ≡ false → keyed_line key count line bytes ≡ nothing (wrong_at line)
unfolding keyed_line
line_other key bytes count line e = rw e
