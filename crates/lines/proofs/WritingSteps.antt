-- The text of numbers and lines, step by step from its front, and how long it can be. Assumes nothing.
use Prim.Native.Nat.{ℕ, zero, suc, ◌+◌, ◌-◌, ◌*◌, ◌/◌, ◌%◌, ◌<◌, ◌≤◌}
use mathlib.Core.Path.{◌≡◌, ap, ◌∙◌}
use mathlib.Core.List.{List, [], ◌∷◌, ◌++◌, append_assoc}
use mathlib.Core.Bool.{Bool, true, false, cond}
use native.Mathlib.Omega.{arith}
use native.Mathlib.Nat.{mul-suc}
use native.Mathlib.Numerals.{add-one}
use lib.Dec.{ltb}
use lib.ListN.{length, get_or, take, drop, length-append, length-take, length-drop}
use lib.Seq.{drop-cons, drop-drop}
use Rattle.lines.specs.Marks.{zero_digit, separator}
use Rattle.lines.specs.Writing.{digits, decimal, numbers_text, lines_text}
use Rattle.lines.proofs.Numbers.{decimal_step}

pub decimal_last : (n : ℕ) → 10 ≤ n → n < 4294967296 → decimal n ≡ decimal (n / 10) ++ ((zero_digit + n % 10) ∷ [])
decimal_last n ten h =
    let whole : n / 10 * 10 + n % 10 ≡ n = omega arith in
    rw whole at (decimal_step (n / 10) (n % 10) (omega arith) (omega arith) (omega arith))

pub length-decimal_last : (n : ℕ) → 10 ≤ n → n < 4294967296 → length (decimal n) ≡ length (decimal (n / 10)) + 1
length-decimal_last n ten h = ap length (decimal_last n ten h) ∙ length-append (decimal (n / 10)) ((zero_digit + n % 10) ∷ [])

-- One number and one line more.
pub numbers_step : (words : List ℕ) (i : ℕ) → i < length words
    → numbers_text (drop i words) ≡ decimal (get_or words i 0) ++ (separator (length words - 1 - i) ∷ numbers_text (drop (i + 1) words))
unfolding numbers_text
numbers_step words i h =
    let behind : length (drop (suc i) words) ≡ length words - 1 - i = omega (arith, length-drop (suc i) words) in
    rw (drop-cons words i 0 h, add-one, behind)

pub lines_step : (key : List ℕ) (width : ℕ) (words : List ℕ) (count line : ℕ) → line < count
    → lines_text key width (count - line) (drop (width * line) words)
    ≡ key ++ (numbers_text (take width (drop (width * line) words)) ++ lines_text key width (count - (line + 1)) (drop (width * (line + 1)) words))
unfolding lines_text
lines_step key width words count line h =
    let left : count - line ≡ suc (count - (line + 1)) = omega arith in
    let next : width * line + width ≡ width * (line + 1) = rw (add-one, mul-suc width line) in
    rw (left, drop-drop width (width * line) words, next) (append_assoc key _ _)

-- How long a text can be.
length_digits : (more n : ℕ) → length (digits more n) ≤ suc more
unfolding digits
length_digits zero n = omega arith
length_digits (suc more) n = go (ltb n 10) (length_digits more (n / 10)) where
  go : (b : Bool) → length (digits more (n / 10)) ≤ suc more → length (cond b ((zero_digit + n) ∷ []) (digits more (n / 10) ++ ((zero_digit + n % 10) ∷ []))) ≤ suc (suc more)
  go true h = omega arith
  go false h = simp length-append (omega arith)

pub length-numbers : (ns : List ℕ) → length (numbers_text ns) ≤ 11 * length ns
unfolding numbers_text
length-numbers [] = omega arith
length-numbers (n ∷ ns) = simp length-append (omega (arith, length_digits 9 n, length-numbers ns))

pub length-lines : (key : List ℕ) (width count : ℕ) (words : List ℕ) → length (lines_text key width count words) ≤ length key * count + 11 * (width * count)
unfolding lines_text
length-lines key width zero words = omega arith
length-lines key width (suc count) words =
    simp length-append (omega (arith, length-numbers (take width words), length-take width words, length-lines key width count (drop width words), mul-suc (length key) count, mul-suc width count))

pub rows_words : (columns rows : ℕ) → 1 ≤ columns → rows ≤ columns * rows
rows_words columns zero h = omega arith
rows_words columns (suc rows) h = omega (arith, mul-suc columns rows, rows_words columns rows h)
