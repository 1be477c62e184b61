-- Document 01, "Bundle text and the program": the text of numbers and lines. Assumes nothing.
use Rattle.std.specs.Prelude.{ℕ, zero, suc, ◌+◌, ◌/◌, ◌%◌, List, [], ◌∷◌, ◌++◌, cond, length, take, drop, ltb}
use Rattle.lines.specs.Marks.{zero_digit, separator}

-- "Numbers are decimal, no leading zeros": a number of at most `more` + 1 digits
unfoldable pub digits : ℕ → ℕ → List ℕ
digits zero n = (zero_digit + n) ∷ []
digits (suc more) n = cond (ltb n 10) ((zero_digit + n) ∷ []) (digits more (n / 10) ++ ((zero_digit + n % 10) ∷ []))

-- a word of 32 bits has at most ten digits
abbrev pub decimal : ℕ → List ℕ
decimal n = digits 9 n

-- numbers with "one space between", and LF at the end
unfoldable pub numbers_text : List ℕ → List ℕ
numbers_text [] = []
numbers_text (n ∷ ns) = decimal n ++ (separator (length ns) ∷ numbers_text ns)

-- "key=value lines": one line, and `count` lines of `width` numbers each
abbrev pub line_text : List ℕ → List ℕ → List ℕ
line_text key numbers = key ++ numbers_text numbers

unfoldable pub lines_text : (key : List ℕ) (width count : ℕ) → List ℕ → List ℕ
lines_text key width zero words = []
lines_text key width (suc count) words = line_text key (take width words) ++ lines_text key width count (drop width words)
