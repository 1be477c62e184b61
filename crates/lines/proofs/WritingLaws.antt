-- From words to lines: the text of words of 32 bits, followed by any bytes, reads as those words, that many lines further on, with those bytes
-- still to come. Assumes nothing.
use Prim.Native.Nat.{ℕ, zero, suc, ◌+◌, ◌*◌}
use mathlib.Core.Path.{◌≡◌, refl, sym, ap, ◌∙◌}
use mathlib.Core.List.{List, [], ◌∷◌, ◌++◌, append_assoc}
use mathlib.Core.Bool.{Bool, true, cond}
use native.Mathlib.Omega.{arith}
use native.Mathlib.Nat.{suc-mul, zero-mul, suc-ne-zero}
use lib.Dec.{eqb}
use lib.ListN.{length, take, drop, take-append-drop, length-drop}
use lib.Seq.{drop-append_seam, length-take-le}
use borrow.Author.Tests.{eq-eqb}
use Rattle.lines.specs.Marks.{separator}
use Rattle.lines.specs.Writing.{decimal, numbers_text, line_text, lines_text}
use Rattle.lines.specs.Reading.{Number, value, number_then, goes_on, wrong_at, Read, nothing, and_then, or_wrong, numbers, begins, keyed_line, keyed_lines}
use Rattle.lines.specs.Words32.{Words32}
use Rattle.relations.proofs.BoolLaws.{and_both}
use Rattle.lines.proofs.Words32.{words32_take, words32_drop}
use Rattle.lines.proofs.Numbers.{number_then_of_decimal, separator_no_digit}

pub none_long : (words : List ℕ) → length words ≡ 0 → words ≡ []
none_long [] e = refl
none_long (word ∷ words) e = absurd (suc-ne-zero (length words) e)

-- `words`, read before the line `after` whose bytes are `rest`
abbrev pub read_of : (words : List ℕ) (after : ℕ) (rest : List ℕ) → Read
read_of words after rest = record { words = words; next = goes_on after rest }

pub numbers_of_text : (words : List ℕ) (line : ℕ) (rest : List ℕ) → Words32 words
    → numbers (length words) line (numbers_text words ++ rest) ≡ read_of words (line + 1) rest
unfolding numbers numbers_text
numbers_of_text [] line rest h = refl
numbers_of_text (n ∷ ns) line rest h =
    let end : ℕ = separator (length ns) in
    let found : number_then end (decimal n ++ (end ∷ numbers_text ns) ++ rest) ≡ value n (numbers_text ns ++ rest) =
    ap (λ (bytes : List ℕ). number_then end bytes) (append_assoc (decimal n) (end ∷ numbers_text ns) rest)
    ∙ number_then_of_decimal end n (numbers_text ns ++ rest) (separator_no_digit (length ns)) h.0
    in
    ap (λ (first : Number). or_wrong line first (λ m behind. numbers (length ns) line behind)) found
    ∙ ap (λ (others : Read). record { words = n ∷ others.words; next = others.next }) (numbers_of_text ns line rest h.1)

pub begins_key : (key rest : List ℕ) → begins key (key ++ rest) ≡ true
unfolding begins
begins_key [] rest = refl
begins_key (k ∷ key) rest = and_both (eqb k k) (begins key (key ++ rest)) (eq-eqb k k refl) (begins_key key rest)

pub keyed_line_of_text : (key : List ℕ) (count line : ℕ) (words rest : List ℕ) → length words ≡ count → Words32 words
    → keyed_line key count line (line_text key words ++ rest) ≡ read_of words (line + 1) rest
unfolding keyed_line
keyed_line_of_text key count line words rest many h =
    ap (λ (bytes : List ℕ). keyed_line key count line bytes) (append_assoc key (numbers_text words) rest)
    ∙ ap (λ (found : Bool). cond found (numbers count line (drop (length key) (key ++ (numbers_text words ++ rest)))) (nothing (wrong_at line)))
    (begins_key key (numbers_text words ++ rest))
    ∙ ap (λ (bytes : List ℕ). numbers count line bytes) (drop-append_seam key (numbers_text words ++ rest))
    ∙ ap (λ (k : ℕ). numbers k line (numbers_text words ++ rest)) (sym many)
    ∙ numbers_of_text words line rest h

pub keyed_lines_of_text : (key : List ℕ) (width count line : ℕ) (words rest : List ℕ) → length words ≡ count * width → Words32 words
    → keyed_lines key width count line (lines_text key width count words ++ rest) ≡ read_of words (line + count) rest
unfolding keyed_lines lines_text
keyed_lines_of_text key width zero line words rest many h =
    let none : words ≡ [] = none_long words (many ∙ zero-mul width) in
    let same : line ≡ line + 0 = omega arith in
    ap (λ (after : ℕ). read_of [] after rest) same ∙ ap (λ (ws : List ℕ). read_of ws (line + 0) rest) (sym none)
keyed_lines_of_text key width (suc count) line words rest many h =
    let size : length words ≡ count * width + width = many ∙ suc-mul count width in
    let first : List ℕ = take width words in
    let others : List ℕ = drop width words in
    let wide : length first ≡ width = length-take-le width words (omega arith) in
    let left : length others ≡ count * width = length-drop width words ∙ omega arith in
    let then : ℕ → List ℕ → Read = λ after bytes. keyed_lines key width count after bytes in
    let lines : line + 1 + count ≡ line + suc count = omega arith in
    ap (λ (bytes : List ℕ). and_then (keyed_line key width line bytes) then) (append_assoc (line_text key first) (lines_text key width count others) rest)
    ∙ ap (λ (found : Read). and_then found then)
    (keyed_line_of_text key width line first (lines_text key width count others ++ rest) wide (words32_take width words h))
    ∙ ap (λ (found : Read). record { words = first ++ found.words; next = found.next })
    (keyed_lines_of_text key width count (line + 1) others rest left (words32_drop width words h))
    ∙ ap (λ (after : ℕ). read_of (first ++ others) after rest) lines
    ∙ ap (λ (ws : List ℕ). read_of ws (line + suc count) rest) (take-append-drop width words)
