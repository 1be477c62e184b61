-- From lines to words: what is read without fault is, byte for byte, the text of the words read followed by the bytes still to come,
-- and it has as many words as its lines ask for. Assumes nothing.
use Prim.Native.Nat.{ℕ, zero, suc, ◌+◌, ◌*◌, ◌≤◌, ◌<◌}
use mathlib.Core.Path.{◌≡◌, refl, sym, ap, ◌∙◌}
use mathlib.Core.List.{List, [], ◌∷◌, ◌++◌, append_assoc}
use mathlib.Core.Bool.{Bool, true, false, cond}
use native.Mathlib.Omega.{arith}
use native.Mathlib.Nat.{suc-mul, zero-mul}
use lib.Dec.{eqb}
use lib.ListN.{length, take, drop, length-append, length-drop}
use lib.Seq.{take_at, drop_at, take-append-le, drop-append-le}
use borrow.Author.Tests.{eqb-true}
use Rattle.lines.specs.Marks.{line_feed, space, separator}
use Rattle.lines.specs.Writing.{decimal, numbers_text, line_text, lines_text}
use Rattle.lines.specs.Reading.{Number, value, no_number, number_then, Next, goes_on, wrong_at, Read, nothing, words_then, or_wrong, numbers, begins, keyed_line, keyed_lines}
use Rattle.lines.specs.Words32.{Words32}
use Rattle.relations.proofs.BoolLaws.{true-and-false, and_left, and_right}
use Rattle.lines.proofs.Words32.{words32_append}
use Rattle.lines.proofs.Numbers.{NumberAsText, number_then-text}

pub no-next {ℓ} : {C : Type ℓ} {line after : ℕ} {rest : List ℕ} → wrong_at line ≡ goes_on after rest → C
no-next e = let z : ◌≡◌ {A = ℕ} 0 1 = cc in absurd (omega arith)

-- `found` was read from the front of `bytes`: `count` words on `lines` lines, before the line `after` whose bytes are `rest`
pub record LinesAsText (text_of : List ℕ → List ℕ) (count lines line : ℕ) (bytes : List ℕ) (found : Read) (after : ℕ) (rest : List ℕ) : Type 0 where
  pub text : bytes ≡ text_of found.words ++ rest
  pub many : length found.words ≡ count
  pub words32 : Words32 found.words
  pub lines_read : after ≡ line + lines

pub numbers-text : (count line : ℕ) (bytes : List ℕ) (after : ℕ) (rest : List ℕ) → (numbers count line bytes).next ≡ goes_on after rest
    → LinesAsText numbers_text count 1 line bytes (numbers count line bytes) after rest
unfolding numbers numbers_text
numbers-text zero line bytes after rest e = record { text = cc; many = refl; words32 = tt; lines_read = cc }
numbers-text (suc more) line bytes after rest e =
    go (number_then (separator more) bytes) refl e (λ behind e'. numbers-text more line behind after rest e')
  where
    go : (first : Number) → number_then (separator more) bytes ≡ first
        → (or_wrong line first (λ n behind. numbers more line behind)).next ≡ goes_on after rest
        → ((behind : List ℕ) → (numbers more line behind).next ≡ goes_on after rest
        → LinesAsText numbers_text more 1 line behind (numbers more line behind) after rest)
        → LinesAsText numbers_text (suc more) 1 line bytes (or_wrong line first (λ n behind. numbers more line behind)) after rest
    go (value n behind) is e ih =
        let front : NumberAsText bytes n (separator more ∷ behind) = number_then-text (separator more) bytes n behind is in
        let others : LinesAsText numbers_text more 1 line behind (numbers more line behind) after rest = ih behind e in
        let ws : List ℕ = (numbers more line behind).words in
        record {
          text =
              front.text
              ∙ ap (λ (tail : List ℕ). decimal n ++ (separator more ∷ tail)) others.text
              ∙ ap (λ (k : ℕ). decimal n ++ (separator k ∷ (numbers_text ws ++ rest))) (sym others.many)
              ∙ sym (append_assoc (decimal n) (separator (length ws) ∷ numbers_text ws) rest);
          many = ap suc others.many;
          words32 = (front.bound, others.words32);
          lines_read = others.lines_read;
        }
    go no_number is e ih = no-next e

pub begins-text : (key bytes : List ℕ) → begins key bytes ≡ true → bytes ≡ key ++ drop (length key) bytes
unfolding begins
begins-text [] bytes e = refl
begins-text (k ∷ key) [] e = true-and-false refl (sym e)
begins-text (k ∷ key) (byte ∷ bytes) e =
    let byte_is : byte ≡ k = eqb-true byte k (and_left (eqb byte k) (begins key bytes) e) in
    let others : bytes ≡ key ++ drop (length key) bytes = begins-text key bytes (and_right (eqb byte k) (begins key bytes) e) in
    λ i. byte_is i ∷ others i

pub keyed_line-text : (key : List ℕ) (count line : ℕ) (bytes : List ℕ) (after : ℕ) (rest : List ℕ)
    → (keyed_line key count line bytes).next ≡ goes_on after rest
    → LinesAsText (λ words. line_text key words) count 1 line bytes (keyed_line key count line bytes) after rest
unfolding keyed_line
keyed_line-text key count line bytes after rest e = go (begins key bytes) refl e
  where
    go : (found : Bool) → begins key bytes ≡ found
        → (cond found (numbers count line (drop (length key) bytes)) (nothing (wrong_at line))).next ≡ goes_on after rest
        → LinesAsText (λ words. line_text key words) count 1 line bytes
        (cond found (numbers count line (drop (length key) bytes)) (nothing (wrong_at line))) after rest
    go true is e =
        let behind : List ℕ = drop (length key) bytes in
        let found : LinesAsText numbers_text count 1 line behind (numbers count line behind) after rest = numbers-text count line behind after rest e in
        record {
          text =
              begins-text key bytes is
              ∙ ap (λ (tail : List ℕ). key ++ tail) found.text
              ∙ sym (append_assoc key (numbers_text (numbers count line behind).words) rest);
          many = found.many;
          words32 = found.words32;
          lines_read = found.lines_read;
        }
    go false is e = no-next e

pub keyed_line-length : (key : List ℕ) (count line : ℕ) (bytes : List ℕ) (after : ℕ) (rest : List ℕ)
    → (keyed_line key count line bytes).next ≡ goes_on after rest → length (keyed_line key count line bytes).words ≡ count
keyed_line-length key count line bytes after rest e = (keyed_line-text key count line bytes after rest e).many

-- one line before others, as text
pub lines_text_cons : (key : List ℕ) (width count : ℕ) (first others : List ℕ) → length first ≡ width
    → lines_text key width (suc count) (first ++ others) ≡ line_text key first ++ lines_text key width count others
unfolding lines_text
lines_text_cons key width count first others wide = rw (take_at first others width wide, drop_at first others width wide)

pub keyed_lines-text : (key : List ℕ) (width count line : ℕ) (bytes : List ℕ) (after : ℕ) (rest : List ℕ)
    → (keyed_lines key width count line bytes).next ≡ goes_on after rest
    → LinesAsText (λ words. lines_text key width count words) (count * width) count line bytes (keyed_lines key width count line bytes) after rest
unfolding keyed_lines lines_text
keyed_lines-text key width zero line bytes after rest e =
    let line_is : line ≡ after = cc in
    record { text = cc; many = sym (zero-mul width); words32 = tt; lines_read = omega arith }
keyed_lines-text key width (suc more) line bytes after rest e =
    go (keyed_line key width line bytes).next refl e (λ line' bytes' e'. keyed_lines-text key width more line' bytes' after rest e')
  where
    lines : ℕ → List ℕ → Read
    lines = λ line' bytes'. keyed_lines key width more line' bytes'

    ws : List ℕ
    ws = (keyed_line key width line bytes).words

    go : (next : Next) → (keyed_line key width line bytes).next ≡ next
        → (words_then ws next lines).next ≡ goes_on after rest
        → ((line' : ℕ) (bytes' : List ℕ) → (lines line' bytes').next ≡ goes_on after rest
        → LinesAsText (λ words. lines_text key width more words) (more * width) more line' bytes' (lines line' bytes') after rest)
        → LinesAsText (λ words. lines_text key width (suc more) words) (suc more * width) (suc more) line bytes (words_then ws next lines) after rest
    go (goes_on line' bytes') is e ih =
        let first : LinesAsText (λ words. line_text key words) width 1 line bytes (keyed_line key width line bytes) line' bytes' =
        keyed_line-text key width line bytes line' bytes' is
        in
        let others : LinesAsText (λ words. lines_text key width more words) (more * width) more line' bytes' (lines line' bytes') after rest =
        ih line' bytes' e
        in
        let vs : List ℕ = (lines line' bytes').words in
        record {
          text =
              first.text
              ∙ ap (λ (tail : List ℕ). line_text key ws ++ tail) others.text
              ∙ sym (append_assoc (line_text key ws) (lines_text key width more vs) rest)
              ∙ ap (λ (front : List ℕ). front ++ rest) (sym (lines_text_cons key width more ws vs first.many));
          many = omega (arith, length-append ws vs, suc-mul more width, first.many, others.many);
          words32 = words32_append ws vs first.words32 others.words32;
          lines_read = omega (arith, first.lines_read, others.lines_read);
        }
    go (wrong_at line') is e ih = no-next e

-- the words behind those that some lines take make no difference
pub lines_text-front : (key : List ℕ) (width count : ℕ) (first others : List ℕ) → length first ≡ count * width
    → lines_text key width count (first ++ others) ≡ lines_text key width count first
unfolding lines_text
lines_text-front key width zero first others many = refl
lines_text-front key width (suc count) first others many =
    let size : length first ≡ count * width + width = many ∙ suc-mul count width in
    let wide : width ≤ length first = omega arith in
    let left : length (drop width first) ≡ count * width = length-drop width first ∙ omega arith in
    rw (take-append-le width first others wide, drop-append-le width first others wide)
    (ap (λ (tail : List ℕ). line_text key (take width first) ++ tail) (lines_text-front key width count (drop width first) others left))

pub two_numbers-text : (bytes : List ℕ) (c : ℕ) (behind : List ℕ) (r : ℕ) (after : List ℕ) → bytes ≡ decimal c ++ (space ∷ behind)
    → behind ≡ decimal r ++ (line_feed ∷ after) → bytes ≡ numbers_text (c ∷ r ∷ []) ++ after
unfolding numbers_text
two_numbers-text bytes c behind r after t u =
    t
    ∙ ap (λ (tail : List ℕ). decimal c ++ (space ∷ tail)) u
    ∙ ap (λ (tail : List ℕ). decimal c ++ (space ∷ tail)) (sym (append_assoc (decimal r) (line_feed ∷ []) after))
    ∙ sym (append_assoc (decimal c) (space ∷ (decimal r ++ (line_feed ∷ []))) after)

-- A line that is wrong is its reader's own, and gave fewer words than it should have.
pub numbers_cut : (count line : ℕ) (bytes : List ℕ) {wrong : ℕ} → (numbers count line bytes).next ≡ wrong_at wrong → (wrong ≡ line) × (length (numbers count line bytes).words < count)
unfolding numbers
numbers_cut zero line bytes n = no-next (sym n)
numbers_cut (suc more) line bytes {wrong} n = go (number_then (separator more) bytes) n (λ rest m. numbers_cut more line rest m)
  where
    go : (found : Number) → (or_wrong line found (λ value rest. numbers more line rest)).next ≡ wrong_at wrong
        → ((rest : List ℕ) → (numbers more line rest).next ≡ wrong_at wrong → (wrong ≡ line) × (length (numbers more line rest).words < more))
        → (wrong ≡ line) × (length (or_wrong line found (λ value rest. numbers more line rest)).words < suc more)
    go (value number rest) n ih = let h : length (numbers more line rest).words < more = (ih rest n).1 in ((ih rest n).0, omega arith)
    go no_number n ih = let l : wrong ≡ line = cc in (l, omega arith)

pub line_cut : (key : List ℕ) (count line : ℕ) (bytes : List ℕ) → 0 < count → {wrong : ℕ} → (keyed_line key count line bytes).next ≡ wrong_at wrong
    → (wrong ≡ line) × (length (keyed_line key count line bytes).words < count)
unfolding keyed_line
line_cut key count line bytes some {wrong} n = go (begins key bytes) n
  where
    go : (begun : Bool) → (cond begun (numbers count line (drop (length key) bytes)) (nothing (wrong_at line))).next ≡ wrong_at wrong
        → (wrong ≡ line) × (length (cond begun (numbers count line (drop (length key) bytes)) (nothing (wrong_at line))).words < count)
    go true n = numbers_cut count line (drop (length key) bytes) n
    go false n = let l : wrong ≡ line = cc in (l, some)
