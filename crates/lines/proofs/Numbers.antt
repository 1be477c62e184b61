-- Decimal numbers read and written: the text of a number reads as that number, and whatever reads as a number is its text.
-- Assumes nothing.
use Prim.Native.Nat.{ℕ, zero, suc, ◌+◌, ◌-◌, ◌*◌, ◌/◌, ◌%◌, ◌^◌, ◌≤◌, ◌<◌}
use mathlib.Core.Path.{◌≡◌, refl, sym, ap, ◌∙◌}
use mathlib.Core.List.{List, [], ◌∷◌, ◌++◌, append_assoc}
use mathlib.Core.Bool.{Bool, true, false, cond}
use native.Mathlib.Omega.{arith}
use native.Mathlib.Nat.{pow-suc}
use lib.Dec.{leb, ltb, eqb}
use borrow.Author.Tests.{ltb-true, ltb-false, leb-true, eqb-true, eqb-false, lt-ltb, le-ltb, le-leb, eq-eqb, ne_eqb}
use Rattle.relations.specs.Limits.{greatest_number}
use Rattle.lines.specs.Marks.{line_feed, space, zero_digit, digit, separator}
use Rattle.lines.specs.Writing.{digits, decimal}
use Rattle.lines.specs.Reading.{Number, value, no_number, more_digits, number, ended_by, number_then}
use Rattle.relations.proofs.BoolLaws.{and_both, and_left, and_right}

-- Digits.

pub digit_of : (d : ℕ) → d < 10 → digit (zero_digit + d) ≡ true
digit_of d small = and_both (leb zero_digit (zero_digit + d)) (leb (zero_digit + d) 57) (le-leb zero_digit (zero_digit + d) (omega arith)) (le-leb (zero_digit + d) 57 (omega arith))

digit_from : (byte : ℕ) → digit byte ≡ true → zero_digit ≤ byte
digit_from byte e = leb-true _ _ (and_left (leb zero_digit byte) (leb byte 57) e)

digit_to : (byte : ℕ) → digit byte ≡ true → byte ≤ 57
digit_to byte e = leb-true _ _ (and_right (leb zero_digit byte) (leb byte 57) e)

-- a number below ten is its one digit, however many more are allowed
pub digits_one : (k n : ℕ) → n < 10 → digits k n ≡ (zero_digit + n) ∷ []
unfolding digits
digits_one zero n small = refl
digits_one (suc k) n small = rw (lt-ltb n 10 small)

digits_more : (k n : ℕ) → 10 ≤ n → digits (suc k) n ≡ digits k (n / 10) ++ ((zero_digit + n % 10) ∷ [])
unfolding digits
digits_more k n large = rw (le-ltb n 10 large)

-- a tenth has a digit less
tenth : (k n : ℕ) → n < 10 ^ suc k → n / 10 < 10 ^ k
tenth k n h = let e : n < 10 ^ k * 10 = rw pow-suc at h in omega arith

-- more digits allowed than a number has make no difference
digits-enough : (k n : ℕ) → n < 10 ^ suc k → digits (suc k) n ≡ digits k n
digits-enough zero n h = digits_one 1 n h ∙ sym (digits_one 0 n h)
digits-enough (suc k) n h = go (ltb n 10) refl (digits-enough k (n / 10) (tenth (suc k) n h))
  where
    go : (small : Bool) → ltb n 10 ≡ small → digits (suc k) (n / 10) ≡ digits k (n / 10) → digits (suc (suc k)) n ≡ digits (suc k) n
    go true e ih = let small : n < 10 = ltb-true n 10 e in digits_one (suc (suc k)) n small ∙ sym (digits_one (suc k) n small)
    go false e ih =
        let large : 10 ≤ n = ltb-false n 10 e in
        digits_more (suc k) n large ∙ ap (λ (front : List ℕ). front ++ ((zero_digit + n % 10) ∷ [])) ih ∙ sym (digits_more k n large)

-- one digit more behind a number
pub decimal_step : (n d : ℕ) → 1 ≤ n → d < 10 → n * 10 + d ≤ greatest_number → decimal (n * 10 + d) ≡ decimal n ++ ((zero_digit + d) ∷ [])
decimal_step n d positive small bound =
    let tens : (n * 10 + d) / 10 ≡ n = omega arith in
    let ones : (n * 10 + d) % 10 ≡ d = omega arith in
    digits_more 8 (n * 10 + d) (omega arith)
    ∙ ap (λ (m : ℕ). digits 8 m ++ ((zero_digit + (n * 10 + d) % 10) ∷ [])) tens
    ∙ ap (λ (m : ℕ). digits 8 n ++ ((zero_digit + m) ∷ [])) ones
    ∙ ap (λ (front : List ℕ). front ++ ((zero_digit + d) ∷ [])) (sym (digits-enough 8 n (omega arith)))

-- From text to numbers.

-- bytes that a number ends before: no digit at their front
abbrev pub NoDigit : List ℕ → Type 0
NoDigit [] = Unit
NoDigit (byte ∷ bytes) = digit byte ≡ false

more_digits_end : (n : ℕ) (rest : List ℕ) → NoDigit rest → more_digits n rest ≡ value n rest
unfolding more_digits
more_digits_end n [] h = refl
more_digits_end n (byte ∷ bytes) h = rw h

more_digits_step : (n d : ℕ) (rest : List ℕ) → d < 10 → n * 10 + d ≤ greatest_number
    → more_digits n ((zero_digit + d) ∷ rest) ≡ more_digits (n * 10 + d) rest
unfolding more_digits
more_digits_step n d rest small bound =
    let e : zero_digit + d - zero_digit ≡ d = omega arith in
    rw (digit_of d small, e, le-leb (n * 10 + d) greatest_number bound)

number_one : (n : ℕ) (rest : List ℕ) → 1 ≤ n → n < 10 → number ((zero_digit + n) ∷ rest) ≡ more_digits n rest
unfolding number
number_one n rest positive small =
    let e : zero_digit + n - zero_digit ≡ n = omega arith in
    rw (ne_eqb (zero_digit + n) zero_digit (omega arith), digit_of n small, e)

number_digits : (k n : ℕ) (rest : List ℕ) → 1 ≤ n → n ≤ greatest_number → n < 10 ^ suc k → number (digits k n ++ rest) ≡ more_digits n rest
number_digits zero n rest positive bound h = rw (digits_one 0 n h) (number_one n rest positive h)
number_digits (suc k) n rest positive bound h =
    go (ltb n 10) refl (λ back positive' bound'. number_digits k (n / 10) back positive' bound' (tenth (suc k) n h))
  where
    go : (small : Bool) → ltb n 10 ≡ small
        → ((rest : List ℕ) → 1 ≤ n / 10 → n / 10 ≤ greatest_number → number (digits k (n / 10) ++ rest) ≡ more_digits (n / 10) rest)
        → number (digits (suc k) n ++ rest) ≡ more_digits n rest
    go true e ih = let small : n < 10 = ltb-true n 10 e in rw (digits_one (suc k) n small) (number_one n rest positive small)
    go false e ih =
        let large : 10 ≤ n = ltb-false n 10 e in
        let whole : n / 10 * 10 + n % 10 ≡ n = omega arith in
        rw (digits_more k n large, append_assoc)
        (ih ((zero_digit + n % 10) ∷ rest) (omega arith) (omega arith)
        ∙ more_digits_step (n / 10) (n % 10) rest (omega arith) (omega arith)
        ∙ ap (λ (m : ℕ). more_digits m rest) whole)

number_zero : (rest : List ℕ) → number (decimal 0 ++ rest) ≡ value 0 rest
unfolding number digits
number_zero rest = refl

-- The text of a number reads as that number.
pub number_of_decimal : (n : ℕ) (rest : List ℕ) → n ≤ greatest_number → NoDigit rest → number (decimal n ++ rest) ≡ value n rest
number_of_decimal zero rest bound ends = number_zero rest
number_of_decimal (suc n) rest bound ends =
    number_digits 9 (suc n) rest (omega arith) bound (omega arith) ∙ more_digits_end (suc n) rest ends

pub number_then_of_decimal : (end n : ℕ) (rest : List ℕ) → digit end ≡ false → n ≤ greatest_number
    → number_then end (decimal n ++ (end ∷ rest)) ≡ value n rest
number_then_of_decimal end n rest ends bound = rw (number_of_decimal n (end ∷ rest) bound ends, eq-eqb end end refl)

pub separator_no_digit : (more : ℕ) → digit (separator more) ≡ false
separator_no_digit more = go (eqb more 0)
  where
    go : (last : Bool) → digit (cond last line_feed space) ≡ false
    go true = refl
    go false = refl

-- From numbers to text.

pub no_value {ℓ} : {C : Type ℓ} {n : ℕ} {rest : List ℕ} → no_number ≡ value n rest → C
no_value e = let z : ◌≡◌ {A = ℕ} 0 1 = cc in absurd (omega arith)

pub record NumberAsText (before : List ℕ) (n : ℕ) (rest : List ℕ) : Type 0 where
  pub text : before ≡ decimal n ++ rest
  pub bound : n ≤ greatest_number

more_digits-text : (m : ℕ) (bytes : List ℕ) (n : ℕ) (rest : List ℕ) → 1 ≤ m → m ≤ greatest_number
    → more_digits m bytes ≡ value n rest → NumberAsText (decimal m ++ bytes) n rest
unfolding more_digits
more_digits-text m [] n rest positive bound e =
    let n_is : m ≡ n = cc in
    let rest_is : [] ≡ rest = cc in
    record { text = cc; bound = rw n_is at bound }
more_digits-text m (byte ∷ bytes) n rest positive bound e =
    go (digit byte) refl (leb (m * 10 + (byte - zero_digit)) greatest_number) refl e
    (λ positive' bound' e'. more_digits-text (m * 10 + (byte - zero_digit)) bytes n rest positive' bound' e')
  where
    go : (isDigit : Bool) → digit byte ≡ isDigit → (fits : Bool) → leb (m * 10 + (byte - zero_digit)) greatest_number ≡ fits
        → cond isDigit (cond fits (more_digits (m * 10 + (byte - zero_digit)) bytes) no_number) (value m (byte ∷ bytes)) ≡ value n rest
        → (1 ≤ m * 10 + (byte - zero_digit) → m * 10 + (byte - zero_digit) ≤ greatest_number
        → more_digits (m * 10 + (byte - zero_digit)) bytes ≡ value n rest
        → NumberAsText (decimal (m * 10 + (byte - zero_digit)) ++ bytes) n rest)
        → NumberAsText (decimal m ++ (byte ∷ bytes)) n rest
    go true d true f e ih =
        let low : zero_digit ≤ byte = digit_from byte d in
        let high : byte ≤ 57 = digit_to byte d in
        let fits : m * 10 + (byte - zero_digit) ≤ greatest_number = leb-true (m * 10 + (byte - zero_digit)) greatest_number f in
        let whole : zero_digit + (byte - zero_digit) ≡ byte = omega arith in
        let then : NumberAsText (decimal (m * 10 + (byte - zero_digit)) ++ bytes) n rest = ih (omega arith) fits e in
        record {
          text =
              sym (append_assoc (decimal m) (byte ∷ []) bytes)
              ∙ ap (λ (b : ℕ). decimal m ++ (b ∷ []) ++ bytes) (sym whole)
              ∙ ap (λ (front : List ℕ). front ++ bytes) (sym (decimal_step m (byte - zero_digit) positive (omega arith) fits))
              ∙ then.text;
          bound = then.bound;
        }
    go true d false f e ih = no_value e
    go false d fits f e ih =
        let n_is : m ≡ n = cc in
        let rest_is : byte ∷ bytes ≡ rest = cc in
        record { text = cc; bound = rw n_is at bound }

-- Whatever reads as a number is the text of that number, and the bytes behind it.
pub number-text : (bytes : List ℕ) (n : ℕ) (rest : List ℕ) → number bytes ≡ value n rest → NumberAsText bytes n rest
unfolding number
number-text [] n rest e = no_value e
number-text (byte ∷ bytes) n rest e = go (eqb byte zero_digit) refl (digit byte) refl e
  where
    decimal_one : (m : ℕ) → m < 10 → byte ≡ zero_digit + m → byte ∷ bytes ≡ decimal m ++ bytes
    decimal_one m small is = rw (digits_one 9 m small, is)

    go : (is_zero : Bool) → eqb byte zero_digit ≡ is_zero → (isDigit : Bool) → digit byte ≡ isDigit
        → cond is_zero (value 0 bytes) (cond isDigit (more_digits (byte - zero_digit) bytes) no_number) ≡ value n rest
        → NumberAsText (byte ∷ bytes) n rest
    go true z isDigit d e =
        let is_zero : byte ≡ zero_digit = eqb-true byte zero_digit z in
        let n_is : 0 ≡ n = cc in
        let rest_is : bytes ≡ rest = cc in
        record { text = decimal_one 0 (omega arith) (omega arith) ∙ cc; bound = omega arith }
    go false z true d e =
        let low : zero_digit ≤ byte = digit_from byte d in
        let high : byte ≤ 57 = digit_to byte d in
        let positive : 1 ≤ byte - zero_digit = omega (arith, eqb-false byte zero_digit z) in
        let then : NumberAsText (decimal (byte - zero_digit) ++ bytes) n rest =
        more_digits-text (byte - zero_digit) bytes n rest positive (omega arith) e
        in
        record { text = decimal_one (byte - zero_digit) (omega arith) (omega arith) ∙ then.text; bound = then.bound }
    go false z false d e = no_value e

pub number_then-text : (end : ℕ) (bytes : List ℕ) (n : ℕ) (rest : List ℕ) → number_then end bytes ≡ value n rest → NumberAsText bytes n (end ∷ rest)
number_then-text end bytes n rest e = go (number bytes) refl e
  where
    go : (found : Number) → number bytes ≡ found → ended_by end found ≡ value n rest → NumberAsText bytes n (end ∷ rest)
    go (value m []) is e = no_value e
    go (value m (byte ∷ after)) is e = ended (eqb byte end) refl e
      where
        ended : (same : Bool) → eqb byte end ≡ same → cond same (value m after) no_number ≡ value n rest → NumberAsText bytes n (end ∷ rest)
        ended true t e =
            let byte_is : byte ≡ end = eqb-true byte end t in
            number-text bytes n (end ∷ rest) cc
        ended false t e = no_value e
    go no_number is e = no_value e
