-- Laws of values in words: rows read, their words, and what stores in front of them or over them do. Assumes nothing.
use mathlib.Core.Path.{◌≡◌, refl, sym, ap, ap₂, ◌∙◌}
use Prim.Native.Nat.{ℕ, zero, suc, ◌+◌, ◌-◌, ◌*◌, ◌≤◌, ◌<◌}
use native.Mathlib.Nat.{zero-mul, suc-mul, mul-suc, add_comm, add-zero}
use native.Mathlib.Omega.{arith}
use mathlib.Core.List.{List, [], ◌∷◌, ◌++◌, append_assoc}
use lib.ListN.{length, get_or, take, drop, length-append}
use lib.Seq.{sets, length-sets, take-append-add, drop-append-add, take-nil, drop-nil}
use borrow.Author.Tests.{le-leb}
use Rattle.relations.specs.Rows.{Row}
use Rattle.relations.specs.Values.{Rows, Wide}
use Rattle.values.specs.Words.{part, row_in, rows_at, words_of}
use Rattle.relations.proofs.StoreLaws.{sets-append}
use Rattle.values.proofs.WordLaws.{length_part, part_add, sets-part, part-sets, part-before}

-- a row that is wholly inside
pub row_inside : (words : List ℕ) (start width : ℕ) → start + width ≤ length words → row_in words start width ≡ part start width words
row_inside words start width h = rw (le-leb (start + width) (length words) h)

pub length_row : (words : List ℕ) (start width : ℕ) → start + width ≤ length words → length (row_in words start width) ≡ width
length_row words start width h = ap length (row_inside words start width h) ∙ length_part start width words h

-- so many times a width
pub times_step : (n w : ℕ) → 0 < n → n * w ≡ (n - 1) * w + w
times_step zero w p = absurd (omega arith)
times_step (suc n) w p = let e : suc n - 1 ≡ n = omega arith in rw (e, suc-mul n w)

pub times_least : (n w : ℕ) → 0 < w → n ≤ n * w
times_least n zero h = absurd (omega arith)
times_least n (suc w) h = omega (arith, mul-suc n w)

pub times_inside : (m n w : ℕ) → m < n → m * w + w ≤ n * w
times_inside zero (suc n) w h = rw (zero-mul, suc-mul) (omega arith)
times_inside (suc m) (suc n) w h = rw (suc-mul, suc-mul) (omega (arith, times_inside m n w (omega arith)))
times_inside m zero w h = absurd (omega arith)

pub times_most : (m n w : ℕ) → m ≤ n → m * w ≤ n * w
times_most zero n w h = rw zero-mul (omega arith)
times_most (suc m) n w h = omega (arith, suc-mul m w, times_inside m n w h)

pub length-rows_at : (w n a : ℕ) (l : List ℕ) → length (rows_at w n a l) ≡ n
unfolding rows_at
length-rows_at w zero a l = refl
length-rows_at w (suc n) a l = ap suc (length-rows_at w n (a + w) l)

pub rows_at-wide : (w n a : ℕ) (l : List ℕ) → a + n * w ≤ length l → Wide w (rows_at w n a l)
unfolding rows_at
rows_at-wide w zero a l h = tt
rows_at-wide w (suc n) a l h =
    (length_part a w l (omega (arith, suc-mul n w)), rows_at-wide w n (a + w) l (omega (arith, suc-mul n w)))

-- a turn of a loop over rows
pub rows_at_step : (w n a : ℕ) (l : List ℕ) → 0 < n → rows_at w n a l ≡ part a w l ∷ rows_at w (n - 1) (a + w) l
unfolding rows_at
rows_at_step w zero a l p = absurd (omega arith)
rows_at_step w (suc n) a l p = let e : suc n - 1 ≡ n = omega arith in rw e

pub rows_at_row : (w n a : ℕ) (l : List ℕ) → 0 < n → a + n * w ≤ length l → rows_at w n a l ≡ row_in l a w ∷ rows_at w (n - 1) (a + w) l
rows_at_row w n a l p h =
    rows_at_step w n a l p ∙ ap (λ (r : Row). r ∷ rows_at w (n - 1) (a + w) l) (sym (row_inside l a w (omega (arith, times_step n w p))))

pub rows_at_none : (w a : ℕ) (l : List ℕ) → rows_at w 0 a l ≡ []
unfolding rows_at
rows_at_none w a l = refl

-- a row by its number
pub rows_at_at : (w n a m : ℕ) (l : List ℕ) → m < n → get_or (rows_at w n a l) m [] ≡ part (a + m * w) w l
unfolding rows_at
rows_at_at w (suc n) a zero l h = rw (zero-mul, add-zero)
rows_at_at w (suc n) a (suc m) l h =
    let e : a + w + m * w ≡ a + suc m * w = omega (arith, suc-mul m w) in
    rows_at_at w n (a + w) m l (omega arith) ∙ ap (λ (x : ℕ). part x w l) e
rows_at_at w zero a m l h = absurd (omega arith)

pub words-rows_at : (w n a : ℕ) (l : List ℕ) → words_of (rows_at w n a l) ≡ part a (n * w) l
unfolding rows_at words_of
words-rows_at w zero a l = rw zero-mul
words-rows_at w (suc n) a l =
    ap (λ (r : List ℕ). part a w l ++ r) (words-rows_at w n (a + w) l)
    ∙ sym (part_add a w (n * w) l)
    ∙ rw (suc-mul n w, add_comm (n * w) w)

pub length-words : (w : ℕ) (v : Rows) → Wide w v → length (words_of v) ≡ length v * w
unfolding words_of
length-words w [] h = rw zero-mul
length-words w (r ∷ v) h = length-append r (words_of v) ∙ omega (arith, h.0, length-words w v h.1, suc-mul (length v) w)

-- the words of the first rows, and of those behind them
pub words_take : (w k : ℕ) (v : Rows) → Wide w v → words_of (take k v) ≡ take (k * w) (words_of v)
unfolding words_of
words_take w zero v h = rw zero-mul
words_take w (suc k) [] h = rw take-nil
words_take w (suc k) (r ∷ v) h =
    let e : suc k * w ≡ length r + k * w = omega (arith, h.0, suc-mul k w) in
    ap (λ (x : List ℕ). r ++ x) (words_take w k v h.1) ∙ sym (rw e (take-append-add r (words_of v) (k * w)))

pub words-drop : (w k : ℕ) (v : Rows) → Wide w v → words_of (drop k v) ≡ drop (k * w) (words_of v)
unfolding words_of
words-drop w zero v h = rw zero-mul
words-drop w (suc k) [] h = rw drop-nil
words-drop w (suc k) (r ∷ v) h =
    let e : suc k * w ≡ length r + k * w = omega (arith, h.0, suc-mul k w) in
    words-drop w k v h.1 ∙ sym (rw e (drop-append-add r (words_of v) (k * w)))

pub words_append : (u v : Rows) → words_of (u ++ v) ≡ words_of u ++ words_of v
unfolding words_of
words_append [] v = refl
words_append (r ∷ u) v = ap (λ (x : List ℕ). r ++ x) (words_append u v) ∙ sym (append_assoc r (words_of u) (words_of v))

-- a value in front of what is stored is as it was
pub rows_at-before : (w n a i : ℕ) (l vs : List ℕ) → a + n * w ≤ i → i ≤ length l → rows_at w n a (sets l i vs) ≡ rows_at w n a l
unfolding rows_at
rows_at-before w zero a i l vs h k = refl
rows_at-before w (suc n) a i l vs h k =
    let e : suc n * w ≡ n * w + w = suc-mul n w in
    rw (part-before l a w i vs (omega arith) k, rows_at-before w n (a + w) i l vs (omega arith) k)

-- what was stored is read back
pub rows_at-sets : (w a : ℕ) (l : List ℕ) (v : Rows) → Wide w v → a + length (words_of v) ≤ length l → rows_at w (length v) a (sets l a (words_of v)) ≡ v
unfolding rows_at words_of
rows_at-sets w a l [] h k = refl
rows_at-sets w a l (r ∷ v) h k =
    let hr : length r ≡ w = h.0 in
    let k₁ : a + (length r + length (words_of v)) ≤ length l = rw length-append at k in
    let e : sets l a (r ++ words_of v) ≡ sets (sets l a r) (a + w) (words_of v) =
    sets-append l a r (words_of v) ∙ ap (λ (n : ℕ). sets (sets l a r) (a + n) (words_of v)) hr in
    let first : part a w (sets (sets l a r) (a + w) (words_of v)) ≡ r =
    part-before (sets l a r) a w (a + w) (words_of v) (omega arith) (rw length-sets (omega arith))
    ∙ ap (λ (n : ℕ). part a n (sets l a r)) (sym hr)
    ∙ part-sets l a r (omega arith) in
    rw e (ap₂ ◌∷◌ first (rows_at-sets w (a + w) (sets l a r) v h.1 (rw length-sets (omega arith))))

-- a value that stands there is what its words say
pub value-words : (w n a : ℕ) (l : List ℕ) → a + n * w ≤ length l → l ≡ sets l a (words_of (rows_at w n a l))
value-words w n a l h = sym (ap (sets l a) (words-rows_at w n a l) ∙ sets-part (n * w) l a h)

pub length-value : (w n a : ℕ) (l : List ℕ) → a + n * w ≤ length l → length (words_of (rows_at w n a l)) ≡ n * w
length-value w n a l h = length-words w (rows_at w n a l) (rows_at-wide w n a l h) ∙ ap (λ (x : ℕ). x * w) (length-rows_at w n a l)

-- the first rows, and those behind them
pub rows_at_split : (w n m a : ℕ) (l : List ℕ) → rows_at w (n + m) a l ≡ rows_at w n a l ++ rows_at w m (a + n * w) l
unfolding rows_at
rows_at_split w zero m a l = let z : a + zero * w ≡ a = rw zero-mul (add-zero a) in let y : zero + m ≡ m = omega arith in rw (z, y)
rows_at_split w (suc n) m a l =
    let z : a + suc n * w ≡ a + w + n * w = omega (arith, suc-mul n w) in
    let y : suc n + m ≡ suc (n + m) = omega arith in
    rw (z, y) (ap (λ (rows : Rows). part a w l ∷ rows) (rows_at_split w n m (a + w) l))
