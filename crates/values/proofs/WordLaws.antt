-- Laws of the words of a buffer: a part of it, and a run of words stored over it (`sets`). Assumes nothing.
use mathlib.Core.Path.{◌≡◌, refl, sym, ap, ap₂, ◌∙◌}
use Prim.Native.Nat.{ℕ, suc, ◌+◌, ◌-◌, ◌≤◌, ◌<◌}
use native.Mathlib.Numerals.{add-one}
use native.Mathlib.Omega.{arith}
use mathlib.Core.List.{List, [], ◌∷◌, ◌++◌, append_assoc}
use lib.ListN.{length, get_or, set, take, drop, length-drop, take-append-drop}
use lib.Seq.{paste, take_all, sets, length-sets, sets-eq, take-set-le, get_or-set_other, set_comm, set-set, take_at, drop_at, length-take-le, take-suc, drop-cons, get_or-drop, get_or-take, drop-drop, take-add, ext_get_or}
use borrow.Rule.Slice.PartMut.{put_mid}
use Rattle.std.specs.List.{copy_within}
use Rattle.std.proofs.lemmas.Slice.{put_mid-paste}
use Rattle.relations.proofs.StoreLaws.{sets-append}
use Rattle.values.specs.Words.{part}

pub length_part : (a n : ℕ) (l : List ℕ) → a + n ≤ length l → length (part a n l) ≡ n
length_part a n l h = length-take-le n (drop a l) (rw length-drop (omega arith))

pub get_d_part : (a n : ℕ) (l : List ℕ) (i : ℕ) → i < n → get_or (part a n l) i 0 ≡ get_or l (a + i) 0
get_d_part a n l i h = get_or-take n (drop a l) i 0 h ∙ get_or-drop a l i 0

pub part_cons : (a n : ℕ) (l : List ℕ) → a < length l → part a (suc n) l ≡ get_or l a 0 ∷ part (suc a) n l
part_cons a n l h = ap (take (suc n)) (drop-cons l a 0 h)

-- two parts, one behind the other
pub part_add : (a n m : ℕ) (l : List ℕ) → part a (n + m) l ≡ part a n l ++ part (a + n) m l
part_add a n m l = take-add n m (drop a l) ∙ ap (λ (r : List ℕ). part a n l ++ take m r) (drop-drop n a l)

-- ---- sets

pub take-sets : (n : ℕ) (l : List ℕ) (i : ℕ) (vs : List ℕ) → n ≤ i → take n (sets l i vs) ≡ take n l
take-sets n l i [] h = refl
take-sets n l i (v ∷ vs) h = take-sets n (set l i v) (suc i) vs (omega arith) ∙ take-set-le n l i v h

pub get_d_sets_below : (l : List ℕ) (i : ℕ) (vs : List ℕ) (j : ℕ) → j < i → get_or (sets l i vs) j 0 ≡ get_or l j 0
get_d_sets_below l i [] j h = refl
get_d_sets_below l i (v ∷ vs) j h =
    get_d_sets_below (set l i v) (suc i) vs j (omega arith) ∙ get_or-set_other l i j v 0 (omega arith)

pub get_d_sets_above : (l : List ℕ) (i : ℕ) (vs : List ℕ) (j : ℕ) → i + length vs ≤ j → get_or (sets l i vs) j 0 ≡ get_or l j 0
get_d_sets_above l i [] j h = refl
get_d_sets_above l i (v ∷ vs) j h = get_d_sets_above (set l i v) (suc i) vs j (omega arith) ∙ get_or-set_other l i j v 0 (omega arith)

-- a store in front of the run
pub set-sets : (l : List ℕ) (p i : ℕ) (x : ℕ) (vs : List ℕ) → p < i → set (sets l i vs) p x ≡ sets (set l p x) i vs
set-sets l p i x [] h = refl
set-sets l p i x (v ∷ vs) h =
    set-sets (set l i v) p (suc i) x vs (omega arith)
    ∙ ap (λ (r : List ℕ). sets r (suc i) vs) (set_comm l i p v x (omega arith))

-- a run in front of a run
pub sets-sets : (l : List ℕ) (p i : ℕ) (us vs : List ℕ) → p + length us ≤ i → sets (sets l i vs) p us ≡ sets (sets l p us) i vs
sets-sets l p i [] vs h = refl
sets-sets l p i (u ∷ us) vs h =
    ap (λ (r : List ℕ). sets r (suc p) us) (set-sets l p i u vs (omega arith))
    ∙ sets-sets (set l p u) (suc p) i us vs (omega arith)

-- what is stored already changes nothing
pub sets-part : (n : ℕ) (l : List ℕ) (a : ℕ) → a + n ≤ length l → sets l a (part a n l) ≡ l
sets-part n l a h =
    sets-eq (part a n l) l a (rw length_part (omega arith))
    ∙ ap (λ (k : ℕ). take a l ++ part a n l ++ drop (a + k) l) (length_part a n l h)
    ∙ append_assoc (take a l) (part a n l) (drop (a + n) l)
    ∙ ap (λ (r : List ℕ). take a l ++ (part a n l ++ r)) (sym (drop-drop n a l))
    ∙ ap (λ (r : List ℕ). take a l ++ r) (take-append-drop n (drop a l))
    ∙ take-append-drop a l

-- the run read back, and a part in front of it
pub part-sets : (l : List ℕ) (i : ℕ) (vs : List ℕ) → i + length vs ≤ length l → part i (length vs) (sets l i vs) ≡ vs
part-sets l i vs h =
    ap (part i (length vs)) (sets-eq vs l i h ∙ append_assoc (take i l) vs (drop (i + length vs) l))
    ∙ ap (take (length vs)) (drop_at (take i l) (vs ++ drop (i + length vs) l) i (length-take-le i l (omega arith)))
    ∙ take_at vs (drop (i + length vs) l) (length vs) refl

pub part-before : (l : List ℕ) (a n i : ℕ) (vs : List ℕ) → a + n ≤ i → i ≤ length l → part a n (sets l i vs) ≡ part a n l
part-before l a n i vs h k =
    ext_get_or 0 (part a n (sets l i vs)) (part a n l)
    (length_part a n (sets l i vs) (rw length-sets (omega arith)) ∙ sym (length_part a n l (omega arith)))
    (λ j jh. let b : j < n = rw (length_part a n (sets l i vs) (rw length-sets (omega arith))) at jh in
    get_d_part a n (sets l i vs) j b ∙ get_d_sets_below l i vs (a + j) (omega arith) ∙ sym (get_d_part a n l j b))

-- the later of two runs from one place is the one that stays
pub sets_again : (l : List ℕ) (i : ℕ) (us vs : List ℕ) → length us ≤ length vs → sets (sets l i us) i vs ≡ sets l i vs
sets_again l i [] vs h = refl
sets_again l i (u ∷ us) [] h = absurd (omega arith)
sets_again l i (u ∷ us) (v ∷ vs) h =
    ap (λ (r : List ℕ). sets r (suc i) vs)
    (set-sets (set l i u) i (suc i) v us (omega arith) ∙ ap (λ (r : List ℕ). sets r (suc i) us) (set-set l i u v))
    ∙ sets_again (set l i v) (suc i) us vs (omega arith)

-- a turn of a loop that writes words
pub sets_suc : (l : List ℕ) (a : ℕ) (r : List ℕ) (i : ℕ) → i < length r
    → set (sets l a (take i r)) (a + i) (get_or r i 0) ≡ sets l a (take (i + 1) r)
sets_suc l a r i h =
    let t : take (i + 1) r ≡ take i r ++ (get_or r i 0 ∷ []) = rw add-one (take-suc r i 0 h) in
    ap (λ (k : ℕ). set (sets l a (take i r)) (a + k) (get_or r i 0)) (sym (length-take-le i r (omega arith)))
    ∙ sym (sets-append l a (take i r) (get_or r i 0 ∷ []))
    ∙ ap (sets l a) (sym t)

-- the same of a row that stands elsewhere, or in front of where it is written
pub in_turn : (words l now : List ℕ) (start count at i : ℕ) → start + count ≤ length words → i < count → now ≡ sets l at (take i (part start count words))
    → set now (at + i) (get_or words (start + i) 0) ≡ sets l at (take (i + 1) (part start count words))
in_turn words l now start count at i h m e =
    let row : List ℕ = part start count words in
    ap₂ (λ (u : List ℕ) (v : ℕ). set u (at + i) v) e (sym (get_d_part start count words i m)) ∙ sets_suc l at row i (omega (arith, length_part start count words h))

pub up_turn : (l now : List ℕ) (start count at i : ℕ) → start + count ≤ at → at ≤ length l → i < count → now ≡ sets l at (take i (part start count l))
    → set now (at + i) (get_or now (start + i) 0) ≡ sets l at (take (i + 1) (part start count l))
up_turn l now start count at i h k m e =
    let x : get_or now (start + i) 0 ≡ get_or l (start + i) 0 = ap (λ (u : List ℕ). get_or u (start + i) 0) e ∙ get_d_sets_below l at (take i (part start count l)) (start + i) (omega arith) in
    ap (set now (at + i)) x ∙ in_turn l l now start count at i (omega arith) m e

-- what the slices' copies leave is a run of stores
paste-sets : (l vs : List ℕ) (a n : ℕ) → n ≡ length vs → a + n ≤ length l → paste l a vs n ≡ sets l a vs
paste-sets l vs a n e h = ap₂ (λ (u : List ℕ) (k : ℕ). take a l ++ u ++ drop (a + k) l) (take_all n vs (omega arith)) e ∙ sym (sets-eq vs l a (omega arith))

pub put_mid-sets : (l vs : List ℕ) (a n : ℕ) {now : List ℕ} → now ≡ vs → length vs ≡ n → a + n ≤ length l → put_mid a n l now ≡ sets l a vs
put_mid-sets l vs a n {now} e k h = put_mid-paste a n l now vs n e refl (sym k) ∙ paste-sets l vs a n (sym k) h

pub copied_within : (l : List ℕ) (i j a : ℕ) → i ≤ j → j ≤ length l → a + (j - i) ≤ length l → copy_within l i j a ≡ sets l a (part i (j - i) l)
copied_within l i j a h k m =
    let size : length (part i (j - i) l) ≡ j - i = length_part i (j - i) l (omega arith) in
    ap (λ (n : ℕ). take a l ++ part i (j - i) l ++ drop (a + n) l) (sym size) ∙ sym (sets-eq (part i (j - i) l) l a (omega arith))

-- the same of so many words
pub copied_count : (l : List ℕ) (i n a : ℕ) → i + n ≤ length l → a + n ≤ length l → copy_within l i (i + n) a ≡ sets l a (part i n l)
copied_count l i n a h k = let e : i + n - i ≡ n = omega arith in copied_within l i (i + n) a (omega arith) h (omega arith) ∙ ap (λ (m : ℕ). sets l a (part i m l)) e

-- a row put in behind the first k of n words, and those after them moved up
pub sets_into : (l row : List ℕ) (a n k : ℕ) → k ≤ n → a + n + length row ≤ length l
    → sets l a (take k (part a n l) ++ (row ++ drop k (part a n l))) ≡ sets (sets l (a + k + length row) (part (a + k) (n - k) l)) (a + k) row
sets_into l row a n k h fits =
    let m : ℕ = n - k in
    let e : n ≡ k + m = omega arith in
    let lk : length (part a k l) ≡ k = length_part a k l (omega arith) in
    let f : part a n l ≡ part a k l ++ part (a + k) m l = ap (λ (z : ℕ). part a z l) e ∙ part_add a k m l in
    let t : take k (part a n l) ≡ part a k l = ap (take k) f ∙ take_at (part a k l) (part (a + k) m l) k lk in
    let d : drop k (part a n l) ≡ part (a + k) m l = ap (drop k) f ∙ drop_at (part a k l) (part (a + k) m l) k lk in
    let vs : List ℕ = part (a + k) m l in
    ap₂ (λ (x y : List ℕ). sets l a (x ++ (row ++ y))) t d
    ∙ sets-append l a (part a k l) (row ++ vs)
    ∙ ap₂ (λ (x : List ℕ) (y : ℕ). sets x (a + y) (row ++ vs)) (sets-part k l a (omega arith)) lk
    ∙ sets-append l (a + k) row vs
    ∙ sym (sets-sets l (a + k) (a + k + length row) row vs (omega arith))
