-- Words from a place on that are 0. Assumes nothing.
use mathlib.Core.Path.{◌≡◌, refl, sym, ap, ap₂, ◌∙◌}
use Prim.Native.Nat.{ℕ, zero, suc, ◌+◌, ◌-◌, ◌≤◌, ◌<◌}
use native.Mathlib.Omega.{arith}
use mathlib.Core.List.{List, [], ◌++◌, append-nil}
use lib.ListN.{length, get_or, take, drop, replicate, length-drop, length-replicate, get_or-replicate, drop_of_length-le, take-append-drop}
use lib.Seq.{sets, length-sets, sets-eq, length-take-le, drop_at, get_or-drop, ext_get_or}
use Rattle.values.specs.Words.{part}
use Rattle.values.specs.Building.{cleared_from, Blank}
use Rattle.values.proofs.WordLaws.{take-sets, get_d_sets_above, length_part, get_d_part, sets-part}

-- all words from a place on
pub clear_all : (l : List ℕ) (place : ℕ) → place ≤ length l → sets l place (replicate (length l - place) 0) ≡ cleared_from place l
clear_all l place h =
    let n : ℕ = length l - place in
    let size : length {A = ℕ} (replicate n 0) ≡ n = length-replicate {A = ℕ} n 0 in
    let rest : drop (place + length {A = ℕ} (replicate n 0)) l ≡ [] = drop_of_length-le l {i = place + length {A = ℕ} (replicate n 0)} (omega arith) in
    sets-eq (replicate n 0) l place (omega arith) ∙ ap (λ (r : List ℕ). take place l ++ replicate n 0 ++ r) rest ∙ append-nil (take place l ++ replicate n 0)

pub cleared-sets : (l : List ℕ) (place i : ℕ) (vs : List ℕ) → place ≤ i → cleared_from place (sets l i vs) ≡ cleared_from place l
cleared-sets l place i vs h = ap₂ (λ (front : List ℕ) (n : ℕ). front ++ replicate (n - place) 0) (take-sets place l i vs h) (length-sets l i vs)

-- word by word
pub blank_at : (place : ℕ) (l : List ℕ) → place ≤ length l → Blank place l → (j : ℕ) → place ≤ j → get_or l j 0 ≡ 0
blank_at place l h b j k =
    let zeros : drop place l ≡ replicate (length l - place) 0 = ap (drop place) b ∙ drop_at (take place l) (replicate (length l - place) 0) place (length-take-le place l h) in
    let there : place + (j - place) ≡ j = omega arith in
    ap (λ (i : ℕ). get_or l i 0) (sym there) ∙ sym (get_or-drop place l (j - place) 0) ∙ ap (λ (u : List ℕ). get_or u (j - place) 0) zeros ∙ zeros_at (length l - place) (j - place)
  where
    zeros_at : (n i : ℕ) → ◌≡◌ {A = ℕ} (get_or (replicate n 0) i 0) 0
    zeros_at zero i = refl
    zeros_at (suc n) zero = refl
    zeros_at (suc n) (suc i) = zeros_at n i

pub blank_by : (place : ℕ) (l : List ℕ) → place ≤ length l → ((j : ℕ) → place ≤ j → get_or l j 0 ≡ 0) → Blank place l
blank_by place l h z =
    let size : length (drop place l) ≡ length l - place = length-drop place l in
    let zeros : drop place l ≡ replicate (length l - place) 0 =
    ext_get_or 0 (drop place l) (replicate (length l - place) 0) (size ∙ sym (length-replicate (length l - place) 0))
    (λ j k. get_or-drop place l j 0 ∙ z (place + j) (omega arith) ∙ sym (get_or-replicate (length l - place) j 0 0 (omega arith))) in
    sym (take-append-drop place l) ∙ ap (λ (r : List ℕ). take place l ++ r) zeros

-- what is stored in front of a later place leaves the words from there on
pub blank-behind : {place : ℕ} {l : List ℕ} (later i : ℕ) (vs : List ℕ) → Blank place l → place ≤ later → later ≤ length l → i + length vs ≤ later → Blank later (sets l i vs)
blank-behind {place} {l} later i vs b h k m =
    blank_by later (sets l i vs) (omega (arith, length-sets l i vs)) (λ j n. get_d_sets_above l i vs j (omega arith) ∙ blank_at place l (omega arith) b j (omega arith))

-- zeros stored over zeros change nothing
pub blank-over : {place : ℕ} {l : List ℕ} (i n : ℕ) → Blank place l → place ≤ i → i + n ≤ length l → sets l i (replicate n 0) ≡ l
blank-over {place} {l} i n b h k =
    let zeros : part i n l ≡ replicate n 0 =
    ext_get_or 0 (part i n l) (replicate n 0) (length_part i n l k ∙ sym (length-replicate n 0))
    (λ j m. let low : j < n = omega (arith, length_part i n l k) in get_d_part i n l j low ∙ blank_at place l (omega arith) b (i + j) (omega arith) ∙ sym (get_or-replicate n j 0 0 low)) in
    ap (sets l i) (sym zeros) ∙ sets-part n l i k
