-- Digits of masks, and the lowest set digit. Assumes nothing.
use Prim.Native.Nat.{ℕ, suc, zero, ◌+◌, ◌*◌, ◌-◌, ◌/◌, ◌%◌, ◌^◌, ◌<◌, ◌≤◌, min, max}
use mathlib.Core.Path.{◌≡◌, refl, sym, subst, ap, ◌∙◌}
use mathlib.Core.List.{List, [], ◌∷◌, ◌++◌, append_assoc}
use mathlib.Core.Bool.{Bool, true, false, cond, not}
use mathlib.Core.Logic.{◌⊎◌, inl, inr}
use native.Mathlib.Omega.{arith}
use native.Mathlib.Nat.{mod-eq_of_lt, div-one, add-zero, one-mul}
use native.Mathlib.Numerals.{add-one}
use lib.Pow.{pow-lt, shr-shr}
use lib.Bits.{bit_and, bit_or, bit_xor}
use lib.Count.{count_trailing_zeros, under}
use lib.Dec.{eqb}
use mir.Syntax.{w64}
use borrow.Author.Tests.{eqb-true, eqb-false, ne_eqb}
use Rattle.std.specs.Int.{bit_at}
use Rattle.std.proofs.lemmas.Nat.Bits.{bit_at-lt, bit_at-zero, bit_at_or, bit_at_and, bit_at_xor, bit_at_not, bit_at-pow_same, bit_at-pow_other, same_from_bits}
use Rattle.relations.proofs.BoolLaws.{true_or_false}
use Rattle.nodes.specs.References.{hit, seen, first_from, lowest, not_once, references_to}
use Rattle.nodes.specs.Nodes.{node_at}
use Rattle.nodes.specs.Marks.{Stepped, Marks}

bit_pow : (k j : ℕ) → bit_at (2 ^ k) j ≡ hit (suc k) j
bit_pow k j = go (true_or_false (eqb (suc k) (suc j)))
  where
    go : (eqb (suc k) (suc j) ≡ true) ⊎ (eqb (suc k) (suc j) ≡ false) → bit_at (2 ^ k) j ≡ hit (suc k) j
    go (inl e) = let same : j ≡ k = omega (arith, eqb-true (suc k) (suc j) e) in rw (e, same) (bit_at-pow_same k)
    go (inr e) = rw e (bit_at-pow_other k j (λ same. eqb-false (suc k) (suc j) e (omega arith)))

-- the lowest set digit, as a search
step : (b x r j : ℕ) → b < 2 → x + suc j ≡ r → under b x + j ≡ cond (eqb b 1) j r
step zero x r j h e = omega arith
step (suc zero) x r j h e = omega arith
step (suc (suc b)) x r j h e = absurd (omega arith)

pub trailing : (k n j : ℕ) → count_trailing_zeros k (n / 2 ^ j) + j ≡ first_from (λ i. eqb (bit_at n i) 1) k j
unfolding count_trailing_zeros first_from
trailing zero n j = omega arith
trailing (suc k) n j =
    step (bit_at n j) _ _ j (bit_at-lt n j)
    (ap (λ (m : ℕ). count_trailing_zeros k m + suc j) (shr-shr n j 1 ∙ ap (λ (i : ℕ). n / 2 ^ i) (add-one j)) ∙ trailing k n (suc j))

pub first_same : (p q : ℕ → Bool) (k j : ℕ) → ((i : ℕ) → i < j + k → p i ≡ q i) → first_from p k j ≡ first_from q k j
unfolding first_from
first_same p q zero j h = refl
first_same p q (suc k) j h =
    rw (h j (omega arith), first_same p q k (suc j) (λ i l. h i (omega arith)))

-- counts of a longer list
pub seen-append : (xs ys : List ℕ) (j : ℕ) → seen (xs ++ ys) j ≡ seen xs j + seen ys j
unfolding seen
seen-append [] ys j = omega arith
seen-append (x ∷ xs) ys j = omega (arith, seen-append xs ys j)

-- a node is named exactly once where the two masks differ
exactly : (s : ℕ) → eqb (1 - (min 1 s + min 1 (s - 1)) % 2) 1 ≡ not (eqb s 1)
exactly zero = refl
exactly (suc zero) = refl
exactly (suc (suc s)) =
    let a : min 1 (suc (suc s)) ≡ 1 = omega arith in
    let b : min 1 (suc (suc s) - 1) ≡ 1 = omega arith in
    rw (a, b, ne_eqb (suc (suc s)) 1 (λ e. omega arith))

hit_le : (w j : ℕ) → hit w j ≤ 1
hit_le w j = elim (eqb w (suc j)) as (λ b. cond b 1 0 ≤ 1) [ true ↦ omega arith | false ↦ omega arith ]

-- what a step does
pub skipped : (o t w : ℕ) → w ≡ 0 → Stepped o t w o t
skipped o t w e =
    let z : (j : ℕ) → hit w j ≡ 0 = λ j. simp (ne_eqb w (suc j) (λ f. omega arith)) in
    record { once = λ j. omega (arith, z j); twice = λ j. omega (arith, z j) }

pub stepped : (o t w b : ℕ) → 0 < w → b ≡ 2 ^ (w - 1) → Stepped o t w (bit_or o b) (bit_or t (bit_and o b))
stepped o t w b p e =
    let q : suc (w - 1) ≡ w = omega arith in
    let h : (j : ℕ) → bit_at b j ≡ hit w j = λ j. ap (λ (x : ℕ). bit_at x j) e ∙ bit_pow (w - 1) j ∙ ap (λ (x : ℕ). hit x j) q in
    record {
      once = λ j. bit_at_or o b j ∙ ap (max (bit_at o j)) (h j);
      twice = λ j. bit_at_or t (bit_and o b) j ∙ ap (max (bit_at t j)) (bit_at_and o b j ∙ ap (min (bit_at o j)) (h j));
    }

one_top : (h : ℕ) → max 1 (min 1 h) ≡ 1
one_top h = omega arith

grown : (s h : ℕ) → h ≤ 1 → max (min 1 (s - 1)) (min (min 1 s) h) ≡ min 1 (s + h - 1)
grown zero zero l = refl
grown zero (suc zero) l = refl
grown (suc zero) zero l = refl
grown (suc zero) (suc zero) l = refl
grown zero (suc (suc h)) l = absurd (omega arith)
grown (suc zero) (suc (suc h)) l = absurd (omega arith)
grown (suc (suc s)) h l =
    let a : min 1 (suc (suc s)) ≡ 1 = omega arith in
    let b : min 1 (suc (suc s) - 1) ≡ 1 = omega arith in
    let d : min 1 (suc (suc s) + h - 1) ≡ 1 = omega arith in
    rw (a, b, d) (one_top h)

-- the masks of one reference more
pub marked : {o t o' t' : ℕ} (ws : List ℕ) (w : ℕ) → Marks o t ws → Stepped o t w o' t' → Marks o' t' (ws ++ (w ∷ []))
unfolding seen
marked ws w m s =
    let n : (j : ℕ) → seen (ws ++ (w ∷ [])) j ≡ seen ws j + hit w j = λ j. seen-append ws (w ∷ []) j ∙ omega arith in
    let u : (j : ℕ) → hit w j ≤ 1 = λ j. hit_le w j in
    record {
      once = λ j. s.once j ∙ omega (arith, m.once j, n j, u j);
      twice = λ j. s.twice j ∙ rw (m.once j, m.twice j, n j) (grown (seen ws j) _ (u j));
    }

-- and of the three references of a node more
pub marked_node : {o t o' t' o'' t'' o''' t''' : ℕ} (words : List ℕ) (i : ℕ) → Marks o t (references_to words i)
    → Stepped o t (node_at words i).a o' t' → Stepped o' t' (node_at words i).b o'' t'' → Stepped o'' t'' (node_at words i).c o''' t'''
    → Marks o''' t''' (references_to words (i + 1))
unfolding references_to
marked_node {o''' = o'''} {t''' = t'''} words i m a b c =
    let r = node_at words i in
    let ws = references_to words i in
    let e : ((ws ++ (r.a ∷ [])) ++ (r.b ∷ [])) ++ (r.c ∷ []) ≡ ws ++ (r.a ∷ r.b ∷ r.c ∷ []) = simp append_assoc in
    rw add-one (subst (λ (l : List ℕ). Marks o''' t''' l) e (marked _ _ (marked _ _ (marked _ _ m a) b) c))

pub none_marked : Marks 0 0 []
unfolding seen
none_marked = record { once = λ j. bit_at-zero j; twice = λ j. bit_at-zero j }

-- the place
pub placed : (ws : List ℕ) (o t : ℕ) → bit_xor o t < 2 ^ 64 → Marks o t ws → count_trailing_zeros 64 (2 ^ 64 - 1 - bit_xor o t) ≡ lowest (not_once ws) 64
placed ws o t h m =
    let x : ℕ = 2 ^ 64 - 1 - bit_xor o t in
    let a : count_trailing_zeros 64 x ≡ count_trailing_zeros 64 (x / 2 ^ 0) + 0 = sym (add-zero _ ∙ ap (count_trailing_zeros 64) (div-one x)) in
    a ∙ trailing 64 x 0
    ∙ first_same _ _ 64 0
    (λ i l. ap (λ (b : ℕ). eqb b 1)
    (bit_at_not w64 (bit_xor o t) i h (omega arith)
    ∙ ap (λ (d : ℕ). 1 - d) (bit_at_xor o t i ∙ rw (m.once i, m.twice i)))
    ∙ exactly (seen ws i))

pub one_shifted : (w : ℕ) → w ≤ 64 → 0 < w → 1 * 2 ^ (w - 1) % 18446744073709551616 ≡ 2 ^ (w - 1)
one_shifted w h p = ap (λ (x : ℕ). x % 18446744073709551616) (one-mul (2 ^ (w - 1))) ∙ mod-eq_of_lt (pow-lt {i = w - 1} {j = 64} (omega arith))

-- Digits name a number: `Seen::and` and `see_all` promise one pair of masks.
pub one_stepped : (o t reference : ℕ) {o' t' o'' t'' : ℕ} → Stepped o t reference o' t' → Stepped o t reference o'' t'' → (o' ≡ o'') × (t' ≡ t'')
one_stepped o t reference {o'} {t'} {o''} {t''} one other = (same_from_bits o' o'' (λ j. one.once j ∙ sym (other.once j)), same_from_bits t' t'' (λ j. one.twice j ∙ sym (other.twice j)))

pub one_marks : (references : List ℕ) {o t o' t' : ℕ} → Marks o t references → Marks o' t' references → (o ≡ o') × (t ≡ t')
one_marks references {o} {t} {o'} {t'} one other = (same_from_bits o o' (λ j. one.once j ∙ sym (other.once j)), same_from_bits t t' (λ j. one.twice j ∙ sym (other.twice j)))
