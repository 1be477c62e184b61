-- Laws of `any`, `all`, `filter`, `flat` and `All` over lists of anything.
use mathlib.Core.Path.{◌≡◌, refl, sym, ◌∙◌, ap, ap₂}
use mathlib.Core.Bool.{Bool, true, false, not, ◌&&◌, ◌||◌, cond, So, false≢true, or_assoc, and-or_distrib_right}
use mathlib.Core.Logic.{◌⊎◌, inl, inr}
use mathlib.Core.List.{List, [], ◌∷◌, ◌++◌, map}
use Prim.Native.Nat.{ℕ, ◌+◌, ◌*◌}
use native.Mathlib.Nat.{add_comm, mul-zero, mul-suc}
use lib.ListN.{length, length-append}
use Rattle.relations.specs.Lists.{any, all, filter, flat, All}
use Rattle.relations.proofs.BoolLaws.{and_left, and_right, or_cases}

module _ {A : Type 0} where
  pub any_append : (p : A → Bool) (xs ys : List A) → any p (xs ++ ys) ≡ (any p xs || any p ys)
  any_append p [] ys = refl
  any_append p (x ∷ xs) ys = rw (any_append p xs ys) (sym (or_assoc (p x) (any p xs) (any p ys)))

  pub filter_and : (p q : A → Bool) (xs : List A) → filter q (filter p xs) ≡ filter (λ x. p x && q x) xs
  filter_and p q [] = refl
  filter_and p q (x ∷ xs) = go (p x) (filter_and p q xs)
    where
      go : (b : Bool) → filter q (filter p xs) ≡ filter (λ y. p y && q y) xs → filter q (cond b (x ∷ filter p xs) (filter p xs)) ≡ cond (b && q x) (x ∷ filter (λ y. p y && q y) xs) (filter (λ y. p y && q y) xs)
      go true ih = rw ih
      go false ih = ih

  pub all_mono : {P Q : A → Type 0} → ((x : A) → P x → Q x) → (xs : List A) → All P xs → All Q xs
  all_mono f [] h = tt
  all_mono f (x ∷ xs) h = (f x h.0, all_mono f xs h.1)

  pub all_every : {P : A → Type 0} → ((x : A) → P x) → (xs : List A) → All P xs
  all_every f [] = tt
  all_every f (x ∷ xs) = (f x, all_every f xs)

  pub all_zip : (P Q : A → Type 0) (xs : List A) → All P xs → All Q xs → All (λ x. P x × Q x) xs
  all_zip P Q [] h k = tt
  all_zip P Q (x ∷ xs) h k = ((h.0, k.0), all_zip P Q xs h.1 k.1)

  pub all_filter : (P : A → Type 0) (q : A → Bool) (xs : List A) → All P xs → All P (filter q xs)
  all_filter P q [] h = tt
  all_filter P q (x ∷ xs) h = go (q x) (all_filter P q xs h.1)
    where
      go : (b : Bool) → All P (filter q xs) → All P (cond b (x ∷ filter q xs) (filter q xs))
      go true ih = (h.0, ih)
      go false ih = ih

  pub all_append : (P : A → Type 0) (xs ys : List A) → All P xs → All P ys → All P (xs ++ ys)
  all_append P [] ys h k = k
  all_append P (x ∷ xs) ys h k = (h.0, all_append P xs ys h.1 k)

  -- the tests need agree only on the list's own elements
  pub filter_cong : (p q : A → Bool) (xs : List A) → All (λ x. p x ≡ q x) xs → filter p xs ≡ filter q xs
  filter_cong p q [] h = refl
  filter_cong p q (x ∷ xs) h = rw (h.0, filter_cong p q xs h.1)

  pub any_cong : (p q : A → Bool) (xs : List A) → All (λ x. p x ≡ q x) xs → any p xs ≡ any q xs
  any_cong p q [] h = refl
  any_cong p q (x ∷ xs) h = rw (h.0, any_cong p q xs h.1)

  pub filter_true : (xs : List A) → filter (λ _. true) xs ≡ xs
  filter_true [] = refl
  filter_true (x ∷ xs) = rw (filter_true xs)

  -- the first witness: no truncation is needed
  pub any_elim : {P : A → Type 0} (p : A → Bool) (xs : List A) → All P xs → So (any p xs) → (x : A) × So (p x) × P x
  any_elim p [] h k = absurd (false≢true k)
  any_elim {P} p (x ∷ xs) h k = go (or_cases (p x) (any p xs) k) (any_elim p xs h.1)
    where
      go : So (p x) ⊎ So (any p xs) → (So (any p xs) → (y : A) × So (p y) × P y) → (y : A) × So (p y) × P y
      go (inl e) ih = (x, e, h.0)
      go (inr e) ih = ih e

  pub all_of : (p : A → Bool) (xs : List A) → So (all p xs) → All (λ x. So (p x)) xs
  all_of p [] h = tt
  all_of p (x ∷ xs) h = (and_left (p x) (all p xs) h, all_of p xs (and_right (p x) (all p xs) h))

  pub of_all : (p : A → Bool) (xs : List A) → All (λ x. So (p x)) xs → So (all p xs)
  of_all p [] h = refl
  of_all p (x ∷ xs) h = rw (h.0, of_all p xs h.1)

  pub any_none : (p : A → Bool) (xs : List A) → All (λ x. p x ≡ false) xs → any p xs ≡ false
  any_none p [] h = refl
  any_none p (x ∷ xs) h = rw h.0 (any_none p xs h.1)

  pub not_any : (p : A → Bool) (xs : List A) → not (any p xs) ≡ all (λ x. not (p x)) xs
  not_any p [] = refl
  not_any p (x ∷ xs) = go (p x) (not_any p xs)
    where
      go : (b : Bool) → not (any p xs) ≡ all (λ y. not (p y)) xs → not (b || any p xs) ≡ (not b && all (λ y. not (p y)) xs)
      go true ih = refl
      go false ih = ih

  pub any-filter : (p q : A → Bool) (xs : List A) → any q (filter p xs) ≡ any (λ x. p x && q x) xs
  any-filter p q [] = refl
  any-filter p q (x ∷ xs) = go (p x) (any-filter p q xs)
    where
      go : (b : Bool) → any q (filter p xs) ≡ any (λ y. p y && q y) xs → any q (cond b (x ∷ filter p xs) (filter p xs)) ≡ (b && q x || any (λ y. p y && q y) xs)
      go true ih = rw ih
      go false ih = ih

  pub any_same : (p q : A → Bool) → ((x : A) → p x ≡ q x) → (xs : List A) → any p xs ≡ any q xs
  any_same p q h [] = refl
  any_same p q h (x ∷ xs) = rw (h x, any_same p q h xs)

  pub filter_same : (p q : A → Bool) → ((x : A) → p x ≡ q x) → (xs : List A) → filter p xs ≡ filter q xs
  filter_same p q h [] = refl
  filter_same p q h (x ∷ xs) = rw (h x, filter_same p q h xs)

  pub filter_always : (p : A → Bool) → ((x : A) → So (p x)) → (xs : List A) → filter p xs ≡ xs
  filter_always p h [] = refl
  filter_always p h (x ∷ xs) = rw (h x, filter_always p h xs)

  pub all_not_any : (p : A → Bool) (xs : List A) → not (any (λ x. not (p x)) xs) ≡ all p xs
  all_not_any p [] = refl
  all_not_any p (x ∷ xs) = go (p x) (all_not_any p xs)
    where
      go : (b : Bool) → not (any (λ y. not (p y)) xs) ≡ all p xs → not (not b || any (λ y. not (p y)) xs) ≡ (b && all p xs)
      go true ih = ih
      go false ih = refl

  pub any_and_right : (p : A → Bool) (b : Bool) (xs : List A) → any (λ x. p x && b) xs ≡ (any p xs && b)
  any_and_right p b [] = refl
  any_and_right p b (x ∷ xs) = ap (λ z. p x && b || z) (any_and_right p b xs) ∙ sym (and-or_distrib_right (p x) (any p xs) b)

  pub filter-append : (p : A → Bool) (xs ys : List A) → filter p (xs ++ ys) ≡ filter p xs ++ filter p ys
  filter-append p [] ys = refl
  filter-append p (x ∷ xs) ys = go (p x) (filter-append p xs ys)
    where
      go : (b : Bool) → filter p (xs ++ ys) ≡ filter p xs ++ filter p ys → cond b (x ∷ filter p (xs ++ ys)) (filter p (xs ++ ys)) ≡ cond b (x ∷ filter p xs) (filter p xs) ++ filter p ys
      go true ih = rw ih
      go false ih = ih

  pub all_cong : (f g : A → Bool) (xs : List A) → All (λ x. f x ≡ g x) xs → all f xs ≡ all g xs
  all_cong f g [] h = refl
  all_cong f g (x ∷ xs) h = rw (h.0, all_cong f g xs h.1)

  pub all_test_append : (f : A → Bool) (xs ys : List A) → all f (xs ++ ys) ≡ (all f xs && all f ys)
  all_test_append f [] ys = refl
  all_test_append f (x ∷ xs) ys = ap (λ b. f x && b) (all_test_append f xs ys) ∙ go (f x)
    where
      go : (b : Bool) → (b && (all f xs && all f ys)) ≡ ((b && all f xs) && all f ys)
      go true = refl
      go false = refl

  pub all_kept : (P : A → Type 0) (p : A → Bool) (xs : List A) → All P xs → All (λ x. So (p x) × P x) (filter p xs)
  all_kept P p [] h = tt
  all_kept P p (x ∷ xs) h = go (p x) refl (all_kept P p xs h.1)
    where
      go : (b : Bool) → p x ≡ b → All (λ y. So (p y) × P y) (filter p xs) → All (λ y. So (p y) × P y) (cond b (x ∷ filter p xs) (filter p xs))
      go true e ih = ((e, h.0), ih)
      go false e ih = ih

  pub all_split : (p q f : A → Bool) (xs : List A) → So (all (λ x. p x || q x) xs) → all f xs ≡ (all f (filter p xs) && all f (filter q xs))
  all_split p q f [] h = refl
  all_split p q f (x ∷ xs) h = go (p x) (q x) (and_left (p x || q x) (all (λ y. p y || q y) xs) h) (all_split p q f xs (and_right (p x || q x) (all (λ y. p y || q y) xs) h))
    where
      both_in : (c a b : Bool) → (c && (a && b)) ≡ ((c && a) && (c && b))
      both_in true a b = refl
      both_in false a b = refl

      right_in : (c a b : Bool) → (c && (a && b)) ≡ (a && (c && b))
      right_in true a b = refl
      right_in false true b = refl
      right_in false false b = refl

      left_in : (c a b : Bool) → (c && (a && b)) ≡ ((c && a) && b)
      left_in true a b = refl
      left_in false a b = refl

      go : (a b : Bool) → So (a || b) → all f xs ≡ (all f (filter p xs) && all f (filter q xs)) → (f x && all f xs) ≡ (all f (cond a (x ∷ filter p xs) (filter p xs)) && all f (cond b (x ∷ filter q xs) (filter q xs)))
      go true true k ih = rw ih (both_in (f x) (all f (filter p xs)) (all f (filter q xs)))
      go true false k ih = rw ih (left_in (f x) (all f (filter p xs)) (all f (filter q xs)))
      go false true k ih = rw ih (right_in (f x) (all f (filter p xs)) (all f (filter q xs)))
      go false false k ih = absurd (false≢true k)

  all_passed : (p : A → Bool) (xs : List A) → So (all p (filter p xs))
  all_passed p [] = refl
  all_passed p (x ∷ xs) = go (p x) refl (all_passed p xs)
    where
      go : (b : Bool) → p x ≡ b → So (all p (filter p xs)) → So (all p (cond b (x ∷ filter p xs) (filter p xs)))
      go true e ih = rw e ih
      go false e ih = ih

  pub all_split_three : (p q s f : A → Bool) (xs : List A) → So (all (λ x. p x || (q x || s x)) xs) → all f xs ≡ (all f (filter p xs) && (all f (filter q xs) && all f (filter s xs)))
  all_split_three p q s f xs h = all_split p (λ x. q x || s x) f xs h ∙ ap (λ b. all f (filter p xs) && b) (all_split q s f (filter (λ x. q x || s x) xs) (all_passed (λ x. q x || s x) xs) ∙ ap₂ ◌&&◌ (ap (all f) (filter_and (λ x. q x || s x) q xs ∙ filter_same (λ x. (q x || s x) && q x) q (λ x. left (q x) (s x)) xs)) (ap (all f) (filter_and (λ x. q x || s x) s xs ∙ filter_same (λ x. (q x || s x) && s x) s (λ x. right (q x) (s x)) xs)))
    where
      left : (a b : Bool) → ((a || b) && a) ≡ a
      left true b = refl
      left false true = refl
      left false false = refl

      right : (a b : Bool) → ((a || b) && b) ≡ b
      right true true = refl
      right true false = refl
      right false true = refl
      right false false = refl

module _ {A B : Type 0} where
  pub any-flat : (q : B → Bool) (f : A → List B) (xs : List A) → any q (flat f xs) ≡ any (λ x. any q (f x)) xs
  any-flat q f [] = refl
  any-flat q f (x ∷ xs) = any_append q (f x) (flat f xs) ∙ ap (λ b. any q (f x) || b) (any-flat q f xs)

  pub any-map : (q : B → Bool) (f : A → B) (xs : List A) → any q (map f xs) ≡ any (λ x. q (f x)) xs
  any-map q f [] = refl
  any-map q f (x ∷ xs) = rw (any-map q f xs)

  pub all_map : (P : B → Type 0) (f : A → B) (xs : List A) → All (λ x. P (f x)) xs → All P (map f xs)
  all_map P f [] h = tt
  all_map P f (x ∷ xs) h = (h.0, all_map P f xs h.1)

  pub all_flat : (P : B → Type 0) (f : A → List B) (xs : List A) → All (λ x. All P (f x)) xs → All P (flat f xs)
  all_flat P f [] h = tt
  all_flat P f (x ∷ xs) h = all_append P (f x) (flat f xs) h.0 (all_flat P f xs h.1)

  pub length-flat : (n : ℕ) (f : A → List B) (xs : List A) → ((x : A) → length (f x) ≡ n) → length (flat f xs) ≡ n * length xs
  length-flat n f [] h = sym (mul-zero n)
  length-flat n f (x ∷ xs) h = length-append (f x) (flat f xs) ∙ (ap₂ ◌+◌ (h x) (length-flat n f xs h) ∙ (add_comm n (n * length xs) ∙ sym (mul-suc n (length xs))))

  pub all_test_map : (f : B → Bool) (g : A → B) (xs : List A) → all f (map g xs) ≡ all (λ x. f (g x)) xs
  all_test_map f g [] = refl
  all_test_map f g (x ∷ xs) = rw (all_test_map f g xs)
