-- Counting the elements that pass a test, and the rows that begin with a row: what operation 13 rests on.
use mathlib.Core.Path.{◌≡◌, refl, sym, ◌∙◌, ap, ap₂, subst}
use mathlib.Core.Bool.{Bool, true, false, ◌&&◌, ◌||◌, cond, and-true, and-false}
use mathlib.Core.Logic.{◌⊎◌, inl, inr}
use mathlib.Core.List.{List, [], ◌∷◌, ◌++◌, map}
use Prim.Native.Nat.{suc, ◌+◌}
use native.Mathlib.Nat.{add-zero, zero-add}
use native.Mathlib.Omega.{arith}
use lib.Dec.{leb}
use borrow.Author.Tests.{le-leb}
use lib.ListN.{length, length-append}
use lib.Seq.{take_at}
use Rattle.relations.specs.Lists.{any, filter, how_many, flat, All}
use Rattle.relations.specs.Rows.{Row, same_row, begins}
use Rattle.relations.specs.Values.{Rows, member, Ascending, Wide}
use Rattle.relations.specs.Operations.{tally_candidates}
use Rattle.relations.proofs.BoolLaws.{true_or_false}
use Rattle.relations.proofs.ListLaws.{filter_and, filter-append, filter_cong, filter_same}
use Rattle.relations.proofs.RowLaws.{same_row-equal}
use Rattle.relations.proofs.ValueLaws.{after_not_member}

module _ {A : Type 0} where
  pub how_many-append : (p : A → Bool) (xs ys : List A) → how_many p (xs ++ ys) ≡ how_many p xs + how_many p ys
  how_many-append p xs ys = ap length (filter-append p xs ys) ∙ length-append (filter p xs) (filter p ys)

  pub how_many-filter : (p q : A → Bool) (xs : List A) → how_many q (filter p xs) ≡ how_many (λ x. p x && q x) xs
  how_many-filter p q xs = ap length (filter_and p q xs)

  pub how_many_same : (p q : A → Bool) → ((x : A) → p x ≡ q x) → (xs : List A) → how_many p xs ≡ how_many q xs
  how_many_same p q h xs = ap length (filter_same p q h xs)

  pub how_many_cong : (p q : A → Bool) (xs : List A) → All (λ x. p x ≡ q x) xs → how_many p xs ≡ how_many q xs
  how_many_cong p q xs h = ap length (filter_cong p q xs h)

  how_many_none : (xs : List A) → how_many (λ x. false) xs ≡ 0
  how_many_none [] = refl
  how_many_none (x ∷ xs) = how_many_none xs

  -- at least one: some
  pub one_is_some : (p : A → Bool) (xs : List A) → leb 1 (how_many p xs) ≡ any p xs
  one_is_some p [] = refl
  one_is_some p (x ∷ xs) = go (p x) (one_is_some p xs)
    where
      go : (b : Bool) → leb 1 (how_many p xs) ≡ any p xs → leb 1 (length (cond b (x ∷ filter p xs) (filter p xs))) ≡ (b || any p xs)
      go true ih = le-leb 1 (suc (how_many p xs)) (omega arith)
      go false ih = ih

pub how_many-map : {A B : Type 0} (q : B → Bool) (f : A → B) (xs : List A) → how_many q (map f xs) ≡ how_many (λ x. q (f x)) xs
how_many-map q f [] = refl
how_many-map q f (x ∷ xs) = go (q (f x)) (how_many-map q f xs)
  where
    go : (b : Bool) → how_many q (map f xs) ≡ how_many (λ y. q (f y)) xs → length (cond b (f x ∷ filter q (map f xs)) (filter q (map f xs))) ≡ length (cond b (x ∷ filter (λ y. q (f y)) xs) (filter (λ y. q (f y)) xs))
    go true ih = ap suc ih
    go false ih = ih

-- a joined row begins with the rows that equal its left part
begins-joined : (t p r : Row) → length p ≡ length t → begins t (p ++ r) ≡ same_row t p
begins-joined t p r e = ap (same_row t) (take_at p r (length t) e)

-- Of the rows of a product that pass a test, those that begin with a left row are as many as the right rows that pass beside it: a value has the left row once.
pub how_many_product : (F : Row → Bool) (R : Rows) (t : Row) (P : Rows) → Ascending P → Wide (length t) P → how_many (λ q. F q && begins t q) (flat (λ p. map (λ r. p ++ r) R) P) ≡ cond (member t P) (how_many (λ r. F (t ++ r)) R) 0
how_many_product F R t [] a h = refl
how_many_product F R t (p ∷ P) a h = how_many-append (λ q. F q && begins t q) (map (λ r. p ++ r) R) (flat (λ p. map (λ r. p ++ r) R) P) ∙ (ap₂ ◌+◌ beside (how_many_product F R t P a.1 h.1) ∙ go (true_or_false (same_row t p)))
  where
    beside : how_many (λ q. F q && begins t q) (map (λ r. p ++ r) R) ≡ how_many (λ r. F (p ++ r) && same_row t p) R
    beside = how_many-map (λ q. F q && begins t q) (λ r. p ++ r) R ∙ how_many_same (λ r. F (p ++ r) && begins t (p ++ r)) (λ r. F (p ++ r) && same_row t p) (λ r. ap (λ b. F (p ++ r) && b) (begins-joined t p r h.0)) R

    go : (same_row t p ≡ true) ⊎ (same_row t p ≡ false) → how_many (λ r. F (p ++ r) && same_row t p) R + cond (member t P) (how_many (λ r. F (t ++ r)) R) 0 ≡ cond (same_row t p || member t P) (how_many (λ r. F (t ++ r)) R) 0
    go (inl e) =
        let same : t ≡ p = same_row-equal t p e in
        let once : member t P ≡ false = subst (λ z. member z P ≡ false) (sym same) (after_not_member p P a.0) in
        let all_pass : how_many (λ r. F (p ++ r) && same_row t p) R ≡ how_many (λ r. F (t ++ r)) R = how_many_same (λ r. F (p ++ r) && same_row t p) (λ r. F (t ++ r)) (λ r. ap (λ b. F (p ++ r) && b) e ∙ (and-true (F (p ++ r)) ∙ ap (λ z. F (z ++ r)) (sym same))) R in
        rw (all_pass, e, once) (add-zero (how_many (λ r. F (t ++ r)) R))
    go (inr e) =
        let none_pass : how_many (λ r. F (p ++ r) && same_row t p) R ≡ 0 = how_many_same (λ r. F (p ++ r) && same_row t p) (λ r. false) (λ r. ap (λ b. F (p ++ r) && b) e ∙ and-false (F (p ++ r))) R ∙ how_many_none R in
        rw (none_pass, e) (zero-add (cond (member t P) (how_many (λ r. F (t ++ r)) R) 0))

-- with k = 1 operation 13 keeps the left rows that begin some right row
pub tally_of_one : (left right : Rows) → tally_candidates 1 left right ≡ filter (λ t. any (begins t) right) left
tally_of_one left right = filter_same (λ t. leb 1 (how_many (begins t) right)) (λ t. any (begins t) right) (λ t. one_is_some (begins t) right) left
