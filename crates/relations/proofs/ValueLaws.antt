-- Values: membership, and that an ascending list is known by its members; `canonical` makes the ascending list of the same members.
use mathlib.Core.Path.{◌≡◌, refl, sym, ◌∙◌, ap, ap₂, subst}
use mathlib.Core.Bool.{Bool, true, false, ◌&&◌, ◌||◌, cond, So, and-true, and-false}
use mathlib.Core.Logic.{◌⊎◌, inl, inr}
use mathlib.Core.List.{List, [], ◌∷◌, ◌++◌, map}
use Rattle.relations.specs.Lists.{any, filter, All}
use Rattle.relations.specs.Rows.{Row, same_row, row_before}
use Rattle.relations.specs.Values.{Rows, member, AllAfter, Ascending, insert_row, canonical, NeighboursAscend}
use Rattle.relations.proofs.BoolLaws.{true-and-false, bool_ext, or_cases, or_by_left, or_by_right, true_or_false, not_so}
use Rattle.relations.proofs.ListLaws.{all_mono, all_filter, all_append, any_none, any_elim, any_same, any_and_right}
use Rattle.relations.proofs.RowLaws.{same_row-itself, same_row-equal, row_before-itself, row_before_trans, row_before_asymmetric, Trichotomy, before, same, after, trichotomy, same_row_cong, before_differs, after_differs}

-- membership
pub member_has : (P : Row → Type 0) (r : Row) (xs : Rows) → All P xs → So (member r xs) → P r
member_has P r xs h k = go (any_elim (same_row r) xs h k)
  where
    go : (x : Row) × So (same_row r x) × P x → P r
    go w = subst P (sym (same_row-equal r w.0 w.1)) w.2

pub all_members : (P : Row → Type 0) (xs : Rows) → ((r : Row) → So (member r xs) → P r) → All P xs
all_members P [] f = tt
all_members P (x ∷ xs) f = (f x (or_by_left (same_row x x) (member x xs) (same_row-itself x)), all_members P xs (λ r h. f r (or_by_right (same_row r x) (member r xs) h)))

pub any_by_member : (p : Row → Bool) (r : Row) (xs : Rows) → So (member r xs) → So (p r) → So (any p xs)
any_by_member p r [] h k = h
any_by_member p r (x ∷ xs) h k = go (or_cases (same_row r x) (member r xs) h) (any_by_member p r xs)
  where
    go : So (same_row r x) ⊎ So (member r xs) → (So (member r xs) → So (p r) → So (any p xs)) → So (p x || any p xs)
    go (inl e) ih = or_by_left (p x) (any p xs) (sym (same_row_cong p r x e) ∙ k)
    go (inr e) ih = or_by_right (p x) (any p xs) (ih e k)

pub member_by_any : (p : Row → Bool) (xs : Rows) → So (any p xs) → (r : Row) × So (member r xs) × So (p r)
member_by_any p xs h = go (any_elim {P = λ r. So (member r xs)} p xs (all_members (λ r. So (member r xs)) xs (λ r k. k)) h)
  where
    go : (r : Row) × So (p r) × So (member r xs) → (r : Row) × So (member r xs) × So (p r)
    go w = (w.0, w.2, w.1)

pub after_not_member : (x : Row) (xs : Rows) → AllAfter x xs → member x xs ≡ false
after_not_member x xs h = any_none (same_row x) xs (all_mono (λ y k. before_differs x y k) xs h)

-- the same members: the same list
pub extensional : (xs ys : Rows) → Ascending xs → Ascending ys → ((r : Row) → member r xs ≡ member r ys) → xs ≡ ys
extensional [] [] a b h = refl
extensional [] (y ∷ ys) a b h = true-and-false (or_by_left (same_row y y) (member y ys) (same_row-itself y)) (sym (h y))
extensional (x ∷ xs) [] a b h = true-and-false (or_by_left (same_row x x) (member x xs) (same_row-itself x)) (h x)
extensional (x ∷ xs) (y ∷ ys) a b h = ap₂ ◌∷◌ heads (extensional xs ys a.1 b.1 tails)
  where
    heads : x ≡ y
    heads = go (or_cases (same_row x y) (member x ys) (sym (h x) ∙ or_by_left (same_row x x) (member x xs) (same_row-itself x))) (or_cases (same_row y x) (member y xs) (h y ∙ or_by_left (same_row y y) (member y ys) (same_row-itself y)))
      where
        go : So (same_row x y) ⊎ So (member x ys) → So (same_row y x) ⊎ So (member y xs) → x ≡ y
        go (inl e) f = same_row-equal x y e
        go (inr e) (inl f) = sym (same_row-equal y x f)
        go (inr e) (inr f) = row_before_asymmetric x y (member_has (λ z. So (row_before x z)) y xs a.0 f) (member_has (λ z. So (row_before y z)) x ys b.0 e)

    tails : (r : Row) → member r xs ≡ member r ys
    tails r = go (true_or_false (same_row r x)) (true_or_false (same_row r y))
      where
        go : (same_row r x ≡ true) ⊎ (same_row r x ≡ false) → (same_row r y ≡ true) ⊎ (same_row r y ≡ false) → member r xs ≡ member r ys
        go (inl e) f = subst (λ z. member z xs ≡ member z ys) (sym (same_row-equal r x e)) (after_not_member x xs a.0 ∙ sym (subst (λ z. member z ys ≡ false) (sym heads) (after_not_member y ys b.0)))
        go (inr e) (inl f) = true-and-false f (subst (λ z. same_row r z ≡ false) heads e)
        go (inr e) (inr f) = subst (λ b. (b || member r xs) ≡ (same_row r y || member r ys)) e (h r) ∙ ap (λ b. b || member r ys) f

-- insertion
pub member-insert_row : (r x : Row) (xs : Rows) → member r (insert_row x xs) ≡ (same_row r x || member r xs)
member-insert_row r x [] = refl
member-insert_row r x (y ∷ ys) = go (row_before x y) (true_or_false (same_row x y)) (member-insert_row r x ys)
  where
    go : (b : Bool) → (same_row x y ≡ true) ⊎ (same_row x y ≡ false) → member r (insert_row x ys) ≡ (same_row r x || member r ys) → member r (elim b [ true ↦ x ∷ y ∷ ys | false ↦ elim (same_row x y) [ true ↦ y ∷ ys | false ↦ y ∷ insert_row x ys ] ]) ≡ (same_row r x || (same_row r y || member r ys))
    go true e ih = refl
    go false (inl e) ih = rw (e, same_row-equal x y e) (aux (same_row r y) (member r ys))
      where
        aux : (a b : Bool) → (a || b) ≡ (a || (a || b))
        aux true b = refl
        aux false b = refl
    go false (inr e) ih = rw (e, ih) (aux (same_row r y) (same_row r x) (member r ys))
      where
        aux : (a b c : Bool) → (a || (b || c)) ≡ (b || (a || c))
        aux true true c = refl
        aux true false c = refl
        aux false b c = refl

pub all_insert_row : (P : Row → Type 0) (x : Row) (xs : Rows) → P x → All P xs → All P (insert_row x xs)
all_insert_row P x [] p h = (p, tt)
all_insert_row P x (y ∷ ys) p h = go (row_before x y) (same_row x y) (all_insert_row P x ys p h.1)
  where
    go : (a b : Bool) → All P (insert_row x ys) → All P (elim a [ true ↦ x ∷ y ∷ ys | false ↦ elim b [ true ↦ y ∷ ys | false ↦ y ∷ insert_row x ys ] ])
    go true b ih = (p, h)
    go false true ih = h
    go false false ih = (h.0, ih)

pub insert_row_case : (x y : Row) (ys : Rows) (a b : Bool) → row_before x y ≡ a → same_row x y ≡ b → insert_row x (y ∷ ys) ≡ elim a [ true ↦ x ∷ y ∷ ys | false ↦ elim b [ true ↦ y ∷ ys | false ↦ y ∷ insert_row x ys ] ]
insert_row_case x y ys a b e f = ap₂ {A = Bool} {B = Bool} {C = Rows} (λ c d. elim c [ true ↦ x ∷ y ∷ ys | false ↦ elim d [ true ↦ y ∷ ys | false ↦ y ∷ insert_row x ys ] ]) e f

pub ascending-insert_row : (x : Row) (xs : Rows) → Ascending xs → Ascending (insert_row x xs)
ascending-insert_row x [] h = (tt, tt)
ascending-insert_row x (y ∷ ys) h = go (trichotomy x y) (ascending-insert_row x ys h.1)
  where
    go : Trichotomy x y → Ascending (insert_row x ys) → Ascending (insert_row x (y ∷ ys))
    go (before e) ih = rw (insert_row_case x y ys true (same_row x y) e refl) ((e, all_mono (λ z k. row_before_trans x y z e k) ys h.0), h)
    go (same e) ih = rw (insert_row_case x y ys false true (subst (λ z. row_before x z ≡ false) e (row_before-itself x)) (subst (λ z. same_row x z ≡ true) e (same_row-itself x))) h
    go (after e) ih = rw (insert_row_case x y ys false false (not_so (row_before x y) (λ k. row_before_asymmetric x y k e)) (after_differs x y e)) (all_insert_row (λ z. So (row_before y z)) x ys e h.0, ih)

pub ascending-canonical : (xs : Rows) → Ascending (canonical xs)
ascending-canonical [] = tt
ascending-canonical (x ∷ xs) = ascending-insert_row x (canonical xs) (ascending-canonical xs)

pub member-canonical : (r : Row) (xs : Rows) → member r (canonical xs) ≡ member r xs
member-canonical r [] = refl
member-canonical r (x ∷ xs) = member-insert_row r x (canonical xs) ∙ ap (λ b. same_row r x || b) (member-canonical r xs)

pub all_canonical : (P : Row → Type 0) (xs : Rows) → All P xs → All P (canonical xs)
all_canonical P [] h = tt
all_canonical P (x ∷ xs) h = all_insert_row P x (canonical xs) h.0 (all_canonical P xs h.1)

pub ascending-filter : (p : Row → Bool) (xs : Rows) → Ascending xs → Ascending (filter p xs)
ascending-filter p [] h = tt
ascending-filter p (x ∷ xs) h = go (p x) (ascending-filter p xs h.1)
  where
    go : (b : Bool) → Ascending (filter p xs) → Ascending (cond b (x ∷ filter p xs) (filter p xs))
    go true ih = (all_filter (λ y. So (row_before x y)) p xs h.0, ih)
    go false ih = ih

pub member_filter : (r : Row) (p : Row → Bool) (xs : Rows) → member r (filter p xs) ≡ (member r xs && p r)
member_filter r p [] = refl
member_filter r p (x ∷ xs) = go (p x) refl (true_or_false (same_row r x)) (member_filter r p xs)
  where
    go : (b : Bool) → p x ≡ b → (same_row r x ≡ true) ⊎ (same_row r x ≡ false) → member r (filter p xs) ≡ (member r xs && p r) → member r (cond b (x ∷ filter p xs) (filter p xs)) ≡ ((same_row r x || member r xs) && p r)
    go true e (inl f) ih = rw (f) (sym (same_row_cong p r x f ∙ e))
    go true e (inr f) ih = rw (f) ih
    go false e (inl f) ih = rw (f, ih, same_row_cong p r x f, e) (aux (member r xs))
      where
        aux : (a : Bool) → (a && false) ≡ false
        aux true = refl
        aux false = refl
    go false e (inr f) ih = rw (f) ih

pub member-map : (r : Row) {A : Type 0} (f : A → Row) (xs : List A) → member r (map f xs) ≡ any (λ x. same_row r (f x)) xs
member-map r f [] = refl
member-map r f (x ∷ xs) = rw (member-map r f xs)

pub canonical_by_members : (xs ys : Rows) → ((r : Row) → member r xs ≡ member r ys) → canonical xs ≡ canonical ys
canonical_by_members xs ys h = extensional (canonical xs) (canonical ys) (ascending-canonical xs) (ascending-canonical ys) (λ r. member-canonical r xs ∙ h r ∙ sym (member-canonical r ys))

pub canonical-ascending : (xs : Rows) → Ascending xs → canonical xs ≡ xs
canonical-ascending xs a = extensional (canonical xs) xs (ascending-canonical xs) a (λ r. member-canonical r xs)

-- any, over what the operations make
pub any-canonical : (p : Row → Bool) (xs : Rows) → any p (canonical xs) ≡ any p xs
any-canonical p xs = bool_ext (any p (canonical xs)) (any p xs) (λ h. go (member_by_any p (canonical xs) h)) (λ h. og (member_by_any p xs h))
  where
    go : (r : Row) × So (member r (canonical xs)) × So (p r) → So (any p xs)
    go w = any_by_member p w.0 xs (sym (member-canonical w.0 xs) ∙ w.1) w.2

    og : (r : Row) × So (member r xs) × So (p r) → So (any p (canonical xs))
    og w = any_by_member p w.0 (canonical xs) (member-canonical w.0 xs ∙ w.1) w.2

pub any_at : (g : Row → Bool) (t : Row) (P : Rows) → any (λ l. g l && same_row t l) P ≡ (member t P && g t)
any_at g t P = any_same (λ l. g l && same_row t l) (λ l. same_row t l && g t) (λ l. go l (true_or_false (same_row t l))) P ∙ any_and_right (same_row t) (g t) P
  where
    go : (l : Row) → (same_row t l ≡ true) ⊎ (same_row t l ≡ false) → (g l && same_row t l) ≡ (same_row t l && g t)
    go l (inl e) = rw (e, and-true) (sym (same_row_cong g t l e))
    go l (inr e) = rw (e, and-false)

-- a filtered value is in order as it is
pub canonical-filter : (p : Row → Bool) (xs : Rows) → Ascending xs → canonical (filter p xs) ≡ filter p xs
canonical-filter p xs a = canonical-ascending (filter p xs) (ascending-filter p xs a)

pub ascending-append : (xs ys : Rows) → Ascending xs → Ascending ys → All (λ x. AllAfter x ys) xs → Ascending (xs ++ ys)
ascending-append [] ys a b h = b
ascending-append (x ∷ xs) ys a b h = (all_append (λ y. So (row_before x y)) xs ys a.0 h.0, ascending-append xs ys a.1 b h.1)

pub neighbours_ascending : (xs : Rows) → NeighboursAscend xs → Ascending xs
neighbours_ascending [] h = tt
neighbours_ascending (x ∷ []) h = (tt, tt)
neighbours_ascending (x ∷ y ∷ xs) h = go (neighbours_ascending (y ∷ xs) h.1)
  where
    go : Ascending (y ∷ xs) → Ascending (x ∷ y ∷ xs)
    go a = ((h.0, all_mono (λ z k. row_before_trans x y z h.0 k) xs a.0), a)
