-- Laws of `build`: the candidates put in from left to right. From no row they make the canonical value of the candidates, and it is refused
-- exactly when the whole of that value has no room. Assumes nothing.
use mathlib.Core.Path.{◌≡◌, refl, ◌∙◌}
use Prim.Native.Nat.{ℕ, ◌≤◌, ◌<◌}
use native.Mathlib.Omega.{arith}
use mathlib.Core.Bool.{Bool, true, false, cond}
use mathlib.Core.Logic.{◌⊎◌, inl, inr}
use mathlib.Core.List.{List, [], ◌∷◌, ◌++◌}
use lib.ListN.{length, length-append}
use lib.Dec.{leb}
use borrow.Author.Tests.{le-leb, lt-leb, leb-true}
use Rattle.relations.specs.Rows.{Row, row_before, same_row}
use Rattle.relations.specs.Values.{Rows, Wide, Ascending, insert_row, place_rows}
use Rattle.relations.proofs.ValueLaws.{ascending-insert_row, all_insert_row}
use Rattle.values.specs.Words.{words_of}
use Rattle.values.specs.Building.{Built, done, stopped, build, answer_of, left_of}
use Rattle.std.specs.Prelude.{Some, None}

-- one row

pub insert_wide : (w : ℕ) (r : Row) (v : Rows) → length r ≡ w → Wide w v → Wide w (insert_row r v)
insert_wide w r v e h = all_insert_row (λ row. length row ≡ w) r v e h

pub insert_grows : (r : Row) (v : Rows) → length (words_of v) ≤ length (words_of (insert_row r v))
unfolding words_of
insert_grows r [] = omega arith
insert_grows r (s ∷ v) = go (row_before r s) (same_row r s) (insert_grows r v)
  where
    go : (a b : Bool) → length (words_of v) ≤ length (words_of (insert_row r v))
        → length (s ++ words_of v) ≤ length (words_of (elim a [ true ↦ r ∷ s ∷ v | false ↦ elim b [ true ↦ s ∷ v | false ↦ s ∷ insert_row r v ] ]))
    go true b ih = simp length-append (omega arith)
    go false true ih = omega arith
    go false false ih = simp length-append (omega arith)

-- ---- laws of build

module _ (room : ℕ) (r : List ℕ) (rs v : Rows) where
  pub build_put : length (words_of (insert_row r v)) ≤ room → build room (r ∷ rs) v ≡ build room rs (insert_row r v)
  unfolding build
  build_put h = rw (le-leb _ _ h)

  pub build_full : room < length (words_of (insert_row r v)) → build room (r ∷ rs) v ≡ stopped v
  unfolding build
  build_full h = rw (lt-leb _ _ h)

pub place_rows_grows : (rs v : Rows) → length (words_of v) ≤ length (words_of (place_rows rs v))
place_rows_grows [] v = omega arith
place_rows_grows (r ∷ rs) v = omega (arith, insert_grows r v, place_rows_grows rs (insert_row r v))

-- it is made exactly when the whole of it has room
pub build-fits : (room : ℕ) (rs v : Rows) → length (words_of (place_rows rs v)) ≤ room → build room rs v ≡ done (place_rows rs v)
unfolding build
build-fits room [] v h = refl
build-fits room (r ∷ rs) v h =
    build_put room r rs v (omega (arith, place_rows_grows rs (insert_row r v))) ∙ build-fits room rs (insert_row r v) h

pub build-over : (room : ℕ) (rs v : Rows) → length (words_of v) ≤ room → room < length (words_of (place_rows rs v)) → answer_of (build room rs v) ≡ None
unfolding build
build-over room [] v k h = absurd (omega arith)
build-over room (r ∷ rs) v k h = go (leb (length (words_of (insert_row r v))) room) refl (λ x. build-over room rs (insert_row r v) x h)
  where
    go : (b : Bool) → leb (length (words_of (insert_row r v))) room ≡ b → (length (words_of (insert_row r v)) ≤ room → answer_of (build room rs (insert_row r v)) ≡ None)
        → answer_of (cond (leb (length (words_of (insert_row r v))) room) (build room rs (insert_row r v)) (stopped v)) ≡ None
    go true q ih = rw q (ih (leb-true _ _ q))
    go false q ih = rw q

pub build_cases : (room : ℕ) (rs v : Rows) → (build room rs v ≡ done (place_rows rs v)) ⊎ (answer_of (build room rs v) ≡ None)
unfolding build
build_cases room [] v = inl refl
build_cases room (r ∷ rs) v = go (leb (length (words_of (insert_row r v))) room) refl (build_cases room rs (insert_row r v))
  where
    go : (b : Bool) → leb (length (words_of (insert_row r v))) room ≡ b
        → (build room rs (insert_row r v) ≡ done (place_rows rs (insert_row r v))) ⊎ (answer_of (build room rs (insert_row r v)) ≡ None)
        → (cond (leb (length (words_of (insert_row r v))) room) (build room rs (insert_row r v)) (stopped v) ≡ done (place_rows rs (insert_row r v)))
        ⊎ (answer_of (cond (leb (length (words_of (insert_row r v))) room) (build room rs (insert_row r v)) (stopped v)) ≡ None)
    go true q ih = rw q ih
    go false q ih = inr (rw q)

-- one list of candidates behind another
abbrev pub then_build : ℕ → Rows → Built → Built
then_build room ys (done u) = build room ys u
then_build room ys (stopped u) = stopped u

pub build-append : (room : ℕ) (xs ys v : Rows) → build room (xs ++ ys) v ≡ then_build room ys (build room xs v)
unfolding build
build-append room [] ys v = refl
build-append room (x ∷ xs) ys v = go (leb (length (words_of (insert_row x v))) room) refl (build-append room xs ys (insert_row x v))
  where
    go : (b : Bool) → leb (length (words_of (insert_row x v))) room ≡ b → build room (xs ++ ys) (insert_row x v) ≡ then_build room ys (build room xs (insert_row x v))
        → cond (leb (length (words_of (insert_row x v))) room) (build room (xs ++ ys) (insert_row x v)) (stopped v)
        ≡ then_build room ys (cond (leb (length (words_of (insert_row x v))) room) (build room xs (insert_row x v)) (stopped v))
    go true q ih = rw q ih
    go false q ih = rw q

pub build_grows : (room : ℕ) (xs v : Rows) → length (words_of v) ≤ length (words_of (left_of (build room xs v)))
unfolding build
build_grows room [] v = omega arith
build_grows room (x ∷ xs) v = go (leb (length (words_of (insert_row x v))) room) refl (build_grows room xs (insert_row x v))
  where
    go : (b : Bool) → leb (length (words_of (insert_row x v))) room ≡ b → length (words_of (insert_row x v)) ≤ length (words_of (left_of (build room xs (insert_row x v))))
        → length (words_of v) ≤ length (words_of (left_of (cond (leb (length (words_of (insert_row x v))) room) (build room xs (insert_row x v)) (stopped v))))
    go true q ih = rw q (omega (arith, insert_grows x v))
    go false q ih = rw q (omega arith)

pub build-room : (room : ℕ) (xs v : Rows) → length (words_of v) ≤ room → length (words_of (left_of (build room xs v))) ≤ room
unfolding build
build-room room [] v h = h
build-room room (x ∷ xs) v h = go (leb (length (words_of (insert_row x v))) room) refl (build-room room xs (insert_row x v))
  where
    go : (b : Bool) → leb (length (words_of (insert_row x v))) room ≡ b → (length (words_of (insert_row x v)) ≤ room → length (words_of (left_of (build room xs (insert_row x v)))) ≤ room)
        → length (words_of (left_of (cond (leb (length (words_of (insert_row x v))) room) (build room xs (insert_row x v)) (stopped v)))) ≤ room
    go true q ih = rw q (ih (leb-true _ _ q))
    go false q ih = rw q h

-- what an answer says of what was built
pub went : (b : Built) (n : ℕ) → Some n ≡ answer_of b → (b ≡ done (left_of b)) × (n ≡ length (left_of b))
went (done u) n e = (refl, cc)
went (stopped u) n e = let y : ◌≡◌ {A = ℕ} 0 1 = cc in absurd (omega arith)

pub refused : (b : Built) → None ≡ answer_of b → b ≡ stopped (left_of b)
refused (done u) e = let y : ◌≡◌ {A = ℕ} 0 1 = cc in absurd (omega arith)
refused (stopped u) e = refl

pub build-ascending : (room : ℕ) (cs v : Rows) → Ascending v → Ascending (left_of (build room cs v))
unfolding build
build-ascending room [] v a = a
build-ascending room (c ∷ cs) v a = go (leb (length (words_of (insert_row c v))) room) (build-ascending room cs (insert_row c v) (ascending-insert_row c v a))
  where
    go : (b : Bool) → Ascending (left_of (build room cs (insert_row c v))) → Ascending (left_of (cond b (build room cs (insert_row c v)) (stopped v)))
    go true ih = ih
    go false ih = a
