-- A test that only rows between two bounds pass: the rows before the low bound, and those behind the high one, may be left out. Assumes nothing.
use mathlib.Core.Path.{◌≡◌, refl, sym, ap, ◌∙◌}
use Prim.Native.Nat.{ℕ, zero, suc, ◌+◌, ◌-◌, ◌*◌, ◌≤◌, ◌<◌}
use native.Mathlib.Nat.{zero-mul, suc-mul, add-zero}
use native.Mathlib.Omega.{arith}
use mathlib.Core.Bool.{Bool, true, false, ◌&&◌, ◌||◌, So, false≢true}
use mathlib.Core.Logic.{◌⊎◌, inl, inr}
use mathlib.Core.List.{List, [], ◌∷◌}
use lib.ListN.{length, take, drop}
use lib.Seq.{take-take}
use lib.Dec.{ltb, eqb}
use borrow.Author.Tests.{ltb-true, eqb-true, lt-ltb, eq-eqb}
use Rattle.relations.specs.Lists.{any, filter, All}
use Rattle.relations.specs.Rows.{Row, row_before}
use Rattle.relations.specs.Values.{Rows, Wide, AllAfter, Ascending}
use Rattle.relations.proofs.BoolLaws.{true-and-false, true_or_false, not_so, and_left, and_right, and_both, or_cases, or_by_left, or_by_right}
use Rattle.relations.proofs.ListLaws.{any_none, all_zip, all_mono}
use Rattle.values.specs.Words.{row_in, rows_at}
use Rattle.values.specs.Places.{rows_before, NoneBefore, NoneBehind}
use Rattle.values.proofs.RowsLaws.{rows_at_row, rows_at-wide, row_inside, times_step}

-- a bound that stands before the first words of a row does so for each row behind it
behind-later : (bound row later : Row) → So (row_before bound (take (length bound) row)) → So (row_before row later) → So (row_before bound (take (length bound) later))
behind-later [] row later b h = absurd (false≢true b)
behind-later (y ∷ bound) [] later b h = absurd (false≢true b)
behind-later (y ∷ bound) (x ∷ row) [] b h = absurd (false≢true h)
behind-later (y ∷ bound) (x ∷ row) (z ∷ later) b h =
    go (or_cases (ltb y x) (eqb y x && row_before bound (take (length bound) row)) b) (or_cases (ltb x z) (eqb x z && row_before row later) h) (behind-later bound row later)
  where
    before : y < z → So (ltb y z || (eqb y z && row_before bound (take (length bound) later)))
    before l = or_by_left (ltb y z) (eqb y z && row_before bound (take (length bound) later)) (lt-ltb y z l)

    go : So (ltb y x) ⊎ So (eqb y x && row_before bound (take (length bound) row)) → So (ltb x z) ⊎ So (eqb x z && row_before row later)
        → (So (row_before bound (take (length bound) row)) → So (row_before row later) → So (row_before bound (take (length bound) later)))
        → So (ltb y z || (eqb y z && row_before bound (take (length bound) later)))
    go (inl k) (inl l) ih = before (omega (arith, ltb-true y x k, ltb-true x z l))
    go (inl k) (inr l) ih = before (omega (arith, ltb-true y x k, eqb-true x z (and_left (eqb x z) (row_before row later) l)))
    go (inr k) (inl l) ih = before (omega (arith, eqb-true y x (and_left (eqb y x) (row_before bound (take (length bound) row)) k), ltb-true x z l))
    go (inr k) (inr l) ih =
        or_by_right (ltb y z) (eqb y z && row_before bound (take (length bound) later))
        (and_both (eqb y z) (row_before bound (take (length bound) later)) (eq-eqb y z (eqb-true y x (and_left (eqb y x) (row_before bound (take (length bound) row)) k) ∙ eqb-true x z (and_left (eqb x z) (row_before row later) l)))
        (ih (and_right (eqb y x) (row_before bound (take (length bound) row)) k) (and_right (eqb x z) (row_before row later) l)))

-- no row passes
filter_none : (test : Row → Bool) (rows : Rows) → All (λ row. test row ≡ false) rows → filter test rows ≡ []
filter_none test [] h = refl
filter_none test (x ∷ xs) h = rw h.0 (filter_none test xs h.1)

module _ {width : ℕ} {low : Row} {test : Row → Bool} (none : NoneBefore width low test) where
  fails_before : (row : Row) → length row ≡ width → So (row_before row low) → test row ≡ false
  fails_before row l b = not_so (test row) (λ h. true-and-false b (none.least row l h))

  any_from : (rows : Rows) → Wide width rows → any test rows ≡ any test (drop (rows_before low rows) rows)
  any_from [] w = refl
  any_from (x ∷ xs) w = go (true_or_false (row_before x low)) (any_from xs w.1)
    where
      go : (row_before x low ≡ true) ⊎ (row_before x low ≡ false) → any test xs ≡ any test (drop (rows_before low xs) xs) → any test (x ∷ xs) ≡ any test (drop (rows_before low (x ∷ xs)) (x ∷ xs))
      go (inl e) ih = rw (e, fails_before x w.0 e) ih
      go (inr e) ih = rw e

  filter_from : (rows : Rows) → Wide width rows → filter test rows ≡ filter test (drop (rows_before low rows) rows)
  filter_from [] w = refl
  filter_from (x ∷ xs) w = go (true_or_false (row_before x low)) (filter_from xs w.1)
    where
      go : (row_before x low ≡ true) ⊎ (row_before x low ≡ false) → filter test xs ≡ filter test (drop (rows_before low xs) xs) → filter test (x ∷ xs) ≡ filter test (drop (rows_before low (x ∷ xs)) (x ∷ xs))
      go (inl e) ih = rw (e, fails_before x w.0 e) ih
      go (inr e) ih = rw e

module _ {width : ℕ} {high : Row} {test : Row → Bool} (none : NoneBehind width high test) where
  fails_behind : (row : Row) → length row ≡ width → So (row_before high (take (length high) row)) → test row ≡ false
  fails_behind row l b = not_so (test row) (λ h. true-and-false b (none.most row l h))

  -- where the high bound stands before a row, neither that row nor a later one passes
  none_pass : (x : Row) (xs : Rows) → Wide width (x ∷ xs) → AllAfter x xs → So (row_before high (take (length high) x)) → All (λ row. test row ≡ false) (x ∷ xs)
  none_pass x xs w a b =
      (fails_behind x w.0 b, all_mono (λ row h. fails_behind row h.0 (behind-later high x row b h.1)) xs (all_zip (λ row. length row ≡ width) (λ row. So (row_before x row)) xs w.1 a))

-- the same of a value in words
rows_at-drop : (w n a m : ℕ) (l : List ℕ) → m ≤ n → drop m (rows_at w n a l) ≡ rows_at w (n - m) (a + m * w) l
unfolding rows_at
rows_at-drop w n a zero l h = let e : n - zero ≡ n = omega arith in let f : a + zero * w ≡ a = rw zero-mul (add-zero a) in rw (e, f)
rows_at-drop w zero a (suc m) l h = absurd (omega arith)
rows_at-drop w (suc n) a (suc m) l h =
    let e : suc n - suc m ≡ n - m = omega arith in
    let f : a + w + m * w ≡ a + suc m * w = omega (arith, suc-mul m w) in
    rows_at-drop w n (a + w) m l (omega arith) ∙ rw (e, f)

ascending-drop : (m : ℕ) (rows : Rows) → Ascending rows → Ascending (drop m rows)
ascending-drop zero rows a = a
ascending-drop (suc m) [] a = tt
ascending-drop (suc m) (x ∷ xs) a = ascending-drop m xs a.1

module _ (width count start : ℕ) (words : List ℕ) (inside : start + count * width ≤ length words) where
  -- the rows from a number on ascend as all do
  pub ascending_from : (m : ℕ) → m ≤ count → Ascending (rows_at width count start words) → Ascending (rows_at width (count - m) (start + m * width) words)
  ascending_from m h a = rw (sym (rows_at-drop width count start m words h)) (ascending-drop m (rows_at width count start words) a)

  -- a turn of a loop over such rows
  pub ascending-next : 0 < count → Ascending (rows_at width count start words) → Ascending (rows_at width (count - 1) (start + width) words)
  ascending-next h a = let b : Ascending (row_in words start width ∷ rows_at width (count - 1) (start + width) words) = rw (rows_at_row width count start words h inside) at a in b.1

  module _ {low : Row} {test : Row → Bool} (none : NoneBefore width low test) where
    pub any_from_words : (m : ℕ) → m ≤ count → m ≡ rows_before low (rows_at width count start words) → any test (rows_at width count start words) ≡ any test (rows_at width (count - m) (start + m * width) words)
    any_from_words m h e =
        any_from none (rows_at width count start words) (rows_at-wide width count start words inside)
        ∙ ap (λ (k : ℕ). any test (drop k (rows_at width count start words))) (sym e)
        ∙ ap (any test) (rows_at-drop width count start m words h)

    pub filter_from_words : (m : ℕ) → m ≤ count → m ≡ rows_before low (rows_at width count start words) → filter test (rows_at width count start words) ≡ filter test (rows_at width (count - m) (start + m * width) words)
    filter_from_words m h e =
        filter_from none (rows_at width count start words) (rows_at-wide width count start words inside)
        ∙ ap (λ (k : ℕ). filter test (drop k (rows_at width count start words))) (sym e)
        ∙ ap (filter test) (rows_at-drop width count start m words h)

  module _ {high : Row} {test : Row → Bool} (none : NoneBehind width high test) where
    module _ (short : length high ≤ width) (some_left : 0 < count) (a : Ascending (rows_at width count start words)) (passed : So (row_before high (row_in words start (length high)))) where
      rows_here : rows_at width count start words ≡ row_in words start width ∷ rows_at width (count - 1) (start + width) words
      rows_here = rows_at_row width count start words some_left inside

      first-words : row_in words start (length high) ≡ take (length high) (row_in words start width)
      first-words =
          row_inside words start (length high) (omega (arith, times_step count width some_left)) ∙ sym (take-take (length high) width (drop start words) short)
          ∙ ap (take (length high)) (sym (row_inside words start width (omega (arith, times_step count width some_left))))

      passed_here : So (row_before high (take (length high) (row_in words start width)))
      passed_here = rw first-words at passed

      wide_here : Wide width (row_in words start width ∷ rows_at width (count - 1) (start + width) words)
      wide_here = rw rows_here at (rows_at-wide width count start words inside)

      after_here : AllAfter (row_in words start width) (rows_at width (count - 1) (start + width) words)
      after_here = let b : Ascending (row_in words start width ∷ rows_at width (count - 1) (start + width) words) = rw rows_here at a in b.0

      none_here : All (λ row. test row ≡ false) (row_in words start width ∷ rows_at width (count - 1) (start + width) words)
      none_here = none_pass none (row_in words start width) (rows_at width (count - 1) (start + width) words) wide_here after_here passed_here

      pub any-behind-words : any test (rows_at width count start words) ≡ false
      any-behind-words = ap (any test) rows_here ∙ any_none test (row_in words start width ∷ rows_at width (count - 1) (start + width) words) none_here

      pub filter-behind-words : filter test (rows_at width count start words) ≡ []
      filter-behind-words = ap (filter test) rows_here ∙ filter_none test (row_in words start width ∷ rows_at width (count - 1) (start + width) words) none_here
