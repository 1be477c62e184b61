-- The rows of a join, one left row and one right row at a time, while its value is filled. Assumes nothing.
use mathlib.Core.Path.{◌≡◌, refl, sym, ap, ap₂, ◌∙◌}
use mathlib.Core.Bool.{Bool, true, false}
use native.Mathlib.Omega.{arith}
use lib.Dec.{ltb, eqb}
use borrow.Author.Tests.{ltb-true, ltb-false, eq-eqb, ne_eqb}
use mathlib.Core.List.{List, [], ◌∷◌, ◌++◌, map}
use Prim.Native.Nat.{ℕ, ◌+◌, ◌*◌, ◌-◌, ◌≤◌, ◌<◌}
use lib.ListN.{length, length-append}
use lib.Seq.{sets, length-sets}
use Rattle.relations.specs.Lists.{filter}
use Rattle.relations.specs.Rows.{Row, row_before, same_row}
use Rattle.relations.specs.Values.{Rows, Ascending, member}
use Rattle.relations.proofs.BoolLaws.{not_so, true-and-false}
use Rattle.relations.proofs.RowLaws.{same_row-itself, same_row-equal, row_before-left, row_before_prefix, row_before_asymmetric, Trichotomy, before as stands-before, same as stands_at, after as stands-behind, trichotomy}
use Rattle.relations.proofs.StoreLaws.{sets-append}
use Rattle.relations.specs.Columns.{Triple, meets}
use Rattle.relations.specs.Operations.{join_candidates}
use Rattle.values.specs.Words.{part, row_in, rows_at, rows_of, end}
use Rattle.values.specs.Places.{rows_before}
use Rattle.values.specs.Orders.{order_of}
use Rattle.values.specs.Building.{Builds}
use Rattle.std.specs.declared.cmp.Ordering.{Ordering}
use Rattle.std.specs.declared.cmp.Ordering.TheVariants.{Less, Equal, Greater}
use Rattle.std.specs.Prelude.{Some, None}
use Rattle.values.proofs.WordLaws.{part_add, part-before}
use Rattle.values.proofs.RowsLaws.{row_inside, length_row, times_step, rows_at_none}
use Rattle.values.proofs.OrderLaws.{told_before, told_same}
use Rattle.values.proofs.PlaceLaws.{before_in_words, most_in_words, none_in_words}
use Rattle.values.proofs.PutLaws.{put_new, put_full}
use Rattle.values.specs.declared.rows.Value.{Value}
use Rattle.values.proofs.FillLaws.{Filled, filled_rows}
use Rattle.partners.proofs.RestLaws.{times_rest}
use Rattle.values.proofs.BoundLaws.{ascending_from}
use Rattle.joining.specs.Joins.{joined}
use Rattle.operations.proofs.RowSteps.{rows_from, rows_from_next, filter_next}
use Rattle.operations.proofs.FillSteps.{filled_row}
use Rattle.operations.proofs.MadeLaws.{map-append}

pub joined_next : (test : Row → Bool) (t : Row) (right : Value) (i : ℕ) (words : List ℕ) → i < right.rows → end right ≤ length words
    → joined test t (rows_from right i words) ≡ joined test t (row_in words (right.base + i * right.width) right.width ∷ []) ++ joined test t (rows_from right (i + 1) words)
joined_next test t right i words more inside =
    ap (map (λ s. t ++ s)) (filter_next right i words more inside test)
    ∙ map-append (λ s. t ++ s) (filter test (row_in words (right.base + i * right.width) right.width ∷ [])) (filter test (rows_from right (i + 1) words))

-- the right rows from one on ascend, and stand in front of a value
pub rest-inside : (right : Value) (i : ℕ) → i ≤ right.rows → right.base + i * right.width + (right.rows - i) * right.width ≡ end right
rest-inside right i h = omega (arith, times_rest i right.rows right.width h)

pub rest-ascending : (right : Value) (i : ℕ) (words : List ℕ) → i ≤ right.rows → end right ≤ length words → Ascending (rows_of right words) → Ascending (rows_from right i words)
rest-ascending right i words h k a = ascending_from right.width right.rows right.base words k i h a

pub join_next : (triples : List Triple) (right : Rows) (left : Value) (i : ℕ) (words : List ℕ) → i < left.rows → end left ≤ length words
    → join_candidates triples (rows_from left i words) right
    ≡ joined (meets triples (row_in words (left.base + i * left.width) left.width)) (row_in words (left.base + i * left.width) left.width) right ++ join_candidates triples (rows_from left (i + 1) words) right
join_next triples right left i words more inside = ap (λ rows. join_candidates triples rows right) (rows_from_next left i words more inside)

module _ {w out rows made : ℕ} {all todo : Rows} {before now : List ℕ} (f : Filled w out rows made all todo before now) (a width : ℕ) (ahead : a + width ≤ out) where
  pub pair_now : (test : Row → Bool) (b more : ℕ) → b + more ≤ out → joined test (row_in now a width) (row_in now b more ∷ []) ≡ joined test (row_in before a width) (row_in before b more ∷ [])
  pair_now test b more h = ap₂ (λ (t s : Row). joined test t (s ∷ [])) (filled_row f a width ahead) (filled_row f b more h)

  pub joined_now : (triples : List Triple) (right : Value) → end right ≤ out
      → joined (meets triples (row_in now a width)) (row_in now a width) (rows_of right now) ≡ joined (meets triples (row_in before a width)) (row_in before a width) (rows_of right before)
  joined_now triples right h = ap₂ (λ (t : Row) (s : Rows). joined (meets triples t) t s) (filled_row f a width ahead) (filled_rows f right.width right.rows right.base h)

-- all of some are counted where the last one is
all_counted : (counted all : ℕ) → 0 < all → counted ≤ all → eqb counted all ≡ ltb (all - 1) counted
all_counted counted all p h = go (ltb (all - 1) counted) refl
  where
    go : (b : Bool) → ltb (all - 1) counted ≡ b → eqb counted all ≡ b
    go true e = eq-eqb counted all (omega (arith, ltb-true (all - 1) counted e))
    go false e = ne_eqb counted all (λ same. omega (arith, ltb-false (all - 1) counted e))

-- a row behind all rows of a value: it stands behind the last one
module _ (t s : Row) (width more made out : ℕ) (words : List ℕ) (inside : out + made * (width + more) ≤ length words) (ascending : Ascending (rows_at (width + more) made out words)) (some_made : 0 < made) where
  unfoldable last : ℕ
  last = out + (made - 1) * (width + more)

  room : last + (width + more) ≤ length words
  unfolding last
  room = omega (arith, times_step made (width + more) some_made)

  last_row : row_in words last (width + more) ≡ row_in words last width ++ row_in words (last + width) more
  last_row =
      row_inside words last (width + more) room ∙ part_add last width more words
      ∙ ap₂ ◌++◌ (sym (row_inside words last width (omega (arith, room)))) (sym (row_inside words (last + width) more (omega (arith, room))))

  behind_all : eqb (rows_before (t ++ s) (rows_at (width + more) made out words)) made ≡ row_before (row_in words last width ++ row_in words (last + width) more) (t ++ s)
  unfolding last
  behind_all =
      all_counted (rows_before (t ++ s) (rows_at (width + more) made out words)) made some_made (most_in_words (t ++ s) (width + more) made out words inside)
      ∙ sym (before_in_words (t ++ s) (width + more) made out words inside (made - 1) ascending (omega arith)) ∙ ap (λ (r : Row). row_before r (t ++ s)) last_row

  same_width : length t ≡ width → length (row_in words last width) ≡ length t
  same_width e = length_row words last width (omega (arith, room)) ∙ sym e

  -- by the last row's first columns, or by the others where these are the same
  pub behind-left : length t ≡ width → row_before (row_in words (out + (made - 1) * (width + more)) width) t ≡ true → true ≡ eqb (rows_before (t ++ s) (rows_at (width + more) made out words)) made
  unfolding last
  behind-left e h = sym (behind_all ∙ row_before-left (row_in words last width) t (row_in words (last + width) more) s (same_width e) h)

  pub behind-right : same_row (row_in words (out + (made - 1) * (width + more)) width) t ≡ true
      → row_before (row_in words (out + (made - 1) * (width + more) + width) more) s ≡ eqb (rows_before (t ++ s) (rows_at (width + more) made out words)) made
  unfolding last
  behind-right e =
      sym (behind_all ∙ ap (λ (r : Row). row_before (r ++ row_in words (last + width) more) (t ++ s)) (same_row-equal (row_in words last width) t e) ∙ row_before_prefix t (row_in words (last + width) more) s)

  pub not_behind : length t ≡ width → row_before t (row_in words (out + (made - 1) * (width + more)) width) ≡ true → false ≡ eqb (rows_before (t ++ s) (rows_at (width + more) made out words)) made
  unfolding last
  not_behind e h =
      let first : Row = row_in words last width in
      let second : Row = row_in words (last + width) more in
      sym (behind_all ∙ not_so (row_before (first ++ second) (t ++ s)) (λ k. row_before_asymmetric (first ++ second) (t ++ s) k (row_before-left t first s second (sym (same_width e)) h)))

-- such a row is put behind them
module _ (base rows width : ℕ) (row : Row) (l : List ℕ) (wide : length row ≡ width) (fits : base + rows * width ≤ length l) (ascending : Ascending (rows_at width rows base l)) (behind : rows_before row (rows_at width rows base l) ≡ rows) where
  not_there : member row (rows_at width rows base l) ≡ false
  not_there = none_in_words row width rows base l fits (omega (arith, behind))

  pub put_last : base + rows * width + width ≤ length l → (after : List ℕ) → after ≡ sets l (base + rows * width) row → Builds width base rows (row ∷ []) l after (Some (rows + 1))
  put_last room after stored =
      let z : base + rows * width - (base + rows * width) ≡ 0 = omega arith in
      put_new base rows width row l wide fits ascending rows (sym behind) not_there room after
      (stored ∙ sym (ap (λ (n : ℕ). sets (sets l (base + rows * width + width) (part (base + rows * width) n l)) (base + rows * width) row) z))

  pub full_last : length l < base + rows * width + width → Builds width base rows (row ∷ []) l l None
  full_last h = put_full base rows width row l wide fits ascending not_there h

-- two rows written one behind the other
pub written_pair : (l l₁ after : List ℕ) (at a b width more : ℕ) → a + width ≤ at → b + more ≤ at → at ≤ length l → l₁ ≡ sets l at (row_in l a width) → after ≡ sets l₁ (at + width) (row_in l₁ b more)
    → after ≡ sets l at (row_in l a width ++ row_in l b more)
written_pair l l₁ after at a b width more g h k e f =
    let t : List ℕ = row_in l a width in
    let w : length t ≡ width = length_row l a width (omega arith) in
    let same : row_in (sets l at t) b more ≡ row_in l b more =
    row_inside (sets l at t) b more (rw length-sets (omega arith)) ∙ part-before l b more at t h k ∙ sym (row_inside l b more (omega arith)) in
    let stored : after ≡ sets (sets l at t) (at + width) (row_in (sets l at t) b more) = rw e at f in
    stored ∙ ap₂ (λ (n : ℕ) (s : List ℕ). sets (sets l at t) (at + n) s) (sym w) same ∙ sym (sets-append l at t (row_in l b more))

pub pair_wide : (l : List ℕ) (a b width more : ℕ) → a + width ≤ length l → b + more ≤ length l → length (row_in l a width ++ row_in l b more) ≡ width + more
pair_wide l a b width more h k = length-append (row_in l a width) (row_in l b more) ∙ ap₂ (λ (m n : ℕ). m + n) (length_row l a width h) (length_row l b more k)

-- no rows
pub behind_none : (row : Row) (w made out : ℕ) (words : List ℕ) → made ≡ 0 → true ≡ eqb (rows_before row (rows_at w made out words)) made
behind_none row w made out words e = rw (e, rows_at_none w out words)

-- what a comparison of rows that were read says of the rows
module _ (f g : Row) {f' g' : Row} {x : Ordering} (compared : x ≡ order_of f g) (first : f ≡ f') (second : g ≡ g') where
  pub told_less : x ≡ Less → row_before f' g' ≡ true
  told_less e = ap₂ row_before (sym first) (sym second) ∙ sym (told_before f g compared e)

  pub told_equal : x ≡ Equal → same_row f' g' ≡ true
  told_equal e = ap₂ same_row (sym first) (sym second) ∙ sym (told_same f g compared e)

  pub told_greater : x ≡ Greater → row_before g' f' ≡ true
  told_greater e = ap₂ row_before (sym second) (sym first) ∙ go (trichotomy f g)
    where
      go : Trichotomy f g → row_before g f ≡ true
      go (stands-before h) = true-and-false h (sym (told_before f g compared e))
      go (stands_at h) = true-and-false (rw h (same_row-itself g)) (sym (told_same f g compared e))
      go (stands-behind h) = h
