-- The right rows counted for one left row, a right row at a time. Assumes nothing.
use mathlib.Core.Path.{◌≡◌, refl, sym, ap, ◌∙◌, subst}
use mathlib.Core.Bool.{Bool, true, false, So}
use mathlib.Core.List.{List, [], ◌∷◌}
use Prim.Native.Nat.{ℕ, ◌+◌, ◌-◌, ◌*◌, ◌≤◌, ◌<◌}
use native.Mathlib.Nat.{add-zero, zero-add}
use native.Mathlib.Omega.{arith}
use lib.Dec.{leb}
use lib.ListN.{length, take, drop}
use lib.Seq.{take-take}
use borrow.Author.Tests.{le-leb, lt-leb}
use Rattle.relations.specs.Lists.{filter, how_many}
use Rattle.relations.specs.Rows.{Row, same_row, row_before, begins}
use Rattle.relations.specs.Values.{Rows, Ascending}
use Rattle.relations.proofs.BoolLaws.{true-and-false, not_so}
use Rattle.relations.proofs.RowLaws.{same_row-itself, same_row-equal, row_before_trans, Trichotomy, before, same, after, trichotomy, before_differs, after_differs}
use Rattle.values.specs.Words.{row_in, rows_at, rows_of, end}
use Rattle.values.specs.Orders.{order_of}
use Rattle.values.specs.declared.rows.Value.{Value}
use Rattle.std.specs.declared.cmp.Ordering.{Ordering}
use Rattle.std.specs.declared.cmp.Ordering.TheVariants.{Less, Equal, Greater}
use Rattle.values.specs.Places.{NoneBehind}
use Rattle.values.proofs.RowsLaws.{row_inside, rows_at_row, rows_at_none, times_step}
use Rattle.values.proofs.BoundLaws.{filter-behind-words}
use Rattle.values.proofs.OrderLaws.{told_before, told_same}
use Rattle.tallying.specs.Counts.{Counts}

-- Of the right rows the left row begins so many, and those of the rest that it begins; of those that a later left row begins, all are in the rest.
pub record Counting (left : Row) (right : Rows) (count : ℕ) (rest : Rows) : Type 0 where
  pub all : how_many (begins left) right ≡ count + how_many (begins left) rest
  pub later : (next : Row) → length next ≡ length left → So (row_before left next) → how_many (begins next) right ≡ how_many (begins next) rest

pub counting_none : (left : Row) (right : Rows) → Counting left right 0 right
counting_none left right = record { all = sym (zero-add (how_many (begins left) right)); later = λ next l b. refl }

-- a row that neither stands before another nor is the same stands after it
stands_after : (left front : Row) → row_before left front ≡ false → same_row left front ≡ false → So (row_before front left)
stands_after left front b s = go (trichotomy left front)
  where
    go : Trichotomy left front → So (row_before front left)
    go (before h) = true-and-false h b
    go (same e) = true-and-false (subst (λ row. So (same_row left row)) e (same_row-itself left)) s
    go (after h) = h

module _ {left : Row} {right : Rows} {count : ℕ} {row : Row} {rest : Rows} (c : Counting left right count (row ∷ rest)) where
  -- the first row is no later left row's
  later-behind : ((next : Row) → length next ≡ length left → So (row_before left next) → begins next row ≡ false)
      → (next : Row) → length next ≡ length left → So (row_before left next) → how_many (begins next) right ≡ how_many (begins next) rest
  later-behind none next l b = let e : begins next row ≡ false = none next l b in c.later next l b ∙ rw e

  -- it is counted
  counting_on : same_row left (take (length left) row) ≡ true → Counting left right (count + 1) rest
  counting_on e = record {
    all = c.all ∙ rw e (omega arith);
    later = later-behind (λ next l b.
        ap (λ (n : ℕ). same_row next (take n row)) l ∙ ap (same_row next) (sym (same_row-equal left (take (length left) row) e)) ∙ after_differs next left b);
  }

  -- it is passed
  counting_past : row_before left (take (length left) row) ≡ false → same_row left (take (length left) row) ≡ false → Counting left right count rest
  counting_past f e =
      let h : So (row_before (take (length left) row) left) = stands_after left (take (length left) row) f e in
      record {
        all = c.all ∙ rw e;
        later = later-behind (λ next l b.
            ap (λ (n : ℕ). same_row next (take n row)) l ∙ after_differs next (take (length left) row) (row_before_trans (take (length left) row) left next h b));
      }

-- a row that begins with the left row does not stand behind it
none_behind : (left : Row) (w : ℕ) → NoneBehind w left (begins left)
none_behind left w = record { most = λ row l s. not_so (row_before left (take (length left) row)) (λ b. true-and-false s (before_differs left (take (length left) row) b)) }

-- the same of right rows in words, of which the first is compared by its first words
module _ (w rows from : ℕ) (work : List ℕ) {left : Row} {right : Rows} {count : ℕ} (c : Counting left right count (rows_at w rows from work)) (some_left : 0 < rows) (inside : from + rows * w ≤ length work) (short : length left ≤ w)
    {front : Row} {order : Ordering} (seen : front ≡ row_in work from (length left)) (compared : order ≡ order_of left front) where
  front-words : front ≡ take (length left) (row_in work from w)
  front-words =
      seen ∙ row_inside work from (length left) (omega (arith, times_step rows w some_left)) ∙ sym (take-take (length left) w (drop from work) short)
      ∙ ap (take (length left)) (sym (row_inside work from w (omega (arith, times_step rows w some_left))))

  here : Counting left right count (row_in work from w ∷ rows_at w (rows - 1) (from + w) work)
  here = rw (rows_at_row w rows from work some_left inside) at c

  pub counting_equal : {next : ℕ} → order ≡ Equal → next ≡ count + 1 → Counting left right next (rows_at w (rows - 1) (from + w) work)
  counting_equal told e = rw e (counting_on here (ap (same_row left) (sym front-words) ∙ sym (told_same left front compared told)))

  pub counting_greater : {next : ℕ} → order ≡ Greater → next ≡ count → Counting left right next (rows_at w (rows - 1) (from + w) work)
  counting_greater told e = rw e (counting_past here (ap (row_before left) (sym front-words) ∙ sym (told_before left front compared told)) (ap (same_row left) (sym front-words) ∙ sym (told_same left front compared told)))

  -- it and all behind it are for later left rows, and too few were counted
  pub counting_less : (least : ℕ) → order ≡ Less → count < least → Ascending (rows_at w rows from work) → false ≡ leb least (how_many (begins left) right)
  counting_less least told few a =
      let b : So (row_before left (row_in work from (length left))) = ap (row_before left) (sym seen) ∙ sym (told_before left front compared told) in
      let none : filter (begins left) (rows_at w rows from work) ≡ [] = filter-behind-words w rows from work inside (none_behind left w) short some_left a b in
      sym (ap (leb least) (c.all ∙ rw none (add-zero count)) ∙ lt-leb least count few)

-- the loop ends with enough of them, or with none to come
pub counting_enough : {left : Row} {right rest : Rows} {count : ℕ} → Counting left right count rest → (least : ℕ) → least ≤ count → leb least count ≡ leb least (how_many (begins left) right)
counting_enough {left} {right} {rest} {count} c least enough = le-leb least count enough ∙ sym (le-leb least (how_many (begins left) right) (omega (arith, c.all)))

pub counting_through : (rest : Value) (work : List ℕ) {left : Row} {right : Rows} {count : ℕ} → Counting left right count (rows_of rest work) → (least : ℕ) → rest.rows ≡ 0 → leb least count ≡ leb least (how_many (begins left) right)
counting_through rest work {left} {right} {count} c least z =
    let none : rows_of rest work ≡ [] = rw z (rows_at_none rest.width rest.base work) in
    sym (ap (leb least) (c.all ∙ rw none (add-zero count)))

-- what a return of the loop leaves; `left` is the row behind a reference
pub counts_made : (least : ℕ) {left row : Row} (right rest : Value) (work : List ℕ) {count : ℕ} {enough : Bool} → left ≡ row → rest.width ≡ right.width → end rest ≡ end right → Ascending (rows_of rest work)
    → Counting left (rows_of right work) count (rows_of rest work) → enough ≡ leb least (how_many (begins left) (rows_of right work)) → Counts least row right work enough rest
counts_made least right rest work {enough = enough} e w ends a c says = subst (λ row. Counts least row right work enough rest) e (record { enough = says; wide = w; ends = ends; ascending = a; later = c.later })
