-- The rows of two values taken over. Assumes nothing.
use mathlib.Core.Path.{◌≡◌, refl, sym, ap, ◌∙◌}
use mathlib.Core.Bool.{Bool, true, false, not, ◌&&◌, ◌||◌, cond}
use mathlib.Core.List.{List, ◌∷◌, ◌++◌}
use Prim.Native.Nat.{ℕ, zero, suc, ◌+◌, ◌≤◌, ◌<◌}
use native.Mathlib.Omega.{arith}
use lib.Dec.{eqb}
use lib.ListN.{length}
use borrow.Author.Tests.{ne_eqb}
use Rattle.relations.specs.Rows.{Row, same_row}
use Rattle.relations.specs.Values.{Rows, member}
use Rattle.relations.proofs.BoolLaws.{true-and-false}
use Rattle.relations.proofs.ListLaws.{any_append}
use Rattle.values.specs.declared.rows.Value.{Value}
use Rattle.values.specs.Words.{row_in, rows_of, end}
use Rattle.values.proofs.RowsLaws.{rows_at_row, rows_at_none, times_step}
use Rattle.operations.specs.Passing.{behind_first, left_first}

-- a side that is passed has a row
left-some : (more others : ℕ) (before : Bool) → 0 < more + others → (eqb others 0 || (not (eqb more 0) && not before)) ≡ true → 0 < more
left-some zero others before h taken = true-and-false taken (rw (ne_eqb others 0 (λ none. omega arith)))
left-some (suc more) others before h taken = omega arith

right-some : (more others : ℕ) (before : Bool) → (eqb others 0 || (not (eqb more 0) && not before)) ≡ false → 0 < others
right-some more zero before taken = true-and-false refl taken
right-some more (suc others) before taken = omega arith

-- behind its first row a value ends where it ended
end-behind : (value : Value) → 0 < value.rows → end (behind_first value) ≡ end value
end-behind value h = omega (arith, times_step value.rows value.width h)

-- the row that was passed is the one by which the rows of both are more than those to come
pub record Passed (width out start : ℕ) (left right lefts rights : Value) (l : List ℕ) : Type 0 where
  pub ahead : start + width ≤ out
  pub left-ends : end lefts ≤ out
  pub right-ends : end rights ≤ out
  pub left-wide : lefts.width ≡ width
  pub right-wide : rights.width ≡ width
  pub fewer : lefts.rows + rights.rows < left.rows + right.rows
  pub one : (row : Row) → member row (rows_of left l ++ rows_of right l) ≡ (same_row row (row_in l start width) || member row (rows_of lefts l ++ rows_of rights l))

module _ (width out : ℕ) (left right : Value) (l : List ℕ) (left-wide : left.width ≡ width) (right-wide : right.width ≡ width) (left-ends : end left ≤ out) (right-ends : end right ≤ out) (inside : out ≤ length l) where
  pass-left : 0 < left.rows → Passed width out left.base left right (behind_first left) right l
  pass-left h = record {
    ahead = omega (arith, times_step left.rows left.width h);
    left-ends = rw (end-behind left h) left-ends;
    right-ends = right-ends;
    left-wide = left-wide;
    right-wide = right-wide;
    fewer = omega arith;
    one = λ row. ap (λ (rows : Rows). member row (rows ++ rows_of right l)) (rows_at_row left.width left.rows left.base l h (omega arith)) ∙ ap (λ (w : ℕ). same_row row (row_in l left.base w) || member row (rows_of (behind_first left) l ++ rows_of right l)) left-wide;
  }

  pass-right : 0 < right.rows → Passed width out right.base left right left (behind_first right) l
  pass-right h = record {
    ahead = omega (arith, times_step right.rows right.width h);
    left-ends = left-ends;
    right-ends = rw (end-behind right h) right-ends;
    left-wide = left-wide;
    right-wide = right-wide;
    fewer = omega arith;
    one = λ row.
        ap (λ (rows : Rows). member row (rows_of left l ++ rows)) (rows_at_row right.width right.rows right.base l h (omega arith))
        ∙ any_append (same_row row) (rows_of left l) (row_in l right.base right.width ∷ rows_of (behind_first right) l)
        ∙ or_swap (member row (rows_of left l)) (same_row row (row_in l right.base right.width)) (member row (rows_of (behind_first right) l))
        ∙ ap (λ (b : Bool). same_row row (row_in l right.base right.width) || b) (sym (any_append (same_row row) (rows_of left l) (rows_of (behind_first right) l)))
        ∙ ap (λ (w : ℕ). same_row row (row_in l right.base w) || member row (rows_of left l ++ rows_of (behind_first right) l)) right-wide;
  }
    where
      or_swap : (a b c : Bool) → (a || (b || c)) ≡ (b || (a || c))
      or_swap true true c = refl
      or_swap true false c = refl
      or_swap false true c = refl
      or_swap false false c = refl

  pub passed : (words : List ℕ) {start : ℕ} {lefts rights : Value} → 0 < left.rows + right.rows → (start ≡ cond (left_first words left right) left.base right.base) × (lefts ≡ cond (left_first words left right) (behind_first left) left) × (rights ≡ cond (left_first words left right) right (behind_first right))
      → Passed width out start left right lefts rights l
  passed words {start} {lefts} {rights} h is = go (left_first words left right) refl is
    where
      go : (b : Bool) → left_first words left right ≡ b → (start ≡ cond b left.base right.base) × (lefts ≡ cond b (behind_first left) left) × (rights ≡ cond b right (behind_first right)) → Passed width out start left right lefts rights l
      go true e q = rw (q.0, q.1, q.2) (pass-left (left-some left.rows right.rows _ h e))
      go false e q = rw (q.0, q.1, q.2) (pass-right (right-some left.rows right.rows _ e))

-- both are through
pub both_over : (left right : Value) (l : List ℕ) → left.rows + right.rows ≡ 0 → (row : Row) → member row (rows_of left l ++ rows_of right l) ≡ false
both_over left right l h row = let e : left.rows ≡ 0 = omega arith in let f : right.rows ≡ 0 = omega arith in rw (e, f, rows_at_none left.width left.base l, rows_at_none right.width right.base l)
