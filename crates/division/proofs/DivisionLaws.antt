-- The columns that remain in a division, and the rows that pass. Assumes nothing.
use mathlib.Core.Path.{◌≡◌, refl, sym, ap, ap₂, ◌∙◌}
use mathlib.Core.Bool.{Bool, true, false, not, ◌&&◌, cond, So}
use mathlib.Core.List.{List, [], ◌∷◌, ◌++◌, map, append_assoc}
use Prim.Native.Nat.{ℕ, zero, suc, ◌+◌, ◌*◌, ◌-◌, ◌/◌, ◌≤◌, ◌<◌}
use native.Mathlib.Omega.{arith}
use native.Mathlib.Numerals.{add-one}
use native.Mathlib.Nat.{add-zero}
use lib.ListN.{length, get_or, set, take, drop, replicate, length-set, length-append, length-replicate, length-map}
use lib.Seq.{length-take-le, sets, take-suc-set, take-set-lt, take-length, get_or-append_seam}
use lib.Dec.{eqb}
use Rattle.std.specs.List.{list_all}
use borrow.Author.Tests.{eq-eqb, ne_eqb}
use Rattle.relations.specs.Lists.{any, all, filter, All}
use Rattle.relations.specs.Rows.{Row, same_row}
use Rattle.relations.specs.Values.{Rows, Wide, member}
use Rattle.relations.specs.Columns.{Pair, attribute, column, word_at, equal_on, listed, left_numbers, columns_not_listed, remaining}
use Rattle.relations.specs.Meanings.{partnered}
use Rattle.relations.specs.Operations.{divide_candidates}
use Rattle.relations.specs.PlanWords.{read_pairs}
use Rattle.relations.proofs.ListLaws.{any_cong, all_mono, all_filter}
use Rattle.relations.proofs.BoolLaws.{and_left, and_right, not_so_false}
use Rattle.relations.proofs.RowLaws.{same_row_symmetric}
use Rattle.relations.specs.Legality.{distinct}
use Rattle.relations.proofs.WidthLaws.{columns_left_lem}
use Rattle.values.specs.Words.{row_in, rows_of, end}
use Rattle.values.specs.declared.rows.Value.{Value}
use Rattle.values.proofs.FillLaws.{Filled, filled_rows}
use Rattle.values.proofs.RowsLaws.{row_inside}
use Rattle.values.proofs.WordLaws.{part-sets}
use Rattle.operations.proofs.RowSteps.{rows_from, filter_next}
use Rattle.operations.proofs.FillSteps.{filled_row}
use Rattle.operations.proofs.MadeLaws.{map-append}
use Rattle.operations.specs.Lists.{first_pair}
use Rattle.division.specs.Divisions.{pairs_of, columns_left, kept, with_pairs, divides, quotient}

-- two rows agree on columns where their words are equal at each
pub same_kept : (columns : List ℕ) (a b : Row) → list_all (λ number. eqb (column a (attribute number)) (column b (attribute number))) columns ≡ same_row (kept columns a) (kept columns b)
same_kept [] a b = refl
same_kept (number ∷ columns) a b = ap (λ same. eqb (column a (attribute number)) (column b (attribute number)) && same) (same_kept columns a b)

-- a turn of the loop that writes the columns that remain
columns_turn : (numbers : List ℕ) (column width : ℕ) → column < width
    → columns_left (column + 1) (width - column) numbers ≡ cond (listed (column + 1) numbers) (columns_left (column + 1 + 1) (width - (column + 1)) numbers) ((column + 1) ∷ columns_left (column + 1 + 1) (width - (column + 1)) numbers)
columns_turn numbers column width h =
    let more : width - column ≡ suc (width - (column + 1)) = omega arith in
    rw (more, add-one (column + 1))

column-written : (columns rest : List ℕ) (i x : ℕ) → i < length columns → take i columns ++ (x ∷ rest) ≡ take (i + 1) (set columns i x) ++ rest
column-written columns rest i x h = rw (add-one, take-suc-set columns i x h, append_assoc)

module _ (numbers columns : List ℕ) (column width written : ℕ) (more : column < width) where
  pub column_out : listed (column + 1) numbers ≡ true
      → take written columns ++ columns_left (column + 1) (width - column) numbers ≡ take written columns ++ columns_left (column + 1 + 1) (width - (column + 1)) numbers
  column_out e = ap (λ rest. take written columns ++ rest) (columns_turn numbers column width more ∙ rw e)

  pub column_in : listed (column + 1) numbers ≡ false → written < length columns
      → take written columns ++ columns_left (column + 1) (width - column) numbers ≡ take (written + 1) (set columns written (column + 1)) ++ columns_left (column + 1 + 1) (width - (column + 1)) numbers
  column_in e room =
      ap (λ rest. take written columns ++ rest) (columns_turn numbers column width more ∙ rw e)
      ∙ column-written columns (columns_left (column + 1 + 1) (width - (column + 1)) numbers) written (column + 1) room

-- the remaining columns of a row are those of the numbers left
remaining_from : (numbers : List ℕ) (front back row : Row) → row ≡ front ++ back → columns_not_listed (suc (length front)) numbers back ≡ kept (columns_left (suc (length front)) (length back) numbers) row
remaining_from numbers front [] row e = refl
remaining_from numbers front (x ∷ back) row e = go (listed (suc (length front)) numbers) (remaining_from numbers (front ++ (x ∷ [])) back row (e ∙ sym (append_assoc front (x ∷ []) back)))
  where
    longer : length (front ++ (x ∷ [])) ≡ suc (length front)
    longer = length-append front (x ∷ []) ∙ add-one (length front)

    here : get_or row (length front) 0 ≡ x
    here = rw e (get_or-append_seam front x back 0)

    go : (b : Bool) → columns_not_listed (suc (length (front ++ (x ∷ [])))) numbers back ≡ kept (columns_left (suc (length (front ++ (x ∷ [])))) (length back) numbers) row
        → cond b (columns_not_listed (suc (suc (length front))) numbers back) (x ∷ columns_not_listed (suc (suc (length front))) numbers back)
        ≡ kept (cond b (columns_left (suc (suc (length front))) (length back) numbers) (suc (length front) ∷ columns_left (suc (suc (length front))) (length back) numbers)) row
    go true ih = rw longer at ih
    go false ih = ap₂ ◌∷◌ (sym here) (rw longer at ih)

pub remaining_picked : (pairs : List Pair) (row : Row) (width : ℕ) → length row ≡ width → remaining pairs row ≡ kept (columns_left 1 width (left_numbers pairs)) row
remaining_picked pairs row width e = rw (← e) (remaining_from (left_numbers pairs) [] row row refl)

map_cong : (f g : Row → Row) (rows : Rows) → All (λ r. f r ≡ g r) rows → map f rows ≡ map g rows
map_cong f g [] h = refl
map_cong f g (r ∷ rows) h = ap₂ ◌∷◌ h.0 (map_cong f g rows h.1)

-- so a division's candidates are the quotient by the columns left
pub divide-quotient : (pairs : List Pair) (width : ℕ) (left right : Rows) → Wide width left → divide_candidates pairs left right ≡ quotient (columns_left 1 width (left_numbers pairs)) pairs left right left
divide-quotient pairs width left right wide =
    map_cong (remaining pairs) (kept columns) (filter (divides pairs left right) left) (all_filter (λ t. remaining pairs t ≡ kept columns t) (divides pairs left right) left (all_mono (λ t e. remaining_picked pairs t width e) left wide))
  where
    columns : List ℕ
    columns = columns_left 1 width (left_numbers pairs)

-- The only row that can be a partner: one pair first.

-- a number in front of the first column is never met
below : (k n : ℕ) (numbers : List ℕ) (row : Row) → n < k → columns_not_listed k (n ∷ numbers) row ≡ columns_not_listed k numbers row
below k n numbers [] h = refl
below k n numbers (x ∷ xs) h = rw (ne_eqb k n (λ e. omega arith), below (suc k) n numbers xs (omega arith))

and_comm : (a b : Bool) → (a && b) ≡ (b && a)
and_comm true true = refl
and_comm true false = refl
and_comm false true = refl
and_comm false false = refl

and_assoc : (a b c : Bool) → ((a && b) && c) ≡ (a && (b && c))
and_assoc true b c = refl
and_assoc false b c = refl

-- two rows agree on all columns but some, and the one has x at one of these: so it agrees with the other with x there
one_column : (k i x : ℕ) (numbers : List ℕ) (l t : Row) → length t ≡ length l → i < length l → listed (k + i) numbers ≡ false
    → (same_row (columns_not_listed k ((k + i) ∷ numbers) l) (columns_not_listed k ((k + i) ∷ numbers) t) && eqb (get_or l i 0) x) ≡ same_row (columns_not_listed k numbers l) (columns_not_listed k numbers (set t i x))
one_column k i x numbers [] t e h n = absurd (omega arith)
one_column k i x numbers (y ∷ l) [] e h n = absurd (omega arith)
one_column k zero x numbers (y ∷ l) (z ∷ t) e h n =
    let n' : listed k numbers ≡ false = rw add-zero at n in
    rw (add-zero, eq-eqb k k refl, n', below (suc k) k numbers l (omega arith), below (suc k) k numbers t (omega arith)) (and_comm (same_row (columns_not_listed (suc k) numbers l) (columns_not_listed (suc k) numbers t)) (eqb y x))
one_column k (suc i) x numbers (y ∷ l) (z ∷ t) e h n =
    let m : k + suc i ≡ suc k + i = omega arith in
    rw (m, ne_eqb k (suc k + i) (λ q. omega arith)) (go (listed k numbers) (one_column (suc k) i x numbers l t (omega arith) (omega arith) (rw m at n)))
  where
    go : (b : Bool)
        → (same_row (columns_not_listed (suc k) ((suc k + i) ∷ numbers) l) (columns_not_listed (suc k) ((suc k + i) ∷ numbers) t) && eqb (get_or l i 0) x) ≡ same_row (columns_not_listed (suc k) numbers l) (columns_not_listed (suc k) numbers (set t i x))
        → (same_row (cond b (columns_not_listed (suc k) ((suc k + i) ∷ numbers) l) (y ∷ columns_not_listed (suc k) ((suc k + i) ∷ numbers) l)) (cond b (columns_not_listed (suc k) ((suc k + i) ∷ numbers) t) (z ∷ columns_not_listed (suc k) ((suc k + i) ∷ numbers) t)) && eqb (get_or l i 0) x)
        ≡ same_row (cond b (columns_not_listed (suc k) numbers l) (y ∷ columns_not_listed (suc k) numbers l)) (cond b (columns_not_listed (suc k) numbers (set t i x)) (z ∷ columns_not_listed (suc k) numbers (set t i x)))
    go true ih = ih
    go false ih = and_assoc (eqb y z) (same_row (columns_not_listed (suc k) ((suc k + i) ∷ numbers) l) (columns_not_listed (suc k) ((suc k + i) ∷ numbers) t)) (eqb (get_or l i 0) x) ∙ ap (λ b. eqb y z && b) ih

none_listed : (k : ℕ) (row : Row) → columns_not_listed k [] row ≡ row
none_listed k [] = refl
none_listed k (x ∷ xs) = ap (λ (r : Row). x ∷ r) (none_listed (suc k) xs)

and_true : (b : Bool) → (b && true) ≡ b
and_true true = refl
and_true false = refl

column_at : (row : Row) (n : ℕ) → 1 ≤ n → word_at row n ≡ get_or row (n - 1) 0
column_at row zero h = absurd (omega arith)
column_at row (suc n) h = let e : suc n - 1 ≡ n = omega arith in rw e

-- a row is a partner of t for r exactly when it is t with r's columns
same_with_pairs : (pairs : List Pair) (l t r : Row) → length t ≡ length l → So (distinct (left_numbers pairs)) → All (λ number. (1 ≤ number) × (number ≤ length l)) (left_numbers pairs)
    → (same_row (remaining pairs l) (remaining pairs t) && equal_on pairs l r) ≡ same_row l (with_pairs pairs t r)
same_with_pairs [] l t r e d h = and_true (same_row (columns_not_listed 1 [] l) (columns_not_listed 1 [] t)) ∙ ap₂ same_row (none_listed 1 l) (none_listed 1 t)
same_with_pairs (p ∷ pairs) l t r e d h =
    let n : ℕ = p.left.number in
    let numbers : List ℕ = left_numbers pairs in
    let x : ℕ = column r p.right in
    let i : 1 + (n - 1) ≡ n = omega (arith, h.0.0) in
    let fresh : listed n numbers ≡ false = not_so_false (listed n numbers) (and_left (not (listed n numbers)) (distinct numbers) d) in
    let one : (same_row (columns_not_listed 1 (n ∷ numbers) l) (columns_not_listed 1 (n ∷ numbers) t) && eqb (get_or l (n - 1) 0) x) ≡ same_row (columns_not_listed 1 numbers l) (columns_not_listed 1 numbers (set t (n - 1) x)) =
    rw i at (one_column 1 (n - 1) x numbers l t e (omega (arith, h.0.0, h.0.1)) (rw i fresh)) in
    sym (and_assoc (same_row (remaining (p ∷ pairs) l) (remaining (p ∷ pairs) t)) (eqb (word_at l n) x) (equal_on pairs l r))
    ∙ ap (λ b. b && equal_on pairs l r) (ap (λ (y : ℕ). same_row (remaining (p ∷ pairs) l) (remaining (p ∷ pairs) t) && eqb y x) (column_at l n h.0.0) ∙ one)
    ∙ same_with_pairs pairs l (set t (n - 1) x) r (length-set t (n - 1) x ∙ e) (and_right (not (listed n numbers)) (distinct numbers) d) h.1

-- so it is sought as that row
pub partnered-member : (pairs : List Pair) (width : ℕ) (left : Rows) (t r : Row) → Wide width left → length t ≡ width → So (distinct (left_numbers pairs)) → All (λ number. (1 ≤ number) × (number ≤ width)) (left_numbers pairs)
    → partnered pairs left t r ≡ member (with_pairs pairs t r) left
partnered-member pairs width left t r wide e d h =
    any_cong (λ l. same_row (remaining pairs l) (remaining pairs t) && equal_on pairs l r) (same_row (with_pairs pairs t r)) left
    (all_mono (λ l q. same_with_pairs pairs l t r (e ∙ sym q) d (rw q h) ∙ same_row_symmetric l (with_pairs pairs t r)) left wide)

-- t, written from the front, and then each pair's column
pub row_written : (z t : List ℕ) → length t ≤ length z → take (length t) (sets z 0 (row_in t 0 (length t))) ≡ t
row_written z t h = ap (λ (row : List ℕ). take (length t) (sets z 0 row)) (row_inside t 0 (length t) (omega arith) ∙ take-length t) ∙ part-sets z 0 t (omega arith)

-- list words as pairs: those in front, none, and all of them
pairs_front : (words rest : List ℕ) → length words ≡ 2 → pairs_of (words ++ rest) ≡ first_pair words ∷ pairs_of rest
pairs_front [] rest h = absurd (omega arith)
pairs_front (a ∷ []) rest h = absurd (omega arith)
pairs_front (a ∷ b ∷ []) rest h = let e : suc (suc (length rest)) / 2 ≡ suc (length rest / 2) = omega arith in rw e refl
pairs_front (a ∷ b ∷ d ∷ words) rest h = absurd (omega arith)

pub pairs_none : (list : List ℕ) → length list < 2 → pairs_of list ≡ []
pairs_none list h = let e : length list / 2 ≡ 0 = omega arith in rw e

pairs_cut : (count : ℕ) (list : List ℕ) → count * 2 ≤ length list → read_pairs count (take (count * 2) list) ≡ read_pairs count list
pairs_cut zero list h = refl
pairs_cut (suc count) [] h = absurd (omega arith)
pairs_cut (suc count) (a ∷ []) h = absurd (omega arith)
pairs_cut (suc count) (a ∷ b ∷ list) h =
    let e : suc count * 2 ≡ suc (suc (count * 2)) = omega arith in
    rw e (ap (λ (rest : List Pair). first_pair (a ∷ b ∷ list) ∷ rest) (pairs_cut count list (omega arith)))

pub pairs_alone : (count : ℕ) (list : List ℕ) → count * 2 ≤ length list → pairs_of (take (count * 2) list) ≡ read_pairs count list
pairs_alone count list h = let many : length (take (count * 2) list) / 2 ≡ count = omega (arith, length-take-le (count * 2) list h) in rw many (pairs_cut count list h)

-- a turn of the loop that writes the pairs' columns
module _ (words rest : List ℕ) (width : ℕ) (p : Pair) (size : length words ≡ 2) (is : p ≡ first_pair words) (inside : All (λ number. (1 ≤ number) × (number ≤ width)) (left_numbers (pairs_of (words ++ rest)))) where
  both : ((1 ≤ (first_pair words).left.number) × ((first_pair words).left.number ≤ width)) × All (λ number. (1 ≤ number) × (number ≤ width)) (left_numbers (pairs_of rest))
  both = rw (pairs_front words rest size) at inside

  pub pair-inside : (1 ≤ p.left.number) × (p.left.number ≤ width)
  pair-inside = rw is both.0

  pub pairs_next : All (λ number. (1 ≤ number) × (number ≤ width)) (left_numbers (pairs_of rest))
  pairs_next = both.1

  pub with_next : (made : List ℕ) (x : ℕ) (r : Row) → x ≡ column r p.right
      → with_pairs (pairs_of (words ++ rest)) (take width made) r ≡ with_pairs (pairs_of rest) (take width (set made (p.left.number - 1) x)) r
  with_next made x r q =
      ap (λ (pairs : List Pair). with_pairs pairs (take width made) r) (pairs_front words rest size)
      ∙ ap (λ (pair : Pair). with_pairs (pairs_of rest) (set (take width made) (pair.left.number - 1) (column r pair.right)) r) (sym is)
      ∙ ap (λ (y : ℕ). with_pairs (pairs_of rest) (set (take width made) (p.left.number - 1) y) r) (sym q)
      ∙ ap (λ (t : Row). with_pairs (pairs_of rest) t r) (sym (take-set-lt width made (p.left.number - 1) x (omega (arith, pair-inside.0, pair-inside.1))))

-- a row that agrees with another on the columns gives what that one gives
pub quotient_same : (columns : List ℕ) (pairs : List Pair) (width : ℕ) (left right : Rows) (t u : Row) → columns ≡ columns_left 1 width (left_numbers pairs) → length t ≡ width → length u ≡ width
    → kept columns t ≡ kept columns u → quotient columns pairs left right (t ∷ []) ≡ quotient columns pairs left right (u ∷ [])
quotient_same columns pairs width left right t u q wt wu e = ap (λ b. map (kept columns) (cond b (t ∷ []) [])) (ap passes agree) ∙ go (divides pairs left right u)
  where
    passes : Row → Bool
    passes row = all (λ r. any (λ l. same_row (remaining pairs l) row && equal_on pairs l r) left) right

    agree : remaining pairs t ≡ remaining pairs u
    agree = remaining_picked pairs t width wt ∙ rw q at e ∙ sym (remaining_picked pairs u width wu)

    go : (b : Bool) → map (kept columns) (cond b (t ∷ []) []) ≡ map (kept columns) (cond b (u ∷ []) [])
    go true = ap (λ (row : Row). row ∷ []) e
    go false = refl

pub quotient_yes : (columns : List ℕ) (pairs : List Pair) (left right : Rows) (t : Row) → divides pairs left right t ≡ true → quotient columns pairs left right (t ∷ []) ≡ kept columns t ∷ []
quotient_yes columns pairs left right t e = ap (λ b. map (kept columns) (cond b (t ∷ []) [])) e

pub quotient_no : (columns : List ℕ) (pairs : List Pair) (left right : Rows) (t : Row) → divides pairs left right t ≡ false → quotient columns pairs left right (t ∷ []) ≡ []
quotient_no columns pairs left right t e = ap (λ b. map (kept columns) (cond b (t ∷ []) [])) e

-- a turn of the loop over the left rows
pub quotient_next : (columns : List ℕ) (pairs : List Pair) (left right : Rows) (value : Value) (i : ℕ) (words : List ℕ) → i < value.rows → end value ≤ length words
    → quotient columns pairs left right (rows_from value i words) ≡ quotient columns pairs left right (row_in words (value.base + i * value.width) value.width ∷ []) ++ quotient columns pairs left right (rows_from value (i + 1) words)
quotient_next columns pairs left right value i words more inside =
    ap (map (kept columns)) (filter_next value i words more inside (divides pairs left right))
    ∙ map-append (kept columns) (filter (divides pairs left right) (row_in words (value.base + i * value.width) value.width ∷ [])) (filter (divides pairs left right) (rows_from value (i + 1) words))

-- one left row's part of the quotient, while the value is filled
pub quotient_now : {w out rows made : ℕ} {all todo : Rows} {before now : List ℕ} → Filled w out rows made all todo before now → (columns : List ℕ) (pairs : List Pair) (left right : Value) (at width : ℕ)
    → end left ≤ out → end right ≤ out → at + width ≤ out
    → quotient columns pairs (rows_of left now) (rows_of right now) (row_in now at width ∷ []) ≡ quotient columns pairs (rows_of left before) (rows_of right before) (row_in before at width ∷ [])
quotient_now f columns pairs left right at width h k m =
    rw (filled_rows f left.width left.rows left.base h, filled_rows f right.width right.rows right.base k, filled_row f at width m)

-- as many columns are left as the pairs leave
pub left-count : (pairs : List Pair) (width : ℕ) → So (distinct (left_numbers pairs)) → All (λ number. (1 ≤ number) × (number ≤ width)) (left_numbers pairs)
    → length (columns_left 1 width (left_numbers pairs)) ≡ width - length pairs
left-count pairs width d h =
    let row : Row = replicate width 0 in
    let e : length row ≡ width = length-replicate width 0 in
    let many : length (left_numbers pairs) ≡ length pairs = length-map pairs (λ p. p.left.number) in
    let sum : length (remaining pairs row) + length (left_numbers pairs) ≡ length row = columns_left_lem (left_numbers pairs) row d (rw e h) in
    let k : length (remaining pairs row) ≡ length (columns_left 1 width (left_numbers pairs)) =
    ap length (remaining_picked pairs row width e) ∙ length-map (map attribute (columns_left 1 width (left_numbers pairs))) (λ a. column row a) ∙ length-map (columns_left 1 width (left_numbers pairs)) attribute in
    omega arith

pub pairs-count : (count : ℕ) (list : List ℕ) → length (read_pairs count list) ≡ count
pairs-count zero list = refl
pairs-count (suc count) list = ap suc (pairs-count count (drop 2 list))
