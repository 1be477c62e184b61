-- Keys: a left row meets renumbered triples with the named columns of a right row exactly when it meets the triples with that row. Assumes nothing.
use mathlib.Core.Path.{◌≡◌, refl, sym, ap, ap₂, ◌∙◌}
use mathlib.Core.Bool.{Bool, true, false, not, ◌&&◌, cond, So}
use mathlib.Core.List.{List, [], ◌∷◌, map}
use Prim.Native.Nat.{ℕ, zero, suc, ◌+◌, ◌-◌, ◌*◌, ◌/◌, ◌<◌}
use native.Mathlib.Omega.{arith}
use lib.Dec.{eqb}
use lib.ListN.{length, get_or, drop}
use lib.Seq.{drop-drop}
use borrow.Author.Tests.{eqb-true}
use Rattle.relations.specs.Lists.{any}
use Rattle.relations.specs.Rows.{Row}
use Rattle.relations.specs.Values.{Rows, canonical}
use Rattle.relations.specs.Operations.{project_candidates}
use Rattle.relations.specs.Comparison.{holds, operator_named}
use Rattle.relations.specs.Columns.{Triple, attribute, column, word_at, pick, meets}
use Rattle.relations.proofs.BoolLaws.{and_left, and_right}
use Rattle.relations.proofs.ListLaws.{any-map, any_same, filter_same}
use Rattle.relations.proofs.ValueLaws.{any-canonical}
use Rattle.operations.specs.Lists.{triples_in, triples_of}
use Rattle.wanted_rows.specs.Wanted.{wanted_row, wanted_rows}
use Rattle.semijoins.specs.Keys.{renumbers}
use Rattle.operations.proofs.ListLaws.{first_word, next_word}

-- a column of picked columns is the column that is named there
picked_word : (columns : List ℕ) (s : Row) (place : ℕ) → get_or (pick (map attribute columns) s) place 0 ≡ word_at s (get_or columns place 0)
picked_word [] s zero = refl
picked_word [] s (suc place) = refl
picked_word (c ∷ columns) s zero = refl
picked_word (c ∷ columns) s (suc place) = picked_word columns s place

picked_column : (columns : List ℕ) (s : Row) (number : ℕ) → column (pick (map attribute columns) s) (attribute number) ≡ column s (attribute (word_at columns number))
picked_column columns s zero = refl
picked_column columns s (suc place) = picked_word columns s place

renumbered_meets : (count : ℕ) (columns list other : List ℕ) (t s : Row) → renumbers count columns list other ≡ true → meets (triples_in count other) t (pick (map attribute columns) s) ≡ meets (triples_in count list) t s
renumbered_meets zero columns list other t s e = refl
renumbered_meets (suc count) columns list other t s e =
    let later : Bool = renumbers count columns (drop 3 list) (drop 3 other) in
    let third : Bool = eqb (word_at columns (get_or other 2 0)) (get_or list 2 0) in
    let second : Bool = eqb (get_or other 1 0) (get_or list 1 0) in
    let first : Bool = eqb (get_or other 0 0) (get_or list 0 0) in
    let e₁ : So (second && (third && later)) = and_right first (second && (third && later)) e in
    let e₂ : So (third && later) = and_right second (third && later) e₁ in
    let a : get_or other 0 0 ≡ get_or list 0 0 = eqb-true (get_or other 0 0) (get_or list 0 0) (and_left first (second && (third && later)) e) in
    let b : get_or other 1 0 ≡ get_or list 1 0 = eqb-true (get_or other 1 0) (get_or list 1 0) (and_left second (third && later) e₁) in
    let c : word_at columns (get_or other 2 0) ≡ get_or list 2 0 = eqb-true (word_at columns (get_or other 2 0)) (get_or list 2 0) (and_left third later e₂) in
    let y : column (pick (map attribute columns) s) (attribute (get_or other 2 0)) ≡ column s (attribute (get_or list 2 0)) =
    picked_column columns s (get_or other 2 0) ∙ ap (λ (n : ℕ). column s (attribute n)) c in
    let here : holds (operator_named (get_or other 1 0)) (column t (attribute (get_or other 0 0))) (column (pick (map attribute columns) s) (attribute (get_or other 2 0))) ≡ holds (operator_named (get_or list 1 0)) (column t (attribute (get_or list 0 0))) (column s (attribute (get_or list 2 0))) =
    rw (a, b, y) in
    ap₂ ◌&&◌ here (renumbered_meets count columns (drop 3 list) (drop 3 other) t s (and_right third later e₂))

-- the left rows that are wanted of a value are those that are wanted of its rows
pub wanted_canonical : (wanted : Bool) (triples : List Triple) (left rows : Rows) → wanted_rows wanted triples left (canonical rows) ≡ wanted_rows wanted triples left rows
wanted_canonical wanted triples left rows =
    filter_same (wanted_row wanted triples (canonical rows)) (wanted_row wanted triples rows) (λ t. ap (λ b. cond wanted b (not b)) (any-canonical (meets triples t) rows)) left

-- those that are wanted of the named columns by renumbered triples are those that are wanted
wanted_by_key : (wanted : Bool) (count : ℕ) (columns list other : List ℕ) (left right : Rows) → renumbers count columns list other ≡ true
    → wanted_rows wanted (triples_in count other) left (project_candidates (map attribute columns) right) ≡ wanted_rows wanted (triples_in count list) left right
wanted_by_key wanted count columns list other left right e =
    filter_same (wanted_row wanted (triples_in count other) (project_candidates (map attribute columns) right)) (wanted_row wanted (triples_in count list) right) (λ t. ap (λ b. cond wanted b (not b)) (same t)) left
  where
    same : (t : Row) → any (meets (triples_in count other) t) (project_candidates (map attribute columns) right) ≡ any (meets (triples_in count list) t) right
    same t =
        any-map (meets (triples_in count other) t) (pick (map attribute columns)) right
        ∙ any_same (λ s. meets (triples_in count other) t (pick (map attribute columns) s)) (meets (triples_in count list) t) (λ s. renumbered_meets count columns list other t s e) right

-- the same of all triples of both
pub wanted_by_keys : (wanted : Bool) (columns list other : List ℕ) (left right : Rows) → length list ≡ length other → renumbers (length list / 3) columns list other ≡ true
    → wanted_rows wanted (triples_of other) left (project_candidates (map attribute columns) right) ≡ wanted_rows wanted (triples_of list) left right
wanted_by_keys wanted columns list other left right e h =
    ap (λ (n : ℕ). wanted_rows wanted (triples_in (n / 3) other) left (project_candidates (map attribute columns) right)) (sym e) ∙ wanted_by_key wanted (length list / 3) columns list other left right h

-- a turn of the loop that compares the triples
all_three : (a b c d : Bool) → (a && (b && (c && d))) ≡ ((a && (b && c)) && d)
all_three true true c d = refl
all_three true false c d = refl
all_three false b c d = refl

pub renumbers_turn : (columns list other : List ℕ) (n k : ℕ) {same : Bool} → k < n
    → same ≡ (eqb (get_or other (k * 3) 0) (get_or list (k * 3) 0) && (eqb (get_or other (k * 3 + 1) 0) (get_or list (k * 3 + 1) 0) && eqb (word_at columns (get_or other (k * 3 + 2) 0)) (get_or list (k * 3 + 2) 0)))
    → renumbers (n - k) columns (drop (k * 3) list) (drop (k * 3) other) ≡ (same && renumbers (n - (k + 1)) columns (drop ((k + 1) * 3) list) (drop ((k + 1) * 3) other))
renumbers_turn columns list other n k h e =
    let at : ℕ = k * 3 in
    let more : n - k ≡ suc (n - (k + 1)) = omega arith in
    let next : (k + 1) * 3 ≡ k * 3 + 3 = omega arith in
    rw (e, more, next, first_word other at, first_word list at, next_word other at 1, next_word list at 1, next_word other at 2, next_word list at 2, drop-drop 3 at list, drop-drop 3 at other)
    (all_three (eqb (get_or other at 0) (get_or list at 0)) (eqb (get_or other (at + 1) 0) (get_or list (at + 1) 0)) (eqb (word_at columns (get_or other (at + 2) 0)) (get_or list (at + 2) 0)) (renumbers (n - (k + 1)) columns (drop (at + 3) list) (drop (at + 3) other)))
