-- The widths of the operations' values; the remaining columns of a division are as many as its width says.
use mathlib.Core.Path.{◌≡◌, refl, sym, ◌∙◌, ap, ap₂, subst}
use mathlib.Core.Bool.{Bool, true, false, not, cond, So}
use mathlib.Core.Logic.{◌⊎◌, inl, inr}
use mathlib.Core.List.{List, [], ◌∷◌, ◌++◌, map}
use Prim.Native.Nat.{ℕ, suc, ◌+◌, ◌*◌, ◌-◌, ◌≤◌, ◌<◌}
use native.Mathlib.Nat.{add_comm, zero-mul, suc-mul}
use native.Mathlib.Omega.{arith}
use lib.Dec.{eqb}
use borrow.Author.Tests.{eqb-true, eqb-false, ne_eqb}
use lib.ListN.{length, length-append, length-map}
use Rattle.relations.specs.Lists.{all, filter, flat, All}
use Rattle.relations.specs.Rows.{Row}
use Rattle.relations.specs.Values.{Rows, Wide, canonical}
use Rattle.relations.specs.Columns.{Attribute, Triple, Pair, pick, meets, listed, columns_not_listed, left_numbers, remaining}
use Rattle.relations.specs.Meanings.{partnered}
use Rattle.relations.specs.Operations.{project_candidates, join_candidates, divide_candidates, unite_candidates}
use Rattle.relations.specs.Plan.{value_words}
use Rattle.relations.specs.Legality.{distinct}
use Rattle.relations.proofs.BoolLaws.{true_or_false, and_left, and_right, not_so_false}
use Rattle.relations.proofs.ListLaws.{all_mono, all_every, all_map, all_flat, all_filter, all_append}
use Rattle.relations.proofs.ValueLaws.{all_canonical}

pub wide-canonical : (width : ℕ) (rows : Rows) → Wide width rows → Wide width (canonical rows)
wide-canonical width rows h = all_canonical (λ row. length row ≡ width) rows h

pub wide-filter : (width : ℕ) (test : Row → Bool) (rows : Rows) → Wide width rows → Wide width (filter test rows)
wide-filter width test rows h = all_filter (λ row. length row ≡ width) test rows h

pub wide-project : (attributes : List Attribute) (left : Rows) → Wide (length attributes) (project_candidates attributes left)
wide-project attributes left = all_map (λ row. length row ≡ length attributes) (pick attributes) left (all_every (λ t. length-map attributes (λ a. _)) left)

pub wide-join : (v w : ℕ) (triples : List Triple) (left right : Rows) → Wide v left → Wide w right → Wide (v + w) (join_candidates triples left right)
wide-join v w triples left right h k = all_flat (λ row. length row ≡ v + w) (λ t. map (λ s. t ++ s) (filter (meets triples t) right)) left (all_mono each left h)
  where
    each : (t : Row) → length t ≡ v → All (λ row. length row ≡ v + w) (map (λ s. t ++ s) (filter (meets triples t) right))
    each t e = all_map (λ row. length row ≡ v + w) (λ s. t ++ s) (filter (meets triples t) right) (all_mono (λ s f. length-append t s ∙ ap₂ ◌+◌ e f) (filter (meets triples t) right) (wide-filter w (meets triples t) right k))

pub wide-unite : (width : ℕ) (left right : Rows) → Wide width left → Wide width right → Wide width (unite_candidates left right)
wide-unite width left right h k = all_append (λ row. length row ≡ width) left right h k

-- the words of a value, one row after the other
pub words_of_value : (width : ℕ) (rows : Rows) → Wide width rows → length (flat (λ row. row) rows) ≡ value_words width rows
words_of_value width [] h = sym (zero-mul width)
words_of_value width (row ∷ rows) h = length-append row (flat (λ r. r) rows) ∙ (ap₂ ◌+◌ h.0 (words_of_value width rows h.1) ∙ (add_comm width (length rows * width) ∙ sym (suc-mul (length rows) width)))

-- a number before the row's first column takes no column out
not_reached : (number c : ℕ) (numbers : List ℕ) (row : Row) → c < number → columns_not_listed number (c ∷ numbers) row ≡ columns_not_listed number numbers row
not_reached number c numbers [] h = refl
not_reached number c numbers (x ∷ xs) h = rw (ne_eqb number c (omega arith), not_reached (suc number) c numbers xs (omega arith))

-- one more number, that of a column, takes one column out
one_fewer : (number c : ℕ) (numbers : List ℕ) (row : Row) → number ≤ c → c < number + length row → listed c numbers ≡ false → suc (length (columns_not_listed number (c ∷ numbers) row)) ≡ length (columns_not_listed number numbers row)
one_fewer number c numbers [] low high new = absurd (omega arith)
one_fewer number c numbers (x ∷ xs) low high new = go (true_or_false (eqb number c)) (λ more. one_fewer (suc number) c numbers xs more (omega arith) new)
  where
    tail : List ℕ
    tail = columns_not_listed (suc number) numbers xs

    go : (eqb number c ≡ true) ⊎ (eqb number c ≡ false) → (suc number ≤ c → suc (length (columns_not_listed (suc number) (c ∷ numbers) xs)) ≡ length (columns_not_listed (suc number) numbers xs)) → suc (length (columns_not_listed number (c ∷ numbers) (x ∷ xs))) ≡ length (columns_not_listed number numbers (x ∷ xs))
    go (inl e) ih =
        let same : c ≡ number = sym (eqb-true number c e) in
        let first : listed number numbers ≡ false = subst (λ i. listed i numbers ≡ false) same new in
        rw (e, first, not_reached (suc number) c numbers xs (omega arith))
    go (inr e) ih = rw e (pass (listed number numbers) (ih (omega (arith, eqb-false number c e))))
      where
        pass : (b : Bool) → suc (length (columns_not_listed (suc number) (c ∷ numbers) xs)) ≡ length (columns_not_listed (suc number) numbers xs) → suc (length (cond b (columns_not_listed (suc number) (c ∷ numbers) xs) (x ∷ columns_not_listed (suc number) (c ∷ numbers) xs))) ≡ length (cond b (columns_not_listed (suc number) numbers xs) (x ∷ columns_not_listed (suc number) numbers xs))
        pass true k = k
        pass false k = ap suc k

nothing-listed : (number : ℕ) (row : Row) → columns_not_listed number [] row ≡ row
nothing-listed number [] = refl
nothing-listed number (x ∷ xs) = rw (nothing-listed (suc number) xs)

-- distinct columns of the row: as many are taken out as are listed
pub columns_left_lem : (numbers : List ℕ) (row : Row) → So (distinct numbers) → All (λ c. (1 ≤ c) × (c ≤ length row)) numbers → length (columns_not_listed 1 numbers row) + length numbers ≡ length row
columns_left_lem [] row d h = rw (nothing-listed 1 row) (omega arith)
columns_left_lem (c ∷ numbers) row d h =
    let new : listed c numbers ≡ false = not_so_false (listed c numbers) (and_left (not (listed c numbers)) (distinct numbers) d) in
    let one : suc (length (columns_not_listed 1 (c ∷ numbers) row)) ≡ length (columns_not_listed 1 numbers row) = one_fewer 1 c numbers row h.0.0 (omega (arith, h.0.1)) new in
    omega (arith, one, columns_left_lem numbers row (and_right (not (listed c numbers)) (distinct numbers) d) h.1)

pub wide-divide : (width : ℕ) (pairs : List Pair) (left right : Rows) → So (distinct (left_numbers pairs)) → All (λ c. (1 ≤ c) × (c ≤ width)) (left_numbers pairs) → Wide width left → Wide (width - length pairs) (divide_candidates pairs left right)
wide-divide width pairs left right d h k = all_map (λ row. length row ≡ width - length pairs) (remaining pairs) (filter passes left) (all_mono each (filter passes left) (wide-filter width passes left k))
  where
    passes : Row → Bool
    passes t = all (partnered pairs left t) right

    each : (t : Row) → length t ≡ width → length (remaining pairs t) ≡ width - length pairs
    each t e =
        let many : length (left_numbers pairs) ≡ length pairs = length-map pairs (λ p. p.left.number) in
        let sum : length (remaining pairs t) + length (left_numbers pairs) ≡ length t = columns_left_lem (left_numbers pairs) t d (subst (λ w. All (λ c. (1 ≤ c) × (c ≤ w)) (left_numbers pairs)) (sym e) h) in
        omega arith
