-- Columns of a row, and triples and pairs read one after another. Assumes nothing.
use mathlib.Core.Path.{◌≡◌, refl, ap, ◌∙◌}
use mathlib.Core.List.{List, [], ◌∷◌, ◌++◌}
use mathlib.Core.Option.{Option, some, none}
use Prim.Native.Nat.{ℕ, zero, suc, ◌+◌, ◌-◌, ◌*◌, ◌/◌, ◌≤◌, ◌<◌}
use native.Mathlib.Nat.{add-zero}
use native.Mathlib.Omega.{arith}
use lib.ListN.{length, get_or, take, drop, get_or-eq_default}
use lib.Seq.{get_or-drop, length-take-le}
use Rattle.relations.specs.Rows.{Row}
use Rattle.terms.proofs.NumberLaws.{operator-named}
use Rattle.relations.specs.Comparison.{Operator, operator_of}
use Rattle.relations.specs.Columns.{Triple, word_at}
use Rattle.relations.specs.PlanWords.{read_triples, triple_before}
use Rattle.operations.specs.Lists.{first_triple, triples_in, triples_of}

-- a column is the word one before its number, and 0 outside the row
pub word_inside : (row : Row) (number : ℕ) → 0 < number → word_at row number ≡ get_or row (number - 1) 0
word_inside row zero h = absurd (omega arith)
word_inside row (suc place) h = let e : suc place - 1 ≡ place = omega arith in rw e

pub word_outside : (row : Row) (number : ℕ) → length row < number → word_at row number ≡ 0
word_outside row zero h = refl
word_outside row (suc place) h = get_or-eq_default row 0 (omega arith)

-- a word of the list from a place on
pub first_word : (list : List ℕ) (at : ℕ) → get_or (drop at list) 0 0 ≡ get_or list at 0
first_word list at = get_or-drop at list 0 0 ∙ rw add-zero

pub next_word : (list : List ℕ) (at i : ℕ) → get_or (drop at list) i 0 ≡ get_or list (at + i) 0
next_word list at i = get_or-drop at list i 0

-- the triples that relations reads from a legal plan's words are those that the code reads
pub triples_read : (count : ℕ) (list : List ℕ) (triples : List Triple) → read_triples count list ≡ some triples → triples_in count list ≡ triples
triples_read zero list triples h = cc
triples_read (suc count) list triples h = go (operator_of (get_or list 1 0)) refl (read_triples count (drop 3 list)) (λ rest f. triples_read count (drop 3 list) rest f) refl h
  where
    go : (o : Option Operator) → operator_of (get_or list 1 0) ≡ o → (rest : Option (List Triple)) → ((r : List Triple) → read_triples count (drop 3 list) ≡ some r → triples_in count (drop 3 list) ≡ r) → read_triples count (drop 3 list) ≡ rest → triple_before o list rest ≡ some triples → triples_in (suc count) list ≡ triples
    go none e rest ih f k = let z : ◌≡◌ {A = ℕ} 0 1 = cc in absurd (omega arith)
    go (some o) e none ih f k = let z : ◌≡◌ {A = ℕ} 0 1 = cc in absurd (omega arith)
    go (some o) e (some rest) ih f k = rw (operator-named (get_or list 1 0) o e, ih rest f) (cc)

-- the words of so many triples have these triples alone
triples_cut : (count : ℕ) (list : List ℕ) → count * 3 ≤ length list → triples_in count (take (count * 3) list) ≡ triples_in count list
triples_cut zero list h = refl
triples_cut (suc count) [] h = absurd (omega arith)
triples_cut (suc count) (a ∷ []) h = absurd (omega arith)
triples_cut (suc count) (a ∷ b ∷ []) h = absurd (omega arith)
triples_cut (suc count) (a ∷ b ∷ d ∷ list) h =
    let e : suc count * 3 ≡ suc (suc (suc (count * 3))) = omega arith in
    rw e (ap (λ (rest : List Triple). first_triple (a ∷ b ∷ d ∷ list) ∷ rest) (triples_cut count list (omega arith)))

pub triples_alone : (count : ℕ) (list : List ℕ) → count * 3 ≤ length list → triples_of (take (count * 3) list) ≡ triples_in count list
triples_alone count list h =
    let many : length (take (count * 3) list) / 3 ≡ count = omega (arith, length-take-le (count * 3) list h) in rw many (triples_cut count list h)

-- a turn of a loop over triples, and its end
pub triples_next : (words rest : List ℕ) → length words ≡ 3 → triples_of (words ++ rest) ≡ first_triple words ∷ triples_of rest
triples_next [] rest h = absurd (omega arith)
triples_next (a ∷ []) rest h = absurd (omega arith)
triples_next (a ∷ b ∷ []) rest h = absurd (omega arith)
triples_next (a ∷ b ∷ d ∷ []) rest h = let e : suc (suc (suc (length rest))) / 3 ≡ suc (length rest / 3) = omega arith in rw e refl
triples_next (a ∷ b ∷ d ∷ e ∷ words) rest h = absurd (omega arith)

pub triples_none : (list : List ℕ) → length list < 3 → triples_of list ≡ []
triples_none list h = let e : length list / 3 ≡ 0 = omega arith in rw e refl
