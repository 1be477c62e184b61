-- A sieve, entry by entry: an entry made narrower, and a turn of the loop that puts the triples into it. Assumes nothing.
use Rattle.std.proofs.Common.{◌≡◌, refl, sym, ap, ◌∙◌, Bool, true, false, ◌&&◌, List, [], ◌∷◌, ◌++◌, ℕ, zero, suc, ◌≤◌, ◌<◌, ◌==◌, length, get_or, take, arith, Some}
use Rattle.std.proofs.Math.ListN.{set}
use Rattle.std.proofs.Math.Bool.{So}
use Rattle.std.specs.List.{position}
use Rattle.std.proofs.lemmas.List.{length-take-le, get_or-take}
use Rattle.std.proofs.lemmas.List.Quantifiers.{position-Some}
use borrow.Author.Tests.{eqb-true}
use Rattle.relations.specs.Rows.{Row}
use Rattle.relations.specs.Comparison.{holds}
use Rattle.relations.specs.Columns as columns
use Rattle.relations.specs.Columns.{column, word_at, meets}
use Rattle.relations.proofs.BoolLaws.{and_left, and_right}
use Rattle.terms.specs.Terms.{attribute_in, operator_in}
use Rattle.operations.specs.Lists.{triple_in, first_triple, triples_of}
use Rattle.operations.proofs.ListLaws.{triples_next}
use Rattle.operations.specs.declared.columns.Triple.{Triple}
use Rattle.partners.specs.Spans.{allowed_by, Allows}
use Rattle.partners.specs.Sieves.{in_span, sifts, Narrows}
use Rattle.partners.specs.declared.sieve.Span.{Span}
use Rattle.partners.specs.declared.sieve.Entry.{Entry}

and_swap : (a b c : Bool) → (a && (b && c)) ≡ (b && (a && c))
and_swap true b c = refl
and_swap false true c = refl
and_swap false false c = refl

and_group : (a b c : Bool) → ((a && b) && c) ≡ (a && (b && c))
and_group true b c = refl
and_group false b c = refl

pub and_true : (b : Bool) → b ≡ (b && true)
and_true true = refl
and_true false = refl

-- the entry found is one of them, and of that column
pub entry_named : (sieve : List Entry) (column i : ℕ) (d : Entry) → Some i ≡ position (λ entry. entry.column == column) sieve → (i < length sieve) × ((get_or sieve i d).column ≡ column)
entry_named sieve column i d e =
    let found = position-Some (λ (entry : Entry). entry.column == column) sieve i d (sym e) in (found.0, eqb-true (get_or sieve i d).column column found.1)

-- the same among the first entries
pub entry_found : (sieve : List Entry) (made column i : ℕ) (d : Entry) → made ≤ length sieve → Some i ≡ position (λ entry. entry.column == column) (take made sieve) → (i < made) × ((get_or sieve i d).column ≡ column)
entry_found sieve made column i d h e =
    let found = entry_named (take made sieve) column i d e in
    let inside : i < made = omega (arith, found.0, length-take-le made sieve h) in (inside, sym (ap (λ (entry : Entry). entry.column) (get_or-take made sieve i d inside)) ∙ found.1)

-- a row that is let through is in the span of each entry
pub sifts-each : (sieve : List Entry) (i : ℕ) (d : Entry) (row : Row) → i < length sieve → So (sifts sieve row) → So (in_span row (get_or sieve i d))
sifts-each [] i d row p m = absurd (omega arith)
sifts-each (e ∷ sieve) zero d row p m = and_left (in_span row e) (sifts sieve row) m
sifts-each (e ∷ sieve) (suc i) d row p m = sifts-each sieve i d row (omega arith) (and_right (in_span row e) (sifts sieve row) m)

-- an entry made narrower
replaced : (made i : ℕ) (sieve : List Entry) (d : Entry) (span : Span) (test : ℕ → Bool) (row : Row) → i < made → made ≤ length sieve
    → ((word : ℕ) → allowed_by span word ≡ (test word && allowed_by (get_or sieve i d).span word))
    → sifts (take made (set sieve i (record { column = (get_or sieve i d).column; span = span }))) row ≡ (test (word_at row (get_or sieve i d).column) && sifts (take made sieve) row)
replaced zero i sieve d span test row p q both = absurd (omega arith)
replaced (suc made) i [] d span test row p q both = absurd (omega arith)
replaced (suc made) zero (e ∷ sieve) d span test row p q both =
    let word : ℕ = word_at row e.column in
    ap (λ (b : Bool). b && sifts (take made sieve) row) (both word) ∙ and_group (test word) (allowed_by e.span word) (sifts (take made sieve) row)
replaced (suc made) (suc i) (e ∷ sieve) d span test row p q both =
    ap (λ (b : Bool). in_span row e && b) (replaced made i sieve d span test row (omega arith) (omega arith) both)
    ∙ and_swap (in_span row e) (test (word_at row (get_or sieve i d).column)) (sifts (take made sieve) row)

pub narrows_at : (sieve : List Entry) (made i : ℕ) (d entry : Entry) (span : Span) → i < made → made ≤ length sieve → (get_or sieve i d).column ≡ entry.column
    → ((word : ℕ) → allowed_by span word ≡ (allowed_by entry.span word && allowed_by (get_or sieve i d).span word))
    → Narrows entry (take made sieve) made (set sieve i (record { column = (get_or sieve i d).column; span = span }))
narrows_at sieve made i d entry span p q named both = record {
  most = omega (arith, length-take-le made sieve q);
  same = λ row.
      replaced made i sieve d span (allowed_by entry.span) row p q both
      ∙ ap (λ (n : ℕ). allowed_by entry.span (word_at row n) && sifts (take made sieve) row) named;
}

-- a turn of the loop over triples
pub filled_step : (triple : Triple) (left : Row) (words rest : List ℕ) (word made made' : ℕ) (span : Span) (room room' : List Entry) → length words ≡ 3 → triple_in triple ≡ first_triple words
    → word ≡ column left (attribute_in triple.left) → Allows (operator_in triple.operator) word span → Narrows (record { column = triple.right.0; span = span }) (take made room) made' room'
    → (right : Row) → (sifts (take made' room') right && meets (triples_of rest) left right) ≡ (sifts (take made room) right && meets (triples_of (words ++ rest)) left right)
filled_step triple left words rest word made made' span room room' three is read allows narrows right =
    let test : Bool = holds (operator_in triple.operator) (column left (attribute_in triple.left)) (column right (attribute_in triple.right)) in
    let later : Bool = meets (triples_of rest) left right in
    let before : Bool = sifts (take made room) right in
    let here : sifts (take made' room') right ≡ (test && before) =
    narrows.same right ∙ ap (λ (b : Bool). b && before) (allows.same (column right (attribute_in triple.right)) ∙ ap (λ (n : ℕ). holds (operator_in triple.operator) n (column right (attribute_in triple.right))) read) in
    let asked : (test && later) ≡ meets (triples_of (words ++ rest)) left right =
    ap (λ (t : columns.Triple). meets (t ∷ triples_of rest) left right) is ∙ ap (λ (ts : List columns.Triple). meets ts left right) (sym (triples_next words rest three)) in
    ap (λ (b : Bool). b && later) here ∙ and_group test before later ∙ and_swap test before later ∙ ap (λ (b : Bool). before && b) asked
