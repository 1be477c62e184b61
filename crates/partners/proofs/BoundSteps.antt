-- Bounds of the rows that a sieve lets through, column by column: the first columns are known words, and the next one is in a span. Assumes nothing.
use Rattle.std.proofs.Common.{◌≡◌, refl, sym, ap, ◌∙◌, Bool, true, false, ◌&&◌, List, [], ◌∷◌, ◌++◌, ℕ, suc, ◌+◌, ◌≤◌, ◌<◌, ◌==◌, Some, position, length, get_or, take, drop, arith, add-one, length-append}
use Rattle.std.proofs.Math.Bool.{So}
use Rattle.std.proofs.Math.ListN.{take-append-drop}
use Rattle.std.proofs.lemmas.List.{take_more}
use mathlib.Core.Path.{ap₂}
use mathlib.Core.List.{append-nil}
use lib.Dec.{eqb}
use lib.Seq.{drop-cons}
use borrow.Author.Tests.{le-ltb}
use Rattle.relations.specs.Rows.{Row, row_before}
use Rattle.relations.specs.Values.{Rows}
use Rattle.relations.specs.Columns.{word_at}
use Rattle.relations.proofs.RowLaws.{row_before-itself, row_before_prefix}
use Rattle.values.specs.Places.{rows_before, NoneBefore}
use Rattle.partners.specs.Spans.{no_word, allowed_by}
use Rattle.partners.specs.Sieves.{sifts}
use Rattle.partners.specs.Bounds.{Bounding}
use Rattle.partners.specs.declared.sieve.Entry.{Entry}
use Rattle.partners.specs.declared.sieve.Span.{Span}
use Rattle.partners.proofs.SpanLaws.{at_least_lem, at_most_lem}
use Rattle.partners.proofs.SieveLaws.{entry_named, sifts-each}

-- no row stands before nothing
not_before_none : (row : Row) → row_before row [] ≡ false
not_before_none [] = refl
not_before_none (x ∷ xs) = refl

and_false : (b : Bool) → (b && false) ≡ false
and_false true = refl
and_false false = refl

-- none stands before no words
pub none_before-nothing : (bound : Row) (rows : Rows) → length bound ≡ 0 → rows_before bound rows ≡ 0
none_before-nothing [] [] e = refl
none_before-nothing [] (first ∷ rows) e = rw (not_before_none first)
none_before-nothing (x ∷ bound) rows e = absurd (omega arith)

-- a row that begins with words, and those words; and one more
begun : (words s : List ℕ) → take (length words) s ≡ words → s ≡ words ++ drop (length words) s
begun words s e = sym (take-append-drop (length words) s) ∙ ap (λ (front : Row). front ++ drop (length words) s) e

low_here : (words s : List ℕ) → take (length words) s ≡ words → row_before s words ≡ false
low_here words s e = ap₂ row_before (begun words s e) (sym (append-nil words)) ∙ row_before_prefix words (drop (length words) s) [] ∙ not_before_none (drop (length words) s)

low-next : (x : ℕ) (words s : List ℕ) → length words < length s → take (length words) s ≡ words → x ≤ get_or s (length words) 0 → row_before s (words ++ x ∷ []) ≡ false
low-next x words s h e m =
    let k : ℕ = length words in
    ap (λ (row : Row). row_before row (words ++ x ∷ [])) (begun words s e ∙ ap (λ (rest : Row). words ++ rest) (drop-cons s k 0 h))
    ∙ row_before_prefix words (get_or s k 0 ∷ drop (suc k) s) (x ∷ [])
    ∙ rw (le-ltb (get_or s k 0) x m, not_before_none (drop (suc k) s)) (and_false (eqb (get_or s k 0) x))

begun-next : (words s : List ℕ) → length words < length s → take (length words) s ≡ words → take (length words + 1) s ≡ words ++ get_or s (length words) 0 ∷ []
begun-next words s h e = take_more s (length words) 0 h ∙ ap (λ (front : Row). front ++ get_or s (length words) 0 ∷ []) e

high-next : (x : ℕ) (words s : List ℕ) → length words < length s → take (length words) s ≡ words → get_or s (length words) 0 ≤ x → row_before (words ++ x ∷ []) (take (length words + 1) s) ≡ false
high-next x words s h e m =
    ap (row_before (words ++ x ∷ [])) (begun-next words s h e)
    ∙ row_before_prefix words (x ∷ []) (get_or s (length words) 0 ∷ [])
    ∙ rw (le-ltb x (get_or s (length words) 0) m) (and_false (eqb x (get_or s (length words) 0)))

-- every row that is let through begins with the words
pub record Begins (sieve : List Entry) (width : ℕ) (words : List ℕ) : Type 0 where
  pub same : (s : Row) → length s ≡ width → So (sifts sieve s) → take (length words) s ≡ words

pub begins_none : (sieve : List Entry) (width : ℕ) → Begins sieve width []
begins_none sieve width = record { same = λ s l m. refl }

-- the bounds where no next column is known
pub bounding_here : {sieve : List Entry} {width : ℕ} {lows highs : List ℕ} → Begins sieve width lows → highs ≡ lows → length lows ≤ width → Bounding sieve width (record { lows = lows; highs = highs })
bounding_here {sieve} {width} {lows} begins e inside = rw e (record {
  inside = inside;
  none_before = record { least = λ s l m. low_here lows s (begins.same s l m) };
  none_behind = record { most = λ s l m. rw (begins.same s l m) (row_before-itself lows) };
})

-- an entry of the next column
module _ {sieve : List Entry} {width k : ℕ} {words : List ℕ} (begins : Begins sieve width words) (long : length words ≡ k) (i : ℕ) (d : Entry) (found : Some i ≡ position (λ entry. entry.column == (k + 1)) sieve) (more : k < width) where
  named : (i < length sieve) × ((get_or sieve i d).column ≡ length words + 1)
  named = rw long (entry_named sieve (k + 1) i d found)

  inside : length words < width
  inside = omega arith

  allowed-next : (s : Row) → So (sifts sieve s) → So (allowed_by (get_or sieve i d).span (get_or s (length words) 0))
  allowed-next s m =
      let e : (get_or sieve i d).column ≡ suc (length words) = named.1 ∙ add-one (length words) in
      let says : So (allowed_by (get_or sieve i d).span (word_at s (get_or sieve i d).column)) = sifts-each sieve i d s named.0 m in rw e at says

  low_word : (s : Row) → So (sifts sieve s) → (get_or sieve i d).span.low ≤ get_or s (length words) 0
  low_word s m = let span : Span = (get_or sieve i d).span in at_least_lem span.low span.high span.except (get_or s (length words) 0) (allowed-next s m)

  high_word : (get_or sieve i d).span.high < no_word → (s : Row) → So (sifts sieve s) → get_or s (length words) 0 ≤ (get_or sieve i d).span.high
  high_word h s m = let span : Span = (get_or sieve i d).span in at_most_lem span.low span.high span.except (get_or s (length words) 0) (allowed-next s m) h

  low-bounds : {lows : List ℕ} → lows ≡ words ++ (get_or sieve i d).span.low ∷ [] → NoneBefore width lows (sifts sieve)
  low-bounds e = rw e (record { least = λ s l m. low-next (get_or sieve i d).span.low words s (omega arith) (begins.same s l m) (low_word s m) })

  pub bounding_low : {lows highs : List ℕ} → lows ≡ words ++ (get_or sieve i d).span.low ∷ [] → highs ≡ words → Bounding sieve width (record { lows = lows; highs = highs })
  bounding_low e f = let here = bounding_here begins f (omega arith) in record { inside = here.inside; none_before = low-bounds e; none_behind = here.none_behind }

  pub bounding_both : {lows highs : List ℕ} → lows ≡ words ++ (get_or sieve i d).span.low ∷ [] → highs ≡ words ++ (get_or sieve i d).span.high ∷ [] → (get_or sieve i d).span.high < no_word
      → Bounding sieve width (record { lows = lows; highs = highs })
  bounding_both {lows} {highs} e f h = record {
    inside = rw f (omega (arith, length-append {A = ℕ}));
    none_before = low-bounds e;
    none_behind = rw f (record {
      most = λ s l m.
          let many : length (words ++ (get_or sieve i d).span.high ∷ []) ≡ length words + 1 = length-append words ((get_or sieve i d).span.high ∷ []) in
          rw many (high-next (get_or sieve i d).span.high words s (omega arith) (begins.same s l m) (high_word h s m));
    });
  }

  -- where the span is one word, that is the next one
  pub begins-next : (get_or sieve i d).span.low ≡ (get_or sieve i d).span.high → (get_or sieve i d).span.high < no_word → Begins sieve width (words ++ (get_or sieve i d).span.low ∷ [])
  begins-next e h = record {
    same = λ s l m.
        let many : length (words ++ (get_or sieve i d).span.low ∷ []) ≡ length words + 1 = length-append words ((get_or sieve i d).span.low ∷ []) in
        let word : get_or s (length words) 0 ≡ (get_or sieve i d).span.low = omega (arith, low_word s m, high_word h s m) in
        rw many (begun-next words s (omega arith) (begins.same s l m) ∙ rw word refl);
  }
