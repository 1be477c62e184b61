-- The invariant of every loop that makes a value, `Filled`, and its steps; then what a caller learns of a value that was made. Assumes nothing.
use mathlib.Core.Path.{◌≡◌, refl, sym, ap, ap₂, ◌∙◌}
use Prim.Native.Nat.{ℕ, ◌+◌, ◌-◌, ◌*◌, ◌≤◌, ◌<◌}
use native.Mathlib.Nat.{zero-mul}
use native.Mathlib.Omega.{arith}
use mathlib.Core.Bool.{Bool, true, false}
use mathlib.Core.Logic.{◌⊎◌, inl, inr}
use mathlib.Core.List.{List, [], ◌++◌, append-nil}
use lib.ListN.{length}
use lib.Seq.{sets, length-sets}
use lib.Dec.{leb}
use borrow.Author.Tests.{leb-true, leb-false}
use Rattle.relations.specs.Values.{Rows, Ascending, canonical, place_rows}
use Rattle.relations.proofs.PlaceLaws.{place_rows-canonical}
use Rattle.values.specs.Words.{part, rows_at, words_of}
use Rattle.values.specs.Building.{Built, done, stopped, build, answer_of, left_of, Builds}
use Rattle.std.specs.Prelude.{Option, Some, None}
use Rattle.values.proofs.WordLaws.{sets_again, part-before}
use Rattle.values.proofs.RowsLaws.{rows_at-wide, length-rows_at, length-words, rows_at-before, rows_at-sets, rows_at_none, value-words, length-value}
use Rattle.values.proofs.BuildLaws.{build-fits, build_cases, build-append, then_build, build_grows, build-room, build-ascending, went, refused}

-- Of all candidates, to be put into the value of `rows` rows in `before`, those of `todo` are still to be put into the value of `made` rows in `now`.
pub record Filled (width out rows made : ℕ) (all todo : Rows) (before now : List ℕ) : Type 0 where
  pub size : length now ≡ length before
  pub fits : out + made * width ≤ length now
  pub next : build (length before - out) all (rows_at width rows out before) ≡ build (length before - out) todo (rows_at width made out now)
  pub words : now ≡ sets before out (words_of (rows_at width made out now))
  pub ascending : Ascending (rows_at width made out now)

pub filled_start : (w out rows : ℕ) (all : Rows) (l : List ℕ) → out + rows * w ≤ length l → Ascending (rows_at w rows out l) → Filled w out rows rows all all l l
filled_start w out rows all l h a = record { size = refl; fits = h; next = refl; words = value-words w rows out l h; ascending = a }

-- from no row
pub filled_none : (w out : ℕ) (all : Rows) (l : List ℕ) → out ≤ length l → Filled w out 0 0 all all l l
filled_none w out all l h = filled_start w out 0 all l (omega (arith, zero-mul w)) (rw (rows_at_none w out l) tt)

module _ {w out rows made : ℕ} {all todo : Rows} {before now : List ℕ} (f : Filled w out rows made all todo before now) where
  inside : out ≤ length before
  inside = omega (arith, f.size, f.fits)

  pub filled_by : (rest : Rows) → todo ≡ rest → Filled w out rows made all rest before now
  filled_by rest e = record {
    size = f.size;
    fits = f.fits;
    next = f.next ∙ ap (λ (t : Rows). build (length before - out) t (rows_at w made out now)) e;
    words = f.words;
    ascending = f.ascending;
  }

  -- the words in front of the value are as they were, and so are the values there
  pub filled_part : (a n : ℕ) → a + n ≤ out → part a n now ≡ part a n before
  filled_part a n h = ap (part a n) f.words ∙ part-before before a n out (words_of (rows_at w made out now)) h inside

  pub filled_rows : (z n a : ℕ) → a + n * z ≤ out → rows_at z n a now ≡ rows_at z n a before
  filled_rows z n a h = ap (rows_at z n a) f.words ∙ rows_at-before z n a out before (words_of (rows_at w made out now)) h inside

  -- no candidate is left
  pub filled_end : todo ≡ [] → Builds w out rows all before now (Some made)
  unfolding build
  filled_end e =
      let b : build (length before - out) all (rows_at w rows out before) ≡ done (rows_at w made out now) =
      f.next ∙ ap (λ (t : Rows). build (length before - out) t (rows_at w made out now)) e in
      record {
        answers = rw b (ap Some (sym (length-rows_at w made out now)));
        words = rw b f.words;
        wide = rw b (rows_at-wide w made out now f.fits);
      }

-- nothing is put in
pub filled_still : (w out made : ℕ) (l : List ℕ) → out + made * w ≤ length l → Ascending (rows_at w made out l) → Builds w out made [] l l (Some made)
filled_still w out made l h a = filled_end (filled_start w out made [] l h a) refl

-- A turn of a loop: the candidates `some` come first of those to come, and a callee put them in, or had no room.
module _ {w out rows made : ℕ} {all todo : Rows} {before now : List ℕ} (f : Filled w out rows made all todo before now)
    {some : Rows} (rest : Rows) {after : List ℕ} {r : Option ℕ} (e : todo ≡ some ++ rest) (g : Builds w out made some now after r) where
  abbrev value : Rows
  value = rows_at w made out now

  abbrev built : Built
  built = build (length now - out) some value

  in_all : (b : Built) → built ≡ b → build (length before - out) all (rows_at w rows out before) ≡ then_build (length before - out) rest b
  in_all b q =
      f.next ∙ ap (λ (t : Rows). build (length before - out) t value) e ∙ build-append (length before - out) some rest value
      ∙ ap (then_build (length before - out) rest) (ap (λ (n : ℕ). build (n - out) some value) (sym f.size) ∙ q)

  stored : after ≡ sets before out (words_of (left_of built))
  stored =
      g.words ∙ ap (λ (y : List ℕ). sets y out (words_of (left_of built))) f.words
      ∙ sets_again before out (words_of value) (words_of (left_of built)) (build_grows (length now - out) some value)

  pub filled_on : (n : ℕ) → r ≡ Some n → Filled w out rows n all rest before after
  filled_on n q =
      let u : Rows = left_of built in
      let t = went built n (sym q ∙ g.answers) in
      let ft : out + made * w ≤ length now = f.fits in
      let rm : length (words_of u) ≤ length now - out = build-room (length now - out) some value (rw (length-value w made out now ft) (omega arith)) in
      let lf : length (words_of u) ≡ length u * w = length-words w u g.wide in
      let back : rows_at w n out after ≡ u =
      ap₂ (λ (x : ℕ) (y : List ℕ). rows_at w x out y) t.1 g.words ∙ rows_at-sets w out now u g.wide (omega arith) in
      let la : length after ≡ length now = ap length g.words ∙ length-sets now out (words_of u) in
      record {
        size = la ∙ f.size;
        fits = rw (la, t.1) (omega arith);
        next = in_all (done u) t.0 ∙ ap (build (length before - out) rest) (sym back);
        words = stored ∙ ap (λ (x : Rows). sets before out (words_of x)) (sym back);
        ascending = rw back (build-ascending (length now - out) some value f.ascending);
      }

  pub filled_off : r ≡ None → Builds w out rows all before after None
  filled_off q =
      let u : Rows = left_of built in
      let b : build (length before - out) all (rows_at w rows out before) ≡ stopped u = in_all (stopped u) (refused built (sym q ∙ g.answers)) in
      record { answers = rw b; words = rw b stored; wide = rw b g.wide }

-- What a caller learns of any function that makes a value: what is in front of `out` is as it was.
module _ {w out rows : ℕ} {cs : Rows} {before after : List ℕ} {r : Option ℕ} (g : Builds w out rows cs before after r) where
  pub made_length : length after ≡ length before
  made_length = ap length g.words ∙ length-sets before out (words_of (left_of (build (length before - out) cs (rows_at w rows out before))))

  pub made_part : (a n : ℕ) → a + n ≤ out → out ≤ length before → part a n after ≡ part a n before
  made_part a n h k = ap (part a n) g.words ∙ part-before before a n out (words_of (left_of (build (length before - out) cs (rows_at w rows out before)))) h k

  pub made_rows : (z n a : ℕ) → a + n * z ≤ out → out ≤ length before → rows_at z n a after ≡ rows_at z n a before
  made_rows z n a h k = ap (rows_at z n a) g.words ∙ rows_at-before z n a out before (words_of (left_of (build (length before - out) cs (rows_at w rows out before)))) h k

-- What a caller learns of a value that was made from no row: it is the canonical value of the candidates.
module _ {w out n : ℕ} {cs : Rows} {before after : List ℕ} (inside : out ≤ length before) (g : Builds w out 0 cs before after (Some n)) where
  made_filled : Filled w out 0 n cs [] before after
  made_filled = filled_on (filled_none w out cs before inside) [] (sym (append-nil cs)) g n refl

  pub made_fits : out + n * w ≤ length after
  made_fits = made_filled.fits

  pub made_words : after ≡ sets before out (words_of (rows_at w n out after))
  made_words = made_filled.words

  pub made_value : rows_at w n out after ≡ canonical cs
  unfolding build rows_at
  made_value = go (build_cases (length before - out) cs [])
    where
      go : (build (length before - out) cs [] ≡ done (place_rows cs [])) ⊎ (answer_of (build (length before - out) cs []) ≡ None) → rows_at w n out after ≡ canonical cs
      go (inl e) = let z : done (rows_at w n out after) ≡ done (place_rows cs []) = sym made_filled.next ∙ e in let y : rows_at w n out after ≡ place_rows cs [] = cc in y ∙ place_rows-canonical cs
      go (inr e) = let z : Some n ≡ None = g.answers ∙ e in let y : ◌≡◌ {A = ℕ} 0 1 = cc in absurd (omega arith)

-- It is refused exactly when the whole of it has no room.
pub made_full : {w out : ℕ} {cs : Rows} {before after : List ℕ} → Builds w out 0 cs before after None → length before - out < length (words_of (canonical cs))
unfolding rows_at
made_full {w} {out} {cs} {before} {after} g =
    rw (ap (λ (rows : Rows). length (words_of rows)) (place_rows-canonical cs)) at (go (leb (length (words_of (place_rows cs []))) (length before - out)) refl)
  where
    go : (b : Bool) → leb (length (words_of (place_rows cs []))) (length before - out) ≡ b → length before - out < length (words_of (place_rows cs []))
    go true q =
        let z : None ≡ Some (length (place_rows cs [])) = rw (build-fits (length before - out) cs [] (leb-true _ _ q)) at g.answers in
        let y : ◌≡◌ {A = ℕ} 0 1 = cc in absurd (omega arith)
    go false q = leb-false _ _ q

-- All candidates are in the value, and some more are to come.
pub filled_wider : {w out rows made : ℕ} {all : Rows} {before now : List ℕ} → Filled w out rows made all [] before now → (some : Rows) → Filled w out rows made (all ++ some) some before now
unfolding build
filled_wider {w} {out} {rows} {made} {all} {before} {now} f some = record {
  size = f.size;
  fits = f.fits;
  next = build-append (length before - out) all some (rows_at w rows out before) ∙ ap (then_build (length before - out) some) f.next;
  words = f.words;
  ascending = f.ascending;
}
