-- How a value is shown to be made (`Makes`), what a caller learns of it, and the invariant of a loop that offers its candidates in an order of its own
-- (`Offered`). Assumes nothing.
use mathlib.Core.Path.{◌≡◌, refl, sym, ap, ap₂, ◌∙◌}
use Prim.Native.Nat.{ℕ, ◌+◌, ◌-◌, ◌*◌, ◌≤◌, ◌<◌}
use native.Mathlib.Omega.{arith}
use mathlib.Core.Bool.{Bool, true, false, ◌||◌, cond}
use mathlib.Core.List.{List, [], ◌∷◌, ◌++◌}
use lib.ListN.{length, replicate, length-append, length-replicate}
use lib.Seq.{sets, length-sets}
use lib.Dec.{leb}
use borrow.Author.Tests.{le-leb, lt-leb, leb-true, leb-false}
use Rattle.relations.specs.Rows.{Row, same_row}
use Rattle.relations.specs.Values.{Rows, Wide, member, canonical}
use Rattle.relations.proofs.ListLaws.{any_append}
use Rattle.relations.proofs.StoreLaws.{sets-append}
use Rattle.relations.proofs.ValueLaws.{canonical_by_members}
use Rattle.relations.proofs.WidthLaws.{wide-canonical}
use Rattle.values.specs.Words.{part, rows_at, words_of}
use Rattle.values.specs.Building.{build, left_of, Builds, cleared_from, Blank, within, made_or_full, Makes, finished}
use Rattle.std.specs.Prelude.{Option, Some, None}
use Rattle.values.proofs.RowsLaws.{length-rows_at, length-words, length-value, words-rows_at, rows_at-wide, rows_at-before, rows_at-sets}
use Rattle.values.proofs.WordLaws.{sets-sets, sets_again}
use Rattle.values.proofs.FillLaws.{Filled, filled_none, filled_on, filled_off, filled_end, filled_wider, made_length, made_fits, made_words, made_value, made_full}
use Rattle.values.proofs.ClearLaws.{cleared-sets, blank-behind, blank-over}

module _ {w out : ℕ} {cs : Rows} {before after : List ℕ} where
  -- the value stands there
  pub makes_here : {n : ℕ} (value : Rows) → Blank out before → value ≡ canonical cs → Wide w value → length (words_of value) ≤ length before - out → n ≡ length value → after ≡ sets before out (words_of value)
      → Makes w out cs before after (Some n)
  makes_here {n} value blank e wide fits many stored =
      let room : leb (length (words_of (canonical cs))) (length before - out) ≡ true = le-leb _ _ (rw e at fits) in
      record {
        answers = rw room (ap Some (many ∙ ap length e));
        words = rw room (stored ∙ ap₂ (λ (l : List ℕ) (v : Rows). sets l out (words_of v)) blank e);
        wide = rw room (rw e at wide);
      }

  -- it has no room
  pub makes_none : length before - out < length (words_of (canonical cs)) → after ≡ cleared_from out before → Makes w out cs before after None
  unfolding words_of
  makes_none over clear =
      let room : leb (length (words_of (canonical cs))) (length before - out) ≡ false = lt-leb _ _ over in
      record { answers = rw room; words = rw room clear; wide = rw room tt }

-- nothing is left open: two outcomes from one start are the same
pub builds_unique : {w out rows : ℕ} {cs : Rows} {before after other : List ℕ} {r s : Option ℕ} → Builds w out rows cs before after r → Builds w out rows cs before other s → (after ≡ other) × (r ≡ s)
builds_unique g h = (g.words ∙ sym h.words, g.answers ∙ sym h.answers)

pub makes_unique : {w out : ℕ} {cs : Rows} {before after other : List ℕ} {r s : Option ℕ} → Makes w out cs before after r → Makes w out cs before other s → (after ≡ other) × (r ≡ s)
makes_unique m n = (m.words ∙ sym n.words, m.answers ∙ sym n.answers)

-- the same set of candidates
pub makes_as : {w out : ℕ} {cs : Rows} {before after : List ℕ} {r : Option ℕ} → Makes w out cs before after r → {others : Rows} → ((row : Row) → member row cs ≡ member row others) → Makes w out others before after r
makes_as {w} {out} {cs} {before} {after} {r} m {others} h =
    let same : canonical cs ≡ canonical others = canonical_by_members cs others h in
    record { answers = rw same at m.answers; words = rw same at m.words; wide = rw same at m.wide }

-- What a caller learns: what is in front of `out` is as it was.
module _ {w out : ℕ} {cs : Rows} {before after : List ℕ} {r : Option ℕ} (inside : out ≤ length before) (blank : Blank out before) (m : Makes w out cs before after r) where
  abbrev value : Rows
  value = within (length before - out) (canonical cs)

  stored : after ≡ sets before out (words_of value)
  stored = m.words ∙ ap (λ (l : List ℕ). sets l out (words_of value)) (sym blank)

  pub makes-length : length after ≡ length before
  makes-length = ap length stored ∙ length-sets before out (words_of value)

  pub makes-rows : (z n a : ℕ) → a + n * z ≤ out → rows_at z n a after ≡ rows_at z n a before
  makes-rows z n a h = ap (rows_at z n a) stored ∙ rows_at-before z n a out before (words_of value) h inside

-- what an answer says of the room
answer-fits : (room : ℕ) (value : Rows) (n : ℕ) → Some n ≡ made_or_full room value → (length (words_of value) ≤ room) × (n ≡ length value)
answer-fits room value n e = go (leb (length (words_of value)) room) refl e
  where
    go : (b : Bool) → leb (length (words_of value)) room ≡ b → Some n ≡ cond b (Some (length value)) None → (length (words_of value) ≤ room) × (n ≡ length value)
    go true q e = (leb-true _ _ q, cc)
    go false q e = let y : ◌≡◌ {A = ℕ} 0 1 = cc in absurd (omega arith)

answer-over : (room : ℕ) (value : Rows) → None ≡ made_or_full room value → room < length (words_of value)
answer-over room value e = go (leb (length (words_of value)) room) refl e
  where
    go : (b : Bool) → leb (length (words_of value)) room ≡ b → None ≡ cond b (Some (length value)) None → room < length (words_of value)
    go true q e = let y : ◌≡◌ {A = ℕ} 0 1 = cc in absurd (omega arith)
    go false q e = leb-false _ _ q

-- The value is the canonical one of the candidates, and zeros stand behind it.
module _ {w out n : ℕ} {cs : Rows} {before after : List ℕ} (inside : out ≤ length before) (blank : Blank out before) (m : Makes w out cs before after (Some n)) where
  has_room : length (words_of (canonical cs)) ≤ length before - out
  has_room = (answer-fits (length before - out) (canonical cs) n m.answers).0

  pub makes-count : n ≡ length (canonical cs)
  makes-count = (answer-fits (length before - out) (canonical cs) n m.answers).1

  is_wide : Wide w (canonical cs)
  is_wide = rw (le-leb _ _ has_room) at m.wide

  in_words : after ≡ sets before out (words_of (canonical cs))
  in_words = rw (le-leb _ _ has_room) at (stored inside blank m)

  size : length (words_of (canonical cs)) ≡ n * w
  size = length-words w (canonical cs) is_wide ∙ ap (λ (k : ℕ). k * w) (sym makes-count)

  pub makes-value : rows_at w n out after ≡ canonical cs
  makes-value = ap₂ (λ (k : ℕ) (l : List ℕ). rows_at w k out l) makes-count in_words ∙ rows_at-sets w out before (canonical cs) is_wide (omega (arith, has_room))

  pub makes-fits : out + n * w ≤ length after
  makes-fits = omega (arith, has_room, size, makes-length inside blank m)

  pub makes-blank : Blank (out + n * w) after
  makes-blank = rw in_words (blank-behind {place = out} (out + n * w) out (words_of (canonical cs)) blank (omega arith) (omega (arith, has_room, size)) (omega (arith, size)))

pub makes_full : {w out : ℕ} {cs : Rows} {before after : List ℕ} → Makes w out cs before after None → Wide w cs → length before - out < length (canonical cs) * w
makes_full {w} {out} {cs} {before} {after} m h = rw (length-words w (canonical cs) (wide-canonical w cs h)) at (answer-over (length before - out) (canonical cs) m.answers)

-- what is built and finished is made
builds_done : {w out n : ℕ} {cs : Rows} {before after : List ℕ} → out ≤ length before → Blank out before → Builds w out 0 cs before after (Some n) → Makes w out cs before after (Some n)
builds_done {w} {out} {n} {cs} {before} {after} inside blank g =
    let fits : out + n * w ≤ length after = made_fits inside g in
    makes_here (rows_at w n out after) blank (made_value inside g) (rows_at-wide w n out after fits) (omega (arith, fits, made_length g, length-value w n out after fits)) (sym (length-rows_at w n out after)) (made_words inside g)

-- what was built from a place on goes when all is cleared from there or from an earlier place
pub builds_cleared : {w out rows : ℕ} {cs : Rows} {before built : List ℕ} {r : Option ℕ} (place : ℕ) → place ≤ out → Builds w out rows cs before built r → cleared_from place built ≡ cleared_from place before
builds_cleared {w} {out} {rows} {cs} {before} place h g = ap (cleared_from place) g.words ∙ cleared-sets before place out (words_of (left_of (build (length before - out) cs (rows_at w rows out before)))) h

builds_off : {w out : ℕ} {cs : Rows} {before built after : List ℕ} → Builds w out 0 cs before built None → after ≡ cleared_from out built → Makes w out cs before after None
builds_off {w} {out} g clear = makes_none (made_full g) (clear ∙ builds_cleared out (omega arith) g)

pub builds_makes : {w out : ℕ} {cs : Rows} {before built after : List ℕ} {p r : Option ℕ} → out ≤ length before → Blank out before → Builds w out 0 cs before built p → (r ≡ p) × (after ≡ finished out p built) → Makes w out cs before after r
builds_makes {w} {out} {cs} {before} {built} {after} {p} {r} inside blank g h = rw h.0 (go p g h.1)
  where
    go : (q : Option ℕ) → Builds w out 0 cs before built q → after ≡ finished out q built → Makes w out cs before after q
    go (Some n) b e = rw e (builds_done inside blank b)
    go None b e = builds_off b e

-- a value that was built behind some scratch from `out` on, and moved down over it; what is left of both is cleared
pub moved_makes : {w out n size : ℕ} {cs : Rows} {first before built moved after : List ℕ} (scratch : List ℕ) → out ≤ length first → Blank out first → before ≡ sets first out scratch → length scratch ≡ size → out + size ≤ length first
    → Builds w (out + size) 0 cs before built (Some n) → moved ≡ sets built out (part (out + size) (n * w) built) → after ≡ sets moved (out + n * w) (replicate size 0)
    → Makes w out cs first after (Some n)
moved_makes {w} {out} {n} {size} {cs} {first} {before} {built} {moved} {after} scratch inside blank e many room g down clear =
    let behind : ℕ = out + size in
    let value : Rows = rows_at w n behind built in
    let low : behind ≤ length before = omega (arith, ap length e, length-sets first out scratch) in
    let fits : behind + n * w ≤ length built = made_fits low g in
    let same : length built ≡ length first = made_length g ∙ ap length e ∙ length-sets first out scratch in
    let long : length (words_of value) ≡ n * w = length-value w n behind built fits in
    let zeros : List ℕ = replicate size 0 in
    let both : built ≡ sets first out (scratch ++ words_of value) =
    made_words low g ∙ ap₂ (λ (l : List ℕ) (k : ℕ). sets l (out + k) (words_of value)) e (sym many) ∙ sym (sets-append first out scratch (words_of value)) in
    let laid : after ≡ sets built out (words_of value ++ zeros) =
    clear ∙ ap₂ (λ (l : List ℕ) (k : ℕ). sets l (out + k) zeros) (down ∙ ap (sets built out) (sym (words-rows_at w n behind built))) (sym long) ∙ sym (sets-append built out (words_of value) zeros) in
    let as_long : length (scratch ++ words_of value) ≤ length (words_of value ++ zeros) = omega (arith, length-append scratch (words_of value), length-append (words_of value) zeros, length-replicate {A = ℕ} size 0) in
    let stored : after ≡ sets first out (words_of value) =
    laid ∙ ap (λ (l : List ℕ). sets l out (words_of value ++ zeros)) both ∙ sets_again first out (scratch ++ words_of value) (words_of value ++ zeros) as_long
    ∙ sets-append first out (words_of value) zeros ∙ sym (sets-sets first out (out + length (words_of value)) (words_of value) zeros (omega arith))
    ∙ ap (λ (l : List ℕ). sets l out (words_of value)) (blank-over {place = out} (out + length (words_of value)) size blank (omega arith) (omega arith)) in
    makes_here value blank (made_value low g) (rows_at-wide w n behind built fits) (omega arith) (sym (length-rows_at w n behind built)) stored

-- an equal row
pub builds_row : {w out rows : ℕ} {row other : Row} {before after : List ℕ} {r : Option ℕ} → row ≡ other → Builds w out rows (row ∷ []) before after r → Builds w out rows (other ∷ []) before after r
builds_row e g = rw e at g

-- Of the rows of `whole` those of `rest` are still to be offered; the others were, in some order.
pub record Offered (width out made : ℕ) (rest whole : Rows) (before now : List ℕ) : Type 0 where
  pub taken : Rows
  pub filled : Filled width out 0 made taken [] before now
  pub same : (row : Row) → (member row taken || member row rest) ≡ member row whole

pub offered_start : (w out : ℕ) (whole : Rows) (l : List ℕ) → out ≤ length l → Offered w out 0 whole whole l l
offered_start w out whole l h = record { taken = []; filled = filled_none w out [] l h; same = λ row. refl }

module _ {w out made : ℕ} {rest whole : Rows} {before now : List ℕ} (o : Offered w out made rest whole before now) where
  inside : out ≤ length before
  inside = omega (arith, o.filled.size, o.filled.fits)

  pub offered_end : Blank out before → ((row : Row) → member row rest ≡ false) → Makes w out whole before now (Some made)
  offered_end blank h = makes_as (builds_done inside blank (filled_end o.filled refl)) (λ row. sym (or_none (member row o.taken) (member row rest) (h row)) ∙ o.same row)
    where
      or_none : (a b : Bool) → b ≡ false → (a || b) ≡ a
      or_none true b e = refl
      or_none false b e = e

  -- one of the rows to come was offered
  module _ {row : Row} (fewer : Rows) {after : List ℕ} {r : Option ℕ} (one : (other : Row) → member other rest ≡ (same_row other row || member other fewer)) (g : Builds w out made (row ∷ []) now after r) where
    pub offered_on : (n : ℕ) → r ≡ Some n → Offered w out n fewer whole before after
    offered_on n q = record {
      taken = o.taken ++ (row ∷ []);
      filled = filled_on (filled_wider o.filled (row ∷ [])) [] refl g n q;
      same = λ other. ap (λ (b : Bool). b || member other fewer) (any_append (same_row other) o.taken (row ∷ [])) ∙ go (member other o.taken) (same_row other row) (member other fewer) ∙ ap (λ (b : Bool). member other o.taken || b) (sym (one other)) ∙ o.same other;
    }
      where
        go : (a b c : Bool) → ((a || (b || false)) || c) ≡ (a || (b || c))
        go true b c = refl
        go false true c = refl
        go false false c = refl

    -- it had no room, and what was built was cleared
    pub offered_off : {clear : List ℕ} → r ≡ None → clear ≡ cleared_from out after → Makes w out whole before clear None
    offered_off {clear} q e =
        makes_as (builds_off (filled_off (filled_wider o.filled (row ∷ fewer)) fewer refl g q) e)
        (λ other. any_append (same_row other) o.taken (row ∷ fewer) ∙ ap (λ (b : Bool). member other o.taken || b) (sym (one other)) ∙ o.same other)
