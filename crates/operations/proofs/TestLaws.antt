-- Rows in front of a place that are kept or not by a test, and the value of those that are, in the words behind. Assumes nothing.
use mathlib.Core.Path.{◌≡◌, refl, sym, ap, ap₂, ◌∙◌}
use mathlib.Core.Bool.{Bool, true, false, cond}
use mathlib.Core.List.{List, [], ◌∷◌, ◌++◌, append_assoc, append-nil}
use Prim.Native.Nat.{ℕ, zero, suc, ◌+◌, ◌-◌, ◌*◌, ◌≤◌, ◌<◌}
use native.Mathlib.Omega.{arith}
use lib.ListN.{length, set, take, drop, length-drop, take-append-drop}
use lib.Seq.{sets, length-take-le, get_or-take, ext_get_or}
use native.Mathlib.Nat.{suc-mul}
use Rattle.std.specs.Prelude.{Option, Some, None}
use Rattle.relations.specs.Lists.{filter}
use Rattle.relations.specs.Rows.{Row}
use Rattle.relations.specs.Values.{Rows}
use Rattle.values.specs.Words.{part, rows_at, rows_of, words_of, end}
use Rattle.values.specs.Building.{build, left_of, Builds}
use Rattle.values.specs.declared.rows.Value.{Value}
use Rattle.values.proofs.WordLaws.{length_part, get_d_part}
use Rattle.values.proofs.RowsLaws.{rows_at_none}
use Rattle.values.proofs.FillLaws.{Filled, filled_none, filled_wider, filled_on, filled_off, filled_end}

-- Of the rows of a value those in front of a number were kept or not, whatever test it is that the answers are of.
pub record Kept (Says : (Row → Bool) → Type 0) (width made : ℕ) (whole rest : Rows) (before now : List ℕ) : Type 0 where
  pub taken : Rows
  pub filled : Filled width 0 0 made taken [] before now
  pub same : (test : Row → Bool) → Says test → filter test whole ≡ taken ++ filter test rest

pub kept_start : (Says : (Row → Bool) → Type 0) (width : ℕ) (whole rest : Rows) (l : List ℕ) → whole ≡ rest → Kept Says width 0 whole rest l l
kept_start Says width whole rest l e = record { taken = []; filled = filled_none width 0 [] l (omega arith); same = λ test says. ap (filter test) e }

module _ {Says : (Row → Bool) → Type 0} {width made : ℕ} {whole rest : Rows} {before now : List ℕ} (k : Kept Says width made whole rest before now) where
  pub kept_end : rest ≡ [] → (test : Row → Bool) → Says test → Builds width 0 0 (filter test whole) before now (Some made)
  kept_end e test says = rw (k.same test says ∙ ap (λ (rows : Rows). k.taken ++ filter test rows) e ∙ append-nil k.taken) (filled_end k.filled refl)

  module _ {row : Row} (fewer : Rows) (first : rest ≡ row ∷ fewer) where
    passed_by : (test : Row → Bool) → Says test → (b : Bool) → test row ≡ b → filter test whole ≡ k.taken ++ cond b (row ∷ filter test fewer) (filter test fewer)
    passed_by test says b e = k.same test says ∙ ap (λ (rows : Rows). k.taken ++ filter test rows) first ∙ ap (λ (c : Bool). k.taken ++ cond c (row ∷ filter test fewer) (filter test fewer)) e

    -- one that does not pass
    pub kept_past : ((test : Row → Bool) → Says test → test row ≡ false) → Kept Says width made whole fewer before now
    kept_past fails = record { taken = k.taken; filled = k.filled; same = λ test says. passed_by test says false (fails test says) }

    -- one that does, and is placed or has no room
    module _ (yes : (test : Row → Bool) → Says test → test row ≡ true) {after : List ℕ} {r : Option ℕ} (g : Builds width 0 made (row ∷ []) now after r) where
      pub kept_on : (n : ℕ) → r ≡ Some n → Kept Says width n whole fewer before after
      kept_on n q = record {
        taken = k.taken ++ (row ∷ []);
        filled = filled_on (filled_wider k.filled (row ∷ [])) [] refl g n q;
        same = λ test says. passed_by test says true (yes test says) ∙ sym (append_assoc k.taken (row ∷ []) (filter test fewer));
      }

      pub kept_off : r ≡ None → (test : Row → Bool) → Says test → Builds width 0 0 (filter test whole) before after None
      kept_off q test says = rw (passed_by test says true (yes test says)) (filled_off (filled_wider k.filled (row ∷ filter test fewer)) (filter test fewer) refl g q)

-- a store behind the front
sets_cons : (x : ℕ) (l : List ℕ) (i : ℕ) (vs : List ℕ) → sets (x ∷ l) (suc i) vs ≡ x ∷ sets l i vs
sets_cons x l i [] = refl
sets_cons x l i (v ∷ vs) = sets_cons x (set l i v) (suc i) vs

sets-behind : (front l vs : List ℕ) → sets (front ++ l) (length front) vs ≡ front ++ sets l 0 vs
sets-behind [] l vs = refl
sets-behind (x ∷ front) l vs = sets_cons x (front ++ l) (length front) vs ∙ ap (λ (m : List ℕ). x ∷ m) (sets-behind front l vs)

-- what is built in the words behind a place is built from there on
pub builds_behind : {w out : ℕ} {cs : Rows} (work : List ℕ) {behind after : List ℕ} {r : Option ℕ} → out ≤ length work → after ≡ take out work ++ behind → Builds w 0 0 cs (drop out work) behind r → Builds w out 0 cs work after r
builds_behind {w} {out} {cs} work {behind} {after} {r} inside e g =
    let none : rows_at w 0 0 (drop out work) ≡ rows_at w 0 out work = rows_at_none w 0 (drop out work) ∙ sym (rows_at_none w out work) in
    let room : length (drop out work) - 0 ≡ length work - out = omega (arith, length-drop out work) in
    let same : build (length (drop out work) - 0) cs (rows_at w 0 0 (drop out work)) ≡ build (length work - out) cs (rows_at w 0 out work) = ap₂ (λ (n : ℕ) (v : Rows). build n cs v) room none in
    let vs : List ℕ = words_of (left_of (build (length work - out) cs (rows_at w 0 out work))) in
    let at_out : length (take out work) ≡ out = length-take-le out work inside in
    record {
      answers = rw same at g.answers;
      words = e ∙ ap (λ (l : List ℕ). take out work ++ l) (rw same at g.words) ∙ sym (sets-behind (take out work) (drop out work) vs)
          ∙ ap₂ (λ (l : List ℕ) (n : ℕ). sets l n vs) (take-append-drop out work) at_out;
      wide = rw same at g.wide;
    }

-- and the rows in front of it are those of the front
part_front : (a w out : ℕ) (l : List ℕ) → a + w ≤ out → out ≤ length l → part a w (take out l) ≡ part a w l
part_front a w out l h k =
    let size : length (take out l) ≡ out = length-take-le out l k in
    ext_get_or 0 (part a w (take out l)) (part a w l) (length_part a w (take out l) (omega arith) ∙ sym (length_part a w l (omega arith)))
    (λ i j. let low : i < w = omega (arith, length_part a w (take out l) (omega arith)) in
    get_d_part a w (take out l) i low ∙ get_or-take out l (a + i) 0 (omega arith) ∙ sym (get_d_part a w l i low))

rows_at_front : (w n a out : ℕ) (l : List ℕ) → a + n * w ≤ out → out ≤ length l → rows_at w n a (take out l) ≡ rows_at w n a l
unfolding rows_at
rows_at_front w zero a out l h k = refl
rows_at_front w (suc n) a out l h k =
    let e : suc n * w ≡ n * w + w = suc-mul n w in
    rw (part_front a w out l (omega arith) k, rows_at_front w n (a + w) out l (omega arith) k)

pub rows_front : (value : Value) (out : ℕ) (work : List ℕ) {front : List ℕ} → end value ≤ out → out ≤ length work → front ≡ take out work → rows_of value front ≡ rows_of value work
rows_front value out work h k e = ap (rows_of value) e ∙ rows_at_front value.width value.rows value.base out work h k

pub split_built : (left : Value) (out : ℕ) (work : List ℕ) (test : Row → Bool) {front back behind : List ℕ} {r : Option ℕ} → end left ≤ out → out ≤ length work → front ≡ take out work → back ≡ drop out work
    → Builds left.width 0 0 (filter test (rows_of left front)) back behind r → Builds left.width out 0 (filter test (rows_of left work)) work (front ++ behind) r
split_built left out work test {front} {back} {behind} {r} h k e f g =
    let there : Builds left.width 0 0 (filter test (rows_of left work)) (drop out work) behind r = rw (rows_front left out work h k e, f) at g in
    builds_behind work k (ap (λ (l : List ℕ). l ++ behind) e) there
