-- More steps of the invariant `Filled`: what stands in front of a value that is filled, and its last candidates. Assumes nothing.
use mathlib.Core.Path.{◌≡◌, refl, sym, ap, ap₂, ◌∙◌, subst}
use mathlib.Core.Bool.{So}
use mathlib.Core.Logic.{◌⊎◌, inl, inr}
use mathlib.Core.List.{List, [], ◌∷◌, append-nil}
use lib.ListN.{length}
use lib.Seq.{sets}
use Prim.Native.Nat.{ℕ, ◌+◌, ◌*◌, ◌-◌, ◌≤◌}
use native.Mathlib.Omega.{arith}
use Rattle.relations.specs.Lists.{All}
use Rattle.relations.specs.Values.{Rows, Wide, Ascending, member, insert_row, place_rows}
use Rattle.relations.proofs.PlaceLaws.{member-place_rows}
use Rattle.relations.proofs.ValueLaws.{all_members}
use Rattle.values.specs.Words.{row_in, rows_at, words_of}
use Rattle.values.specs.Building.{done, build, answer_of, Builds}
use Rattle.std.specs.Prelude.{Option, Some, None}
use Rattle.values.proofs.RowsLaws.{row_inside, length-rows_at, length-value, value-words, rows_at-wide, rows_at-sets}
use Rattle.values.proofs.PlaceLaws.{insert_there}
use Rattle.values.proofs.BuildLaws.{build_put, build_cases, build-room}
use Rattle.values.proofs.FillLaws.{Filled, filled_part, filled_on, filled_off, filled_end}

-- a candidate list put for an equal one
pub builds_by : {w out rows : ℕ} {some other : Rows} {before after : List ℕ} {r : Option ℕ} → some ≡ other → Builds w out rows some before after r → Builds w out rows other before after r
builds_by e g = rw e at g

module _ {w out rows made : ℕ} {all todo : Rows} {before now : List ℕ} (f : Filled w out rows made all todo before now) where
  -- a row in front of what is made is as it was
  pub filled_row : (at width : ℕ) → at + width ≤ out → row_in now at width ≡ row_in before at width
  filled_row at width h =
      row_inside now at width (omega (arith, f.fits)) ∙ filled_part f at width h ∙ sym (row_inside before at width (omega (arith, f.fits, f.size)))

  -- a callee is handed all that is still to come
  pub filled_last : {some : Rows} {after : List ℕ} {r : Option ℕ} → todo ≡ some → Builds w out made some now after r → Builds w out rows all before after r
  filled_last {some} {after} {r} e g = go r refl
    where
      go : (x : Option ℕ) → r ≡ x → Builds w out rows all before after r
      go (Some n) q = rw q (filled_end (filled_on f [] (e ∙ sym (append-nil some)) g n q) refl)
      go None q = rw q (filled_off f [] (e ∙ sym (append-nil some)) g q)

-- an equal width
pub builds_wide : {w z out rows : ℕ} {candidates : Rows} {before after : List ℕ} {r : Option ℕ} → w ≡ z → Builds w out rows candidates before after r → Builds z out rows candidates before after r
builds_wide e g = rw e at g

-- rows that are there already change nothing
again : (room : ℕ) (candidates value : Rows) → Ascending value → length (words_of value) ≤ room → All (λ row. So (member row value)) candidates → build room candidates value ≡ done value
unfolding build
again room [] value a h m = refl
again room (row ∷ candidates) value a h m =
    let i : insert_row row value ≡ value = insert_there row value a m.0 in
    build_put room row candidates value (rw i h) ∙ ap (build room candidates) i ∙ again room candidates value a h m.1

pub builds_again : (w out made : ℕ) (candidates : Rows) (l : List ℕ) → out + made * w ≤ length l → Ascending (rows_at w made out l) → All (λ row. So (member row (rows_at w made out l))) candidates
    → Builds w out made candidates l l (Some made)
builds_again w out made candidates l h a m =
    let b : build (length l - out) candidates (rows_at w made out l) ≡ done (rows_at w made out l) = again (length l - out) candidates (rows_at w made out l) a (rw (length-value w made out l h) (omega arith)) m in
    record { answers = rw b (ap Some (sym (length-rows_at w made out l))); words = rw b (value-words w made out l h); wide = rw b (rows_at-wide w made out l h) }

-- and rows that were put in are there
all_there : (candidates value : Rows) → All (λ row. So (member row (place_rows candidates value))) candidates
all_there candidates value = all_members (λ row. So (member row (place_rows candidates value))) candidates (λ row h. member-place_rows row candidates value ∙ rw h)

pub builds_there : {w out made n : ℕ} {candidates : Rows} {before after : List ℕ} → out + made * w ≤ length before → Builds w out made candidates before after (Some n)
    → All (λ row. So (member row (rows_at w n out after))) candidates
builds_there {w} {out} {made} {n} {candidates} {before} {after} h g = go (build_cases (length before - out) candidates (rows_at w made out before))
  where
    go : (build (length before - out) candidates (rows_at w made out before) ≡ done (place_rows candidates (rows_at w made out before))) ⊎ (answer_of (build (length before - out) candidates (rows_at w made out before)) ≡ None) → All (λ row. So (member row (rows_at w n out after))) candidates
    go (inl e) =
        let u : Rows = place_rows candidates (rows_at w made out before) in
        let z : Some n ≡ Some (length u) = rw e at g.answers in
        let k : n ≡ length u = cc in
        let wide : Wide w u = rw e at g.wide in
        let s : after ≡ sets before out (words_of u) = rw e at g.words in
        let r : length (words_of u) ≤ length before - out = rw e at (build-room (length before - out) candidates (rows_at w made out before) (rw (length-value w made out before h) (omega arith))) in
        let back : rows_at w n out after ≡ u = ap₂ (λ (x : ℕ) (y : List ℕ). rows_at w x out y) k s ∙ rows_at-sets w out before u wide (omega arith) in
        rw back (all_there candidates (rows_at w made out before))
    go (inr e) = let z : Some n ≡ None = g.answers ∙ e in let y : ◌≡◌ {A = ℕ} 0 1 = cc in absurd (omega arith)

pub there_by : (value : Rows) {some other : Rows} → some ≡ other → All (λ row. So (member row value)) other → All (λ row. So (member row value)) some
there_by value e h = subst (λ rows. All (λ row. So (member row value)) rows) (sym e) h

pub builds_made : {w out rows : ℕ} {candidates : Rows} {before after : List ℕ} {r s : Option ℕ} → r ≡ s → Builds w out rows candidates before after r → Builds w out rows candidates before after s
builds_made e g = rw e at g
