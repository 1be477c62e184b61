-- The wanted left rows by their keys: the keys stand from `out` on, the rows behind them, and then they are moved down. Assumes nothing.
use mathlib.Core.Path.{◌≡◌, refl, sym, ap, ap₂, ◌∙◌}
use mathlib.Core.Bool.{Bool, true, false, cond}
use mathlib.Core.List.{List, [], map}
use Prim.Native.Nat.{ℕ, ◌+◌, ◌-◌, ◌*◌, ◌≤◌}
use native.Mathlib.Omega.{arith}
use lib.ListN.{length, take, replicate}
use lib.Seq.{sets, take-length}
use lib.Dec.{leb}
use borrow.Author.Tests.{le-leb}
use Rattle.relations.specs.Values.{Rows, Ascending, member, canonical}
use Rattle.relations.specs.Columns.{Triple, attribute}
use Rattle.relations.specs.Operations.{project_candidates}
use Rattle.relations.proofs.ValueLaws.{ascending-canonical}
use Rattle.relations.proofs.PlaceLaws.{place_rows-canonical}
use Rattle.values.specs.Words.{part, rows_at, rows_of, end, words_of}
use Rattle.values.specs.Building.{done, build, Builds, cleared_from, Blank, Makes}
use Rattle.values.specs.declared.rows.Value.{Value}
use Rattle.std.specs.Prelude.{Some, None}
use Rattle.values.proofs.RowsLaws.{length-value, rows_at_none}
use Rattle.values.proofs.BuildLaws.{build-fits}
use Rattle.values.proofs.FillLaws.{made_length, made_rows, made_words}
use Rattle.values.proofs.MakeLaws.{makes_as, makes-length, makes-count, makes-value, makes-fits, builds_cleared, moved_makes}
use Rattle.wanted_rows.specs.Wanted.{wanted_rows}
use Rattle.semijoins.specs.Keys.{Keyed}
use Rattle.semijoins.proofs.KeyLaws.{wanted_canonical}

-- keys that were made stand as if each had been placed in turn
keys_built : {w out n : ℕ} {cs : Rows} {before after : List ℕ} → out ≤ length before → Blank out before → Makes w out cs before after (Some n) → Builds w out 0 cs before after (Some n)
keys_built {w} {out} {n} {cs} {before} {after} inside blank m =
    let value : rows_at w n out after ≡ canonical cs = makes-value inside blank m in
    let size : length (words_of (canonical cs)) ≡ n * w = ap (λ (rows : Rows). length (words_of rows)) (sym value) ∙ length-value w n out after (makes-fits inside blank m) in
    let fits : length (words_of (canonical cs)) ≤ length before - out = omega (arith, size, makes-fits inside blank m, makes-length inside blank m) in
    let room : leb (length (words_of (canonical cs))) (length before - out) ≡ true = le-leb _ _ fits in
    let b : build (length before - out) cs (rows_at w 0 out before) ≡ done (canonical cs) =
    ap (build (length before - out) cs) (rows_at_none w out before) ∙ build-fits (length before - out) cs [] (rw (place_rows-canonical cs) fits) ∙ ap done (place_rows-canonical cs) in
    record {
      answers = rw b (ap Some (makes-count inside blank m));
      words = rw b ((rw room at m.words) ∙ ap (λ (l : List ℕ). sets l out (words_of (canonical cs))) (sym blank));
      wide = rw b (rw room at m.wide);
    }

pub keyed : {out n : ℕ} (columns : List ℕ) {right : Value} {before after : List ℕ} → out ≤ length before → Blank out before
    → Makes (length columns) out (project_candidates (map attribute (take (length columns) columns)) (rows_of right before)) before after (Some n)
    → Keyed columns right out before after (record { base = out; rows = n; width = length columns })
keyed {out} {n} columns {right} {before} {after} inside blank makes =
    let m : Makes (length columns) out (project_candidates (map attribute columns) (rows_of right before)) before after (Some n) = rw (take-length columns) at makes in
    record { base = refl; width = refl; fits = makes-fits inside blank m; made = keys_built inside blank m; value = makes-value inside blank m }

-- keys without room leave all as it was
pub keys_none : {w out : ℕ} {cs : Rows} {before after : List ℕ} → Blank out before → Makes w out cs before after None → after ≡ before
unfolding words_of
keys_none {w} {out} {cs} {before} {after} blank m = go (leb (length (words_of (canonical cs))) (length before - out)) m.answers m.words
  where
    go : (b : Bool) → None ≡ cond b (Some (length (canonical cs))) None → after ≡ sets (cleared_from out before) out (words_of (cond b (canonical cs) [])) → after ≡ before
    go true e f = let y : ◌≡◌ {A = ℕ} 0 1 = cc in absurd (omega arith)
    go false e f = f ∙ sym blank

module _ {columns : List ℕ} {right keys : Value} {out : ℕ} {l₀ l₁ : List ℕ} (k : Keyed columns right out l₀ l₁ keys) where
  pub keys_ascend : Ascending (rows_of keys l₁)
  keys_ascend = rw k.value (ascending-canonical (project_candidates (map attribute columns) (rows_of right l₀)))

  -- no room for the rows behind the keys
  pub tried_short : {behind z : ℕ} {es : Rows} {l₂ after : List ℕ} → Blank out l₀ → out ≤ behind → Builds z behind 0 es l₁ l₂ None → after ≡ cleared_from out l₂ → after ≡ l₀
  tried_short blank low rows clear = clear ∙ builds_cleared out low rows ∙ builds_cleared out (omega arith) k.made ∙ sym blank

  -- room for both
  pub tried_made : {l₂ l₃ l₄ : List ℕ} (wanted : Bool) (triples : List Triple) (left : Value) (n : ℕ) → end left ≤ out → out ≤ length l₀ → Blank out l₀
      → Builds left.width (out + keys.rows * keys.width) 0 (wanted_rows wanted triples (rows_of left l₁) (rows_of keys l₁)) l₁ l₂ (Some n)
      → l₃ ≡ sets l₂ out (part (out + keys.rows * keys.width) (n * left.width) l₂)
      → l₄ ≡ sets l₃ (out + n * left.width) (replicate (out + keys.rows * keys.width + n * left.width - (out + n * left.width)) 0)
      → Makes left.width out (wanted_rows wanted triples (rows_of left l₀) (project_candidates (map attribute columns) (rows_of right l₀))) l₀ l₄ (Some n)
  tried_made {l₂} {l₃} {l₄} wanted triples left n before inside blank rows moved clear =
      let w : ℕ = keys.width in
      let kept : Rows = rows_at w keys.rows out l₁ in
      let many : out + keys.rows * w + n * left.width - (out + n * left.width) ≡ keys.rows * w = omega arith in
      let m : Makes left.width out (wanted_rows wanted triples (rows_of left l₁) (rows_of keys l₁)) l₀ l₄ (Some n) =
      moved_makes (words_of kept) inside blank (made_words inside k.made) (length-value w keys.rows out l₁ k.fits) (omega (arith, k.fits, made_length k.made)) rows moved (rw many at clear) in
      let same : wanted_rows wanted triples (rows_of left l₁) (rows_of keys l₁) ≡ wanted_rows wanted triples (rows_of left l₀) (project_candidates (map attribute columns) (rows_of right l₀)) =
      ap₂ (wanted_rows wanted triples) (made_rows k.made left.width left.rows left.base before inside) k.value
      ∙ wanted_canonical wanted triples (rows_of left l₀) (project_candidates (map attribute columns) (rows_of right l₀)) in
      makes_as m (λ row. ap (member row) same)
