-- A relation loaded is its stored table. Assumes nothing.
use mathlib.Core.Path.{◌≡◌, refl, sym, ap, ◌∙◌}
use mathlib.Core.List.{List, ◌∷◌}
use Prim.Native.Nat.{ℕ, zero, suc, ◌+◌}
use lib.ListN.{take, drop}
use lib.Seq.{drop-drop}
use Rattle.relations.specs.Values.{Rows}
use Rattle.relations.specs.Operations.{load_candidates}
use Rattle.values.specs.Words.{rows_at}
use Rattle.values.specs.Building.{Makes}
use Rattle.std.specs.Prelude.{Option}
use Rattle.catalogue.specs.Stored.{columns_of, row_count_of, start_of, rows_in, stored_tables}

-- rows in the words from a place on
rows_from : (columns rows start : ℕ) (words : List ℕ) → rows_at columns rows start words ≡ rows_in columns rows (drop start words)
unfolding rows_at rows_in
rows_from columns zero start words = refl
rows_from columns (suc rows) start words =
    ap (λ (more : Rows). take columns (drop start words) ∷ more) (rows_from columns rows (start + columns) words ∙ ap (rows_in columns rows) (sym (drop-drop columns start words)))

module _ (catalogue tables : List ℕ) (relation : ℕ) where
  stored-rows : rows_at (columns_of catalogue relation) (row_count_of catalogue relation) (start_of catalogue relation) tables ≡ stored_tables catalogue tables relation
  stored-rows = rows_from (columns_of catalogue relation) (row_count_of catalogue relation) (start_of catalogue relation) tables

  pub loaded : {start rows columns out : ℕ} {before after : List ℕ} {r : Option ℕ} → start ≡ start_of catalogue relation → rows ≡ row_count_of catalogue relation → columns ≡ columns_of catalogue relation
      → Makes columns out (load_candidates (rows_at columns rows start tables)) before after r → Makes (columns_of catalogue relation) out (load_candidates (stored_tables catalogue tables relation)) before after r
  loaded s n w g = rw (s, n, w, stored-rows) at g
