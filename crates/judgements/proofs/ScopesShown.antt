-- The scope that the walk carries shows `calculus`' scope: each variable's width, and all columns. Assumes nothing.
use mathlib.Core.Path.{◌≡◌, refl, sym, ◌∙◌}
use mathlib.Core.Bool.{true, false, cond}
use mathlib.Core.Logic.{◌⊎◌, inl, inr}
use mathlib.Core.List.{[], ◌∷◌}
use Prim.Native.Nat.{ℕ, ◌≤◌, ◌<◌}
use native.Mathlib.Omega.{arith}
use lib.Dec.{eqb}
use lib.ListN.{length, length-set, length-replicate, get_or-replicate}
use lib.Seq.{get_or-set_same, get_or-set_other}
use borrow.Author.Tests.{eqb-true, eqb-false, ne_eqb}
use Rattle.relations.specs.Limits.{column_limit, variable_count}
use Rattle.relations.specs.Lists.{All}
use Rattle.relations.proofs.BoolLaws.{true_or_false}
use Rattle.relations.proofs.ListLaws.{all_append}
use Rattle.calculus.specs.Scope as calculus
use Rattle.calculus.specs.Scope.{ScopeEntry, entry, extend, columns_in}
use Rattle.calculus.specs.Form.{NotInScope}
use Rattle.calculus.proofs.ScopeLaws.{columns_extend}
use Rattle.node_judging.specs.declared.scope.Scope.{Scope as Kept}
use Rattle.node_judging.specs.Steps.{width_kept, columns_kept, no_widths, add_widths, bound_width, bind}

abbrev pub HasWidth : ScopeEntry → Type 0
HasWidth (entry variable width) = 1 ≤ width

-- a scope behind a binder, as the walk keeps it: one width is set, and all columns
module _ (scope : Kept) (v w : ℕ) where
  pub bind-length : length (bind scope v w).widths ≡ length scope.widths
  bind-length = length-set scope.widths v (bound_width w)

  pub kept-bound : v < variable_count → length scope.widths ≡ variable_count → width_kept (bind scope v w) v ≡ bound_width w
  kept-bound small room = get_or-set_same scope.widths v (bound_width w) 0 (omega arith)

  pub kept_other : (u : ℕ) → (u ≡ v → ⊥) → width_kept (bind scope v w) u ≡ width_kept scope u
  kept_other u apart = get_or-set_other scope.widths v u (bound_width w) 0 apart

pub record Shows (scope : Kept) (s : calculus.Scope) : Type 0 where
  pub shown : (v : ℕ) → v < variable_count → width_kept scope v ≡ calculus.width_in s v
  pub room : length scope.widths ≡ variable_count
  pub all_columns_lem : columns_kept scope ≡ columns_in s
  pub have_widths : All HasWidth s

pub shows_empty : Shows no_widths []
shows_empty =
    record { shown = λ v h. get_or-replicate variable_count v 0 0 (omega arith); room = length-replicate {A = ℕ} variable_count 0; all_columns_lem = refl; have_widths = tt }

-- a variable without width is not in scope
pub fresh : (v : ℕ) (s : calculus.Scope) → All HasWidth s → calculus.width_in s v ≡ 0 → NotInScope v s
fresh v [] h e = tt
fresh v (entry x w ∷ s) h e = go (true_or_false (eqb v x)) (λ k. fresh v s h.1 k)
  where
    go : (eqb v x ≡ true) ⊎ (eqb v x ≡ false) → (calculus.width_in s v ≡ 0 → NotInScope v s) → (eqb v x ≡ false) × NotInScope v s
    go (inl t) ih = absurd (omega (arith, h.0, rw t at e))
    go (inr f) ih = (f, ih (rw f at e))

pub width-extend : (s : calculus.Scope) (v w u : ℕ) → NotInScope v s → calculus.width_in (extend s v w) u ≡ cond (eqb u v) w (calculus.width_in s u)
width-extend [] v w u f = refl
width-extend (entry x k ∷ s) v w u f = go (true_or_false (eqb u x)) (width-extend s v w u f.1)
  where
    go : (eqb u x ≡ true) ⊎ (eqb u x ≡ false) → calculus.width_in (extend s v w) u ≡ cond (eqb u v) w (calculus.width_in s u)
        → cond (eqb u x) k (calculus.width_in (extend s v w) u) ≡ cond (eqb u v) w (cond (eqb u x) k (calculus.width_in s u))
    go (inl e) ih = rw (e, ne_eqb u v (λ q. eqb-false v x f.0 (sym q ∙ eqb-true u x e)))
    go (inr e) ih = rw e ih

pub shows_bind : {scope : Kept} {s : calculus.Scope} (v w : ℕ) → Shows scope s → v < variable_count → NotInScope v s → 1 ≤ w → add_widths (columns_kept scope) w ≤ column_limit → Shows (bind scope v w) (extend s v w)
unfolding add_widths
shows_bind {scope} {s} v w shows small new some fit =
    record {
      shown = λ u h. go u h (true_or_false (eqb u v));
      room = bind-length scope v w ∙ shows.room;
      all_columns_lem = omega (arith, columns_extend s v w, shows.all_columns_lem);
      have_widths = all_append HasWidth s (entry v w ∷ []) shows.have_widths (some, tt);
    }
  where
    go : (u : ℕ) → u < variable_count → (eqb u v ≡ true) ⊎ (eqb u v ≡ false) → width_kept (bind scope v w) u ≡ calculus.width_in (extend s v w) u
    go u h (inl e) = rw (width-extend s v w u new, e, eqb-true u v e) (kept-bound scope v w small shows.room ∙ omega (arith, some))
    go u h (inr e) = rw (width-extend s v w u new, e) (kept_other scope v w u (eqb-false u v e) ∙ shows.shown u h)
