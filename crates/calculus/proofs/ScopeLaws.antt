-- Rows of a scope's columns: where an attribute stands, and the environment that a row is.
use mathlib.Core.Path.{◌≡◌, refl, sym, ◌∙◌, ap, ap₂, fun_ext}
use mathlib.Core.Bool.{Bool, true, false, cond}
use mathlib.Core.Logic.{◌⊎◌, inl, inr}
use mathlib.Core.List.{List, [], ◌∷◌, ◌++◌}
use Prim.Native.Nat.{ℕ, zero, suc, ◌+◌, ◌≤◌}
use native.Mathlib.Nat.{add-suc}
use native.Mathlib.Omega.{arith}
use lib.Dec.{eqb}
use borrow.Author.Tests.{eqb-true, eqb-false, ne_eqb}
use lib.ListN.{length, take, drop, length-append, length-drop}
use lib.Seq.{take_all, take-append-le, drop-append-le, get_or-take, get_or-drop}
use Rattle.relations.specs.Columns.{Attribute, word_at, column}
use Rattle.relations.specs.Lists.{flat}
use Rattle.relations.specs.Rows.{Row}
use Rattle.relations.proofs.BoolLaws.{true_or_false}
use Rattle.calculus.specs.Form.{NotInScope, Known, target_width, targets_width}
use Rattle.calculus.specs.Meaning.{bound}
use Rattle.calculus.specs.Question.{Target, whole_row, one_attribute}
use Rattle.calculus.specs.Scope.{entry, Scope, columns_in, width_in, column_number, column_of, columns_from, target_columns, environment_of}

pub columns_extend : (s : Scope) (x w : ℕ) → columns_in (s ++ (entry x w ∷ [])) ≡ columns_in s + w
columns_extend [] x w = omega arith
columns_extend (entry y u ∷ s) x w = omega (arith, columns_extend s x w)

pub environment_extend_at : (s : Scope) (x w : ℕ) → NotInScope x s → (p r : Row) → length p ≡ columns_in s → length r ≡ w → (v : ℕ) → environment_of (s ++ (entry x w ∷ [])) (p ++ r) v ≡ bound (environment_of s p) x r v
environment_extend_at [] x w f [] r h k v = rw (take_all w r (omega arith))
environment_extend_at [] x w f (y ∷ p) r h k v = absurd (omega arith)
environment_extend_at (entry y u ∷ s) x w f p r h k v = rw (take-append-le u p r (omega arith), drop-append-le u p r (omega arith)) (go (true_or_false (eqb v y)) (environment_extend_at s x w f.1 (drop u p) r (omega (arith, length-drop u p)) k v))
  where
    go : (eqb v y ≡ true) ⊎ (eqb v y ≡ false) → environment_of (s ++ (entry x w ∷ [])) (drop u p ++ r) v ≡ cond (eqb v x) r (environment_of s (drop u p) v) → cond (eqb v y) (take u p) (environment_of (s ++ (entry x w ∷ [])) (drop u p ++ r) v) ≡ cond (eqb v x) r (cond (eqb v y) (take u p) (environment_of s (drop u p) v))
    go (inl e) ih = rw (e, ne_eqb v x (λ q. eqb-false x y f.0 (sym q ∙ eqb-true v y e)))
    go (inr e) ih = rw e ih

pub environment_extend : (s : Scope) (x w : ℕ) → NotInScope x s → (p r : Row) → length p ≡ columns_in s → length r ≡ w → environment_of (s ++ (entry x w ∷ [])) (p ++ r) ≡ bound (environment_of s p) x r
environment_extend s x w f p r h k = fun_ext (environment_extend_at s x w f p r h k)

pub word_drop : (w : ℕ) (r : Row) (b : ℕ) → 1 ≤ b → word_at r (w + b) ≡ word_at (drop w r) b
word_drop w r zero h = absurd (omega arith)
word_drop w r (suc b) h = rw (add-suc w b) (sym (get_or-drop w r b 0))

pub word_take : (w : ℕ) (r : Row) (a : ℕ) → 1 ≤ a → a ≤ w → word_at r a ≡ word_at (take w r) a
word_take w r zero h k = absurd (omega arith)
word_take w r (suc a) h k = sym (get_or-take w r a 0 k)

pub column_positive : (s : Scope) (v a : ℕ) → Known s v a → 1 ≤ column_number s v a
column_positive [] v a k = absurd (omega arith)
column_positive (entry x w ∷ s) v a k = go (eqb v x) k.1 (λ h. column_positive s v a (k.0, h))
  where
    go : (b : Bool) → a ≤ cond b w (width_in s v) → (a ≤ width_in s v → 1 ≤ column_number s v a) → 1 ≤ cond b a (w + column_number s v a)
    go true h ih = k.0
    go false h ih = omega (arith, ih h)

pub column-right : (s : Scope) (r : Row) (v a : ℕ) → Known s v a → word_at r (column_number s v a) ≡ word_at (environment_of s r v) a
column-right [] r v a k = absurd (omega arith)
column-right (entry x w ∷ s) r v a k = go (eqb v x) k.1 (λ h. column_positive s v a (k.0, h)) (λ h. column-right s (drop w r) v a (k.0, h))
  where
    go : (b : Bool) → a ≤ cond b w (width_in s v) → (a ≤ width_in s v → 1 ≤ column_number s v a) → (a ≤ width_in s v → word_at (drop w r) (column_number s v a) ≡ word_at (environment_of s (drop w r) v) a) → word_at r (cond b a (w + column_number s v a)) ≡ word_at (cond b (take w r) (environment_of s (drop w r) v)) a
    go true h pos ih = word_take w r a k.0 h
    go false h pos ih = word_drop w r (column_number s v a) (pos h) ∙ ih h

pub column_of-right : (s : Scope) (r : Row) (v : ℕ) (a : Attribute) → Known s v a.number → column r (column_of s v a) ≡ column (environment_of s r v) a
column_of-right s r v a k = column-right s r v a.number k

pub columns_length : (w i : ℕ) → length (columns_from w i) ≡ w
columns_length zero i = refl
columns_length (suc w) i = ap suc (columns_length w (suc i))

-- a target has as many columns as its width says
target_width_lem : (s : Scope) (t : Target) → length (target_columns s t) ≡ target_width s t
target_width_lem s (whole_row v) = columns_length (width_in s v) (column_number s v 1)
target_width_lem s (one_attribute v a) = refl

pub targets-width : (s : Scope) (ts : List Target) → length (flat (target_columns s) ts) ≡ targets_width s ts
targets-width s [] = refl
targets-width s (t ∷ ts) = length-append (target_columns s t) (flat (target_columns s) ts) ∙ ap₂ ◌+◌ (target_width_lem s t) (targets-width s ts)
