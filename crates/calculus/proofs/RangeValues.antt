-- The ranges' values: ascending, as wide as their form says; an alpha is the project of its products' rows that meet its condition.
use mathlib.Core.Path.{◌≡◌, refl, sym, ◌∙◌, ap, ap₂, subst}
use mathlib.Core.Bool.{Bool, true, false, not, ◌&&◌, cond}
use mathlib.Core.List.{List, [], ◌∷◌, ◌++◌, map}
use Prim.Native.Nat.{ℕ, zero, suc, ◌+◌, ◌≤◌}
use native.Mathlib.Nat.{add-suc, add-zero}
use native.Mathlib.Omega.{arith}
use lib.Dec.{eqb}
use lib.ListN.{length, take, drop, length-drop, take-append-drop}
use lib.Seq.{length-take-le}
use Rattle.relations.specs.Columns.{Attribute, pick}
use Rattle.relations.specs.Lists.{any, filter, flat, All}
use Rattle.relations.specs.Operations.{project_candidates, join_candidates}
use Rattle.relations.specs.Rows.{Row, same_row}
use Rattle.relations.specs.Values.{Rows, Tables, member, Ascending, Wide, canonical}
use Rattle.relations.proofs.ListLaws.{all_mono, all_filter, all_append, any_cong, any-filter, any_same, any-flat, any-map}
use Rattle.relations.proofs.ValueLaws.{ascending-canonical, all_canonical, ascending-filter, member-map, canonical_by_members}
use Rattle.relations.proofs.WidthLaws.{wide-canonical, wide-project, wide-join}
use Rattle.calculus.specs.Claims.{TablesOf}
use Rattle.calculus.specs.Form.{NotInScope, GoodTarget, targets_width, width_of_range, scope_of_bindings, alpha_scope, GoodRange, GoodBindings}
use Rattle.calculus.specs.Meaning.{Environment, nothing_bound, bound, target_row, targets_row, range_rows, choices, maybe_holds}
use Rattle.calculus.specs.Question.{Target, whole_row, one_attribute, Range, table, alpha, range_or, range_and, range_and_not, Bindings, no_more, bind, MaybeCondition}
use Rattle.calculus.specs.Scope.{entry, Scope, extend, columns_in, width_in, column_number, columns_from, target_columns, environment_of}
use Rattle.calculus.proofs.OperationValues.{projected, joined, any_product, pick-left}
use Rattle.calculus.proofs.ScopeLaws.{columns_extend, environment_extend, word_drop, column_positive, column_of-right, targets-width}

-- a canonical value with the scope's columns
abbrev pub ValueOver : Scope → Rows → Type 0
ValueOver s P = Ascending P × Wide (columns_in s) P

pub over-filter : (s : Scope) (F : Row → Bool) (P : Rows) → ValueOver s P → ValueOver s (filter F P)
over-filter s F P g = (ascending-filter F P g.0, all_filter (λ r. length r ≡ columns_in s) F P g.1)

pub over-join : (s : Scope) (v w : ℕ) (P R : Rows) → ValueOver s P → Wide w R → ValueOver (extend s v w) (joined [] P R)
over-join s v w P R g h = (ascending-canonical (join_candidates [] P R), subst (λ k. Wide k (joined [] P R)) (sym (columns_extend s v w)) (wide-canonical (columns_in s + w) (join_candidates [] P R) (wide-join (columns_in s) w [] P R g.1 h)))

pub over_first : (v w : ℕ) (R : Rows) → Ascending R × Wide w R → ValueOver (entry v w ∷ []) R
over_first v w R g = (g.0, all_mono (λ r e. e ∙ sym (add-zero w)) R g.1)

pub pick_shift : (u w i : ℕ) (r : Row) → 1 ≤ i → pick (columns_from u (w + i)) r ≡ pick (columns_from u i) (drop w r)
pick_shift zero w i r h = refl
pick_shift (suc u) w i r h = ap₂ ◌∷◌ (word_drop w r i h) (subst (λ j. pick (columns_from u j) r ≡ pick (columns_from u (suc i)) (drop w r)) (add-suc w i) (pick_shift u w (suc i) r (omega arith)))

-- targets: the columns picked are the target row
pub pick_row : (s : Scope) (r : Row) (v : ℕ) → length r ≡ columns_in s → 1 ≤ width_in s v → pick (columns_from (width_in s v) (column_number s v 1)) r ≡ environment_of s r v
pick_row [] r v h k = absurd (omega arith)
pick_row (entry x w ∷ s) r v h k = go (eqb v x) k (λ e. pick_row s (drop w r) v (omega (arith, length-drop w r)) e)
  where
    go : (b : Bool) → 1 ≤ cond b w (width_in s v) → (1 ≤ width_in s v → pick (columns_from (width_in s v) (column_number s v 1)) (drop w r) ≡ environment_of s (drop w r) v) → pick (columns_from (cond b w (width_in s v)) (cond b 1 (w + column_number s v 1))) r ≡ cond b (take w r) (environment_of s (drop w r) v)
    go true e ih = subst (λ l. pick (columns_from w 1) l ≡ take w r) (take-append-drop w r) (pick-left w (take w r) (drop w r) (length-take-le w r (omega arith)))
    go false e ih = pick_shift (width_in s v) w (column_number s v 1) r (column_positive s v 1 (omega arith, e)) ∙ ih e

pub pick-append : (cs ds : List Attribute) (r : Row) → pick (cs ++ ds) r ≡ pick cs r ++ pick ds r
pick-append [] ds r = refl
pick-append (c ∷ cs) ds r = rw (pick-append cs ds r)

pub pick_target : (s : Scope) (r : Row) → length r ≡ columns_in s → (t : Target) → GoodTarget s t → pick (target_columns s t) r ≡ target_row t (environment_of s r)
pick_target s r h (whole_row v) k = pick_row s r v h k
pick_target s r h (one_attribute v a) k = ap (λ x. x ∷ []) (column_of-right s r v a k)

pub pick-targets : (s : Scope) (r : Row) → length r ≡ columns_in s → (ts : List Target) → All (GoodTarget s) ts → pick (flat (target_columns s) ts) r ≡ targets_row ts (environment_of s r)
pick-targets s r h [] k = refl
pick-targets s r h (t ∷ ts) k = pick-append (target_columns s t) (flat (target_columns s) ts) r ∙ ap₂ ◌++◌ (pick_target s r h t k.0) (pick-targets s r h ts k.1)

module _ (tables : Tables) where
  -- the product of a chain of ranges with P
  unfoldable pub products : Bindings → Rows → Rows
  products no_more P = P
  products (bind v R bs) P = products bs (joined [] P (range_rows tables R))

-- environments that are the rows of P read by a scope
abbrev pub SameChoices : List Environment → Scope → Rows → Type 0
SameChoices es s P = (q : Environment → Bool) → any q es ≡ any (λ r. q (environment_of s r)) P

pub same_more : (es : List Environment) (s : Scope) (P R : Rows) (v w : ℕ) → NotInScope v s → Wide (columns_in s) P → Wide w R → SameChoices es s P → SameChoices (flat (λ e. map (λ r. bound e v r) R) es) (extend s v w) (joined [] P R)
same_more es s P R v w f h k same q = any-flat q (λ e. map (λ r. bound e v r) R) es ∙ (any_same (λ e. any q (map (λ r. bound e v r) R)) (λ e. any (λ r. q (bound e v r)) R) (λ e. any-map q (λ r. bound e v r) R) es ∙ (same (λ e. any (λ r. q (bound e v r)) R) ∙ (any_cong (λ p. any (λ r. q (bound (environment_of s p) v r)) R) (λ p. any (λ r. q (environment_of (extend s v w) (p ++ r))) R) P (all_mono each P h) ∙ sym (any_product (λ t. q (environment_of (extend s v w) t)) P R))))
  where
    each : (p : Row) → length p ≡ columns_in s → any (λ r. q (bound (environment_of s p) v r)) R ≡ any (λ r. q (environment_of (extend s v w) (p ++ r))) R
    each p e = any_cong (λ r. q (bound (environment_of s p) v r)) (λ r. q (environment_of (extend s v w) (p ++ r))) R (all_mono (λ r g. ap q (sym (environment_extend s v w f p r e g))) R k)

pub same_first : (v w : ℕ) (R : Rows) → Wide w R → SameChoices (map (λ r. bound nothing_bound v r) R) (entry v w ∷ []) R
same_first v w R h q = any-map q (λ r. bound nothing_bound v r) R ∙ any_cong (λ r. q (bound nothing_bound v r)) (λ r. q (environment_of (entry v w ∷ []) r)) R (all_mono (λ r e. ap q (sym (environment_extend [] v w tt [] r refl e))) R h)

-- the answer of an alpha from its product
pub same_alpha : (es : List Environment) (s : Scope) (P : Rows) (ts : List Target) (F : Environment → Bool) → Wide (columns_in s) P → All (GoodTarget s) ts → SameChoices es s P → canonical (map (targets_row ts) (filter F es)) ≡ projected (flat (target_columns s) ts) (filter (λ r. F (environment_of s r)) P)
same_alpha es s P ts F h k same = canonical_by_members (map (targets_row ts) (filter F es)) (map (pick (flat (target_columns s) ts)) (filter (λ r. F (environment_of s r)) P)) same_members
  where
    same_members : (t : Row) → member t (map (targets_row ts) (filter F es)) ≡ member t (map (pick (flat (target_columns s) ts)) (filter (λ r. F (environment_of s r)) P))
    same_members t = member-map t (targets_row ts) (filter F es) ∙ (any-filter F (λ e. same_row t (targets_row ts e)) es ∙ (same (λ e. F e && same_row t (targets_row ts e)) ∙ (any_cong (λ r. F (environment_of s r) && same_row t (targets_row ts (environment_of s r))) (λ r. F (environment_of s r) && same_row t (pick (flat (target_columns s) ts) r)) P (all_mono (λ r e. ap (λ z. F (environment_of s r) && same_row t z) (sym (pick-targets s r e ts k))) P h) ∙ (sym (any-filter (λ r. F (environment_of s r)) (λ r. same_row t (pick (flat (target_columns s) ts) r)) P) ∙ sym (member-map t (pick (flat (target_columns s) ts)) (filter (λ r. F (environment_of s r)) P))))))

module _ (tables : Tables) (columns : ℕ → ℕ) (relations : ℕ) (stored : TablesOf columns tables) where
  abbrev pub alpha_ok : List Target → ℕ → Range → Bindings → MaybeCondition → Type 0
  alpha_ok ts v R bs w = range_rows tables (alpha ts v R bs w) ≡ projected (flat (target_columns (alpha_scope columns v R bs)) ts) (filter (λ r. maybe_holds tables w (environment_of (alpha_scope columns v R bs) r)) (products tables bs (range_rows tables R)))

  pub alpha_is : (ts : List Target) (v : ℕ) (R : Range) (bs : Bindings) (w : MaybeCondition) → All (GoodTarget (alpha_scope columns v R bs)) ts → ValueOver (alpha_scope columns v R bs) (products tables bs (range_rows tables R)) × SameChoices (choices tables bs (map (λ r. bound nothing_bound v r) (range_rows tables R))) (alpha_scope columns v R bs) (products tables bs (range_rows tables R)) → alpha_ok ts v R bs w
  unfolding range_rows
  alpha_is ts v R bs w k h = same_alpha (choices tables bs (map (λ r. bound nothing_bound v r) (range_rows tables R))) (alpha_scope columns v R bs) (products tables bs (range_rows tables R)) ts (λ e. maybe_holds tables w e) h.0.1 k h.1

  alpha-good : (ts : List Target) (v : ℕ) (R : Range) (bs : Bindings) (w : MaybeCondition) → All (GoodTarget (alpha_scope columns v R bs)) ts → ValueOver (alpha_scope columns v R bs) (products tables bs (range_rows tables R)) × SameChoices (choices tables bs (map (λ r. bound nothing_bound v r) (range_rows tables R))) (alpha_scope columns v R bs) (products tables bs (range_rows tables R)) → Ascending (range_rows tables (alpha ts v R bs w)) × Wide (width_of_range columns (alpha ts v R bs w)) (range_rows tables (alpha ts v R bs w))
  unfolding range_rows width_of_range
  alpha-good ts v R bs w k h =
      let s : Scope = alpha_scope columns v R bs in
      let attributes : List Attribute = flat (target_columns s) ts in
      let meeting : Rows = filter (λ r. maybe_holds tables w (environment_of s r)) (products tables bs (range_rows tables R)) in
      (ascending-canonical (map (targets_row ts) (filter (λ e. maybe_holds tables w e) (choices tables bs (map (λ r. bound nothing_bound v r) (range_rows tables R))))), subst (Wide (targets_width s ts)) (sym (alpha_is ts v R bs w k h)) (subst (λ width. Wide width (projected attributes meeting)) (targets-width s ts) (wide-canonical (length attributes) (project_candidates attributes meeting) (wide-project attributes meeting))))

  mutual
    unfolding range_rows width_of_range GoodRange products

    pub range-good : (R : Range) → GoodRange columns relations R → Ascending (range_rows tables R) × Wide (width_of_range columns R) (range_rows tables R)
    range-good (table k) o = (ascending-canonical (tables k), all_canonical (λ r. length r ≡ columns k) (tables k) (stored k))
    range-good (alpha ts v R bs w) o = alpha-good ts v R bs w o.3 (bindings-good bs (entry v (width_of_range columns R) ∷ []) (range_rows tables R) (map (λ r. bound nothing_bound v r) (range_rows tables R)) o.1 (over_first v (width_of_range columns R) (range_rows tables R) (range-good R o.0)) (same_first v (width_of_range columns R) (range_rows tables R) (range-good R o.0).1))
    range-good (range_or a b) o = (ascending-canonical (range_rows tables a ++ range_rows tables b), all_canonical (λ r. length r ≡ width_of_range columns a) (range_rows tables a ++ range_rows tables b) (all_append (λ r. length r ≡ width_of_range columns a) (range_rows tables a) (range_rows tables b) (range-good a o.0).1 (rw o.2 (range-good b o.1).1)))
    range-good (range_and a b) o = (ascending-filter (λ l. member l (range_rows tables b)) (range_rows tables a) (range-good a o.0).0, all_filter (λ r. length r ≡ width_of_range columns a) (λ l. member l (range_rows tables b)) (range_rows tables a) (range-good a o.0).1)
    range-good (range_and_not a b) o = (ascending-filter (λ l. not (member l (range_rows tables b))) (range_rows tables a) (range-good a o.0).0, all_filter (λ r. length r ≡ width_of_range columns a) (λ l. not (member l (range_rows tables b))) (range_rows tables a) (range-good a o.0).1)

    -- the chain's product, its scope and its environments
    pub bindings-good : (bs : Bindings) (s : Scope) (P : Rows) (es : List Environment) → GoodBindings columns relations bs s → ValueOver s P → SameChoices es s P → ValueOver (scope_of_bindings columns bs s) (products tables bs P) × SameChoices (choices tables bs es) (scope_of_bindings columns bs s) (products tables bs P)
    bindings-good no_more s P es o g h = (g, h)
    bindings-good (bind v R bs) s P es o g h = bindings-good bs (extend s v (width_of_range columns R)) (joined [] P (range_rows tables R)) (flat (λ e. map (λ r. bound e v r) (range_rows tables R)) es) o.2 (over-join s v (width_of_range columns R) P (range_rows tables R) g (range-good R o.1).1) (same_more es s P (range_rows tables R) v (width_of_range columns R) o.0 g.1 (range-good R o.1).1 h)
