-- S1: whether a list of attributes is all columns in order, compared one by one. Assumes nothing.
use Prim.Native.Nat.{ℕ, suc, ◌+◌, ◌-◌, ◌≤◌, ◌<◌}
use mathlib.Core.Path.{◌≡◌, refl, sym, ap, ap₂, ◌∙◌}
use mathlib.Core.Bool.{Bool, true, false, cond, ◌&&◌, and-false}
use mathlib.Core.List.{List, [], ◌∷◌}
use native.Mathlib.Omega.{arith}
use native.Mathlib.Numerals.{add-one}
use lib.Dec.{eqb}
use lib.ListN.{length, get_or, take, drop, length-map, get_or-map, drop_of_length-le}
use lib.Seq.{drop-cons, length-take-le, get_or-take}
use borrow.Author.Tests.{eq-eqb, ne_eqb}
use Rattle.relations.specs.Columns.{Attribute, attribute}
use Rattle.relations.specs.Nodes.{project}
use Rattle.calculus.specs.Scope.{Scope, extend, columns_in, columns_from, all_columns}
use Rattle.calculus.specs.ShortRules.{same_attributes, short_rule1_fits, project_nodes}
use Rattle.calculus.proofs.ScopeLaws.{columns_length, columns_extend}
use Rattle.emission.specs.NodeLists.{attributes_in}
use Rattle.emission.specs.declared.node_list.NodeList.{NodeList}

different : (listed others : List Attribute) → (length listed ≡ length others → ⊥) → same_attributes listed others ≡ false
different [] [] h = absurd (h refl)
different [] (b ∷ others) h = refl
different (a ∷ listed) [] h = refl
different (a ∷ listed) (b ∷ others) h = ap (λ rest. eqb a.number b.number && rest) (different listed others (λ e. h (ap suc e))) ∙ and-false (eqb a.number b.number)

-- Behind a product with a range that has a column, P's columns are never all columns: S1 leaves the project of a plain "some" or "every" as it is.
pub plain_project : (short : Bool) (s : Scope) (x width p : ℕ) → 1 ≤ width → project_nodes short (columns_in (extend s x width)) p (all_columns (columns_in s)) ≡ project p (all_columns (columns_in s)) ∷ []
plain_project short s x width p some =
    let fewer : short_rule1_fits (columns_in (extend s x width)) (all_columns (columns_in s)) ≡ false =
    different (all_columns (columns_in s)) (all_columns (columns_in (extend s x width))) (λ e. omega (arith, e, some, columns_length (columns_in s) 1, columns_length (columns_in (extend s x width)) 1, columns_extend s x width)) in
    ap (λ b. cond (short && b) [] (project p (all_columns (columns_in s)) ∷ [])) fewer ∙ ap (λ b. cond b [] (project p (all_columns (columns_in s)) ∷ [])) (and-false short)

module _ (width : ℕ) (attributes : NodeList) (few : attributes.used ≤ length attributes.words) where
  abbrev listed : List Attribute
  listed = attributes_in attributes

  used_is : length listed ≡ attributes.used
  used_is = length-map (take attributes.used attributes.words) attribute ∙ length-take-le attributes.used attributes.words few

  pub other_number : (attributes.used ≡ width → ⊥) → short_rule1_fits width listed ≡ false
  other_number h = different listed (columns_from width 1) (λ q. h (omega (arith, used_is, columns_length width 1)))

  word_at_lem : (i : ℕ) → i < attributes.used → get_or attributes.words i 0 ≡ (get_or listed i (attribute 0)).number
  word_at_lem i h =
      sym (get_or-take attributes.used attributes.words i 0 h)
      ∙ ap (λ (a : Attribute). a.number) (sym (get_or-map attribute (take attributes.used attributes.words) i 0))

  columns_on : (i : ℕ) → i < width → columns_from (width - i) (i + 1) ≡ attribute (i + 1) ∷ columns_from (width - (i + 1)) (i + 1 + 1)
  columns_on i h =
      let k : width - i ≡ suc (width - (i + 1)) = omega arith in
      rw (k, add-one (i + 1))

  same_next : (i : ℕ) → attributes.used ≡ width → i < width → same_attributes (drop i listed) (columns_from (width - i) (i + 1)) ≡ (eqb (get_or attributes.words i 0) (i + 1) && same_attributes (drop (i + 1) listed) (columns_from (width - (i + 1)) (i + 1 + 1)))
  same_next i u h =
      let inside : i < length listed = omega (arith, used_is) in
      ap₂ same_attributes (drop-cons listed i (attribute 0) inside ∙ ap (λ (k : ℕ). get_or listed i (attribute 0) ∷ drop k listed) (sym (add-one i))) (columns_on i h)
      ∙ ap (λ (w : ℕ). eqb w (i + 1) && same_attributes (drop (i + 1) listed) (columns_from (width - (i + 1)) (i + 1 + 1))) (sym (word_at_lem i (omega arith)))

  pub same_on : (i : ℕ) → attributes.used ≡ width → i < width → get_or attributes.words i 0 ≡ i + 1 → same_attributes (drop i listed) (columns_from (width - i) (i + 1)) ≡ same_attributes (drop (i + 1) listed) (columns_from (width - (i + 1)) (i + 1 + 1))
  same_on i u h k = same_next i u h ∙ ap (λ b. b && same_attributes (drop (i + 1) listed) (columns_from (width - (i + 1)) (i + 1 + 1))) (eq-eqb _ _ k)

  pub same_stop : (i : ℕ) → attributes.used ≡ width → i < width → (get_or attributes.words i 0 ≡ i + 1 → ⊥) → same_attributes (drop i listed) (columns_from (width - i) (i + 1)) ≡ false
  same_stop i u h k = same_next i u h ∙ ap (λ b. b && same_attributes (drop (i + 1) listed) (columns_from (width - (i + 1)) (i + 1 + 1))) (ne_eqb _ _ k)
