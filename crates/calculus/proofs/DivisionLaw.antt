-- The law behind S5: which rows a division keeps, with care for an empty divisor.
use mathlib.Core.Path.{◌≡◌, refl, sym, subst}
use mathlib.Core.Bool.{Bool, true, false, not, ◌&&◌, ◌||◌, So, false≢true}
use mathlib.Core.Logic.{◌⊎◌, inl, inr}
use mathlib.Core.List.{[], ◌∷◌}
use Rattle.relations.specs.Lists.{any, all}
use Rattle.relations.specs.Rows.{Row, same_row}
use Rattle.relations.specs.Values.{Rows, member}
use Rattle.relations.proofs.BoolLaws.{bool_ext, and_left, and_right, and_both, or_cases, or_by_left, or_by_right}
use Rattle.relations.proofs.RowLaws.{same_row-equal}
use Rattle.relations.proofs.ValueLaws.{any_by_member, member_by_any}

pub division_law : (Z Y : Rows) (o : Row → Row) (K : Row) (L : Row → Row → Bool) → (any (λ q₀. all (λ t. any (λ q. same_row (o q) (o q₀) && L q t) Z) Y && same_row (o q₀) K) Z || not (any (λ t. true) Y)) ≡ all (λ t. any (λ q. same_row (o q) K && L q t) Z) Y
division_law Z Y o K L = bool_ext (any S Z || not (any (λ t. true) Y)) (all (λ t. any (λ q. same_row (o q) K && L q t) Z) Y) (λ h. to (or_cases (any S Z) (not (any (λ t. true) Y)) h)) (from Y)
  where
    S : Row → Bool
    S q₀ = all (λ t. any (λ q. same_row (o q) (o q₀) && L q t) Z) Y && same_row (o q₀) K

    none_left : (U : Rows) → So (not (any (λ t. true) U)) → So (all (λ t. any (λ q. same_row (o q) K && L q t) Z) U)
    none_left [] h = refl
    none_left (t ∷ U) h = absurd (false≢true h)

    to : So (any S Z) ⊎ So (not (any (λ t. true) Y)) → So (all (λ t. any (λ q. same_row (o q) K && L q t) Z) Y)
    to (inl h) = go (member_by_any S Z h)
      where
        go : (q₀ : Row) × So (member q₀ Z) × So (S q₀) → So (all (λ t. any (λ q. same_row (o q) K && L q t) Z) Y)
        go w = subst (λ k. So (all (λ t. any (λ q. same_row (o q) k && L q t) Z) Y)) (same_row-equal (o w.0) K (and_right (all (λ t. any (λ q. same_row (o q) (o w.0) && L q t) Z) Y) (same_row (o w.0) K) w.2)) (and_left (all (λ t. any (λ q. same_row (o q) (o w.0) && L q t) Z) Y) (same_row (o w.0) K) w.2)
    to (inr h) = none_left Y h

    from : (U : Rows) → So (all (λ t. any (λ q. same_row (o q) K && L q t) Z) U) → So (any (λ q₀. all (λ t. any (λ q. same_row (o q) (o q₀) && L q t) Z) U && same_row (o q₀) K) Z || not (any (λ t. true) U))
    from [] h = or_by_right (any (λ q₀. same_row (o q₀) K) Z) true refl
    from (t₀ ∷ U) h = or_by_left (any S' Z) false (go (member_by_any (λ q. same_row (o q) K && L q t₀) Z (and_left (any (λ q. same_row (o q) K && L q t₀) Z) (all (λ t. any (λ q. same_row (o q) K && L q t) Z) U) h)))
      where
        S' : Row → Bool
        S' q₀ = all (λ t. any (λ q. same_row (o q) (o q₀) && L q t) Z) (t₀ ∷ U) && same_row (o q₀) K

        go : (q₀ : Row) × So (member q₀ Z) × So (same_row (o q₀) K && L q₀ t₀) → So (any S' Z)
        go w = any_by_member S' w.0 Z w.1 (and_both (all (λ t. any (λ q. same_row (o q) (o w.0) && L q t) Z) (t₀ ∷ U)) (same_row (o w.0) K) (subst (λ k. So (all (λ t. any (λ q. same_row (o q) k && L q t) Z) (t₀ ∷ U))) (sym (same_row-equal (o w.0) K eq_k)) h) eq_k)
          where
            eq_k : So (same_row (o w.0) K)
            eq_k = and_left (same_row (o w.0) K) (L w.0 t₀) w.2
