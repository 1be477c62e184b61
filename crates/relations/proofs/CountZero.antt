-- Document 01: "Count 0 in op 5 is the product; in 6 it keeps all left rows if right has a row, in 7 if it has none."
use mathlib.Core.Path.{◌≡◌, refl, ap}
use mathlib.Core.Bool.{false}
use mathlib.Core.List.{[], ◌∷◌, ◌++◌, map}
use Rattle.relations.specs.Lists.{filter, flat}
use Rattle.relations.specs.Rows.{Row}
use Rattle.relations.specs.Values.{Rows}
use Rattle.relations.specs.Operations.{join_candidates, semijoin_candidates, antijoin_candidates}
use Rattle.relations.proofs.ListLaws.{filter_true}

pub join-count_zero : (left right : Rows) → join_candidates [] left right ≡ flat (λ t. map (λ s. t ++ s) right) left
join-count_zero left right = ap (λ kept. flat (λ t. map (λ s. t ++ s) kept) left) (filter_true right)

none_kept : (left : Rows) → filter (λ t. false) left ≡ []
none_kept [] = refl
none_kept (t ∷ left) = none_kept left

pub semijoin-count_zero : (left : Rows) (first : Row) (right : Rows) → (semijoin_candidates [] left (first ∷ right) ≡ left) × (semijoin_candidates [] left [] ≡ [])
semijoin-count_zero left first right = (filter_true left, none_kept left)

pub antijoin-count_zero : (left : Rows) (first : Row) (right : Rows) → (antijoin_candidates [] left [] ≡ left) × (antijoin_candidates [] left (first ∷ right) ≡ [])
antijoin-count_zero left first right = (filter_true left, none_kept left)
