-- Which candidates come in order: the kept rows of an ascending left side, and a join of ascending values. Their canonical form is themselves.
use mathlib.Core.Path.{◌≡◌, sym, ◌∙◌}
use mathlib.Core.Bool.{Bool, So}
use mathlib.Core.List.{List, [], ◌∷◌, ◌++◌, map}
use Prim.Native.Nat.{ℕ}
use Rattle.relations.specs.Lists.{filter, flat, All}
use Rattle.relations.specs.Rows.{Row, row_before}
use Rattle.relations.specs.Values.{Rows, AllAfter, Ascending, Wide, canonical}
use Rattle.relations.specs.Columns.{Triple, meets}
use Rattle.relations.specs.Operations.{join_candidates}
use Rattle.relations.proofs.ListLaws.{all_mono, all_every, all_map, all_flat}
use Rattle.relations.proofs.RowLaws.{row_before_prefix, row_before-left}
use Rattle.relations.proofs.ValueLaws.{ascending-filter, ascending-append, canonical-ascending}

ascending_prefixed : (l : Row) (R : Rows) → Ascending R → Ascending (map (λ r. l ++ r) R)
ascending_prefixed l [] a = tt
ascending_prefixed l (r ∷ R) a = (all_map (λ y. So (row_before (l ++ r) y)) (λ t. l ++ t) R (all_mono (λ t h. row_before_prefix l r t ∙ h) R a.0), ascending_prefixed l R a.1)

pub ascending-joined : (w : ℕ) (p : Row → Row → Bool) (L R : Rows) → Ascending L → Wide w L → Ascending R → Ascending (flat (λ l. map (λ r. l ++ r) (filter (p l) R)) L)
ascending-joined w p [] R a h b = tt
ascending-joined w p (l ∷ L) R a h b = ascending-append (map (λ r. l ++ r) (filter (p l) R)) (flat (λ l. map (λ r. l ++ r) (filter (p l) R)) L) (ascending_prefixed l (filter (p l) R) (ascending-filter (p l) R b)) (ascending-joined w p L R a.1 h.1 b) (all_map (λ x. AllAfter x (flat (λ l. map (λ r. l ++ r) (filter (p l) R)) L)) (λ r. l ++ r) (filter (p l) R) (all_every each (filter (p l) R)))
  where
    beside : (r : Row) (K : Rows) → AllAfter l K → Wide w K → All (λ k. All (λ y. So (row_before (l ++ r) y)) (map (λ t. k ++ t) (filter (p k) R))) K
    beside r [] i j = tt
    beside r (k ∷ K) i j = (all_map (λ y. So (row_before (l ++ r) y)) (λ t. k ++ t) (filter (p k) R) (all_every (λ t. row_before-left l k r t (h.0 ∙ sym j.0) i.0) (filter (p k) R)), beside r K i.1 j.1)

    each : (r : Row) → AllAfter (l ++ r) (flat (λ l. map (λ r. l ++ r) (filter (p l) R)) L)
    each r = all_flat (λ y. So (row_before (l ++ r) y)) (λ l. map (λ r. l ++ r) (filter (p l) R)) L (beside r L a.0 h.1)

pub join_in_order : (width : ℕ) (triples : List Triple) (left right : Rows) → Ascending left → Wide width left → Ascending right → canonical (join_candidates triples left right) ≡ join_candidates triples left right
join_in_order width triples left right a h b = canonical-ascending (join_candidates triples left right) (ascending-joined width (meets triples) left right a h b)
