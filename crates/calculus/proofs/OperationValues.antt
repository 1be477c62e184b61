-- The operations' values, and the laws of them that the rules of translation rest on.
use mathlib.Core.Path.{◌≡◌, refl, sym, ◌∙◌, ap, ap₂, subst}
use mathlib.Core.Bool.{Bool, not, ◌&&◌, ◌||◌, cond, So, and-or_distrib_left}
use mathlib.Core.List.{List, [], ◌∷◌, ◌++◌, map}
use Prim.Native.Nat.{ℕ, zero, suc}
use native.Mathlib.Omega.{arith}
use lib.Dec.{leb}
use lib.ListN.{length, length-append}
use lib.Seq.{get_or_at, append_snoc}
use Rattle.relations.specs.Columns.{Attribute, Triple, Pair, pick}
use Rattle.relations.specs.Lists.{any, filter, how_many, flat}
use Rattle.relations.specs.Operations.{project_candidates, join_candidates, semijoin_candidates, antijoin_candidates, divide_candidates, unite_candidates, intersect_candidates, subtract_candidates, tally_candidates}
use Rattle.relations.specs.Rows.{Row, same_row, begins}
use Rattle.relations.specs.Values.{Rows, member, Ascending, Wide, canonical}
use Rattle.relations.proofs.CountLaws.{how_many-filter, how_many_product}
use Rattle.relations.proofs.CountZero.{join-count_zero}
use Rattle.relations.proofs.ListLaws.{any_append, all_mono, filter_cong, any_cong, any-filter, any_same, any_and_right}
use Rattle.relations.proofs.OperationLaws.{any-joined}
use Rattle.relations.proofs.OrderLaws.{join_in_order}
use Rattle.relations.proofs.ValueLaws.{all_members, extensional, ascending-canonical, member-canonical, ascending-filter, member_filter, member-map, any-canonical, any_at, canonical-filter, member_has}
use Rattle.calculus.specs.Scope.{columns_from, all_columns}

abbrev pub projected : List Attribute → Rows → Rows
projected attributes left = canonical (project_candidates attributes left)

abbrev pub joined : List Triple → Rows → Rows → Rows
joined triples left right = canonical (join_candidates triples left right)

abbrev pub semijoined : List Triple → Rows → Rows → Rows
semijoined triples left right = canonical (semijoin_candidates triples left right)

abbrev pub antijoined : List Triple → Rows → Rows → Rows
antijoined triples left right = canonical (antijoin_candidates triples left right)

abbrev pub divided : List Pair → Rows → Rows → Rows
divided pairs left right = canonical (divide_candidates pairs left right)

abbrev pub united : Rows → Rows → Rows
united left right = canonical (unite_candidates left right)

abbrev pub intersected : Rows → Rows → Rows
intersected left right = canonical (intersect_candidates left right)

abbrev pub subtracted : Rows → Rows → Rows
subtracted left right = canonical (subtract_candidates left right)

abbrev pub tallied : ℕ → Rows → Rows → Rows
tallied least left right = canonical (tally_candidates least left right)

-- any, over a product
pub any_product : (q : Row → Bool) (L R : Rows) → any q (joined [] L R) ≡ any (λ l. any (λ r. q (l ++ r)) R) L
any_product q L R = any-canonical q (join_candidates [] L R) ∙ any-joined q [] L R

-- or: the union
pub united_filter : (f g : Row → Bool) (P : Rows) → Ascending P → united (filter f P) (filter g P) ≡ filter (λ r. f r || g r) P
united_filter f g P a = extensional (united (filter f P) (filter g P)) (filter (λ r. f r || g r) P) (ascending-canonical (filter f P ++ filter g P)) (ascending-filter (λ r. f r || g r) P a) same
  where
    same : (r : Row) → member r (united (filter f P) (filter g P)) ≡ member r (filter (λ r. f r || g r) P)
    same r = member-canonical r (filter f P ++ filter g P) ∙ (any_append (same_row r) (filter f P) (filter g P) ∙ (ap₂ ◌||◌ (member_filter r f P) (member_filter r g P) ∙ (sym (and-or_distrib_left (member r P) (f r) (g r)) ∙ sym (member_filter r (λ r. f r || g r) P))))

-- not: the difference from P
pub subtracted_filter : (f : Row → Bool) (P : Rows) → Ascending P → subtracted P (filter f P) ≡ filter (λ r. not (f r)) P
subtracted_filter f P a = canonical-filter (λ r. not (member r (filter f P))) P a ∙ filter_cong (λ r. not (member r (filter f P))) (λ r. not (f r)) P (all_members (λ r. not (member r (filter f P)) ≡ not (f r)) P (λ r h. ap not (member_filter r f P ∙ ap (λ b. b && f r) h)))

-- the first columns of a joined row are the left row
pub pick-count : (w i : ℕ) (a p r : Row) → length a ≡ i → length p ≡ w → pick (columns_from w (suc i)) (a ++ (p ++ r)) ≡ p
pick-count zero i a [] r e h = refl
pick-count zero i a (x ∷ p) r e h = absurd (omega arith)
pick-count (suc w) i a [] r e h = absurd (omega arith)
pick-count (suc w) i a (x ∷ p) r e h = ap₂ ◌∷◌ (get_or_at a x (p ++ r) 0 i e) (subst (λ l. pick (columns_from w (suc (suc i))) l ≡ p) (append_snoc a x (p ++ r)) (pick-count w (suc i) (a ++ (x ∷ [])) p r (omega (arith, length-append a (x ∷ []))) (omega arith)))

pub pick-left : (w : ℕ) (p r : Row) → length p ≡ w → pick (all_columns w) (p ++ r) ≡ p
pick-left w p r h = pick-count w 0 [] p r refl h

-- some: the product, projected to P's columns
pub projected_join : (w : ℕ) (F : Row → Bool) (P R : Rows) → Ascending P → Wide w P → projected (all_columns w) (filter F (joined [] P R)) ≡ filter (λ p. any (λ r. F (p ++ r)) R) P
projected_join w F P R a h = extensional (projected (all_columns w) (filter F (joined [] P R))) (filter G P) (ascending-canonical (map (pick (all_columns w)) (filter F (joined [] P R)))) (ascending-filter G P a) same
  where
    G : Row → Bool
    G p = any (λ r. F (p ++ r)) R

    same : (t : Row) → member t (projected (all_columns w) (filter F (joined [] P R))) ≡ member t (filter G P)
    same t = member-canonical t (map (pick (all_columns w)) (filter F (joined [] P R))) ∙ (member-map t (pick (all_columns w)) (filter F (joined [] P R)) ∙ (any-filter F (λ q. same_row t (pick (all_columns w) q)) (joined [] P R) ∙ (any_product (λ q. F q && same_row t (pick (all_columns w) q)) P R ∙ (any_cong (λ l. any (λ r. F (l ++ r) && same_row t (pick (all_columns w) (l ++ r))) R) (λ l. G l && same_row t l) P (all_mono each P h) ∙ (any_at G t P ∙ sym (member_filter t G P))))))
      where
        each : (l : Row) → length l ≡ w → any (λ r. F (l ++ r) && same_row t (pick (all_columns w) (l ++ r))) R ≡ (G l && same_row t l)
        each l e = any_same (λ r. F (l ++ r) && same_row t (pick (all_columns w) (l ++ r))) (λ r. F (l ++ r) && same_row t l) (λ r. ap (λ z. F (l ++ r) && same_row t z) (pick-left w l r e)) R ∙ any_and_right (λ r. F (l ++ r)) (same_row t l) R

-- at least so many: of the product's rows that pass, those that begin with a row of P are the range's rows that pass beside it
pub tallied_join : (least w : ℕ) (F : Row → Bool) (P R : Rows) → Ascending P → Wide w P → Ascending R → tallied least P (filter F (joined [] P R)) ≡ filter (λ p. leb least (how_many (λ r. F (p ++ r)) R)) P
tallied_join least w F P R a h b = canonical-filter (λ t. leb least (how_many (begins t) (filter F (joined [] P R)))) P a ∙ filter_cong (λ t. leb least (how_many (begins t) (filter F (joined [] P R)))) (λ p. leb least (how_many (λ r. F (p ++ r)) R)) P (all_members (λ t. leb least (how_many (begins t) (filter F (joined [] P R))) ≡ leb least (how_many (λ r. F (t ++ r)) R)) P (λ t m. ap (leb least) (each t m)))
  where
    in_order : joined [] P R ≡ flat (λ p. map (λ r. p ++ r) R) P
    in_order = join_in_order w [] P R a h b ∙ join-count_zero P R

    each : (t : Row) → So (member t P) → how_many (begins t) (filter F (joined [] P R)) ≡ how_many (λ r. F (t ++ r)) R
    each t m =
        let wide : Wide (length t) P = subst (λ u. Wide u P) (sym (member_has (λ row. length row ≡ w) t P h m)) h in
        how_many-filter F (begins t) (joined [] P R) ∙ (ap (how_many (λ q. F q && begins t q)) in_order ∙ (how_many_product F R t P a wide ∙ ap (λ there. cond there (how_many (λ r. F (t ++ r)) R) 0) m))
