-- A translated question is a legal plan in both modes: one line for each kind of node.
use mathlib.Core.Path.{◌≡◌, refl, subst}
use mathlib.Core.Bool.{Bool, true, false, ◌&&◌, ◌||◌, So, false≢true}
use mathlib.Core.List.{List, [], ◌∷◌, map}
use Prim.Native.Nat.{ℕ, ◌+◌, ◌≤◌, ◌<◌}
use native.Mathlib.Nat.{add-zero}
use native.Mathlib.Omega.{arith}
use lib.ListN.{length}
use Rattle.relations.specs.Legality.{between, legal_nodes}
use Rattle.relations.specs.Limits.{column_limit, triple_limit, pair_limit}
use Rattle.relations.specs.Lists.{all, filter, flat, All}
use Rattle.relations.specs.Machine.{run}
use Rattle.relations.specs.Nodes.{Node, load, semijoin, antijoin, unite, intersect, subtract}
use Rattle.relations.specs.Plan.{width_at, width_of_node}
use Rattle.relations.proofs.BoolLaws.{and_left, and_right, or_only-left}
use Rattle.relations.proofs.LegalityLaws.{Inside, LegalFacts}
use Rattle.relations.proofs.ListLaws.{all_mono, all_flat}
use Rattle.calculus.specs.Form.{NotInScope, GoodAtom, width_of_range, scope_of_bindings, alpha_scope, GoodRange, GoodBindings, GoodMaybe, GoodCondition}
use Rattle.calculus.specs.Leaves.{is_and_tree, is_or_tree, leaves, opposite_atom, alone_on, equates_with, equates_outside}
use Rattle.calculus.specs.Question.{Atom, Range, table, alpha, range_or, range_and, range_and_not, Bindings, no_more, bind, MaybeCondition, no_condition, on_condition, Condition, atom, condition_and, condition_or, condition_not, for_some, for_every, for_at_least}
use Rattle.calculus.specs.Scope.{entry, Scope, extend, columns_in, target_columns}
use Rattle.calculus.specs.ShortRules.{short_rule2_fits, short_rule2_nodes, short_rule3_fits, short_rule3_nodes, short_rule4_fits, short_rule4_nodes, short_rule5_fits, short_rule6_fits}
use Rattle.calculus.specs.Translation.{itself, its_opposite, division_by, translate_range, translate_bindings, translate_maybe, translate_condition, translate}
use Rattle.calculus.proofs.LeafLaws.{good-leaves, good-opposite, good_opposites}
use Rattle.calculus.proofs.LegalColumns.{target_inside, targets_columns, few-opposite, few}
use Rattle.calculus.proofs.LegalDivision.{division_fits}
use Rattle.calculus.proofs.LegalPlans.{Legal, legal-nodes, Fits, RangeFits, LastFits, DivisionFits, end_fits}
use Rattle.calculus.proofs.LegalRules.{choose_fits, and_fits, or_fits, not_fits, some_fits, every_fits, over-fits, two_fits, bind-fits, at_least-fits}
use Rattle.calculus.proofs.LegalShort.{atom-fits, selects_fits, semijoin-legal, antijoin-legal, halves_fit, alpha-fits}
use Rattle.calculus.proofs.RuleNodes.{plain_not, plain_some, plain_every, after_range}
use Rattle.calculus.proofs.ScopeLaws.{columns_extend, targets-width}

module _ (columns : ℕ → ℕ) (relations : ℕ) where
  -- a node of two sides of equal widths
  SidesLegal : (ℕ → ℕ → Node) → Type 0
  SidesLegal N = (made : List ℕ) (i j : ℕ) → i < length made → j < length made → width_at made i ≡ width_at made j → LegalFacts relations made (N i j) × (width_of_node columns made (N i j) ≡ width_at made i)

  unite-legal : SidesLegal unite
  unfolding SidesLegal
  unite-legal made i j a b c = ((a, b, c), refl)

  intersect-legal : SidesLegal intersect
  unfolding SidesLegal
  intersect-legal made i j a b c = ((a, b, c), refl)

  subtract-legal : SidesLegal subtract
  unfolding SidesLegal
  subtract-legal made i j a b c = ((a, b, c), refl)

  module _ (s : Scope) (v w : ℕ) (new : NotInScope v s) (T : ℕ → List Node) (fits : RangeFits columns relations T w) (f : Condition) (good : GoodCondition columns relations f (extend s v w)) where
    atoms-good : All (GoodAtom (extend s v w)) (leaves f)
    atoms-good = good-leaves columns relations f (extend s v w) good

    rule_2_fits : So (short_rule2_fits v f) → Fits columns relations s (λ p n. short_rule2_nodes s v w (leaves f) (T n) p n)
    rule_2_fits h = halves_fit columns relations semijoin (semijoin-legal columns relations) s v w new T fits (leaves f) atoms-good (few (is_and_tree f) v (leaves f) h)

    pub rule_3_fits : So (short_rule2_fits v f) → Fits columns relations s (λ p n. short_rule3_nodes s v w (leaves f) (T n) p n)
    rule_3_fits h = halves_fit columns relations antijoin (antijoin-legal columns relations) s v w new T fits (leaves f) atoms-good (few (is_and_tree f) v (leaves f) h)

    rule_4_fits : So (short_rule4_fits v f) → Fits columns relations s (λ p n. short_rule4_nodes s v w (leaves f) (T n) p n)
    rule_4_fits h = halves_fit columns relations antijoin (antijoin-legal columns relations) s v w new T fits (map opposite_atom (leaves f)) (good_opposites (extend s v w) (leaves f) atoms-good) (omega (arith, few (is_or_tree f) v (leaves f) h, few-opposite v (leaves f)))

    pub some_case_fits : (short : Bool) (U : ℕ → ℕ → List Node) → 1 ≤ columns_in s → columns_in s + w ≤ column_limit → Fits columns relations (extend s v w) U → Fits columns relations s (λ p n. elim (short && short_rule2_fits v f) [ true ↦ short_rule2_nodes s v w (leaves f) (T n) p n | false ↦ plain_some s T U p n ])
    some_case_fits short U one narrow hU = choose_fits columns relations s (short && short_rule2_fits v f) (λ p n. short_rule2_nodes s v w (leaves f) (T n) p n) (plain_some s T U) (λ i. rule_2_fits (and_right short (short_rule2_fits v f) i)) (λ i. some_fits columns relations s v w T U one narrow fits hU)

    pub every_case_fits : (short : Bool) (U : ℕ → ℕ → List Node) (O : ℕ → ℕ → ℕ → List Node) → 1 ≤ columns_in s → columns_in s + w ≤ column_limit → Fits columns relations (extend s v w) U → (So (short_rule5_fits v f) → DivisionFits columns relations s w O)
        → Fits columns relations s (λ p n. elim (short && short_rule4_fits v f) [ true ↦ short_rule4_nodes s v w (leaves f) (T n) p n | false ↦ elim (short && short_rule5_fits v f) [ true ↦ after_range T O p n | false ↦ plain_every s T U p n ] ])
    every_case_fits short U O one narrow hU hO = choose_fits columns relations s (short && short_rule4_fits v f) (λ p n. short_rule4_nodes s v w (leaves f) (T n) p n) (λ p n. elim (short && short_rule5_fits v f) [ true ↦ after_range T O p n | false ↦ plain_every s T U p n ]) (λ i. rule_4_fits (and_right short (short_rule4_fits v f) i)) (λ i. choose_fits columns relations s (short && short_rule5_fits v f) (after_range T O) (plain_every s T U) (λ j. over-fits columns relations s w T O fits (hO (and_right short (short_rule5_fits v f) j))) (λ j. every_fits columns relations s v w T U one narrow fits hU))

  module _ (short : Bool) where
    mutual
      unfolding translate_range width_of_range GoodRange Legal run SidesLegal

      pub range-fits : (R : Range) → GoodRange columns relations R → RangeFits columns relations (λ n. translate_range columns short R n) (width_of_range columns R)
      range-fits (table k) o = λ made n e. (omega arith, (end_fits columns relations made n e [] (load k) (columns k) tt o refl).0, (end_fits columns relations made n e [] (load k) (columns k) tt o refl).1)
      range-fits (alpha ts v R bs w) o =
          let s : Scope = alpha_scope columns v R bs in
          let some_columns : (1 ≤ length (flat (target_columns s) ts)) × (1 ≤ columns_in s) = targets_columns s ts o.5 o.3 in
          subst (RangeFits columns relations (λ n. translate_range columns short (alpha ts v R bs w) n)) (targets-width s ts) (alpha-fits columns relations short (entry v (width_of_range columns R) ∷ []) s (width_of_range columns R) (λ n. translate_range columns short R n) (λ p n. translate_bindings columns short bs p n) (λ p n. translate_maybe columns short w s p n) (flat (target_columns s) ts) (add-zero (width_of_range columns R)) some_columns.0 (omega (arith, o.6, targets-width s ts)) (all_flat (Inside (columns_in s)) (target_columns s) ts (all_mono (λ t k. target_inside s t k) ts o.3)) (range-fits R o.0) (bindings-fit bs (entry v (width_of_range columns R) ∷ []) o.1) (maybe_fits w s o.2 some_columns.1))
      range-fits (range_or a b) o = two_fits columns relations unite unite-legal (λ n. translate_range columns short a n) (λ n. translate_range columns short b n) (width_of_range columns a) (width_of_range columns b) o.2 (range-fits a o.0) (range-fits b o.1)
      range-fits (range_and a b) o = two_fits columns relations intersect intersect-legal (λ n. translate_range columns short a n) (λ n. translate_range columns short b n) (width_of_range columns a) (width_of_range columns b) o.2 (range-fits a o.0) (range-fits b o.1)
      range-fits (range_and_not a b) o = two_fits columns relations subtract subtract-legal (λ n. translate_range columns short a n) (λ n. translate_range columns short b n) (width_of_range columns a) (width_of_range columns b) o.2 (range-fits a o.0) (range-fits b o.1)

      pub bindings-fit : (bs : Bindings) (s : Scope) → GoodBindings columns relations bs s → LastFits columns relations s (λ p n. translate_bindings columns short bs p n) (columns_in (scope_of_bindings columns bs s))
      bindings-fit no_more s o = λ made n p e l i h. selects_fits columns relations s [] tt made n p e l i h
      bindings-fit (bind v R bs) s o = bind-fits columns relations s v (width_of_range columns R) (columns_in (scope_of_bindings columns bs (extend s v (width_of_range columns R)))) (λ n. translate_range columns short R n) (λ p n. translate_bindings columns short bs p n) o.3 (range-fits R o.1) (bindings-fit bs (extend s v (width_of_range columns R)) o.2)

      pub maybe_fits : (w : MaybeCondition) (s : Scope) → GoodMaybe columns relations w s → 1 ≤ columns_in s → LastFits columns relations s (λ p n. translate_maybe columns short w s p n) (columns_in s)
      maybe_fits no_condition s o one = λ made n p e l i h. selects_fits columns relations s [] tt made n p e l i h
      maybe_fits (on_condition c) s o one = λ made n p e l i h. condition-fits c s o one made n p e l h

      pub condition-fits : (c : Condition) (s : Scope) → GoodCondition columns relations c s → 1 ≤ columns_in s → Fits columns relations s (λ p n. translate_condition columns short c itself s p n)
      condition-fits (atom a) s o one = atom-fits columns relations s a o
      condition-fits (condition_and f g) s o one = and_fits columns relations s (λ p n. translate_condition columns short f itself s p n) (λ p n. translate_condition columns short g itself s p n) (condition-fits f s o.0 one) (condition-fits g s o.1 one)
      condition-fits (condition_or f g) s o one = or_fits columns relations s (λ p n. translate_condition columns short f itself s p n) (λ p n. translate_condition columns short g itself s p n) (condition-fits f s o.0 one) (condition-fits g s o.1 one)
      condition-fits (condition_not f) s o one = choose_fits columns relations s (short && (short_rule3_fits f || short_rule6_fits f)) (λ p n. translate_condition columns short f its_opposite s p n) (plain_not (λ p n. translate_condition columns short f itself s p n)) (λ i. opposite-fits f s o (and_right short (short_rule3_fits f || short_rule6_fits f) i)) (λ i. not_fits columns relations s (λ p n. translate_condition columns short f itself s p n) (condition-fits f s o one))
      condition-fits (for_some v R f) s o one = some_case_fits s v (width_of_range columns R) o.0 (λ n. translate_range columns short R n) (range-fits R o.1) f o.2 short (λ p n. translate_condition columns short f itself (extend s v (width_of_range columns R)) p n) one o.3 (condition-fits f (extend s v (width_of_range columns R)) o.2 (omega (arith, columns_extend s v (width_of_range columns R))))
      condition-fits (for_every v R f) s o one = every_case_fits s v (width_of_range columns R) o.0 (λ n. translate_range columns short R n) (range-fits R o.1) f o.2 short (λ p n. translate_condition columns short f itself (extend s v (width_of_range columns R)) p n) (λ j p n. translate_condition columns short f (division_by v j) s p n) one o.3 (condition-fits f (extend s v (width_of_range columns R)) o.2 (omega (arith, columns_extend s v (width_of_range columns R)))) (λ h. division_by_fits f s v (width_of_range columns R) o.0 o.2 h)
      condition-fits (for_at_least v R f least) s o one = at_least-fits columns relations least s v (width_of_range columns R) (λ n. translate_range columns short R n) (λ p n. translate_condition columns short f itself (extend s v (width_of_range columns R)) p n) o.4 o.5 o.3 (range-fits R o.1) (condition-fits f (extend s v (width_of_range columns R)) o.2 (omega (arith, columns_extend s v (width_of_range columns R))))

      -- S3 and S6
      pub opposite-fits : (c : Condition) (s : Scope) → GoodCondition columns relations c s → So (short_rule3_fits c || short_rule6_fits c) → Fits columns relations s (λ p n. translate_condition columns short c its_opposite s p n)
      opposite-fits (atom a) s o h = atom-fits columns relations s (opposite_atom a) (good-opposite s a o)
      opposite-fits (condition_and f g) s o h = absurd (false≢true h)
      opposite-fits (condition_or f g) s o h = absurd (false≢true h)
      opposite-fits (condition_not f) s o h = absurd (false≢true h)
      opposite-fits (for_some v R f) s o h = rule_3_fits s v (width_of_range columns R) o.0 (λ n. translate_range columns short R n) (range-fits R o.1) f o.2 (or_only-left (short_rule2_fits v f) h)
      opposite-fits (for_every v R f) s o h = absurd (false≢true h)
      opposite-fits (for_at_least v R f least) s o h = absurd (false≢true h)

      -- S5
      pub division_by_fits : (c : Condition) (s : Scope) (y k : ℕ) → NotInScope y s → GoodCondition columns relations c (extend s y k) → So (short_rule5_fits y c) → DivisionFits columns relations s k (λ j p n. translate_condition columns short c (division_by y j) s p n)
      division_by_fits (atom a) s y k new o h = absurd (false≢true h)
      division_by_fits (condition_and f g) s y k new o h = absurd (false≢true h)
      division_by_fits (condition_or f g) s y k new o h = absurd (false≢true h)
      division_by_fits (condition_not f) s y k new o h = absurd (false≢true h)
      division_by_fits (for_some z R f) s y k new o h =
          let cs : List Atom = leaves f in
          let links : Bool = between 1 pair_limit (length (filter (equates_with z y) cs)) in
          let outsides : Bool = between 1 triple_limit (length (filter (equates_outside z y) cs)) in
          let kinds : Bool = all (λ a. alone_on z a || (equates_with z y a || equates_outside z y a)) cs in
          let counts : So (links && outsides) = and_right kinds (links && outsides) (and_right (is_and_tree f) (kinds && (links && outsides)) h) in
          division_fits columns relations s y k z (width_of_range columns R) new o.0 (λ n. translate_range columns short R n) (range-fits R o.1) cs (good-leaves columns relations f (extend (extend s y k) z (width_of_range columns R)) o.2) (and_left links outsides counts) (and_right links outsides counts)
      division_by_fits (for_every v R f) s y k new o h = absurd (false≢true h)
      division_by_fits (for_at_least z R f least) s y k new o h = absurd (false≢true h)

    pub nodes-legal : (question : Range) → GoodRange columns relations question → So (legal_nodes columns relations [] (translate columns short question))
    nodes-legal question o = legal-nodes columns relations [] (translate columns short question) (range-fits question o [] 0 refl).1
