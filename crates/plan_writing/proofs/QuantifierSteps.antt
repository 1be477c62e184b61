-- Quantifiers: what their calls ask for, from what they are given, and what each way of making their nodes leaves. Assumes nothing.
use Prim.Native.Nat.{ℕ, suc, pred, ◌+◌, ◌*◌, ◌-◌, ◌≤◌, ◌<◌, max}
use mathlib.Core.Path.{◌≡◌, refl, sym, ap, subst, ◌∙◌}
use mathlib.Core.Bool.{Bool, true, false, cond, ◌&&◌, ◌||◌, false≢true}
use mathlib.Core.List.{List, [], ◌∷◌, ◌++◌, map}
use native.Mathlib.Omega.{arith}
use lib.ListN.{length, length-append}
use Rattle.relations.specs.Limits.{column_limit, question_node_limit, variable_count}
use Rattle.relations.specs.Lists.{filter}
use Rattle.relations.specs.Nodes.{Node, project, join, subtract, semijoin, antijoin, divide, unite, tally}
use Rattle.relations.proofs.BoolLaws.{and_right}
use Rattle.calculus.specs.Question.{Atom, Range, MaybeCondition, on_condition, Condition, atom, condition_and, condition_or, condition_not, for_some, for_every, for_at_least, range_nodes, maybe_nodes, condition_nodes}
use Rattle.calculus.specs.Scope.{columns_in, all_columns}
use Rattle.calculus.specs.Scope as calculus
use Rattle.calculus.specs.Form.{width_of_range, GoodRange, GoodMaybe, GoodCondition}
use Rattle.calculus.specs.Leaves.{is_and_tree, is_or_tree, leaves, opposite_atom, equates_with, equates_outside}
use Rattle.calculus.specs.ShortRules.{last_number, project_nodes, short_rule2_atoms, short_rule2_fits, triples_of, short_rule4_fits, short_rule5_atoms, short_rule5_fits, short_rule5_columns, short_rule5_nodes, outside_triples, division_pairs}
use Rattle.calculus.specs.Translation.{itself, division_by, translate_range, translate_condition}
use Rattle.calculus.proofs.ScopeLaws.{columns_extend}
use Rattle.calculus.proofs.SizeTheorem.{range_size, condition-size}
use Rattle.catalogue.specs.Stored.{relations_of, columns_of}
use Rattle.conditions.specs.declared.scope.Scope.{Scope as Carried}
use Rattle.conditions.specs.Readings.{Names, range_at, condition_at, restriction_at}
use Rattle.conditions.specs.Scopes.{scope_of, ScopeFits, Extended}
use Rattle.rule_writing.specs.Rules.{rule_atoms, rule_nodes, dividend_nodes, RuleReady}
use Rattle.short_rules.specs.declared.fits.ShortRule.{ShortRule}
use Rattle.short_rules.specs.declared.fits.ShortRule.TheVariants.{S2, S3, S4, S5}
use Rattle.rule_writing.proofs.RuleLaws.{behind-range, rule-behind}
use Rattle.emission.specs.Written.{Room, Written}
use Rattle.question.specs.Trees.{quantified}
use Rattle.plan_steps.specs.Quantifying.{wanted_in, way_of, kept_nodes}
use Rattle.plan_steps.specs.Ranges.{RangeDone}
use Rattle.plan_writing.specs.Translating.{RangeReady, GoodAs, ConditionReady, translate_wanted}
use Rattle.plan_steps.specs.declared.ranges.MadeRange.{MadeRange}
use Rattle.plan_steps.specs.declared.quantifying.Wanted.{Wanted}
use Rattle.plan_steps.specs.declared.quantifying.Wanted.TheVariants.{Itself, Opposite, Division}
use Rattle.nodes.specs.declared.node.Quantifier.{Quantifier}
use Rattle.nodes.specs.declared.node.Quantifier.TheVariants.{Some, Every, AtLeast}
use Rattle.plan_steps.specs.declared.quantifying.Way.{Way}
use Rattle.plan_steps.specs.declared.quantifying.Way.TheVariants.{ByRule, AsDivisor, ByDivision, Plain}
use Rattle.nodes.specs.Nodes.{node_at}
use Rattle.nodes.specs.declared.node.Node as question
use Rattle.nodes.specs.declared.node.Binder.TheVariants.{Quantifies}
use Rattle.nodes.specs.declared.node.Form.TheVariants.{Binds}
use Rattle.std.specs.Prelude.{Some as Found}
use Rattle.short_rules.specs.Fits.{some_variable}
use Rattle.short_rules.proofs.FitLaws.{some_decoded}
use Rattle.conditions.proofs.Readings.{made as decoded, condition_is, restriction_is, binder_variable, quantifier_parts}
use Rattle.judgements.proofs.KindsAlike.{quantified-nodes, quantified_parts}
use Rattle.conditions.proofs.OtherNodes.{restriction-good}
use Rattle.emission.proofs.WrittenLaws.{written_then, room_after, room-less, pred_is, written_as}
use Rattle.plan_writing.proofs.RangeSteps.{range-wide}
use Rattle.plan_writing.proofs.ConditionSteps.{chosen, passed_over}

-- What the quantifier stands in: P's scope, and y behind it where it is divided.
module _ (catalogue : List ℕ) where
  abbrev Good : Condition → calculus.Scope → Type 0
  Good f s = GoodCondition (columns_of catalogue) (relations_of catalogue) f s

  record Seen (f : Condition) (s : calculus.Scope) : Type 0 where
    seen : calculus.Scope
    good : Good f seen
    wide : columns_in s ≤ columns_in seen

  seen_as : (wanted : Wanted) {f : Condition} {s : calculus.Scope} → GoodAs catalogue (wanted_in wanted) (on_condition f) s → Seen f s
  unfolding GoodCondition
  seen_as Itself {s = s} g = record { seen = s; good = g; wide = omega arith }
  seen_as Opposite {s = s} g = record { seen = s; good = g.0; wide = omega arith }
  seen_as (Division y k) {s = s} g = record { seen = calculus.extend s y g.width; good = g.good; wide = omega (arith, columns_extend s y g.width) }

  record Parts (x : ℕ) (range : Range) (f : Condition) (s : calculus.Scope) : Type 0 where
    range-good : GoodRange (columns_of catalogue) (relations_of catalogue) range
    inside-good : Good f (calculus.extend s x (width_of_range (columns_of catalogue) range))
    narrow : columns_in s + width_of_range (columns_of catalogue) range ≤ column_limit

  parts : (quantifier : Quantifier) {x : ℕ} {range : Range} {f : Condition} {s : calculus.Scope} → Good (quantified quantifier x range f) s → Parts x range f s
  parts quantifier {x} {range} {f} {s} good = let g = quantified_parts (columns_of catalogue) (relations_of catalogue) quantifier x range f s good in record { range-good = g.1; inside-good = g.2; narrow = g.3 }

quantified-size : (quantifier : Quantifier) (x : ℕ) (range : Range) (f : Condition) → maybe_nodes (on_condition (quantified quantifier x range f)) ≡ range_nodes range + condition_nodes f + 1
unfolding maybe_nodes
quantified-size quantifier x range f = quantified-nodes quantifier x range f

some-condition : (f : Condition) → 1 ≤ condition_nodes f
unfolding condition_nodes
some-condition (atom a) = omega arith
some-condition (condition_and f g) = omega arith
some-condition (condition_or f g) = omega arith
some-condition (condition_not f) = omega arith
some-condition (for_some x range f) = omega arith
some-condition (for_every x range f) = omega arith
some-condition (for_at_least x range f least) = omega arith

-- What every way asks for: a range that is ready, and room behind it.
module _ (quantifier : Quantifier) (wanted : Wanted) (x : ℕ) (range : Range) (f : Condition) (known : x < variable_count) {catalogue plan : List ℕ} {scope : Carried} {n : ℕ} (r : ConditionReady catalogue plan (wanted_in wanted) (on_condition (quantified quantifier x range f)) scope n) where
  abbrev columns : ℕ → ℕ
  columns = columns_of catalogue

  stands : Seen catalogue (quantified quantifier x range f) (scope_of scope)
  stands = seen_as catalogue wanted r.good

  pub range_ready : RangeReady catalogue plan range n
  range_ready = record { good = (parts catalogue quantifier stands.good).range-good; stored = r.stored; room = room-less _ r.room (omega (arith, quantified-size quantifier x range f)) }

  pub few-nodes : condition_nodes f ≤ question_node_limit
  few-nodes = omega (arith, r.room.nodes, quantified-size quantifier x range f)

  module _ {short : Bool} {after : List ℕ} {made : MadeRange} (done : RangeDone catalogue short plan range n after made) where
    pub some_made : 1 ≤ made.count
    some_made = omega (arith, done.more)

    some_columns : 1 ≤ made.width
    some_columns = omega (arith, done.width, range-wide catalogue r.stored range range_ready.good)

    few_columns : columns_in (scope_of scope) + made.width ≤ column_limit
    few_columns = omega (arith, done.width, (parts catalogue quantifier stands.good).narrow, stands.wide)

    room-behind : Room after made.count (4 * condition_nodes f + 4)
    room-behind = room_after _ r.room done.written (omega (arith, quantified-size quantifier x range f, range_size columns short range n))

    pub inner_grows : (x < variable_count) × ScopeFits scope × (1 ≤ made.width) × (columns_in (scope_of scope) + made.width ≤ column_limit)
    inner_grows = (known, r.fits, some_columns, few_columns)

    pub room_inner : Room after made.count 1
    room_inner = room-less 1 room-behind (omega arith)

    -- a short rule above the condition that a reference names
    pub rule_ready : (words : List ℕ) (condition : ℕ) → f ≡ condition_at words condition → Names words condition → (rule : ShortRule) (y : ℕ) → rule_atoms rule x y (leaves f) ≡ true → RuleReady words after scope rule x made.width condition y made.count
    rule_ready words condition e named rule y atoms =
        record {
          named = named;
          small = omega (arith, few-nodes, ap condition_nodes e);
          atoms = subst (λ (g : Condition). rule_atoms rule x y (leaves g) ≡ true) e atoms;
          variable = known;
          scope-fits = r.fits;
          some_columns = some_columns;
          few_columns = omega (arith, few_columns);
          some-nodes = some_made;
          room = room-less _ room-behind (omega (arith, some-condition f, ap condition_nodes e));
        }

-- The ways.

-- a rule writes its nodes behind those of the range; y and k are those of S5
pub record RuleWay (columns : ℕ → ℕ) (short : Bool) (quantifier : Quantifier) (wanted : Wanted) (x : ℕ) (range : Range) (f : Condition) (y k : ℕ) (rule : ShortRule) : Type 0 where
  pub atoms : rule_atoms rule x y (leaves f) ≡ true
  pub nodes : (s : calculus.Scope) (p n : ℕ) → translate_condition columns short (quantified quantifier x range f) (wanted_in wanted) s p n ≡ translate_range columns short range n ++ rule_nodes rule s y k x (width_of_range columns range) (leaves f) p (n + length (translate_range columns short range n))

or_neither : (b : Bool) → (b || false) ≡ true → b ≡ true
or_neither true h = refl
or_neither false h = h

-- S5's nodes are those behind the range of z
division_behind : (first : List Node) (s : calculus.Scope) (y k z width : ℕ) (atoms : List Atom) (p n : ℕ) → short_rule5_nodes s y k z width atoms first p n ≡ first ++ short_rule5_nodes s y k z width atoms [] p (n + length first)
division_behind first s y k z width atoms p n =
    let outsiders : List Atom = filter (equates_outside z y) atoms in
    let nodes : ℕ → List Node = λ q. divide (pred q) k (division_pairs z (filter (equates_with z y) atoms) (suc (length outsiders))) ∷ semijoin p q (outside_triples s z outsiders 1) ∷ antijoin p k [] ∷ unite (suc q) (suc (suc q)) ∷ [] in
    ap (λ dividend. dividend ++ nodes (n + length dividend)) (rule-behind first z width atoms n (λ m. project_nodes true width (pred m) (short_rule5_columns z y atoms)))
    ∙ behind-range first (dividend_nodes y z width atoms (n + length first)) n nodes

module _ (catalogue : List ℕ) (s₀ : calculus.Scope) {short : Bool} {x : ℕ} {range : Range} {f : Condition} where
  pub rule_way : (quantifier : Quantifier) (wanted : Wanted) (rule : ShortRule) → GoodAs catalogue (wanted_in wanted) (on_condition (quantified quantifier x range f)) s₀ → way_of short quantifier wanted x f ≡ ByRule rule → RuleWay (columns_of catalogue) short quantifier wanted x range f 0 0 rule
  unfolding translate_condition
  rule_way Some Itself rule g e = go (short && short_rule2_fits x f) refl e
    where
      go : (b : Bool) → (short && short_rule2_fits x f) ≡ b → cond b (ByRule S2) Plain ≡ ByRule rule → RuleWay (columns_of catalogue) short Some Itself x range f 0 0 rule
      go true h e = let same : S2 ≡ rule = cc in
          subst (RuleWay (columns_of catalogue) short Some Itself x range f 0 0) same (record {
            atoms = and_right (is_and_tree f) (short_rule2_atoms x (leaves f)) (and_right short (short_rule2_fits x f) h);
            nodes = λ s p n. chosen _ _ (short && short_rule2_fits x f) h ∙ rule-behind (translate_range (columns_of catalogue) short range n) x (width_of_range (columns_of catalogue) range) (leaves f) n (λ m. semijoin p (pred m) (triples_of s x (leaves f)) ∷ []);
          })
      go false h e = let z : ◌≡◌ {A = ℕ} 0 1 = cc in absurd (omega arith)
  rule_way Some Opposite rule g e = let same : S3 ≡ rule = cc in
      subst (RuleWay (columns_of catalogue) short Some Opposite x range f 0 0) same (record {
        atoms = and_right (is_and_tree f) (short_rule2_atoms x (leaves f)) (or_neither (short_rule2_fits x f) g.1);
        nodes = λ s p n. rule-behind (translate_range (columns_of catalogue) short range n) x (width_of_range (columns_of catalogue) range) (leaves f) n (λ m. antijoin p (pred m) (triples_of s x (leaves f)) ∷ []);
      })
  rule_way Some (Division y k) rule g e = let z : ◌≡◌ {A = ℕ} 0 1 = cc in absurd (omega arith)
  rule_way Every wanted rule g e = go (short && short_rule4_fits x f) refl (short && short_rule5_fits x f) e
    where
      go : (b : Bool) → (short && short_rule4_fits x f) ≡ b → (d : Bool) → cond b (ByRule S4) (cond d ByDivision Plain) ≡ ByRule rule → RuleWay (columns_of catalogue) short Every wanted x range f 0 0 rule
      go true h d e = let same : S4 ≡ rule = cc in
          subst (RuleWay (columns_of catalogue) short Every wanted x range f 0 0) same (record {
            atoms = and_right (is_or_tree f) (short_rule2_atoms x (leaves f)) (and_right short (short_rule4_fits x f) h);
            nodes = λ s p n. chosen _ _ (short && short_rule4_fits x f) h ∙ rule-behind (translate_range (columns_of catalogue) short range n) x (width_of_range (columns_of catalogue) range) (map opposite_atom (leaves f)) n (λ m. antijoin p (pred m) (triples_of s x (map opposite_atom (leaves f))) ∷ []);
          })
      go false h true e = let z : ◌≡◌ {A = ℕ} 0 1 = cc in absurd (omega arith)
      go false h false e = let z : ◌≡◌ {A = ℕ} 0 1 = cc in absurd (omega arith)
  rule_way (AtLeast least) wanted rule g e = let z : ◌≡◌ {A = ℕ} 0 1 = cc in absurd (omega arith)

  -- only a "some" below an "every y" is divided
  pub divisor_way : (quantifier : Quantifier) (wanted : Wanted) (y k : ℕ) → GoodAs catalogue (wanted_in wanted) (on_condition (quantified quantifier x range f)) s₀ → way_of short quantifier wanted x f ≡ AsDivisor y k → RuleWay (columns_of catalogue) short quantifier wanted x range f y k S5
  unfolding translate_condition
  divisor_way Some Itself y k g e = never (short && short_rule2_fits x f) e
    where
      never : (b : Bool) → cond b (ByRule S2) Plain ≡ AsDivisor y k → RuleWay (columns_of catalogue) short Some Itself x range f y k S5
      never true e = let z : ◌≡◌ {A = ℕ} 0 1 = cc in absurd (omega arith)
      never false e = let z : ◌≡◌ {A = ℕ} 0 1 = cc in absurd (omega arith)
  divisor_way Some Opposite y k g e = let z : ◌≡◌ {A = ℕ} 0 1 = cc in absurd (omega arith)
  divisor_way Some (Division v j) y k g e =
      let same : v ≡ y = cc in
      let node : j ≡ k = cc in
      record {
        atoms = subst (λ (u : ℕ). short_rule5_atoms x u (leaves f) ≡ true) same (and_right (is_and_tree f) (short_rule5_atoms x v (leaves f)) g.fits);
        nodes = λ s p n. ap (λ (u : ℕ). short_rule5_nodes s u j x (width_of_range (columns_of catalogue) range) (leaves f) (translate_range (columns_of catalogue) short range n) p n) same ∙ ap (λ (i : ℕ). short_rule5_nodes s y i x (width_of_range (columns_of catalogue) range) (leaves f) (translate_range (columns_of catalogue) short range n) p n) node ∙ division_behind (translate_range (columns_of catalogue) short range n) s y k x (width_of_range (columns_of catalogue) range) (leaves f) p n;
      }
  divisor_way Every wanted y k g e = never (short && short_rule4_fits x f) (short && short_rule5_fits x f) e
    where
      never : (b d : Bool) → cond b (ByRule S4) (cond d ByDivision Plain) ≡ AsDivisor y k → RuleWay (columns_of catalogue) short Every wanted x range f y k S5
      never true d e = let z : ◌≡◌ {A = ℕ} 0 1 = cc in absurd (omega arith)
      never false true e = let z : ◌≡◌ {A = ℕ} 0 1 = cc in absurd (omega arith)
      never false false e = let z : ◌≡◌ {A = ℕ} 0 1 = cc in absurd (omega arith)
  divisor_way (AtLeast least) wanted y k g e = let z : ◌≡◌ {A = ℕ} 0 1 = cc in absurd (omega arith)

-- the ways that translate the condition itself: the scope behind them is P's and x
abbrev Inner : Way → Type 0
Inner (ByRule rule) = ⊥
Inner (AsDivisor y k) = ⊥
Inner ByDivision = Unit {0}
Inner Plain = Unit {0}

inner_good : (quantifier : Quantifier) (wanted : Wanted) (catalogue : List ℕ) (short : Bool) (x : ℕ) (range : Range) (f : Condition) (s : calculus.Scope) {way : Way} → GoodAs catalogue (wanted_in wanted) (on_condition (quantified quantifier x range f)) s → way_of short quantifier wanted x f ≡ way → Inner way → Good catalogue f (calculus.extend s x (width_of_range (columns_of catalogue) range))
unfolding GoodCondition
inner_good Some Itself catalogue short x range f s g e i = g.2
inner_good Some Opposite catalogue short x range f s g e i = absurd (subst Inner (sym e) i)
inner_good Some (Division y k) catalogue short x range f s g e i = absurd (subst Inner (sym e) i)
inner_good Every Itself catalogue short x range f s g e i = g.2
inner_good Every Opposite catalogue short x range f s g e i = g.0.2
inner_good Every (Division y k) catalogue short x range f s g e i = absurd (false≢true g.fits)
inner_good (AtLeast least) Itself catalogue short x range f s g e i = g.2
inner_good (AtLeast least) Opposite catalogue short x range f s g e i = g.0.2
inner_good (AtLeast least) (Division y k) catalogue short x range f s g e i = absurd (false≢true g.fits)

module _ (columns : ℕ → ℕ) (short : Bool) (x : ℕ) (range : Range) (f : Condition) where
  pub record DivisionWay (quantifier : Quantifier) (wanted : Wanted) : Type 0 where
    pub fits : short_rule5_fits x f ≡ true
    pub nodes : (s : calculus.Scope) (p n : ℕ) → translate_condition columns short (quantified quantifier x range f) (wanted_in wanted) s p n ≡ translate_range columns short range n ++ translate_condition columns short f (division_by x (pred (n + length (translate_range columns short range n)))) s p (n + length (translate_range columns short range n))

  pub division_way : (quantifier : Quantifier) (wanted : Wanted) → way_of short quantifier wanted x f ≡ ByDivision → DivisionWay quantifier wanted
  unfolding translate_condition
  division_way Some Itself e = never (short && short_rule2_fits x f) e
    where
      never : (b : Bool) → cond b (ByRule S2) Plain ≡ ByDivision → DivisionWay Some Itself
      never true e = let z : ◌≡◌ {A = ℕ} 0 1 = cc in absurd (omega arith)
      never false e = let z : ◌≡◌ {A = ℕ} 0 1 = cc in absurd (omega arith)
  division_way Some Opposite e = let z : ◌≡◌ {A = ℕ} 0 1 = cc in absurd (omega arith)
  division_way Some (Division y k) e = let z : ◌≡◌ {A = ℕ} 0 1 = cc in absurd (omega arith)
  division_way Every wanted e = go (short && short_rule4_fits x f) refl (short && short_rule5_fits x f) refl e
    where
      go : (b : Bool) → (short && short_rule4_fits x f) ≡ b → (d : Bool) → (short && short_rule5_fits x f) ≡ d → cond b (ByRule S4) (cond d ByDivision Plain) ≡ ByDivision → DivisionWay Every wanted
      go true h d i e = let z : ◌≡◌ {A = ℕ} 0 1 = cc in absurd (omega arith)
      go false h false i e = let z : ◌≡◌ {A = ℕ} 0 1 = cc in absurd (omega arith)
      go false h true i e =
          record {
            fits = and_right short (short_rule5_fits x f) i;
            nodes = λ s p n. passed_over _ _ (short && short_rule4_fits x f) h ∙ chosen _ _ (short && short_rule5_fits x f) i;
          }
  division_way (AtLeast least) wanted e = let z : ◌≡◌ {A = ℕ} 0 1 = cc in absurd (omega arith)

  -- behind the range, P's product with it and T of the condition, so many nodes in all
  abbrev pub inside_nodes : calculus.Scope → (p q : ℕ) → List Node
  inside_nodes s p q = join p (pred q) [] ∷ translate_condition columns short f itself (calculus.extend s x (width_of_range columns range)) q (suc q)

  abbrev pub PlainWay : Quantifier → Wanted → Type 0
  PlainWay quantifier wanted = (s : calculus.Scope) (p n : ℕ) → translate_condition columns short (quantified quantifier x range f) (wanted_in wanted) s p n
      ≡ (translate_range columns short range n ++ inside_nodes s p (n + length (translate_range columns short range n))) ++ kept_nodes quantifier (columns_in s) p (n + length (translate_range columns short range n)) (n + length (translate_range columns short range n) + length (inside_nodes s p (n + length (translate_range columns short range n))))

  -- the last nodes, by the number of the last one before them
  kept-some : (columns' p q last m : ℕ) → suc last ≡ m → project last (all_columns columns') ∷ [] ≡ kept_nodes Some columns' p q m
  kept-some columns' p q last m e =
      let d : last ≡ m - 1 = omega arith in
      ap (λ (k : ℕ). project k (all_columns columns') ∷ []) d

  kept_every : (columns' p q last m : ℕ) → suc last ≡ m → subtract q last ∷ project (suc last) (all_columns columns') ∷ subtract p (suc (suc last)) ∷ [] ≡ kept_nodes Every columns' p q m
  kept_every columns' p q last m e =
      let d : last ≡ m - 1 = omega arith in
      let b : suc (suc last) ≡ m + 1 = omega arith in
      rw (b, e, d)

  kept_at_least : (least columns' p q last m : ℕ) → suc last ≡ m → tally p last least ∷ [] ≡ kept_nodes (AtLeast least) columns' p q m
  kept_at_least least columns' p q last m e =
      let d : last ≡ m - 1 = omega arith in
      ap (λ (k : ℕ). tally p k least ∷ []) d

  last_inside : (s : calculus.Scope) (p q : ℕ) → suc (last_number (suc q) (translate_condition columns short f itself (calculus.extend s x (width_of_range columns range)) q (suc q))) ≡ q + length (inside_nodes s p q)
  last_inside s p q = omega (arith, pred_is (suc q + length (translate_condition columns short f itself (calculus.extend s x (width_of_range columns range)) q (suc q))))

  pub plain_way : (quantifier : Quantifier) (wanted : Wanted) → way_of short quantifier wanted x f ≡ Plain → PlainWay quantifier wanted
  unfolding translate_condition
  plain_way Some Itself e = go (short && short_rule2_fits x f) refl e
    where
      go : (b : Bool) → (short && short_rule2_fits x f) ≡ b → cond b (ByRule S2) Plain ≡ Plain → PlainWay Some Itself
      go true h e = let z : ◌≡◌ {A = ℕ} 0 1 = cc in absurd (omega arith)
      go false h e = λ s p n.
          let q : ℕ = n + length (translate_range columns short range n) in
          passed_over _ _ (short && short_rule2_fits x f) h ∙ ap (λ (nodes : List Node). (translate_range columns short range n ++ inside_nodes s p q) ++ nodes) (kept-some (columns_in s) p q _ _ (last_inside s p q))
  plain_way Some Opposite e = let z : ◌≡◌ {A = ℕ} 0 1 = cc in absurd (omega arith)
  plain_way Some (Division y k) e = let z : ◌≡◌ {A = ℕ} 0 1 = cc in absurd (omega arith)
  plain_way Every wanted e = go (short && short_rule4_fits x f) refl (short && short_rule5_fits x f) refl e
    where
      go : (b : Bool) → (short && short_rule4_fits x f) ≡ b → (d : Bool) → (short && short_rule5_fits x f) ≡ d → cond b (ByRule S4) (cond d ByDivision Plain) ≡ Plain → PlainWay Every wanted
      go true h d i e = let z : ◌≡◌ {A = ℕ} 0 1 = cc in absurd (omega arith)
      go false h true i e = let z : ◌≡◌ {A = ℕ} 0 1 = cc in absurd (omega arith)
      go false h false i e = λ s p n.
          let q : ℕ = n + length (translate_range columns short range n) in
          passed_over _ _ (short && short_rule4_fits x f) h ∙ passed_over _ _ (short && short_rule5_fits x f) i ∙ ap (λ (nodes : List Node). (translate_range columns short range n ++ inside_nodes s p q) ++ nodes) (kept_every (columns_in s) p q _ _ (last_inside s p q))
  plain_way (AtLeast least) wanted e = λ s p n.
      let q : ℕ = n + length (translate_range columns short range n) in
      ap (λ (nodes : List Node). (translate_range columns short range n ++ inside_nodes s p q) ++ nodes) (kept_at_least least (columns_in s) p q _ _ (last_inside s p q))

-- What a way leaves, behind the range.
module _ {catalogue : List ℕ} {short : Bool} {plan : List ℕ} {range : Range} {n : ℕ} {after : List ℕ} {made : MadeRange} (done : RangeDone catalogue short plan range n after made) where
  abbrev first : List Node
  first = translate_range (columns_of catalogue) short range n

  abbrev width : ℕ
  width = width_of_range (columns_of catalogue) range

  -- what stands behind the range, by the width and the count that the code has
  written_behind : (nodes : ℕ → ℕ → List Node) {end : List ℕ} {count : ℕ} → Written after made.count (nodes made.width made.count) end count → Written plan n (first ++ nodes width (n + length first)) end count
  written_behind nodes w = written_then done.written (written_as (ap (λ (k : ℕ). nodes width k) (sym done.written.counted) ∙ ap (λ (k : ℕ). nodes k made.count) (sym done.width)) w)

  module _ (quantifier : Quantifier) (wanted : Wanted) (x : ℕ) (f : Condition) (s : calculus.Scope) (p : ℕ) where
    pub rule-done : {y k : ℕ} {rule : ShortRule} → RuleWay (columns_of catalogue) short quantifier wanted x range f y k rule → {end : List ℕ} {count : ℕ} → Written after made.count (rule_nodes rule s y k x made.width (leaves f) p made.count) end count
        → Written plan n (translate_condition (columns_of catalogue) short (quantified quantifier x range f) (wanted_in wanted) s p n) end count
    rule-done {y} {k} {rule} way w = written_as (way.nodes s p n) (written_behind (λ v m. rule_nodes rule s y k x v (leaves f) p m) w)

    pub division_done : DivisionWay (columns_of catalogue) short x range f quantifier wanted → {end : List ℕ} {count : ℕ} → Written after made.count (translate_condition (columns_of catalogue) short f (division_by x (made.count - 1)) s p made.count) end count
        → Written plan n (translate_condition (columns_of catalogue) short (quantified quantifier x range f) (wanted_in wanted) s p n) end count
    division_done way w =
        written_as (way.nodes s p n) (written_behind (λ v m. translate_condition (columns_of catalogue) short f (division_by x (pred m)) s p m) (written_as (ap (λ (j : ℕ). translate_condition (columns_of catalogue) short f (division_by x j) s p made.count) (pred_is made.count)) w))

    pub plain_done : PlainWay (columns_of catalogue) short x range f quantifier wanted → {middle end : List ℕ} {meeting count columns : ℕ} → Written after made.count (join p (pred made.count) [] ∷ translate_condition (columns_of catalogue) short f itself (calculus.extend s x made.width) made.count (suc made.count)) middle meeting
        → columns ≡ columns_in s → Written middle meeting (kept_nodes quantifier columns p made.count meeting) end count → Written plan n (translate_condition (columns_of catalogue) short (quantified quantifier x range f) (wanted_in wanted) s p n) end count
    plain_done way {meeting = meeting} {columns = columns} inside e w =
        let q : ℕ = n + length first in
        let nodes : List Node = inside_nodes (columns_of catalogue) short x range f s p q in
        let behind : Written plan n (first ++ nodes) _ meeting = written_behind (λ v m. join p (pred m) [] ∷ translate_condition (columns_of catalogue) short f itself (calculus.extend s x v) m (suc m)) inside in
        let total : q + length nodes ≡ meeting = omega (arith, behind.counted, length-append first nodes) in
        written_as (way s p n) (written_then behind (written_as (ap (λ (m : ℕ). kept_nodes quantifier (columns_in s) p q m) total ∙ ap (λ (k : ℕ). kept_nodes quantifier (columns_in s) p k meeting) (sym done.written.counted) ∙ ap (λ (c : ℕ). kept_nodes quantifier c p made.count meeting) (sym e)) w))

-- The condition inside: below the division of S5, or on the product of P with the range.
module _ (quantifier : Quantifier) (wanted : Wanted) (x : ℕ) (range : Range) (words : List ℕ) (condition : ℕ) (known : x < variable_count) {catalogue plan : List ℕ} {scope : Carried} {n : ℕ} (r : ConditionReady catalogue plan (wanted_in wanted) (on_condition (quantified quantifier x range (condition_at words condition))) scope n) {short : Bool} {after : List ℕ} {made : MadeRange} (done : RangeDone catalogue short plan range n after made) where
  abbrev inner : Condition
  inner = condition_at words condition

  module _ {way : Way} (e : way_of short quantifier wanted x inner ≡ way) (i : Inner way) where
    good-inside : Good catalogue inner (calculus.extend (scope_of scope) x (width_of_range (columns_of catalogue) range))
    good-inside = inner_good quantifier wanted catalogue short x range inner (scope_of scope) r.good e i

    pub restricts : restriction_at words condition ≡ on_condition inner
    restricts = restriction-good (columns_of catalogue) (relations_of catalogue) (calculus.extend (scope_of scope) x (width_of_range (columns_of catalogue) range)) words condition good-inside

    room-inside : Room after made.count (4 * condition_nodes inner + 4)
    room-inside = room-behind quantifier wanted x range inner known r done

    divided_ready : (k : ℕ) → short_rule5_fits x inner ≡ true → ConditionReady catalogue after (division_by x k) (restriction_at words condition) scope made.count
    unfolding GoodMaybe maybe_nodes
    divided_ready k fits =
        subst (λ (m : MaybeCondition). ConditionReady catalogue after (division_by x k) m scope made.count) (sym restricts) (record {
          good = record { width = width_of_range (columns_of catalogue) range; good = good-inside; fits = fits };
          fits = r.fits;
          stored = r.stored;
          some-nodes = omega (arith, done.more);
          room = room-less _ room-inside (omega arith);
        })

    -- the "some" below a division
    module _ (names : Names words condition) {node : question.Node} {z : ℕ} (d : node ≡ node_at words (condition - 1)) (v : Found z ≡ some_variable node.form) (fits : short_rule5_fits x inner ≡ true) where
      below : decoded (Binds z (Quantifies Some)) node.a node.b node.c ≡ node_at words (condition - 1)
      below = some_decoded words names d v

      reads_below : inner ≡ quantified Some z (range_at words node.b) (condition_at words node.c)
      reads_below = condition_is words condition (decoded (Binds z (Quantifies Some)) node.a node.b node.c) names.0 below

      pub call_below : {t : ℕ} (k other : ℕ) → 2 * max other condition + 1 ≡ t
          → (2 * max node.b node.c + 1 < t) × ((z < variable_count) × Names words node.b × Names words node.c × ConditionReady catalogue after (division_by x k) (on_condition (quantified Some z (range_at words node.b) (condition_at words node.c))) scope made.count)
      call_below k other m =
          let parts = quantifier_parts words condition names below in
          let b : node.b < condition = parts.0.1 in
          let c : node.c < condition = parts.1.1 in (
            omega arith,
            (
              binder_variable words condition names below,
              parts.0.0,
              parts.1.0,
              subst (λ (f : MaybeCondition). ConditionReady catalogue after (division_by x k) f scope made.count) (restriction_is words condition (decoded (Binds z (Quantifies Some)) node.a node.b node.c) names.0 below) (divided_ready k fits),
            ),
          )

      pub written_below : (k p : ℕ) {end : List ℕ} {count : ℕ} → Written after made.count (translate_condition (columns_of catalogue) short (quantified Some z (range_at words node.b) (condition_at words node.c)) (division_by x k) (scope_of scope) p made.count) end count
          → Written after made.count (translate_condition (columns_of catalogue) short inner (division_by x k) (scope_of scope) p made.count) end count
      written_below k p w = written_as (ap (λ (f : Condition). translate_condition (columns_of catalogue) short f (division_by x k) (scope_of scope) p made.count) reads_below) w

    module _ {longer : Carried} (extended : Extended scope x made.width longer) {p : ℕ} {middle : List ℕ} {count : ℕ} (product : Written after made.count (join p (made.count - 1) [] ∷ []) middle count) where
      pub inside_ready : ConditionReady catalogue middle itself (restriction_at words condition) longer count
      unfolding GoodMaybe maybe_nodes
      inside_ready =
          let scopes : scope_of longer ≡ calculus.extend (scope_of scope) x (width_of_range (columns_of catalogue) range) = extended.stands ∙ ap (calculus.extend (scope_of scope) x) done.width in
          subst (λ (m : MaybeCondition). ConditionReady catalogue middle itself m longer count) (sym restricts) (record {
            good = subst (Good catalogue inner) (sym scopes) good-inside;
            fits = extended.fits;
            stored = r.stored;
            some-nodes = omega (arith, product.counted);
            room = room_after _ room-inside product (omega arith);
          })

      module _ {later : List ℕ} {meeting : ℕ} (w : Written middle count (translate_wanted (columns_of catalogue) short itself (restriction_at words condition) (scope_of longer) made.count count) later meeting) where
        pub inside-written : Written after made.count (join p (pred made.count) [] ∷ translate_condition (columns_of catalogue) short inner itself (calculus.extend (scope_of scope) x made.width) made.count (suc made.count)) later meeting
        inside-written =
            let next : suc made.count ≡ count = omega (arith, product.counted) in
            let same : translate_condition (columns_of catalogue) short inner itself (calculus.extend (scope_of scope) x made.width) made.count (suc made.count) ≡ translate_wanted (columns_of catalogue) short itself (restriction_at words condition) (scope_of longer) made.count count =
            ap (λ (k : ℕ). translate_condition (columns_of catalogue) short inner itself (calculus.extend (scope_of scope) x made.width) made.count k) next
            ∙ ap (λ (s : calculus.Scope). translate_condition (columns_of catalogue) short inner itself s made.count count) (sym extended.stands)
            ∙ ap (λ (m : MaybeCondition). translate_wanted (columns_of catalogue) short itself m (scope_of longer) made.count count) (sym restricts) in
            written_as (ap (λ (m : ℕ). join p m [] ∷ translate_condition (columns_of catalogue) short inner itself (calculus.extend (scope_of scope) x made.width) made.count (suc made.count)) (pred_is made.count) ∙ ap (λ (rest : List Node). join p (made.count - 1) [] ∷ rest) same) (written_then product w)

        pub some_met : 1 ≤ meeting
        some_met = omega (arith, product.counted, w.counted)

        pub room-kept : Room later meeting 3
        room-kept = room_after 3 room-inside inside-written (omega (arith, condition-size (columns_of catalogue) short inner itself (calculus.extend (scope_of scope) x made.width) made.count (suc made.count)))
