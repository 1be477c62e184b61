-- The steps of a condition: the room that its parts have, and what their nodes are together. Assumes nothing.
use Prim.Native.Nat.{ℕ, ◌+◌, ◌*◌, ◌-◌, ◌≤◌, ◌<◌}
use mathlib.Core.Path.{◌≡◌, refl, sym, ap, ap₂, subst, ◌∙◌}
use mathlib.Core.Bool.{Bool, true, false, ◌&&◌, ◌||◌, false≢true}
use mathlib.Core.List.{List, [], ◌∷◌}
use native.Mathlib.Omega.{arith}
use Rattle.relations.specs.Limits.{question_node_limit, variable_count}
use Rattle.relations.specs.Nodes.{Node, unite, subtract}
use Rattle.relations.proofs.BoolLaws.{and_right}
use Rattle.calculus.specs.Question as calculus
use Rattle.calculus.specs.Question.{MaybeCondition, on_condition, Condition, condition_and, condition_or, condition_not, maybe_nodes, condition_nodes}
use Rattle.calculus.specs.Scope as scopes
use Rattle.calculus.specs.Form.{GoodCondition}
use Rattle.calculus.specs.ShortRules.{short_rule3_fits, short_rule5_fits, short_rule6_fits}
use Rattle.calculus.specs.Translation.{Wanted, itself, its_opposite, division_by, translate_maybe, translate_condition}
use Rattle.calculus.proofs.SizeTheorem.{condition-size}
use Rattle.nodes.specs.Nodes.{node_at}
use Rattle.catalogue.specs.Stored.{relations_of, columns_of}
use Rattle.question.specs.Trees.{atom_of, quantified}
use Rattle.nodes.specs.declared.node.Connective.TheVariants.{And, Or, Not}
use Rattle.nodes.specs.declared.node.Quantifier.{Quantifier}
use Rattle.nodes.specs.declared.node.Binder.TheVariants.{Quantifies}
use Rattle.nodes.specs.declared.node.Form.TheVariants.{Binds, Compares, Connects}
use Rattle.nodes.specs.declared.node.Atom as question-atom
use Rattle.conditions.specs.declared.scope.Scope.{Scope as Carried}
use Rattle.conditions.specs.Readings.{Names, range_at, restriction_at, condition_at}
use Rattle.conditions.specs.Scopes.{scope_of}
use Rattle.conditions.specs.Atoms.{AtomNarrow}
use Rattle.rule_writing.specs.Rules.{atom_nodes}
use Rattle.emission.specs.Written.{Room, Written}
use Rattle.plan_steps.specs.Quantifying.{wanted_in, opposite_wanted, opposite_if}
use Rattle.plan_writing.specs.Translating.{translate_wanted, ConditionReady}
use Rattle.plan_steps.specs.declared.quantifying.Wanted as code
use Rattle.plan_steps.specs.declared.quantifying.Wanted.TheVariants.{Itself, Opposite, Division}
use Rattle.conditions.proofs.Readings.{made, Part, and_parts, or_parts, not_part, binder_variable, quantifier_parts, restriction_is}
use Rattle.conditions.proofs.OtherNodes.{restriction-good}
use Rattle.conditions.proofs.LeafLaws.{found_narrow}
use Rattle.emission.proofs.WrittenLaws.{written_then, written-nothing, room_after, room-less, last_is, written_as, going_on}

-- What is ready for a condition is ready for its parts.
module _ (catalogue : List ℕ) (scope : Carried) where
  abbrev pub Good : Condition → Type 0
  Good f = GoodCondition (columns_of catalogue) (relations_of catalogue) f (scope_of scope)

  abbrev pub Ready : List ℕ → Condition → ℕ → Type 0
  Ready plan f n = ConditionReady catalogue plan itself (on_condition f) scope n

  -- ready for f, with room for so many nodes behind it
  pub record ReadyWith (plan : List ℕ) (f : Condition) (n more : ℕ) : Type 0 where
    pub ready : Ready plan f n
    pub room : Room plan n (4 * condition_nodes f + more)

  -- ready for f, and for g behind it, with one node's room left
  abbrev pub BothReady : List ℕ → Condition → Condition → ℕ → Type 0
  BothReady plan f g n = ReadyWith plan f n (4 * condition_nodes g + 4) × Good g

module _ {catalogue : List ℕ} {scope : Carried} where
  pub ready_as : {plan : List ℕ} {n : ℕ} {wanted : Wanted} {w v : MaybeCondition} → w ≡ v → ConditionReady catalogue plan wanted v scope n → ConditionReady catalogue plan wanted w scope n
  ready_as {plan} {n} {wanted} e r = subst (λ (m : MaybeCondition). ConditionReady catalogue plan wanted m scope n) (sym e) r

  pub good_of : {plan : List ℕ} {n : ℕ} {f : Condition} → Ready catalogue scope plan f n → Good catalogue scope f
  unfolding GoodCondition
  good_of r = r.good

  -- whatever is wanted of a condition that S5 does not fit, it is ready in P's own scope
  pub plain_ready : {plan : List ℕ} {n : ℕ} (wanted : Wanted) (f : Condition) → ((y : ℕ) → short_rule5_fits y f ≡ false) → ConditionReady catalogue plan wanted (on_condition f) scope n → Ready catalogue scope plan f n
  plain_ready itself f undivided r = r
  plain_ready its_opposite f undivided r = record { good = r.good.0; fits = r.fits; stored = r.stored; some-nodes = r.some-nodes; room = r.room }
  plain_ready (division_by y k) f undivided r = absurd (false≢true (sym (undivided y) ∙ r.good.fits))

  part_ready : {plan : List ℕ} {n : ℕ} {w : MaybeCondition} (f : Condition) (more : ℕ) → ConditionReady catalogue plan itself w scope n → Good catalogue scope f → 4 * condition_nodes f + more ≤ 4 * maybe_nodes w → ReadyWith catalogue scope plan f n more
  unfolding condition_nodes GoodCondition
  part_ready f more r g h =
      record {
        ready = record { good = g; fits = r.fits; stored = r.stored; some-nodes = r.some-nodes; room = room-less (4 * condition_nodes f) r.room (omega arith) };
        room = room-less (4 * condition_nodes f + more) r.room h;
      }

  -- a part can be handed down by its reference
  pub ready_at : {plan : List ℕ} {n : ℕ} (words : List ℕ) (reference : ℕ) → Ready catalogue scope plan (condition_at words reference) n → ConditionReady catalogue plan itself (restriction_at words reference) scope n
  ready_at words reference r = ready_as (restriction-good (columns_of catalogue) (relations_of catalogue) (scope_of scope) words reference (good_of r)) r

  atom-room : {plan : List ℕ} {n : ℕ} {a : calculus.Atom} → Ready catalogue scope plan (calculus.atom a) n → Room plan n 1
  unfolding condition_nodes
  atom-room r = room-less 1 r.room (omega arith)

  module _ {plan : List ℕ} {n : ℕ} {f g : Condition} where
    and_ready : Ready catalogue scope plan (condition_and f g) n → BothReady catalogue scope plan f g n
    unfolding condition_nodes GoodCondition
    and_ready r = (part_ready f (4 * condition_nodes g + 4) r r.good.0 (omega arith), r.good.1)

    or_ready : Ready catalogue scope plan (condition_or f g) n → BothReady catalogue scope plan f g n
    unfolding condition_nodes GoodCondition
    or_ready r = (part_ready f (4 * condition_nodes g + 4) r r.good.0 (omega arith), r.good.1)

  not_ready : {plan : List ℕ} {n : ℕ} {f : Condition} → Ready catalogue scope plan (condition_not f) n → ReadyWith catalogue scope plan f n 4
  unfolding condition_nodes GoodCondition
  not_ready {f = f} r = part_ready f 4 r r.good (omega arith)

  -- behind the nodes of f
  module _ (short : Bool) (p : ℕ) {plan after : List ℕ} {n m more : ℕ} {f : Condition} (w : Written plan n (translate_condition (columns_of catalogue) short f itself (scope_of scope) p n) after m) where
    room-behind : ReadyWith catalogue scope plan f n more → Room after m more
    room-behind r = room_after more r.room w (omega (arith, condition-size (columns_of catalogue) short f itself (scope_of scope) p n))

    next_ready : {g : Condition} → ReadyWith catalogue scope plan f n (4 * condition_nodes g + more) → Good catalogue scope g → ReadyWith catalogue scope after g m more
    unfolding condition_nodes GoodCondition
    next_ready {g} r b =
        let room : Room after m (4 * condition_nodes g + more) = room_after (4 * condition_nodes g + more) r.room w (omega (arith, condition-size (columns_of catalogue) short f itself (scope_of scope) p n)) in
        record {
          ready = record { good = b; fits = r.ready.fits; stored = r.ready.stored; some-nodes = omega (arith, r.ready.some-nodes, w.counted); room = room-less (4 * condition_nodes g) room (omega arith) };
          room = room;
        }

-- The nodes of a condition from those of its parts.

-- a choice that is made
pub chosen : (x y : List Node) (b : Bool) → b ≡ true → ◌≡◌ {A = List Node} (elim b [ true ↦ x | false ↦ y ]) x
chosen x y true e = refl
chosen x y false e = absurd (false≢true e)

pub passed_over : (x y : List Node) (b : Bool) → b ≡ false → ◌≡◌ {A = List Node} (elim b [ true ↦ x | false ↦ y ]) y
passed_over x y true e = absurd (false≢true (sym e))
passed_over x y false e = refl

module _ (columns : ℕ → ℕ) (short : Bool) where
  pub wanted_maybe : (w : MaybeCondition) (s : scopes.Scope) (p n : ℕ) → translate_maybe columns short w s p n ≡ translate_wanted columns short itself w s p n
  unfolding translate_maybe
  wanted_maybe calculus.no_condition s p n = refl
  wanted_maybe (on_condition f) s p n = refl

  module _ (wanted : Wanted) (s : scopes.Scope) (p : ℕ) where
    abbrev pub Writes : List ℕ → ℕ → Condition → List ℕ → ℕ → Type 0
    Writes plan n f after count = Written plan n (translate_condition columns short f wanted s p n) after count

    abbrev pub WritesMaybe : List ℕ → ℕ → MaybeCondition → List ℕ → ℕ → Type 0
    WritesMaybe plan n w after count = Written plan n (translate_wanted columns short wanted w s p n) after count

    module _ {plan after : List ℕ} {n count : ℕ} {w : MaybeCondition} where
      pub written-restriction : {f : Condition} → w ≡ on_condition f → Writes plan n f after count → WritesMaybe plan n w after count
      written-restriction e v = written_as (ap (λ (m : MaybeCondition). translate_wanted columns short wanted m s p n) e) v

      pub written-condition : {f : Condition} → w ≡ on_condition f → WritesMaybe plan n w after count → Writes plan n f after count
      written-condition e v = written_as (sym (ap (λ (m : MaybeCondition). translate_wanted columns short wanted m s p n) e)) v

    pub written_none : (plan : List ℕ) (n : ℕ) {w : MaybeCondition} → w ≡ calculus.no_condition → WritesMaybe plan n w plan n
    written_none plan n e = written_as (ap (λ (m : MaybeCondition). translate_wanted columns short wanted m s p n) e) (written-nothing plan n)

    -- the nodes of f, which others go on behind
    module _ {plan middle : List ℕ} {n m : ℕ} (f : Condition) (v : Written plan n (translate_condition columns short f itself s p n) middle m) where
      pub and_written : (g : Condition) {after : List ℕ} {count : ℕ} → Written middle m (translate_condition columns short g itself s (m - 1) m) after count → Writes plan n (condition_and f g) after count
      unfolding translate_condition
      and_written g w = going_on (λ q k. translate_condition columns short g itself s q k) v w

      pub or_written : (g : Condition) {later after : List ℕ} {k count : ℕ} → Written middle m (translate_condition columns short g itself s p m) later k → Written later k (unite (m - 1) (k - 1) ∷ []) after count → Writes plan n (condition_or f g) after count
      unfolding translate_condition
      or_written g w u =
          let both = going_on (λ _ k. translate_condition columns short g itself s p k) v w in
          written_then both (written_as (ap₂ (λ (i j : ℕ). unite i j ∷ []) (last_is v) (last_is both)) u)

      not_written : {after : List ℕ} {count : ℕ} → (short && (short_rule3_fits f || short_rule6_fits f)) ≡ false → Written middle m (subtract p (m - 1) ∷ []) after count → Writes plan n (condition_not f) after count
      unfolding translate_condition
      not_written e u = written_as (passed_over _ _ (short && (short_rule3_fits f || short_rule6_fits f)) e) (going_on (λ i _. subtract p i ∷ []) v u)

    opposite-written : {plan after : List ℕ} {n count : ℕ} (f : Condition) → (short && (short_rule3_fits f || short_rule6_fits f)) ≡ true → Written plan n (translate_condition columns short f its_opposite s p n) after count → Writes plan n (condition_not f) after count
    unfolding translate_condition
    opposite-written f e w = written_as (chosen _ _ (short && (short_rule3_fits f || short_rule6_fits f)) e) w

-- an atom, or its opposite (S6); it is never divided
pub atom-written : {catalogue plan : List ℕ} {scope : Carried} {n : ℕ} (wanted : code.Wanted) (a : calculus.Atom) → ConditionReady catalogue plan (wanted_in wanted) (on_condition (calculus.atom a)) scope n → (short : Bool) (p : ℕ) {opposite : Bool} {after : List ℕ} {count : ℕ} → opposite ≡ opposite_wanted wanted
    → Written plan n (atom_nodes opposite (scope_of scope) p a) after count → Written plan n (translate_condition (columns_of catalogue) short (calculus.atom a) (wanted_in wanted) (scope_of scope) p n) after count
unfolding translate_condition
atom-written {scope = scope} Itself a r short p e w = written_as (ap (λ (b : Bool). atom_nodes b (scope_of scope) p a) (sym e)) w
atom-written {scope = scope} Opposite a r short p e w = written_as (ap (λ (b : Bool). atom_nodes b (scope_of scope) p a) (sym e)) w
atom-written (Division y k) a r short p e w = absurd (false≢true r.good.fits)

-- the nodes of a part that was handed down by its reference
part-written : {catalogue : List ℕ} {scope : Carried} (short : Bool) (p : ℕ) (words : List ℕ) (reference : ℕ) {plan after : List ℕ} {n count : ℕ} → Ready catalogue scope plan (condition_at words reference) n → WritesMaybe (columns_of catalogue) short itself (scope_of scope) p plan n (restriction_at words reference) after count → Writes (columns_of catalogue) short itself (scope_of scope) p plan n (condition_at words reference) after count
part-written {catalogue} {scope} short p words reference r w =
    written-condition (columns_of catalogue) short itself (scope_of scope) p (restriction-good (columns_of catalogue) (relations_of catalogue) (scope_of scope) words reference (good_of r)) w

-- What is known of each kind of node that a reference names: its reading, its parts, and that they are ready.

pub record AtomHere (found : question-atom.Atom) (words plan : List ℕ) (reference n : ℕ) : Type 0 where
  pub reads : restriction_at words reference ≡ on_condition (calculus.atom (atom_of found))
  pub narrow : AtomNarrow found
  pub room : Room plan n 1

pub record TwoSides (join : Condition → Condition → Condition) (left right : ℕ) (catalogue words plan : List ℕ) (scope : Carried) (reference n : ℕ) : Type 0 where
  pub reads : restriction_at words reference ≡ on_condition (join (condition_at words left) (condition_at words right))
  pub parts : Part words reference left × Part words reference right
  pub ready : BothReady catalogue scope plan (condition_at words left) (condition_at words right) n

pub record OneInner (inner : ℕ) (catalogue words plan : List ℕ) (scope : Carried) (reference n : ℕ) : Type 0 where
  pub reads : restriction_at words reference ≡ on_condition (condition_not (condition_at words inner))
  pub part : Part words reference inner
  pub ready : ReadyWith catalogue scope plan (condition_at words inner) n 4

pub record Quantified (quantifier : Quantifier) (variable range condition : ℕ) (catalogue words plan : List ℕ) (wanted : Wanted) (scope : Carried) (reference n : ℕ) : Type 0 where
  pub reads : restriction_at words reference ≡ on_condition (quantified quantifier variable (range_at words range) (condition_at words condition))
  pub known : variable < variable_count
  pub parts : Part words reference range × Part words reference condition
  pub ready : ConditionReady catalogue plan wanted (on_condition (quantified quantifier variable (range_at words range) (condition_at words condition))) scope n

module _ {catalogue words plan : List ℕ} {scope : Carried} {reference n : ℕ} (wanted : Wanted) (h : Names words reference) (r : ConditionReady catalogue plan wanted (restriction_at words reference) scope n) where
  pub atom_step : {found : question-atom.Atom} {a b c : ℕ} → made (Compares found) a b c ≡ node_at words (reference - 1) → AtomHere found words plan reference n
  atom_step {found} {a} {b} {c} e =
      let reads = restriction_is words reference (made (Compares found) a b c) h.0 e in
      record { reads = reads; narrow = found_narrow words (reference - 1) e refl; room = atom-room (plain_ready wanted _ (λ y. refl) (ready_as (sym reads) r)) }

  pub and_step : {left right c : ℕ} → made (Connects And) left right c ≡ node_at words (reference - 1) → TwoSides condition_and left right catalogue words plan scope reference n
  and_step {left} {right} {c} e =
      let reads = restriction_is words reference (made (Connects And) left right c) h.0 e in
      record { reads = reads; parts = and_parts words reference h e; ready = and_ready (plain_ready wanted _ (λ y. refl) (ready_as (sym reads) r)) }

  pub or_step : {left right c : ℕ} → made (Connects Or) left right c ≡ node_at words (reference - 1) → TwoSides condition_or left right catalogue words plan scope reference n
  or_step {left} {right} {c} e =
      let reads = restriction_is words reference (made (Connects Or) left right c) h.0 e in
      record { reads = reads; parts = or_parts words reference h e; ready = or_ready (plain_ready wanted _ (λ y. refl) (ready_as (sym reads) r)) }

  pub not_step : {inner b c : ℕ} → made (Connects Not) inner b c ≡ node_at words (reference - 1) → OneInner inner catalogue words plan scope reference n
  not_step {inner} {b} {c} e =
      let reads = restriction_is words reference (made (Connects Not) inner b c) h.0 e in
      record { reads = reads; part = not_part words reference h e; ready = not_ready (plain_ready wanted _ (λ y. refl) (ready_as (sym reads) r)) }

  pub quantifier_step : {quantifier : Quantifier} {variable a range condition : ℕ} → made (Binds variable (Quantifies quantifier)) a range condition ≡ node_at words (reference - 1) → Quantified quantifier variable range condition catalogue words plan wanted scope reference n
  quantifier_step {quantifier} {variable} {a} {range} {condition} e =
      let reads = restriction_is words reference (made (Binds variable (Quantifies quantifier)) a range condition) h.0 e in
      record { reads = reads; known = binder_variable words reference h e; parts = quantifier_parts words reference h e; ready = ready_as (sym reads) r }

-- the sides of an "and" or an "or", one written behind the other
module _ {catalogue words plan : List ℕ} {scope : Carried} {join : Condition → Condition → Condition} {reference n left right : ℕ} (b : TwoSides join left right catalogue words plan scope reference n) where
  pub left_ready : ConditionReady catalogue plan itself (restriction_at words left) scope n
  left_ready = ready_at words left b.ready.0.ready

  module _ (short : Bool) (p : ℕ) {middle : List ℕ} {m : ℕ} (v : WritesMaybe (columns_of catalogue) short itself (scope_of scope) p plan n (restriction_at words left) middle m) where
    pub left-written : Writes (columns_of catalogue) short itself (scope_of scope) p plan n (condition_at words left) middle m
    left-written = part-written short p words left b.ready.0.ready v

    right_side : ReadyWith catalogue scope middle (condition_at words right) m 4
    right_side = next_ready short p left-written b.ready.0 b.ready.1

    pub right_ready : ConditionReady catalogue middle itself (restriction_at words right) scope m
    right_ready = ready_at words right right_side.ready

    module _ (q : ℕ) {after : List ℕ} {count : ℕ} (w : WritesMaybe (columns_of catalogue) short itself (scope_of scope) q middle m (restriction_at words right) after count) where
      pub right-written : Writes (columns_of catalogue) short itself (scope_of scope) q middle m (condition_at words right) after count
      right-written = part-written short q words right right_side.ready w

      pub room-behind_both : Room after count 1
      room-behind_both = room-less 1 (room-behind short q right-written right_side) (omega arith)

-- what is below a "not": its opposite where a rule fits
module _ {catalogue words plan : List ℕ} {scope : Carried} {reference n inner : ℕ} (b : OneInner inner catalogue words plan scope reference n) where
  abbrev f : Condition
  f = condition_at words inner

  -- a question has at most 64 nodes where the plan has room for four of each
  pub inner_few : condition_nodes f ≤ question_node_limit
  inner_few = omega (arith, b.ready.room.nodes)

  reads_inner : restriction_at words inner ≡ on_condition f
  reads_inner = restriction-good (columns_of catalogue) (relations_of catalogue) (scope_of scope) words inner (good_of b.ready.ready)

  module _ (short : Bool) {fits : Bool} (e : fits ≡ (short_rule3_fits f || short_rule6_fits f)) {wanted : code.Wanted} (d : wanted ≡ opposite_if (short && fits)) where
    as_tested : (test : Bool) → (short && fits) ≡ test → ConditionReady catalogue plan (wanted_in (opposite_if test)) (on_condition f) scope n
    as_tested true h = let r = b.ready.ready in
        record { good = (r.good, sym e ∙ and_right short fits h); fits = r.fits; stored = r.stored; some-nodes = r.some-nodes; room = r.room }
    as_tested false h = b.ready.ready

    pub inner_ready : ConditionReady catalogue plan (wanted_in wanted) (restriction_at words inner) scope n
    inner_ready = subst (λ (w : code.Wanted). ConditionReady catalogue plan (wanted_in w) (restriction_at words inner) scope n) (sym d) (ready_as reads_inner (as_tested (short && fits) refl))

    module _ (p : ℕ) {after : List ℕ} {count : ℕ} (w : WritesMaybe (columns_of catalogue) short (wanted_in wanted) (scope_of scope) p plan n (restriction_at words inner) after count) where
      met : (test : Bool) → (short && fits) ≡ test → Writes (columns_of catalogue) short (wanted_in (opposite_if test)) (scope_of scope) p plan n f after count
      met test h =
          written_as
          (ap (λ (v : code.Wanted). translate_condition (columns_of catalogue) short f (wanted_in v) (scope_of scope) p n) (sym (d ∙ ap opposite_if h)) ∙ sym (ap (λ (m : MaybeCondition). translate_wanted (columns_of catalogue) short (wanted_in wanted) m (scope_of scope) p n) reads_inner))
          w

      tested : (test : Bool) → (short && fits) ≡ test → (short && (short_rule3_fits f || short_rule6_fits f)) ≡ test
      tested test h = ap (λ (b : Bool). short && b) (sym e) ∙ h

      pub opposite-done : (above : Wanted) → (short && fits) ≡ true → Writes (columns_of catalogue) short above (scope_of scope) p plan n (condition_not f) after count
      opposite-done above h = opposite-written (columns_of catalogue) short above (scope_of scope) p f (tested true h) (met true h)

      pub room-behind_inner : (short && fits) ≡ false → Room after count 1
      room-behind_inner h = room-less 1 (room-behind short p (met false h) b.ready) (omega arith)

      pub not_done : (above : Wanted) → (short && fits) ≡ false → {end : List ℕ} {total : ℕ} → Written after count (subtract p (count - 1) ∷ []) end total → Writes (columns_of catalogue) short above (scope_of scope) p plan n (condition_not f) end total
      not_done above h u = not_written (columns_of catalogue) short above (scope_of scope) p f (met false h) (tested false h) u
