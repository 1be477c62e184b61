-- Translating an alpha: what its parts ask for, and what the whole leaves. Assumes nothing.
use Prim.Native.Nat.{ℕ, ◌+◌, ◌*◌, ◌-◌, ◌≤◌, ◌<◌, max}
use mathlib.Core.Path.{◌≡◌, sym, ap, subst, ◌∙◌}
use mathlib.Core.Bool.{Bool}
use mathlib.Core.List.{List, [], ◌∷◌, ◌++◌}
use native.Mathlib.Omega.{arith}
use lib.ListN.{length}
use Rattle.relations.specs.Columns.{Attribute}
use Rattle.relations.specs.Limits.{column_limit, variable_count}
use Rattle.relations.specs.Lists.{All, flat}
use Rattle.calculus.specs.Question.{Target, Range, table, alpha, Bindings, no_more, MaybeCondition, range_nodes, binding_nodes, maybe_nodes}
use Rattle.calculus.specs.Scope as scopes
use Rattle.calculus.specs.Scope.{entry, columns_in, target_columns}
use Rattle.calculus.specs.Form.{GoodTarget, targets_width, width_of_range, scope_of_bindings, alpha_scope, GoodRange, GoodBindings, GoodMaybe}
use Rattle.calculus.specs.ShortRules.{project_nodes}
use Rattle.calculus.specs.Translation.{itself, translate_range, translate_bindings, translate_maybe}
use Rattle.calculus.proofs.ScopeLaws.{targets-width}
use Rattle.calculus.proofs.SizeTheorem.{range_size, bindings-size, maybe_size}
use Rattle.catalogue.specs.Stored.{relations_of, columns_of}
use Rattle.nodes.specs.Nodes.{node_at}
use Rattle.question.specs.Trees.{alpha_of}
use Rattle.nodes.specs.declared.node.Binder.TheVariants.{Binding}
use Rattle.nodes.specs.declared.node.Form.TheVariants.{Binds}
use Rattle.conditions.specs.declared.scope.Scope.{Scope as Carried}
use Rattle.conditions.proofs.Readings.{made}
use Rattle.conditions.specs.Readings.{Inside, Names, range_at, targets_at, bindings_at, restriction_at}
use Rattle.conditions.specs.Scopes.{no_variables, scope_of, ScopeFits, Extended}
use Rattle.plan_steps.specs.Ranges.{RangeDone}
use Rattle.plan_steps.specs.Targets.{TargetsReady, TargetsDone}
use Rattle.plan_writing.specs.Translating.{translate_wanted, RangeReady, BindingsReady, BindingsDone, ConditionReady}
use Rattle.emission.specs.Written.{Room, Written}
use Rattle.plan_steps.specs.declared.ranges.MadeRange.{MadeRange}
use Rattle.plan_writing.proofs.BindingSteps.{Chain, chain}
use Rattle.plan_writing.proofs.RangeSteps.{lower_call, range-wide}
use Rattle.plan_writing.proofs.ConditionSteps.{wanted_maybe}
use Rattle.conditions.proofs.ScopeLaws.{empty_fits}
use Rattle.emission.proofs.WrittenLaws.{room_after, room-less, written_as, going_on}

-- what an alpha was asked with, read by its first binding
pub record AlphaAsked (catalogue words plan : List ℕ) (t n target binding condition variable range next : ℕ) : Type 0 where
  pub link : Chain words binding variable range next
  pub measure : 2 * max binding condition + 1 ≡ t
  pub target_inside : Inside words target
  pub binding_inside : Inside words binding
  pub condition-inside : Inside words condition
  pub ready : RangeReady catalogue plan (alpha (targets_at words target) variable (range_at words range) (bindings_at words next) (restriction_at words condition)) n

pub alpha_asked : {catalogue plan : List ℕ} (words : List ℕ) {t n binding variable a range next : ℕ} (target condition : ℕ) → made (Binds variable Binding) a range next ≡ node_at words (binding - 1)
    → (2 * max binding condition + 1 ≡ t) × (Inside words target × Names words binding × Inside words condition × RangeReady catalogue plan (alpha_of (targets_at words target) (bindings_at words binding) (restriction_at words condition)) n)
    → AlphaAsked catalogue words plan t n target binding condition variable range next
alpha_asked {catalogue} {plan} words {n = n} target condition e asked =
    let link = chain words asked.1.1.0 e in
    record {
      link = link;
      measure = asked.0;
      target_inside = asked.1.0;
      binding_inside = asked.1.1.1;
      condition-inside = asked.1.2;
      ready = subst (λ bindings. RangeReady catalogue plan (alpha_of (targets_at words target) bindings (restriction_at words condition)) n) link.reads asked.1.3;
    }

-- what the calls ask for, in their order, and what the whole leaves
module _ {catalogue words plan : List ℕ} {t n target binding condition variable range next : ℕ} (asked : AlphaAsked catalogue words plan t n target binding condition variable range next) where
  abbrev columns : ℕ → ℕ
  columns = columns_of catalogue

  abbrev targets : List Target
  targets = targets_at words target

  abbrev first : Range
  first = range_at words range

  abbrev rest : Bindings
  rest = bindings_at words next

  abbrev restriction : MaybeCondition
  restriction = restriction_at words condition

  abbrev inner : scopes.Scope
  inner = alpha_scope columns variable first rest

  good : GoodRange columns (relations_of catalogue) first × GoodBindings columns (relations_of catalogue) rest (entry variable (width_of_range columns first) ∷ []) × GoodMaybe columns (relations_of catalogue) restriction inner × All (GoodTarget inner) targets × (width_of_range columns first ≤ column_limit) × (1 ≤ length targets) × (targets_width inner targets ≤ column_limit)
  unfolding GoodRange
  good = asked.ready.good

  -- one node more than its parts have is enough for the project
  size : range_nodes first + binding_nodes rest + maybe_nodes restriction + 1 ≤ range_nodes (alpha targets variable first rest restriction)
  unfolding range_nodes
  size = omega arith

  pub call_first : (2 * range < t) × (Names words range × RangeReady catalogue plan first n)
  call_first =
      lower_call words (omega (arith, asked.measure)) (asked.link.named, asked.binding_inside) asked.link.range_below (record { good = good.0; stored = asked.ready.stored; room = room-less _ asked.ready.room (omega (arith, size)) })

  module _ {short : Bool} {middle : List ℕ} {made : MadeRange} (r : RangeDone catalogue short plan first n middle made) where
    pub scope_starts : {start : Carried} → start ≡ no_variables → (variable < variable_count) × ScopeFits start × (1 ≤ made.width) × (columns_in (scope_of start) + made.width ≤ column_limit)
    scope_starts none = rw none (asked.link.variable-known, empty_fits, omega (arith, r.width, range-wide catalogue asked.ready.stored first good.0), omega (arith, r.width, good.4))

    room-first : Room middle made.count (4 * binding_nodes rest + 4 * maybe_nodes restriction + 1)
    room-first = room_after _ asked.ready.room r.written (omega (arith, size, range_size columns short first n))

    module _ {start own : Carried} (none : start ≡ no_variables) (grown : Extended start variable made.width own) where
      own_stands : scope_of own ≡ entry variable (width_of_range columns first) ∷ []
      own_stands = grown.stands ∙ ap (λ (s : Carried). scope_of s ++ (entry variable made.width ∷ [])) none ∙ ap (λ (width : ℕ). entry variable width ∷ []) r.width

      pub call_rest : (2 * next < t) × (Inside words next × BindingsReady catalogue middle rest own made.count)
      call_rest = (
        omega (arith, asked.measure, asked.link.named, asked.link.next_below),
        (
          omega (arith, asked.binding_inside, asked.link.next_below),
          record {
            good = subst (GoodBindings columns (relations_of catalogue) rest) (sym own_stands) good.1;
            fits = grown.fits;
            stored = asked.ready.stored;
            some-nodes = omega (arith, r.more);
            room = room-less _ room-first (omega arith);
          },
        ),
      )

      module _ {later : List ℕ} {scope : Carried} {joined : ℕ} (d : BindingsDone catalogue short middle rest own (made.count - 1) made.count later scope joined) where
        stands : scope_of scope ≡ inner
        stands = d.stands ∙ ap (scope_of_bindings columns rest) own_stands

        pub some-joined : 1 ≤ joined
        some-joined = omega (arith, r.more, d.written.counted)

        room_joined : Room later joined (4 * maybe_nodes restriction + 1)
        room_joined = room_after _ room-first d.written (omega (arith, bindings-size columns short rest (made.count - 1) made.count))

        pub call_condition : (2 * condition < t) × (Inside words condition × ConditionReady catalogue later itself restriction scope joined)
        call_condition = (
          omega (arith, asked.measure),
          (
            asked.condition-inside,
            record {
              good = subst (GoodMaybe columns (relations_of catalogue) restriction) (sym stands) good.2;
              fits = d.fits;
              stored = asked.ready.stored;
              some-nodes = some-joined;
              room = room-less _ room_joined (omega arith);
            },
          ),
        )

        abbrev listed : List Attribute
        listed = flat (target_columns (scope_of scope)) targets

        listed-size : length listed ≡ targets_width inner targets
        listed-size = targets-width (scope_of scope) targets ∙ ap (λ (s : scopes.Scope). targets_width s targets) stands

        module _ {last : List ℕ} {kept : ℕ} (k : Written later joined (translate_wanted columns short itself restriction (scope_of scope) (joined - 1) joined) last kept) where
          met : Written later joined (translate_maybe columns short restriction (scope_of scope) (joined - 1) joined) last kept
          met = written_as (wanted_maybe columns short restriction (scope_of scope) (joined - 1) joined) k

          pub call_targets : TargetsReady words target scope × (1 ≤ kept) × Room last kept 1
          call_targets = (
            record { inside = asked.target_inside; fits = d.fits; good = subst (λ (s : scopes.Scope). All (GoodTarget s) targets) (sym stands) good.3; few = omega (arith, listed-size, good.6) },
            omega (arith, some-joined, k.counted),
            room_after 1 room_joined met (omega (arith, maybe_size columns short restriction (scope_of scope) (joined - 1) joined)),
          )

          pub alpha-done : {after : List ℕ} {done : MadeRange} → TargetsDone short words target scope last kept after done → RangeDone catalogue short plan (alpha_of targets (bindings_at words binding) restriction) n after done
          unfolding translate_range width_of_range
          alpha-done {after} {done} w =
              let e : project_nodes short (columns_in inner) (kept - 1) (flat (target_columns inner) targets) ≡ project_nodes short (columns_in (scope_of scope)) (kept - 1) listed =
              ap (λ (s : scopes.Scope). project_nodes short (columns_in s) (kept - 1) (flat (target_columns s) targets)) (sym stands) in
              let products = going_on (λ p m. translate_bindings columns short rest p m) r.written d.written in
              let restricted = going_on (λ p m. translate_maybe columns short restriction inner p m) products (written_as (ap (λ (s : scopes.Scope). translate_maybe columns short restriction s (joined - 1) joined) (sym stands)) met) in
              subst (λ bindings. RangeDone catalogue short plan (alpha_of targets bindings restriction) n after done) (sym asked.link.reads) (record {
                written = going_on (λ p m. project_nodes short (columns_in inner) p (flat (target_columns inner) targets)) restricted (written_as e w.written);
                width = w.width ∙ listed-size;
                more = omega (arith, r.more, d.written.counted, k.counted, w.written.counted);
              })

-- an alpha without a binding, which refusal 2 shuts out, reads as relation 0
pub no_alpha : (words : List ℕ) (target binding condition : ℕ) → bindings_at words binding ≡ no_more → alpha_of (targets_at words target) (bindings_at words binding) (restriction_at words condition) ≡ table 0
no_alpha words target binding condition e = ap (λ bindings. alpha_of (targets_at words target) bindings (restriction_at words condition)) e
