-- Translating bindings: what each asks for, and what the chain leaves. Assumes nothing.
use Prim.Native.Nat.{ℕ, ◌+◌, ◌*◌, ◌-◌, ◌≤◌, ◌<◌}
use Rattle.std.specs.Prelude.{Some}
use mathlib.Core.Path.{◌≡◌, refl, sym, ap, ap₂, subst, ◌∙◌}
use mathlib.Core.Bool.{Bool}
use mathlib.Core.List.{List, [], ◌∷◌}
use native.Mathlib.Omega.{arith}
use borrow.Author.Tests.{ltb-true}
use Rattle.relations.specs.Limits.{column_limit, variable_count}
use Rattle.relations.specs.Nodes.{join}
use Rattle.calculus.specs.Question.{Range, Bindings, no_more, bind, range_nodes, binding_nodes}
use Rattle.calculus.specs.Scope.{columns_in, extend}
use Rattle.calculus.specs.Form.{width_of_range, scope_of_bindings, GoodRange, GoodBindings}
use Rattle.calculus.specs.Translation.{translate_bindings}
use Rattle.calculus.proofs.SizeTheorem.{range_size}
use Rattle.catalogue.specs.Stored.{relations_of, columns_of}
use Rattle.nodes.specs.Kinds.{is_binding, is_range}
use Rattle.nodes.specs.Nodes.{node_at, VariablesFit}
use Rattle.nodes.specs.declared.node.Binder.TheVariants.{Binding, Quantifies}
use Rattle.nodes.specs.declared.node.Form.{Form}
use Rattle.nodes.specs.declared.node.Form.TheVariants.{Table, Alpha, Target, Binds, Combines, Compares, Connects, IllFormed}
use Rattle.nodes.specs.declared.node.Node.{Node}
use Rattle.question.specs.Trees.{Reading, reading_of}
use Rattle.nodes.proofs.Forms.{lower, lower_if_any, node_variables}
use Rattle.conditions.specs.declared.scope.Scope.{Scope as Carried}
use Rattle.conditions.specs.Readings.{Inside, Names, reading_at, range_at, bindings_at}
use Rattle.conditions.specs.Scopes.{with_variable, scope_of, ScopeFits, Extended}
use Rattle.plan_steps.specs.Ranges.{binding_variable, RangeDone}
use Rattle.plan_writing.specs.Translating.{with_bindings, RangeReady, BindingsReady, BindingsDone}
use Rattle.emission.specs.Written.{Room, Written}
use Rattle.plan_steps.specs.declared.ranges.MadeRange.{MadeRange}
use Rattle.conditions.proofs.Readings.{made, made_is, Below, fits_in, bindings_is}
use Rattle.plan_writing.proofs.RangeSteps.{lower_call, range-wide}
use Rattle.emission.proofs.WrittenLaws.{written-nothing, written_then, room_after, room-less, written_as, going_on}

-- a node that is a binding: where its range and the next binding are, and what it reads as
pub record Chain (words : List ℕ) (reference variable range next : ℕ) : Type 0 where
  pub named : 1 ≤ reference
  pub variable-known : variable < variable_count
  pub range_below : Below reference range
  pub next_below : next ≤ reference - 1
  pub reads : bindings_at words reference ≡ bind variable (range_at words range) (bindings_at words next)

pub chain : (words : List ℕ) {reference variable a range next : ℕ} → 1 ≤ reference → made (Binds variable Binding) a range next ≡ node_at words (reference - 1) → Chain words reference variable range next
chain words {reference} {variable} {a} {range} {next} named e =
    let i : ℕ = reference - 1 in
    let fit = fits_in words i e in
    record {
      named = named;
      variable-known = ltb-true variable variable_count fit.words-fit;
      range_below = lower words i range is_range refl fit.b_fits;
      next_below = lower_if_any words i next is_binding refl fit.c_fits;
      reads = bindings_is words reference (made (Binds variable Binding) a range next) named e;
    }

-- a decoded node, by the variable that the code asks for: it is a binding, or it reads as none
binding_is : (form : Form) {variable : ℕ} → Some variable ≡ binding_variable form → form ≡ Binds variable Binding
binding_is (Table relation) e = cc
binding_is Alpha e = cc
binding_is (Target variable attribute) e = cc
binding_is (Binds variable Binding) e = cc
binding_is (Binds variable (Quantifies quantifier)) e = cc
binding_is (Combines combination) e = cc
binding_is (Compares atom) e = cc
binding_is (Connects connective) e = cc
binding_is IllFormed e = cc

no_binding_lem : (form : Form) (a b c : Reading) → ((variable : ℕ) → binding_variable form ≡ Some variable → ⊥) → (reading_of form a b c).bindings ≡ no_more
no_binding_lem (Table relation) a b c h = refl
no_binding_lem Alpha a b c h = refl
no_binding_lem (Target variable attribute) a b c h = refl
no_binding_lem (Binds variable Binding) a b c h = absurd (h variable refl)
no_binding_lem (Binds variable (Quantifies quantifier)) a b c h = refl
no_binding_lem (Combines combination) a b c h = refl
no_binding_lem (Compares atom) a b c h = refl
no_binding_lem (Connects connective) a b c h = refl
no_binding_lem IllFormed a b c h = refl

module _ (words : List ℕ) (reference : ℕ) {node : Node} (e : node ≡ node_at words (reference - 1)) where
  pub binding_made : {variable : ℕ} → Some variable ≡ binding_variable node.form → made (Binds variable Binding) node.a node.b node.c ≡ node_at words (reference - 1)
  binding_made v = made_is words (reference - 1) (binding_is node.form v) e

  pub none_bound : 1 ≤ reference → ((variable : ℕ) → binding_variable node.form ≡ Some variable → ⊥) → bindings_at words reference ≡ no_more
  none_bound named none =
      bindings_is words reference node named e ∙ no_binding_lem node.form (reading_at words node.a) (reading_at words node.b) (reading_at words node.c) none

-- the parts of a good chain
record Parts (catalogue : List ℕ) (scope : Carried) (variable : ℕ) (range : Range) (rest : Bindings) : Type 0 where
  range-good : GoodRange (columns_of catalogue) (relations_of catalogue) range
  rest_good : GoodBindings (columns_of catalogue) (relations_of catalogue) rest (extend (scope_of scope) variable (width_of_range (columns_of catalogue) range))
  few_columns : columns_in (scope_of scope) + width_of_range (columns_of catalogue) range ≤ column_limit

parts : {catalogue plan : List ℕ} {scope : Carried} {n : ℕ} {variable : ℕ} {range : Range} {rest : Bindings} → BindingsReady catalogue plan (bind variable range rest) scope n → Parts catalogue scope variable range rest
unfolding GoodBindings
parts ready = record { range-good = ready.good.1; rest_good = ready.good.2; few_columns = ready.good.3 }

bind-size : (variable : ℕ) (range : Range) (rest : Bindings) → binding_nodes (bind variable range rest) ≡ range_nodes range + 1 + binding_nodes rest
unfolding binding_nodes
bind-size variable range rest = refl

-- from what the chain was asked with: the call on its range, room for the product, the longer scope, the call on the next bindings, and what is left
module _ {words : List ℕ} {reference variable range next : ℕ} (link : Chain words reference variable range next) {catalogue plan : List ℕ} {t n : ℕ} {scope : Carried} (asked : (2 * reference ≡ t) × (Inside words reference × BindingsReady catalogue plan (bindings_at words reference) scope n)) where
  abbrev first : Range
  first = range_at words range

  abbrev rest : Bindings
  rest = bindings_at words next

  ready : BindingsReady catalogue plan (bind variable first rest) scope n
  ready = subst (λ bindings. BindingsReady catalogue plan bindings scope n) link.reads asked.1.1

  pub call_bound : (2 * range < t) × (Names words range × RangeReady catalogue plan first n)
  call_bound =
      lower_call words (omega (arith, asked.0)) (link.named, asked.1.0) link.range_below (record { good = (parts ready).range-good; stored = ready.stored; room = room-less _ ready.room (omega (arith, bind-size variable first rest)) })

  module _ {short : Bool} {middle : List ℕ} {made : MadeRange} (r : RangeDone catalogue short plan first n middle made) where
    room_bound : Room middle made.count (4 * binding_nodes rest + 1)
    room_bound = room_after _ ready.room r.written (omega (arith, bind-size variable first rest, range_size (columns_of catalogue) short first n))

    pub room_product : Room middle made.count 1
    room_product = room-less 1 room_bound (omega arith)

    pub scope_grows : (variable < variable_count) × ScopeFits scope × (1 ≤ made.width) × (columns_in (scope_of scope) + made.width ≤ column_limit)
    scope_grows = (link.variable-known, ready.fits, omega (arith, r.width, range-wide catalogue ready.stored first (parts ready).range-good), omega (arith, r.width, (parts ready).few_columns))

    module _ {p : ℕ} {later : List ℕ} {count : ℕ} {longer : Carried} (w : Written middle made.count (join p (made.count - 1) [] ∷ []) later count) (extended : Extended scope variable made.width longer) where
      stands : scope_of longer ≡ extend (scope_of scope) variable (width_of_range (columns_of catalogue) first)
      stands = extended.stands ∙ ap (extend (scope_of scope) variable) r.width

      pub call_next : (2 * next < t) × (Inside words next × BindingsReady catalogue later rest longer count)
      call_next = (
        omega (arith, asked.0, link.named, link.next_below),
        (
          omega (arith, asked.1.0, link.next_below),
          record {
            good = subst (GoodBindings (columns_of catalogue) (relations_of catalogue) rest) (sym stands) (parts ready).rest_good;
            fits = extended.fits;
            stored = ready.stored;
            some-nodes = omega (arith, w.counted);
            room = room_after _ room_bound w (omega arith);
          },
        ),
      )

      pub bindings-done : {after : List ℕ} {grown : Carried} {total : ℕ} → BindingsDone catalogue short later rest longer made.count count after grown total → BindingsDone catalogue short plan (bindings_at words reference) scope p n after grown total
      unfolding translate_bindings scope_of_bindings with_bindings
      bindings-done {after} {grown} {total} d =
          let written : Written plan n (translate_bindings (columns_of catalogue) short (bind variable first rest) p n) after total =
          written_then (going_on (λ k m. join p k [] ∷ []) r.written w) (written_as (ap₂ (λ q m. translate_bindings (columns_of catalogue) short rest q m) (sym r.written.counted) (omega (arith, r.written.counted, w.counted))) d.written) in
          subst (λ bindings. BindingsDone catalogue short plan bindings scope p n after grown total) (sym link.reads) (record { written = written; is = d.is ∙ ap (with_bindings catalogue rest) (extended.is ∙ ap (with_variable scope variable) r.width); fits = d.fits; stands = d.stands ∙ ap (scope_of_bindings (columns_of catalogue) rest) stands })

pub no_more-done : {catalogue : List ℕ} {short : Bool} {plan : List ℕ} {bindings : Bindings} {scope : Carried} {p n : ℕ} → bindings ≡ no_more → ScopeFits scope → BindingsDone catalogue short plan bindings scope p n plan scope n
unfolding translate_bindings scope_of_bindings with_bindings
no_more-done {catalogue} {short} {plan} {bindings} {scope} {p} {n} e fits =
    subst (λ bindings. BindingsDone catalogue short plan bindings scope p n plan scope n) (sym e) (record { written = written-nothing plan n; is = refl; fits = fits; stands = refl })
