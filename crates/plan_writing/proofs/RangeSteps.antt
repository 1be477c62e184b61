-- Translating a range: what its parts ask for, and what the whole leaves. Assumes nothing.
use Prim.Native.Nat.{ℕ, ◌+◌, ◌*◌, ◌-◌, ◌≤◌, ◌<◌, max}
use mathlib.Core.Path.{◌≡◌, refl, sym, ap, subst, ◌∙◌}
use mathlib.Core.Bool.{Bool}
use mathlib.Core.List.{List, [], ◌∷◌, ◌++◌}
use native.Mathlib.Omega.{arith}
use lib.ListN.{length}
use Rattle.relations.specs.Nodes.{Node}
use Rattle.calculus.specs.Question.{Range, table, alpha, range_or, range_and, range_and_not, range_nodes}
use Rattle.calculus.specs.Form.{width_of_range, alpha_scope, GoodRange}
use Rattle.calculus.specs.ShortRules.{last_number}
use Rattle.calculus.specs.Translation.{translate_range}
use Rattle.calculus.proofs.LegalColumns.{targets_columns}
use Rattle.calculus.proofs.RuleNodes.{plain_sides}
use Rattle.calculus.proofs.ScopeLaws.{targets-width}
use Rattle.calculus.proofs.SizeTheorem.{range_size}
use Rattle.judgements.specs.Accepted.{HasColumns}
use Rattle.judgements.proofs.KindsAlike.{combined-nodes, combined-width, combined-good}
use Rattle.catalogue.specs.Stored.{relations_of, columns_of}
use Rattle.nodes.specs.Kinds.{is_target, is_binding, is_range, is_condition}
use Rattle.nodes.specs.Nodes.{node_at}
use Rattle.question.specs.Trees.{alpha_of, combined}
use Rattle.nodes.specs.declared.node.Form.TheVariants.{Alpha, Combines}
use Rattle.nodes.proofs.Forms.{lower, lower_if_any}
use Rattle.conditions.specs.Readings.{Inside, Names, range_at, targets_at, bindings_at, restriction_at}
use Rattle.plan_steps.specs.Ranges.{RangeDone}
use Rattle.plan_writing.specs.Translating.{RangeReady}
use Rattle.emission.specs.Joins.{paired}
use Rattle.emission.specs.Written.{Room, Written}
use Rattle.nodes.specs.declared.node.Combination.{Combination}
use Rattle.nodes.specs.declared.node.Combination.TheVariants.{Or, And, AndNot}
use Rattle.plan_steps.specs.declared.ranges.MadeRange.{MadeRange}
use Rattle.conditions.proofs.Readings.{made, Below, fits_in, range_is}
use Rattle.emission.proofs.WrittenLaws.{room_after, room-less, last_is, written_as, going_on}

pub some-nodes : (range : Range) → 1 ≤ range_nodes range
unfolding range_nodes
some-nodes (table relation) = omega arith
some-nodes (alpha targets variable range bindings restriction) = omega arith
some-nodes (range_or a b) = omega arith
some-nodes (range_and a b) = omega arith
some-nodes (range_and_not a b) = omega arith

-- no range is without columns
pub range-wide : (catalogue : List ℕ) → HasColumns catalogue → (range : Range) → GoodRange (columns_of catalogue) (relations_of catalogue) range → 1 ≤ width_of_range (columns_of catalogue) range
unfolding GoodRange width_of_range
range-wide catalogue stored (table relation) good = stored relation good
range-wide catalogue stored (alpha targets variable range bindings restriction) good =
    let s = alpha_scope (columns_of catalogue) variable range bindings in
    omega (arith, (targets_columns s targets good.5 good.3).0, targets-width s targets)
range-wide catalogue stored (range_or a b) good = range-wide catalogue stored a good.0
range-wide catalogue stored (range_and a b) good = range-wide catalogue stored a good.0
range-wide catalogue stored (range_and_not a b) good = range-wide catalogue stored a good.0

-- a call on a reference of a node
pub lower_call : (words : List ℕ) {t reference lower : ℕ} {Ready : Type 0} → 2 * reference ≤ t → Names words reference → Below reference lower → Ready → (2 * lower < t) × (Names words lower × Ready)
lower_call words h names below ready = (omega (arith, names.0, below.1), ((below.0, omega (arith, names.1, below.1)), ready))

-- a range of two ranges: its nodes, by those of its sides
module _ (columns : ℕ → ℕ) where
  sides_nodes : (how : Combination) (short : Bool) (a b : Range) (n : ℕ) → translate_range columns short (combined how a b) n ≡ plain_sides (paired how) (λ m. translate_range columns short a m) (λ m. translate_range columns short b m) n
  unfolding translate_range
  sides_nodes Or short a b n = refl
  sides_nodes And short a b n = refl
  sides_nodes AndNot short a b n = refl

-- from what the whole was asked with: the calls on the two sides, room for the node behind them, and what is left
module _ (how : Combination) (words : List ℕ) (left right : ℕ) {catalogue plan : List ℕ} {t n : ℕ} (asked : (2 * max left right + 1 ≡ t) × (Names words left × Names words right × RangeReady catalogue plan (combined how (range_at words left) (range_at words right)) n)) where
  abbrev columns : ℕ → ℕ
  columns = columns_of catalogue

  abbrev a : Range
  a = range_at words left

  abbrev b : Range
  b = range_at words right

  ready : RangeReady catalogue plan (combined how a b) n
  ready = asked.1.2

  good : GoodRange columns (relations_of catalogue) a × GoodRange columns (relations_of catalogue) b
  good = let g = rw (combined-good columns (relations_of catalogue) how a b) at ready.good in (g.0, g.1)

  pub call_left : (2 * left < t) × (Names words left × RangeReady catalogue plan a n)
  call_left = (omega (arith, asked.0), (asked.1.0, record { good = good.0; stored = ready.stored; room = room-less _ ready.room (omega (arith, combined-nodes how a b)) }))

  module _ {short : Bool} {middle : List ℕ} {first : MadeRange} (l : RangeDone catalogue short plan a n middle first) where
    room-right : Room middle first.count (4 * range_nodes b + 1)
    room-right = room_after _ ready.room l.written (omega (arith, combined-nodes how a b, range_size columns short a n))

    pub call_right : (2 * right < t) × (Names words right × RangeReady catalogue middle b first.count)
    call_right = (omega (arith, asked.0), (asked.1.1, record { good = good.1; stored = ready.stored; room = room-less _ room-right (omega arith) }))

    module _ {later : List ℕ} {second : MadeRange} (r : RangeDone catalogue short middle b first.count later second) where
      pub room_last : Room later second.count 1
      room_last = room_after 1 room-right r.written (omega (arith, range_size columns short b first.count))

      pub sides_done : {after : List ℕ} {count : ℕ} → Written later second.count (paired how (first.count - 1) (second.count - 1) ∷ []) after count → RangeDone catalogue short plan (combined how a b) n after (record { count = count; width = first.width })
      sides_done w =
          let T : ℕ → List Node = λ m. translate_range columns short a m in
          let U : ℕ → List Node = λ m. translate_range columns short b m in
          let both : Written plan n (T n ++ U (n + length (T n))) later second.count = going_on (λ p m. U m) l.written r.written in
          record {
            written = written_as (sides_nodes columns how short a b n ∙ ap (λ (p : ℕ). (T n ++ U (n + length (T n))) ++ (paired how p (last_number n (T n ++ U (n + length (T n)))) ∷ [])) (last_is l.written)) (going_on (λ p m. paired how (first.count - 1) p ∷ []) both w);
            width = l.width ∙ sym (combined-width columns how a b);
            more = omega (arith, l.more, r.more, w.counted);
          }

-- a node that reads as a range of two
pub call_sides : (how : Combination) (catalogue words : List ℕ) {t reference n left right c : ℕ} {plan : List ℕ} → made (Combines how) left right c ≡ node_at words (reference - 1)
    → (2 * reference ≡ t) × (Names words reference × RangeReady catalogue plan (range_at words reference) n) → (2 * max left right + 1 < t) × (Names words left × Names words right × RangeReady catalogue plan (combined how (range_at words left) (range_at words right)) n)
call_sides how catalogue words {reference = reference} {n} {left} {right} {c} {plan} e asked =
    let names = asked.1.0 in
    let fit = fits_in words (reference - 1) e in
    let below : Below reference left = lower words (reference - 1) left is_range refl fit.a_fits in
    let below' : Below reference right = lower words (reference - 1) right is_range refl fit.b_fits in (
      omega (arith, asked.0, names.0, below.1, below'.1),
      ((below.0, omega (arith, names.1, below.1)), (below'.0, omega (arith, names.1, below'.1)), subst (λ range. RangeReady catalogue plan range n) (range_is words reference (made (Combines how) left right c) names.0 e) asked.1.1),
    )

-- the other ranges: what they read as, and their calls

pub room_one : {catalogue plan : List ℕ} {range : Range} {n : ℕ} → RangeReady catalogue plan range n → Room plan n 1
room_one {range = range} ready = room-less 1 ready.room (omega (arith, some-nodes range))

pub done_as : {catalogue before after : List ℕ} {short : Bool} {n : ℕ} {made : MadeRange} {whole range : Range} → whole ≡ range → RangeDone catalogue short before range n after made → RangeDone catalogue short before whole n after made
done_as {catalogue} {before} {after} {short} {n} {made} e done = subst (λ range. RangeDone catalogue short before range n after made) (sym e) done

pub call_alpha : (catalogue words : List ℕ) {t reference n target binding condition : ℕ} {plan : List ℕ} → made Alpha target binding condition ≡ node_at words (reference - 1) → (2 * reference ≡ t) × (Names words reference × RangeReady catalogue plan (range_at words reference) n)
    → (2 * max binding condition + 1 < t) × (Inside words target × Names words binding × Inside words condition × RangeReady catalogue plan (alpha_of (targets_at words target) (bindings_at words binding) (restriction_at words condition)) n)
call_alpha catalogue words {t} {reference} {n} {target} {binding} {condition} {plan} e asked =
    let i : ℕ = reference - 1 in
    let names = asked.1.0 in
    let fit = fits_in words i e in
    let first : target ≤ i = (lower words i target is_target refl fit.a_fits).1 in
    let second : Below reference binding = lower words i binding is_binding refl fit.b_fits in
    let third : condition ≤ i = lower_if_any words i condition is_condition refl fit.c_fits in (
      omega (arith, asked.0, names.0, second.1, third),
      (omega (arith, names.1, first), (second.0, omega (arith, names.1, second.1)), omega (arith, names.1, third), subst (λ range. RangeReady catalogue plan range n) (range_is words reference (made Alpha target binding condition) names.0 e) asked.1.1),
    )
