-- The columns of targets, and the targets that are still to be listed. Assumes nothing.
use Prim.Native.Nat.{ℕ, zero, suc, ◌+◌, ◌-◌, ◌≤◌, ◌<◌}
use mathlib.Core.Path.{◌≡◌, refl, sym, ap, subst, ◌∙◌}
use mathlib.Core.List.{List, [], ◌∷◌}
use native.Mathlib.Omega.{arith}
use lib.ListN.{length, length-append, length-map}
use Rattle.relations.specs.Limits.{list_words}
use Rattle.relations.specs.Lists.{All, flat}
use Rattle.relations.specs.Columns.{Attribute, attribute}
use Rattle.calculus.specs.Question.{Target, whole_row, one_attribute}
use Rattle.calculus.specs.Scope.{target_columns}
use Rattle.calculus.specs.Form.{GoodTarget}
use Rattle.question.specs.Trees.{target_of}
use Rattle.nodes.specs.Nodes.{node_at}
use Rattle.nodes.specs.Kinds.{is_target}
use Rattle.nodes.specs.declared.node.Form.TheVariants.{Target as TargetForm}
use Rattle.nodes.proofs.Forms.{lower_if_any}
use Rattle.conditions.specs.Readings.{Inside, targets_at}
use Rattle.conditions.specs.declared.scope.Scope.{Scope as Carried}
use Rattle.conditions.specs.Scopes.{scope_of, ScopeFits}
use Rattle.conditions.proofs.Readings.{made, fits_in, targets_is}
use Rattle.emission.specs.NodeLists.{node_list, grown_by, numbers_of}
use Rattle.emission.specs.declared.node_list.NodeList.{NodeList}
use Rattle.emission.proofs.NodeListLaws.{numbers-append, grown_used, grown_step, grown_none, grown-list}
use Rattle.plan_steps.specs.Targets.{TargetsReady}

pub whole_target : (variable : ℕ) {number : ℕ} → number ≡ 0 → target_of variable number ≡ whole_row variable
whole_target variable e = ap (target_of variable) e

pub one_target : (variable number : ℕ) → (number ≡ 0 → ⊥) → target_of variable number ≡ one_attribute variable (attribute number)
one_target variable zero h = absurd (h refl)
one_target variable (suc n) h = refl

abbrev columns_of_targets : (words : List ℕ) (scope : Carried) → ℕ → List Attribute
columns_of_targets words scope reference = flat (target_columns (scope_of scope)) (targets_at words reference)

-- the targets from a reference on are still to be listed, and then all are
pub record TargetsLeft (words : List ℕ) (scope : Carried) (whole reference : ℕ) (list : NodeList) : Type 0 where
  pub inside : Inside words reference
  pub good : All (GoodTarget (scope_of scope)) (targets_at words reference)
  pub few : list.used + length (columns_of_targets words scope reference) ≤ list_words
  pub rest : grown_by list (numbers_of (columns_of_targets words scope reference)) ≡ node_list (numbers_of (columns_of_targets words scope whole))

pub targets_start : {words : List ℕ} {scope : Carried} {reference : ℕ} {list : NodeList} → TargetsReady words reference scope → list ≡ node_list [] → TargetsLeft words scope reference reference list
targets_start {words} {scope} {reference} {list} r e =
    let columns : List Attribute = columns_of_targets words scope reference in
    record {
      inside = r.inside;
      good = r.good;
      few = omega (arith, r.few, ap (λ (l : NodeList). l.used) e);
      rest = grown-list (numbers_of columns) e refl (omega (arith, r.few, length-map columns (λ (a : Attribute). a.number)));
    }

module _ {words : List ℕ} {scope : Carried} {whole reference : ℕ} {list : NodeList} (left : TargetsLeft words scope whole reference list) where
  -- the next node is a target
  module _ {variable number a b next : ℕ} (named : 1 ≤ reference) (e : made (TargetForm variable (record { 0 = number })) a b next ≡ node_at words (reference - 1)) where
    abbrev here : List Attribute
    here = target_columns (scope_of scope) (target_of variable number)

    reads : targets_at words reference ≡ target_of variable number ∷ targets_at words next
    reads = targets_is words reference (made (TargetForm variable (record { 0 = number })) a b next) named e

    good_here : All (GoodTarget (scope_of scope)) (target_of variable number ∷ targets_at words next)
    good_here = subst (All (GoodTarget (scope_of scope))) reads left.good

    few_here : length (columns_of_targets words scope reference) ≡ length here + length (columns_of_targets words scope next)
    few_here = ap (λ (ts : List Target). length (flat (target_columns (scope_of scope)) ts)) reads ∙ length-append here (columns_of_targets words scope next)

    pub next-lower : next < reference
    next-lower = omega (arith, lower_if_any words (reference - 1) next is_target refl (fits_in words (reference - 1) e).c_fits)

    pub target_ready : ScopeFits scope → ScopeFits scope × GoodTarget (scope_of scope) (target_of variable number) × (list.used + length here ≤ list_words)
    target_ready fits = (fits, good_here.0, omega (arith, left.few, few_here))

    pub targets_on : {longer : NodeList} → longer ≡ grown_by list (numbers_of here) → TargetsLeft words scope whole next longer
    targets_on {longer} grown =
        record {
          inside = omega (arith, left.inside, next-lower);
          good = good_here.1;
          few = omega (arith, left.few, few_here, grown_used _ _ grown, length-map here (λ (a : Attribute). a.number));
          rest =
              grown_step list (numbers_of here) (numbers_of (columns_of_targets words scope next)) grown
              ∙ ap (grown_by list) (sym (ap (λ (ts : List Target). numbers_of (flat (target_columns (scope_of scope)) ts)) reads ∙ numbers-append here (columns_of_targets words scope next)))
              ∙ left.rest;
        }

  -- it is none
  pub none_left : targets_at words reference ≡ [] → list ≡ node_list (numbers_of (columns_of_targets words scope whole))
  none_left e = sym (grown_none list) ∙ ap (λ (ts : List Target). grown_by list (numbers_of (flat (target_columns (scope_of scope)) ts))) (sym e) ∙ left.rest
