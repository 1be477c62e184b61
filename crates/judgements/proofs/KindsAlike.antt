-- What `calculus` says of kinds that share a form, once for all of them. A new range operation or quantifier has its clauses here. Assumes nothing.
use mathlib.Core.Path.{◌≡◌, refl}
use mathlib.Core.Bool.{true}
use Prim.Native.Nat.{ℕ, ◌+◌, ◌≤◌}
use native.Mathlib.Omega.{arith}
use borrow.Author.Tests.{leb-true}
use Rattle.relations.specs.Limits.{column_limit}
use Rattle.calculus.specs.Question.{Range, Condition, range_nodes, condition_nodes}
use Rattle.calculus.specs.Scope.{Scope, extend, columns_in}
use Rattle.calculus.specs.Form.{NotInScope, width_of_range, GoodRange, GoodCondition}
use Rattle.question.specs.Trees.{combined, connected, quantified}
use Rattle.nodes.specs.declared.node.Combination.{Combination}
use Rattle.nodes.specs.declared.node.Combination.TheVariants as combination
use Rattle.nodes.specs.declared.node.Connective.{Connective}
use Rattle.nodes.specs.declared.node.Quantifier.{Quantifier}
use Rattle.nodes.specs.declared.node.Quantifier.TheVariants.{Some, Every, AtLeast}
use Rattle.nodes.proofs.Forms.{quantifier_fits}
use Rattle.judgements.proofs.SortedTrees.{Joins, and_joins, or_joins}

pub combined-nodes : (k : Combination) (a b : Range) → range_nodes (combined k a b) ≡ range_nodes a + range_nodes b + 1
unfolding range_nodes
combined-nodes combination.Or a b = refl
combined-nodes combination.And a b = refl
combined-nodes combination.AndNot a b = refl

pub joined-nodes : {k : Connective} → Joins k → (f g : Condition) → condition_nodes (connected k f g) ≡ condition_nodes f + condition_nodes g + 1
unfolding condition_nodes
joined-nodes and_joins f g = refl
joined-nodes or_joins f g = refl

pub quantified-nodes : (q : Quantifier) (v : ℕ) (r : Range) (f : Condition) → condition_nodes (quantified q v r f) ≡ range_nodes r + condition_nodes f + 1
unfolding condition_nodes
quantified-nodes Some v r f = omega arith
quantified-nodes Every v r f = omega arith
quantified-nodes (AtLeast least) v r f = omega arith

module _ (columns : ℕ → ℕ) where
  pub combined-width : (k : Combination) (a b : Range) → width_of_range columns (combined k a b) ≡ width_of_range columns a
  unfolding width_of_range
  combined-width combination.Or a b = refl
  combined-width combination.And a b = refl
  combined-width combination.AndNot a b = refl

  module _ (relations : ℕ) where
    pub combined-good : (k : Combination) (a b : Range) → GoodRange columns relations (combined k a b) ≡ (GoodRange columns relations a × GoodRange columns relations b × (width_of_range columns a ≡ width_of_range columns b))
    unfolding GoodRange
    combined-good combination.Or a b = refl
    combined-good combination.And a b = refl
    combined-good combination.AndNot a b = refl

    pub joined-good : {k : Connective} → Joins k → (f g : Condition) (s : Scope) → GoodCondition columns relations (connected k f g) s ≡ (GoodCondition columns relations f s × GoodCondition columns relations g s)
    unfolding GoodCondition
    joined-good and_joins f g s = refl
    joined-good or_joins f g s = refl

    -- what every quantifier asks of its variable, its range and its condition
    abbrev pub QuantifierParts : ℕ → Range → Condition → Scope → Type 0
    QuantifierParts v r f s = NotInScope v s × GoodRange columns relations r × GoodCondition columns relations f (extend s v (width_of_range columns r)) × (columns_in s + width_of_range columns r ≤ column_limit)

    -- "at least" asks besides that its range has a column and its number is not 0
    pub quantified-good : (q : Quantifier) (v : ℕ) (r : Range) (f : Condition) (s : Scope) → quantifier_fits q ≡ true → 1 ≤ width_of_range columns r → QuantifierParts v r f s → GoodCondition columns relations (quantified q v r f) s
    unfolding GoodCondition
    quantified-good Some v r f s fits wide parts = parts
    quantified-good Every v r f s fits wide parts = parts
    quantified-good (AtLeast least) v r f s fits wide parts = (parts.0, parts.1, parts.2, parts.3, wide, leb-true 1 least fits)

    pub quantified_parts : (q : Quantifier) (v : ℕ) (r : Range) (f : Condition) (s : Scope) → GoodCondition columns relations (quantified q v r f) s → QuantifierParts v r f s
    unfolding GoodCondition
    quantified_parts Some v r f s good = good
    quantified_parts Every v r f s good = good
    quantified_parts (AtLeast least) v r f s good = (good.0, good.1, good.2, good.3)
