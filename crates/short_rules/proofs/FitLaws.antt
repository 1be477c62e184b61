-- When the short rules fit a node's condition. Assumes nothing.
use Prim.Native.Nat.{ℕ, ◌-◌, ◌≤◌, ◌<◌}
use Rattle.std.specs.Prelude.{Some, None}
use mathlib.Core.Path.{◌≡◌, refl, sym, ap, ◌∙◌}
use mathlib.Core.Bool.{Bool, true, false, ◌||◌, or-false, true≢false}
use mathlib.Core.List.{List}
use native.Mathlib.Omega.{arith}
use Rattle.relations.specs.Limits.{question_node_limit}
use Rattle.calculus.specs.Question.{Range, Condition, for_some, condition_nodes}
use Rattle.calculus.specs.ShortRules.{short_rule2_fits, short_rule3_fits, short_rule5_fits, short_rule6_fits}
use Rattle.question.specs.Trees.{Reading, reading_of}
use Rattle.nodes.specs.declared.node.Connective.TheVariants.{And, Or, Not}
use Rattle.nodes.specs.declared.node.Quantifier.TheVariants as quantifier
use Rattle.nodes.specs.declared.node.Binder.TheVariants.{Binding, Quantifies}
use Rattle.nodes.specs.declared.node.Form.{Form}
use Rattle.nodes.specs.declared.node.Form.TheVariants.{Table, Alpha, Target, Binds, Combines, Compares, Connects, IllFormed}
use Rattle.nodes.specs.declared.node.Node.{Node}
use Rattle.nodes.specs.Nodes.{node_at}
use Rattle.conditions.specs.Readings.{Names, reading_at, range_at, condition_at}
use Rattle.conditions.proofs.Readings.{made, made_is, condition_is, quantifier_parts}
use Rattle.short_rules.specs.Fits.{rule_fits, some_variable, is_atom}
use Rattle.short_rules.specs.declared.fits.ShortRule.{ShortRule}

some-nodes_below : {x : ℕ} {range : Range} {f g : Condition} → g ≡ for_some x range f → condition_nodes g ≤ question_node_limit → condition_nodes f ≤ question_node_limit
unfolding condition_nodes
some-nodes_below e few = omega (arith, ap condition_nodes e)

-- what a form is, by the variable that the code asks for
pub some_is : (form : Form) {z : ℕ} → some_variable form ≡ Some z → form ≡ Binds z (Quantifies quantifier.Some)
some_is (Table relation) e = cc
some_is Alpha e = cc
some_is (Target variable attribute) e = cc
some_is (Binds variable Binding) e = cc
some_is (Binds variable (Quantifies quantifier.Some)) e = cc
some_is (Binds variable (Quantifies quantifier.Every)) e = cc
some_is (Binds variable (Quantifies (quantifier.AtLeast least))) e = cc
some_is (Combines combination) e = cc
some_is (Compares atom) e = cc
some_is (Connects connective) e = cc
some_is IllFormed e = cc

-- the "some" that a reference names
module _ (words : List ℕ) {reference : ℕ} (h : Names words reference) {node : Node} (e : node ≡ node_at words (reference - 1)) {z : ℕ} (s : Some z ≡ some_variable node.form) where
  pub some_decoded : made (Binds z (Quantifies quantifier.Some)) node.a node.b node.c ≡ node_at words (reference - 1)
  some_decoded = made_is words (reference - 1) (some_is node.form (sym s)) e

  pub some_reads : condition_at words reference ≡ for_some z (range_at words node.b) (condition_at words node.c)
  some_reads = condition_is words reference (made (Binds z (Quantifies quantifier.Some)) node.a node.b node.c) h.0 some_decoded

  pub some_below : node.c < reference
  some_below = (quantifier_parts words reference h some_decoded).1.1

  pub some_ready : condition_nodes (condition_at words reference) ≤ question_node_limit → Names words node.c × (condition_nodes (condition_at words node.c) ≤ question_node_limit)
  some_ready few = ((quantifier_parts words reference h some_decoded).1.0, some-nodes_below some_reads few)

-- the rule is known in each arm
pub fits_told : (x : ℕ) (f : Condition) {rule known : ShortRule} {fits : Bool} → rule ≡ known → fits ≡ rule_fits known x f → fits ≡ rule_fits rule x f
fits_told x f e p = p ∙ sym (ap (λ (r : ShortRule). rule_fits r x f) e)

-- what S3 or S6 says of a node's condition

abbrev pub opposite_fits : Condition → Bool
opposite_fits f = short_rule3_fits f || short_rule6_fits f

pub some-opposite : {x : ℕ} {range : Range} {f g : Condition} → g ≡ for_some x range f → opposite_fits g ≡ short_rule2_fits x f
some-opposite {x} {range} {f} e = ap opposite_fits e ∙ or-false (short_rule2_fits x f)

-- what is no "some": S5 does not fit it, and S3 or S6 if it is an atom
pub not_divided : (y : ℕ) (form : Form) (a b c : Reading) → None ≡ some_variable form → short_rule5_fits y (reading_of form a b c).condition ≡ false
not_divided y (Table relation) a b c h = refl
not_divided y Alpha a b c h = refl
not_divided y (Target variable attribute) a b c h = refl
not_divided y (Binds variable Binding) a b c h = refl
not_divided y (Binds variable (Quantifies quantifier.Some)) a b c h = cc
not_divided y (Binds variable (Quantifies quantifier.Every)) a b c h = refl
not_divided y (Binds variable (Quantifies (quantifier.AtLeast least))) a b c h = refl
not_divided y (Combines combination) a b c h = refl
not_divided y (Compares atom) a b c h = refl
not_divided y (Connects And) a b c h = refl
not_divided y (Connects Or) a b c h = refl
not_divided y (Connects Not) a b c h = refl
not_divided y IllFormed a b c h = refl

pub atom-opposite : (form : Form) (a b c : Reading) → None ≡ some_variable form → is_atom form ≡ opposite_fits (reading_of form a b c).condition
atom-opposite (Table relation) a b c h = refl
atom-opposite Alpha a b c h = refl
atom-opposite (Target variable attribute) a b c h = refl
atom-opposite (Binds variable Binding) a b c h = refl
atom-opposite (Binds variable (Quantifies quantifier.Some)) a b c h = cc
atom-opposite (Binds variable (Quantifies quantifier.Every)) a b c h = refl
atom-opposite (Binds variable (Quantifies (quantifier.AtLeast least))) a b c h = refl
atom-opposite (Combines combination) a b c h = refl
atom-opposite (Compares atom) a b c h = refl
atom-opposite (Connects And) a b c h = refl
atom-opposite (Connects Or) a b c h = refl
atom-opposite (Connects Not) a b c h = refl
atom-opposite IllFormed a b c h = refl

-- so what S5 fits is a "some"
pub divided_some : (words : List ℕ) {reference : ℕ} → Names words reference → {node : Node} → node ≡ node_at words (reference - 1) → (y : ℕ) → short_rule5_fits y (condition_at words reference) ≡ true → None ≡ some_variable node.form → ⊥
divided_some words {reference} h {node} e y fits none =
    true≢false (sym fits
    ∙ ap (short_rule5_fits y) (condition_is words reference node h.0 e)
    ∙ not_divided y node.form (reading_at words node.a) (reading_at words node.b) (reading_at words node.c) none)
