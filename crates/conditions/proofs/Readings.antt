-- A node that was decoded: its reading by those of its references, and where these point. Assumes nothing.
use Prim.Native.Nat.{ℕ, zero, suc, ◌-◌, ◌≤◌, ◌<◌}
use mathlib.Core.Path.{◌≡◌, refl, sym, ap, ◌∙◌}
use mathlib.Core.Bool.{true}
use mathlib.Core.List.{List, []}
use native.Mathlib.Omega.{arith}
use Rattle.calculus.specs.Question as calculus
use Rattle.relations.specs.Limits.{variable_count}
use Rattle.nodes.specs.Kinds.{is_of}
use Rattle.nodes.specs.Nodes.{kind_named, node_at}
use Rattle.nodes.specs.declared.kinds.Sort.{Sort}
use Rattle.nodes.specs.declared.kinds.Sort.TheVariants.{Range, Condition}
use Rattle.question.specs.Trees.{Reading, blank, reading, reading_of, tree_of}
use Rattle.nodes.specs.declared.node.Connective.TheVariants.{And, Or, Not}
use Rattle.nodes.specs.declared.node.Quantifier.{Quantifier}
use Rattle.nodes.specs.declared.node.Binder.{Binder}
use Rattle.nodes.specs.declared.node.Binder.TheVariants.{Quantifies}
use Rattle.nodes.specs.declared.node.Form.{Form}
use Rattle.nodes.specs.declared.node.Form.TheVariants.{Binds, Connects}
use Rattle.nodes.specs.declared.node.Node.{Node}
use Rattle.nodes.proofs.Forms.{Fits, node_fits, variables_fit, lower, no_kind}
use Rattle.question.proofs.TreeLaws.{tree_of_reference, tree_of_none}
use Rattle.conditions.specs.Readings.{Names, reading_at, targets_at, range_at, bindings_at, restriction_at, condition_at}

abbrev pub made : Form → (a b c : ℕ) → Node
made form a b c = record { form = form; a = a; b = b; c = c }

module _ (words : List ℕ) where
  -- a decoded node, by the form that it was matched against
  pub made_is : (i : ℕ) {node : Node} {form : Form} → node.form ≡ form → node ≡ node_at words i → made form node.a node.b node.c ≡ node_at words i
  made_is i {node} f e = ap (λ (form : Form). made form node.a node.b node.c) (sym f) ∙ e

  abbrev pub reading_in : Node → Reading
  reading_in node = reading_of node.form (reading_at words node.a) (reading_at words node.b) (reading_at words node.c)

  pub reading_is : (reference : ℕ) (node : Node) → 1 ≤ reference → node ≡ node_at words (reference - 1) → reading_at words reference ≡ reading_in node
  unfolding reading
  reading_is reference node h e = ap reading (tree_of_reference words reference h) ∙ rw e

  pub fits_in : (i : ℕ) {node : Node} → node ≡ node_at words i → Fits (kind_named words i) node
  fits_in i e = rw e (node_fits words i)

  -- what a decoded condition is
  pub condition_is : (reference : ℕ) (node : Node) → 1 ≤ reference → node ≡ node_at words (reference - 1) → condition_at words reference ≡ (reading_in node).condition
  condition_is reference node h e = ap (λ (r : Reading). r.condition) (reading_is reference node h e)

  pub targets_is : (reference : ℕ) (node : Node) → 1 ≤ reference → node ≡ node_at words (reference - 1) → targets_at words reference ≡ (reading_in node).targets
  targets_is reference node h e = ap (λ (r : Reading). r.targets) (reading_is reference node h e)

  pub range_is : (reference : ℕ) (node : Node) → 1 ≤ reference → node ≡ node_at words (reference - 1) → range_at words reference ≡ (reading_in node).range
  range_is reference node h e = ap (λ (r : Reading). r.range) (reading_is reference node h e)

  pub bindings_is : (reference : ℕ) (node : Node) → 1 ≤ reference → node ≡ node_at words (reference - 1) → bindings_at words reference ≡ (reading_in node).bindings
  bindings_is reference node h e = ap (λ (r : Reading). r.bindings) (reading_is reference node h e)

  pub restriction_is : (reference : ℕ) (node : Node) → 1 ≤ reference → node ≡ node_at words (reference - 1) → restriction_at words reference ≡ (reading_in node).restriction
  restriction_is reference node h e = ap (λ (r : Reading). r.restriction) (reading_is reference node h e)

-- a reference that is not 0 names a node, and 0 none

pub named : {reference : ℕ} → (reference ≡ 0 → ⊥) → 1 ≤ reference
named {reference} h = go reference h
  where
    go : (k : ℕ) → (k ≡ 0 → ⊥) → 1 ≤ k
    go zero h = absurd (h refl)
    go (suc i) h = omega arith

module _ (words : List ℕ) {reference : ℕ} (e : reference ≡ 0) where
  reading_none : reading_at words reference ≡ blank
  unfolding reading
  reading_none = ap (λ (k : ℕ). reading (tree_of words k)) e ∙ ap reading (tree_of_none words)

  pub targets_none : targets_at words reference ≡ []
  targets_none = ap (λ (r : Reading). r.targets) reading_none

  pub bindings_none : bindings_at words reference ≡ calculus.no_more
  bindings_none = ap (λ (r : Reading). r.bindings) reading_none

  pub restriction_none : restriction_at words reference ≡ calculus.no_condition
  restriction_none = ap (λ (r : Reading). r.restriction) reading_none

-- a reference of a node: it names a node, and a lower one
abbrev pub Below : ℕ → ℕ → Type 0
Below reference part = (1 ≤ part) × (part ≤ reference - 1)

module _ (words : List ℕ) (reference : ℕ) where
  abbrev pub Part : ℕ → Type 0
  Part part = Names words part × (part < reference)

  module _ (h : Names words reference) where
    pub part_below : {part : ℕ} → Below reference part → Part part
    part_below b = ((b.0, omega (arith, h.0, h.1, b.1)), omega (arith, h.0, b.1))

    part_of : (sort : Sort) (part : ℕ) → is_of sort (kind_named words (reference - 1) part) ≡ true → Part part
    part_of sort part f = part_below (lower words (reference - 1) part (is_of sort) (no_kind sort) f)

    pub binder_variable : {variable : ℕ} {binder : Binder} {a b c : ℕ} → made (Binds variable binder) a b c ≡ node_at words (reference - 1) → variable < variable_count
    binder_variable {variable} {binder} {a} {b} {c} e = variables_fit (Binds variable binder) (fits_in words (reference - 1) e).words-fit

    pub and_parts : {left right c : ℕ} → made (Connects And) left right c ≡ node_at words (reference - 1) → Part left × Part right
    and_parts {left} {right} e = let f = fits_in words (reference - 1) e in (part_of Condition left f.a_fits, part_of Condition right f.b_fits)

    pub or_parts : {left right c : ℕ} → made (Connects Or) left right c ≡ node_at words (reference - 1) → Part left × Part right
    or_parts {left} {right} e = let f = fits_in words (reference - 1) e in (part_of Condition left f.a_fits, part_of Condition right f.b_fits)

    pub not_part : {inner b c : ℕ} → made (Connects Not) inner b c ≡ node_at words (reference - 1) → Part inner
    not_part {inner} e = part_of Condition inner (fits_in words (reference - 1) e).a_fits

    pub quantifier_parts : {variable : ℕ} {quantifier : Quantifier} {a range condition : ℕ} → made (Binds variable (Quantifies quantifier)) a range condition ≡ node_at words (reference - 1) → Part range × Part condition
    quantifier_parts {a = a} {range} {condition} e = let f = fits_in words (reference - 1) e in (part_of Range range f.b_fits, part_of Condition condition f.c_fits)
