-- The variable of a binding, and what translating a range leaves. Assumes nothing.
use Rattle.std.specs.Prelude.{ℕ, ◌<◌, ◌≡◌, Bool, List, Option, Some, None}
use Rattle.calculus.specs.Question.{Range}
use Rattle.calculus.specs.Form.{width_of_range}
use Rattle.calculus.specs.Translation.{translate_range}
use Rattle.catalogue.specs.Stored.{columns_of}
use Rattle.emission.specs.Written.{Written}
use Rattle.nodes.specs.declared.node.Binder.TheVariants.{Binding, Quantifies}
use Rattle.nodes.specs.declared.node.Form.{Form}
use Rattle.nodes.specs.declared.node.Form.TheVariants.{Table, Alpha, Target, Binds, Combines, Compares, Connects, IllFormed}
use Rattle.plan_steps.specs.declared.ranges.MadeRange.{MadeRange}

-- the variable of a binding
abbrev pub binding_variable : Form → Option ℕ
binding_variable (Table relation) = None
binding_variable Alpha = None
binding_variable (Target variable attribute) = None
binding_variable (Binds variable Binding) = Some variable
binding_variable (Binds variable (Quantifies quantifier)) = None
binding_variable (Combines combination) = None
binding_variable (Compares atom) = None
binding_variable (Connects connective) = None
binding_variable IllFormed = None

pub record RangeDone (catalogue : List ℕ) (short : Bool) (before : List ℕ) (range : Range) (n : ℕ) (after : List ℕ) (made : MadeRange) : Type 0 where
  pub written : Written before n (translate_range (columns_of catalogue) short range n) after made.count
  pub width : made.width ≡ width_of_range (columns_of catalogue) range
  pub more : n < made.count
