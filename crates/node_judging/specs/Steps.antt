-- What the walk over a question's tree asks of one node, and what a call of the code leaves of it in the lent arrays: contracts of inner code (question/specs/Walk says
-- what becomes of them). Assumes nothing.
use Rattle.std.specs.Prelude.{ℕ, suc, ◌+◌, min, max, Bool, false, cond, not, ◌||◌, ltb, eqb, get_or, set, replicate}
use Rattle.relations.specs.Limits.{column_limit, question_node_limit, variable_count}
use Rattle.nodes.specs.declared.node.Operand.{Operand}
use Rattle.nodes.specs.declared.node.Operand.TheVariants.{Of, Fixed}
use Rattle.nodes.specs.declared.node.Form.{Form}
use Rattle.nodes.specs.declared.node.Form.TheVariants.{Table, Alpha, Target, Binds, Combines, Compares, Connects, IllFormed}
use Rattle.node_judging.specs.declared.scope.Scope.{Scope}
use Rattle.node_judging.specs.declared.lowest.Lowest.{Lowest}

-- A scope as the walk keeps it: for each variable the width of its rows, 0 where it is not in scope; and all columns in scope.
abbrev pub width_kept : Scope → ℕ → ℕ
width_kept scope variable = get_or scope.widths variable 0

abbrev pub columns_kept : Scope → ℕ
columns_kept scope = scope.columns

abbrev pub no_widths : Scope
no_widths = record { widths = replicate variable_count 0; columns = 0 }

-- a sum over the limit counts as one more than it, which changes no place
unfoldable pub add_widths : ℕ → ℕ → ℕ
add_widths a b = min (suc column_limit) (a + b)

-- A bound variable is in scope, also where its range has no columns: only a fault makes such a range (a whole row of a variable
-- that is not in scope, say), and no fault makes another.
abbrev pub bound_width : ℕ → ℕ
bound_width width = max 1 (min (suc column_limit) width)

abbrev pub bind : Scope → (variable width : ℕ) → Scope
bind scope variable width = record { widths = set scope.widths variable (bound_width width); columns = add_widths scope.columns width }

abbrev pub operand_unbound_at : Scope → Operand → Bool
operand_unbound_at scope (Of variable attribute) = eqb (width_kept scope variable) 0
operand_unbound_at scope (Fixed constant) = false

abbrev pub operand_unfit_at : Scope → Operand → Bool
operand_unfit_at scope (Of variable attribute) = ltb (width_kept scope variable) attribute.0
operand_unfit_at scope (Fixed constant) = false

abbrev pub target_width_kept : Scope → (variable attribute : ℕ) → ℕ
target_width_kept scope variable attribute = cond (eqb attribute 0) (width_kept scope variable) 1

-- What the walk of a tree finds: the lowest places of 5 and 6, the node limit where there is none; its width as a range, or as targets; the
-- scope behind it, which only bindings change.
pub record Found : Type 0 where
  pub unbound : ℕ
  pub unfit : ℕ
  pub width : ℕ
  pub scope : Scope

-- What the walk asks of a node that stands in a scope: b is walked first, then a and c.
pub record Step : Type 0 where
  -- the scope of b, and that of a and c, from what b gave
  pub opening : Scope
  pub inside : Found → Scope
  -- the scope behind it, from what c gave
  pub behind : Found → Scope
  -- whether it is at fault by 5; by 6, from the widths of a and b
  pub unbound : Bool
  pub unfit : (a b : ℕ) → Bool
  -- its width as a range, or as targets from it on, from the widths of a and c and the catalogue's columns
  pub width : (columns : ℕ → ℕ) (a c : ℕ) → ℕ

-- a node whose parts see what it sees
abbrev pub stay : Scope → Bool → ((a b : ℕ) → Bool) → ((columns : ℕ → ℕ) (a c : ℕ) → ℕ) → Step
stay scope unbound unfit width = record { opening = scope; inside = λ b. scope; behind = λ c. scope; unbound = unbound; unfit = unfit; width = width }

abbrev pub step_of : Scope → Form → Step
step_of scope (Table relation) = stay scope false (λ a b. false) (λ columns a c. columns relation)
step_of scope Alpha = record { opening = no_widths; inside = λ b. b.scope; behind = λ c. scope; unbound = false; unfit = λ a b. ltb column_limit a; width = λ columns a c. a }
step_of scope (Target variable attribute) =
    stay scope (eqb (width_kept scope variable) 0) (λ a b. ltb (width_kept scope variable) attribute.0) (λ columns a c. add_widths (target_width_kept scope variable attribute.0) c)
step_of scope (Binds variable binder) =
    record {
      opening = scope;
      inside = λ b. bind scope variable b.width;
      behind = λ c. c.scope;
      unbound = ltb 0 (width_kept scope variable);
      unfit = λ a b. ltb column_limit (add_widths (columns_kept scope) b);
      width = λ columns a c. 0;
    }
step_of scope (Combines combination) = stay scope false (λ a b. not (eqb a b)) (λ columns a c. a)
step_of scope (Compares atom) =
    stay scope (eqb (width_kept scope atom.variable) 0 || operand_unbound_at scope atom.operand) (λ a b. ltb (width_kept scope atom.variable) atom.attribute.0 || operand_unfit_at scope atom.operand) (λ columns a c. 0)
step_of scope (Connects connective) = stay scope false (λ a b. false) (λ columns a c. 0)
step_of scope IllFormed = stay scope false (λ a b. false) (λ columns a c. 0)

-- a node's own place, where it is at fault
abbrev pub place_of : Bool → ℕ → ℕ
place_of fault i = cond fault i question_node_limit

-- What a call of the code leaves of the two lowest places so far: those, and those that the tree has.
pub record Places : Type 0 where
  pub unbound : ℕ
  pub unfit : ℕ

abbrev pub places : Lowest → Places
places lowest = record { unbound = lowest.unbound; unfit = lowest.unfit }

abbrev pub no_places : Places
no_places = record { unbound = question_node_limit; unfit = question_node_limit }

abbrev pub lowered : Places → (unbound unfit : ℕ) → Places
lowered lowest unbound unfit = record { unbound = min lowest.unbound unbound; unfit = min lowest.unfit unfit }

pub record JudgedAt : Type 0 where
  pub width : ℕ
  pub lowest : Places

abbrev pub judged_at : (ℕ → ℕ) → Form → ℕ → (scope : Scope) (a b c : ℕ) (lowest : Places) → JudgedAt
judged_at columns form i scope a b c lowest =
    record {
      width = (step_of scope form).width columns a c;
      lowest = lowered lowest (place_of (step_of scope form).unbound i) (place_of ((step_of scope form).unfit a b) i);
    }
