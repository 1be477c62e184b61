-- What the short rules write. The nodes are those of calculus' ShortRules; the nodes of a rule's range stand there already, so the rule is given none. Assumes nothing.
use Rattle.std.specs.Prelude.{ℕ, ◌+◌, ◌≤◌, ◌<◌, ◌≡◌, Bool, true, false, cond, List, [], ◌∷◌, ◌++◌, length}
use Rattle.relations.specs.Limits.{column_limit, variable_count, triple_limit, pair_limit, question_node_limit}
use Rattle.relations.specs.Lists.{filter}
use Rattle.relations.specs.Nodes.{Node}
use Rattle.calculus.specs.Question.{Atom, condition_nodes}
use Rattle.calculus.specs.Scope.{Scope}
use Rattle.calculus.specs.Leaves.{leaves, alone_on, equates_with, equates_outside}
use Rattle.calculus.specs.ShortRules.{last_number, select_node, project_nodes, restricted_range, short_rule2_atoms, short_rule2_nodes, short_rule3_nodes, short_rule4_nodes, short_rule5_atoms, short_rule5_columns, short_rule5_nodes, short_rule6_nodes}
use Rattle.conditions.specs.Readings.{Names, condition_at}
use Rattle.conditions.specs.declared.scope.Scope.{Scope as Carried}
use Rattle.conditions.specs.Scopes.{ScopeFits}
use Rattle.conditions.specs.Leaves.{atoms_of, LeavesFit}
use Rattle.emission.specs.Written.{Room}
use Rattle.short_rules.specs.declared.fits.ShortRule.{ShortRule}
use Rattle.short_rules.specs.declared.fits.ShortRule.TheVariants.{S2, S3, S4, S5}

-- the atoms that the rule asks for among the leaves of x's condition; y is the variable of S5's "every"
abbrev pub rule_atoms : ShortRule → (x y : ℕ) → List Atom → Bool
rule_atoms S2 x y atoms = short_rule2_atoms x atoms
rule_atoms S3 x y atoms = short_rule2_atoms x atoms
rule_atoms S4 x y atoms = short_rule2_atoms x atoms
rule_atoms S5 x y atoms = short_rule5_atoms x y atoms

-- what the rule writes; node k is the range of y
abbrev pub rule_nodes : ShortRule → Scope → (y k x width : ℕ) → List Atom → (p n : ℕ) → List Node
rule_nodes S2 s y k x width atoms p n = short_rule2_nodes s x width atoms [] p n
rule_nodes S3 s y k x width atoms p n = short_rule3_nodes s x width atoms [] p n
rule_nodes S4 s y k x width atoms p n = short_rule4_nodes s x width atoms [] p n
rule_nodes S5 s y k x width atoms p n = short_rule5_nodes s y k x width atoms [] p n

-- S2's nodes, or S3's
abbrev pub join_nodes : Bool → Scope → (x width : ℕ) → List Atom → (p n : ℕ) → List Node
join_nodes anti s x width atoms p n = cond anti (short_rule3_nodes s x width atoms [] p n) (short_rule2_nodes s x width atoms [] p n)

-- an atom's node, or its opposite's
abbrev pub atom_nodes : Bool → Scope → ℕ → Atom → List Node
atom_nodes opposite s p a = cond opposite (short_rule6_nodes s p a) (select_node s p a ∷ [])

-- what S5 divides
abbrev pub dividend_nodes : ℕ → ℕ → ℕ → List Atom → ℕ → List Node
dividend_nodes y z width atoms n =
    let restricted = restricted_range z width atoms [] n in
    restricted ++ project_nodes true width (last_number n restricted) (short_rule5_columns z y atoms)

-- a rule can write behind a range of x, and so many nodes more than its selects
pub record RuleFits (words plan : List ℕ) (opposite : Bool) (found : List ℕ) (x width n more : ℕ) : Type 0 where
  pub leaves-fit : LeavesFit words found
  pub variable : x < variable_count
  pub some_columns : 1 ≤ width
  pub few_columns : width ≤ column_limit
  pub some-nodes : 1 ≤ n
  pub room : Room plan n (length (filter (alone_on x) (atoms_of words opposite found)) + more)

-- the same for S5, whose equations of each kind are at most 8
pub record DividendFits (words plan found : List ℕ) (y z width n more : ℕ) : Type 0 where
  pub rule : RuleFits words plan false found z width n more
  pub few_shared : length (filter (equates_with z y) (atoms_of words false found)) ≤ pair_limit
  pub few_outside : length (filter (equates_outside z y) (atoms_of words false found)) ≤ triple_limit

-- a rule's atoms are those that it asks for, and there is room for what it writes
pub record RuleReady (words plan : List ℕ) (scope : Carried) (rule : ShortRule) (x width condition y n : ℕ) : Type 0 where
  pub named : Names words condition
  pub small : condition_nodes (condition_at words condition) ≤ question_node_limit
  pub atoms : rule_atoms rule x y (leaves (condition_at words condition)) ≡ true
  pub scope-fits : ScopeFits scope
  pub variable : x < variable_count
  pub some_columns : 1 ≤ width
  pub few_columns : width ≤ column_limit
  pub some-nodes : 1 ≤ n
  pub room : Room plan n (condition_nodes (condition_at words condition) + 5)
