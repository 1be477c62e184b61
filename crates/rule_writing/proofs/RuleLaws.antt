-- What a rule writes behind its range: the selects leaf by leaf, and S5's nodes. Assumes nothing.
use Rattle.calculus.proofs.SizeTheorem.{leaves-size, filter-size, selects_size, projects_size}
use Prim.Native.Nat.{ℕ, suc, ◌+◌, ◌-◌, ◌≤◌, ◌<◌, pred, ◌/◌}
use mathlib.Core.Path.{◌≡◌, sym, ap, ap₂, ◌∙◌}
use mathlib.Core.Bool.{Bool, true, false, ◌&&◌, ◌||◌}
use mathlib.Core.List.{List, [], ◌∷◌, ◌++◌, map, append_assoc}
use native.Mathlib.Omega.{arith}
use lib.Dec.{leb}
use lib.ListN.{length, length-map, length-append}
use borrow.Author.Tests.{leb-true}
use Rattle.relations.specs.Limits.{triple_limit, pair_limit, list_words}
use Rattle.relations.specs.PlanWords.{triple_words, pair_words}
use Rattle.calculus.specs.Leaves.{leaves, opposite_atom, alone_on, compares_with_other, own_attribute, equates_with, equates_outside}
use Rattle.calculus.specs.ShortRules.{last_number, select_node, select_nodes, project_nodes, restricted_range, outside_triples, division_pairs, short_rule2_atoms, short_rule5_atoms, short_rule5_columns}
use Rattle.relations.specs.Columns.{Attribute, Triple, Pair}
use Rattle.relations.specs.Lists.{all, filter, flat}
use Rattle.relations.specs.Nodes.{Node, semijoin, antijoin, divide, unite}
use Rattle.calculus.specs.Question as calculus
use Rattle.calculus.specs.Scope.{entry, Scope}
use Rattle.conditions.specs.declared.scope.Scope.{Scope as Carried}
use Rattle.conditions.specs.Leaves.{atoms_of}
use Rattle.calculus.proofs.LegalColumns.{few-opposite}
use Rattle.emission.specs.NodeLists.{node_list, grown_by, numbers_of}
use Rattle.emission.proofs.NodeListLaws.{grown_used, grown_then, grown-list, numbers-append}
use Rattle.short_rules.specs.Lists.{links}
use Rattle.emission.specs.declared.node_list.NodeList.{NodeList}
use Rattle.emission.specs.Written.{Written}
use Rattle.relations.specs.Legality.{between}
use Rattle.relations.proofs.BoolLaws.{and_left, and_right}
use Rattle.conditions.specs.Readings.{condition_at}
use Rattle.conditions.specs.Scopes.{ScopeFits}
use Rattle.conditions.proofs.LeafLaws.{FoundLeaves}
use Rattle.rule_writing.specs.Rules.{dividend_nodes, RuleFits, DividendFits, RuleReady}
use Rattle.short_rules.specs.declared.fits.ShortRule.{ShortRule}
use Rattle.short_rules.proofs.LeafSteps as steps
use Rattle.short_rules.proofs.ListLaws.{outside_size}
use Rattle.emission.proofs.WrittenLaws.{written_then, pred_is, last_is, written_as, room-less}

-- the next leaf, on x alone
module _ (words : List ℕ) (opposite : Bool) (numbers : List ℕ) (i : ℕ) (h : i < length numbers) (s : Scope) (x : ℕ) where
  pub selects_next : (n m : ℕ) (a : calculus.Atom) → a ≡ steps.here words opposite numbers i h → alone_on x a ≡ true → m ≡ n + 1
      → select_nodes s (filter (alone_on x) (steps.rest words opposite numbers i)) (pred n) n ≡ select_node s (n - 1) a ∷ select_nodes s (filter (alone_on x) (steps.rest words opposite numbers (i + 1))) (pred m) m
  selects_next n m a e alone f =
      let before : n - 1 ≡ pred n = sym (pred_is n) in
      let after : m ≡ suc n = omega arith in
      rw (before, after, e) (ap (λ l. select_nodes s l (pred n) n) (steps.filter_in words opposite numbers i h (alone_on x) (ap (alone_on x) (sym e) ∙ alone)))

-- a rule's leaves once they are found: its selects, its triples and its equations
module _ {words plan : List ℕ} {scope : Carried} {rule : ShortRule} {x width condition y n : ℕ} (r : RuleReady words plan scope rule x width condition y n) {found : List ℕ} (f : FoundLeaves words (condition_at words condition) found) where
  abbrev atoms : List calculus.Atom
  atoms = leaves (condition_at words condition)

  rule-fits : (opposite : Bool) (more : ℕ) → more ≤ 5 → length (atoms_of words opposite found) ≡ length atoms → RuleFits words plan opposite found x width n more
  rule-fits opposite more h e =
      record {
        leaves-fit = f.fit;
        variable = r.variable;
        some_columns = r.some_columns;
        few_columns = r.few_columns;
        some-nodes = r.some-nodes;
        room = room-less _ r.room (omega (arith, h, e, filter-size (alone_on x) (atoms_of words opposite found), leaves-size (condition_at words condition)));
      }

  module _ (h : short_rule2_atoms x atoms ≡ true) where
    few : length (filter (compares_with_other x) atoms) ≤ triple_limit
    few = leb-true (length (filter (compares_with_other x) atoms)) triple_limit (and_right (all (λ a. alone_on x a || compares_with_other x a) atoms) (leb (length (filter (compares_with_other x) atoms)) triple_limit) h)

    pub join_ready : ScopeFits scope × RuleFits words plan false found x width n 1 × (length (filter (compares_with_other x) (atoms_of words false found)) ≤ triple_limit)
    join_ready = (r.scope-fits, rule-fits false 1 (omega arith) (ap length f.straight), rw f.straight few)

    pub opposite_ready : ScopeFits scope × RuleFits words plan true found x width n 1 × (length (filter (compares_with_other x) (atoms_of words true found)) ≤ triple_limit)
    opposite_ready = (r.scope-fits, rule-fits true 1 (omega arith) (ap length f.turned ∙ length-map atoms opposite_atom), rw (f.turned, few-opposite x atoms) few)

  module _ (h : short_rule5_atoms x y atoms ≡ true) where
    abbrev shared : ℕ
    shared = length (filter (equates_with x y) atoms)

    abbrev outside : ℕ
    outside = length (filter (equates_outside x y) atoms)

    both_few : (between 1 pair_limit shared && between 1 triple_limit outside) ≡ true
    both_few = and_right (all (λ a. alone_on x a || (equates_with x y a || equates_outside x y a)) atoms) (between 1 pair_limit shared && between 1 triple_limit outside) h

    few_shared : shared ≤ pair_limit
    few_shared = leb-true shared pair_limit (and_right (leb 1 shared) (leb shared pair_limit) (and_left (between 1 pair_limit shared) (between 1 triple_limit outside) both_few))

    few_outside : outside ≤ triple_limit
    few_outside = leb-true outside triple_limit (and_right (leb 1 outside) (leb outside triple_limit) (and_right (between 1 pair_limit shared) (between 1 triple_limit outside) both_few))

    pub division_ready : ScopeFits scope × DividendFits words plan found y x width n 5
    division_ready =
        (r.scope-fits, record { rule = rule-fits false 5 (omega arith) (ap length f.straight); few_shared = rw f.straight few_shared; few_outside = rw f.straight few_outside })

-- S5's columns: those of the equations with a variable outside stand first
module _ (s : Scope) (z y : ℕ) (atoms : List calculus.Atom) {triples : NodeList} (outside : triples ≡ node_list (flat triple_words (outside_triples s z (filter (equates_outside z y) atoms) 1))) where
  pub outside_count : triples.used / 3 + 1 ≡ suc (length (filter (equates_outside z y) atoms))
  outside_count = omega (arith, ap (λ (list : NodeList). list.used) outside, outside_size s z (filter (equates_outside z y) atoms) 1)

  pub pairs-counted : {pairs : NodeList} → pairs ≡ node_list (flat pair_words (division_pairs z (filter (equates_with z y) atoms) (triples.used / 3 + 1))) → pairs ≡ node_list (flat pair_words (division_pairs z (filter (equates_with z y) atoms) (suc (length (filter (equates_outside z y) atoms)))))
  pairs-counted e = e ∙ ap (λ (first : ℕ). node_list (flat pair_words (division_pairs z (filter (equates_with z y) atoms) first))) outside_count

pub own_size : (z : ℕ) (atoms : List calculus.Atom) → length (numbers_of (map (own_attribute z) atoms)) ≡ length atoms
own_size z atoms = length-map (map (own_attribute z) atoms) (λ a. a.number) ∙ length-map atoms (own_attribute z)

-- z's attributes in the two kinds of equations, listed one behind the other, are the columns that S5 keeps
module _ (z y : ℕ) (atoms : List calculus.Atom) where
  abbrev own : Bool → List Attribute
  own outside = map (own_attribute z) (filter (links outside z y) atoms)

  pub columns_room : {nothing first : NodeList} → length (filter (equates_with z y) atoms) ≤ pair_limit → length (filter (equates_outside z y) atoms) ≤ triple_limit → nothing ≡ node_list [] → first ≡ grown_by nothing (numbers_of (own true)) → first.used + length (filter (links false z y) atoms) ≤ list_words
  columns_room h k none e = omega (arith, h, k, ap (λ (l : NodeList). l.used) none, grown_used _ _ e, own_size z (filter (equates_outside z y) atoms))

  pub columns_listed : {nothing first both : NodeList} → length (filter (equates_with z y) atoms) ≤ pair_limit → length (filter (equates_outside z y) atoms) ≤ triple_limit → nothing ≡ node_list [] → first ≡ grown_by nothing (numbers_of (own true)) → both ≡ grown_by first (numbers_of (own false)) → both ≡ node_list (numbers_of (short_rule5_columns z y atoms))
  columns_listed h k none e f =
      grown-list _ none (grown_then _ _ _ e f) (omega (arith, h, k, length-append (numbers_of (own true)) (numbers_of (own false)), own_size z (filter (equates_outside z y) atoms), own_size z (filter (equates_with z y) atoms)))
      ∙ ap node_list (sym (numbers-append (own true) (own false)))

-- the selects behind a range that stands there already
pub own_selects : (x width : ℕ) (atoms : List calculus.Atom) (n : ℕ) → restricted_range x width atoms [] n ≡ select_nodes (entry x width ∷ []) (filter (alone_on x) atoms) (pred n) n
own_selects x width atoms n =
    let e : n + 0 ≡ n = omega arith in
    rw e

-- as many as atoms
pub behind-size : (x width : ℕ) (atoms : List calculus.Atom) (n : ℕ) → length (restricted_range x width atoms [] n) ≡ length (filter (alone_on x) atoms)
behind-size x width atoms n = ap length (own_selects x width atoms n) ∙ selects_size (filter (alone_on x) atoms) (entry x width ∷ []) (pred n) n

-- nodes that go by the count of those before them, behind a range and more
pub behind-range : (range more : List Node) (n : ℕ) (nodes : ℕ → List Node) → (range ++ more) ++ nodes (n + length (range ++ more)) ≡ range ++ (more ++ nodes (n + length range + length more))
behind-range range more n nodes =
    let e : n + length (range ++ more) ≡ n + length range + length more = omega (arith, length-append range more) in
    append_assoc range more _ ∙ ap (λ (m : ℕ). range ++ (more ++ nodes m)) e

-- what a rule writes is its range's nodes, then what it writes behind them
pub rule-behind : (range : List Node) (x width : ℕ) (atoms : List calculus.Atom) (n : ℕ) (nodes : ℕ → List Node)
    → restricted_range x width atoms range n ++ nodes (n + length (restricted_range x width atoms range n)) ≡ range ++ (restricted_range x width atoms [] (n + length range) ++ nodes (n + length range + length (restricted_range x width atoms [] (n + length range))))
rule-behind range x width atoms n nodes =
    ap (λ (selects : List Node). (range ++ selects) ++ nodes (n + length (range ++ selects))) (sym (own_selects x width atoms (n + length range)))
    ∙ behind-range range (restricted_range x width atoms [] (n + length range)) n nodes

-- S5's nodes

pub dividend_size : (y z width : ℕ) (atoms : List calculus.Atom) (n : ℕ) → length (dividend_nodes y z width atoms n) ≤ length (filter (alone_on z) atoms) + 1
dividend_size y z width atoms n =
    omega (arith, behind-size z width atoms n, projects_size true width (last_number n (restricted_range z width atoms [] n)) (short_rule5_columns z y atoms), length-append (restricted_range z width atoms [] n) (project_nodes true width (last_number n (restricted_range z width atoms [] n)) (short_rule5_columns z y atoms)))

module _ {k p : ℕ} {pairs : List Pair} {triples : List Triple} where
  four : {h i j l h' i' j' l' : ℕ} → h ≡ h' → i ≡ i' → j ≡ j' → l ≡ l' → divide h k pairs ∷ semijoin p i triples ∷ antijoin p k [] ∷ unite j l ∷ [] ≡ divide h' k pairs ∷ semijoin p i' triples ∷ antijoin p k [] ∷ unite j' l' ∷ []
  four {h} {i} {j} {l} {h'} {i'} {j'} {l'} e f g d =
      ap (λ x. divide x k pairs ∷ semijoin p i triples ∷ antijoin p k [] ∷ unite j l ∷ []) e
      ∙ ap (λ x. divide h' k pairs ∷ semijoin p x triples ∷ antijoin p k [] ∷ unite j l ∷ []) f
      ∙ ap₂ (λ x y. divide h' k pairs ∷ semijoin p i' triples ∷ antijoin p k [] ∷ unite x y ∷ []) g d

module _ {b m₀ m₁ m₂ m₃ m₄ : List ℕ} {n q divided matched unmatched count : ℕ} {dividend : List Node} {k p : ℕ} {pairs : List Pair} {triples : List Triple} where
  pub division_written : Written b n dividend m₀ q → Written m₀ q (divide (q - 1) k pairs ∷ []) m₁ divided → Written m₁ divided (semijoin p q triples ∷ []) m₂ matched → Written m₂ matched (antijoin p k [] ∷ []) m₃ unmatched → Written m₃ unmatched (unite divided matched ∷ []) m₄ count
      → Written b n (dividend ++ (divide (pred (n + length dividend)) k pairs ∷ semijoin p (n + length dividend) triples ∷ antijoin p k [] ∷ unite (suc (n + length dividend)) (suc (suc (n + length dividend))) ∷ [])) m₄ count
  division_written w d s a u =
      let e : suc (n + length dividend) ≡ divided = omega (arith, w.counted, d.counted) in
      let f : suc (suc (n + length dividend)) ≡ matched = omega (arith, w.counted, d.counted, s.counted) in
      written_then w (written_as (four (last_is w) (sym w.counted) e f) (written_then (written_then (written_then d s) a) u))
