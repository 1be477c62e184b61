-- Leaves collected one behind another, and the atoms that they stand for. Assumes nothing.
use Prim.Native.Nat.{ℕ, zero, suc, ◌+◌, ◌*◌, ◌-◌, ◌≤◌, ◌<◌}
use mathlib.Core.Path.{◌≡◌, refl, sym, ap, ap₂, ◌∙◌}
use mathlib.Core.Bool.{Bool, true, false, cond, not, ◌&&◌}
use mathlib.Core.List.{List, [], ◌∷◌, ◌++◌, map, map-append, map-map}
use native.Mathlib.Nat.{zero-add}
use native.Mathlib.Omega.{arith}
use lib.Dec.{ltb, leb}
use lib.ListN.{length, get_or, length-append, length-map, length-replicate}
use lib.Seq.{length-sets, sets-eq, take-append_seam}
use borrow.Author.Tests.{leb-true}
use Rattle.relations.specs.Limits.{column_limit, question_node_limit, question_node_words, variable_count}
use Rattle.relations.specs.Lists.{All}
use Rattle.relations.proofs.ListLaws.{all_append}
use Rattle.relations.proofs.StoreLaws.{sets-append}
use Rattle.relations.proofs.BoolLaws.{and_left, and_right}
use Rattle.calculus.specs.Question as calculus
use Rattle.calculus.proofs.SizeTheorem.{leaves-size}
use Rattle.calculus.specs.Leaves.{leaves, opposite_atom}
use Rattle.nodes.specs.Nodes.{node_at}
use Rattle.question.specs.Trees.{Tree, tree_of, reading, atom_of}
use Rattle.nodes.specs.declared.node.Operand.{Operand}
use Rattle.nodes.specs.declared.node.Operand.TheVariants.{Of, Fixed}
use Rattle.nodes.specs.declared.node.Atom.{Atom}
use Rattle.nodes.specs.declared.node.Node.{Node}
use Rattle.nodes.specs.declared.node.Connective.TheVariants.{And, Or, Not}
use Rattle.nodes.specs.declared.node.Quantifier.TheVariants.{Some, Every, AtLeast}
use Rattle.nodes.specs.declared.node.Binder.TheVariants.{Binding, Quantifies}
use Rattle.nodes.specs.declared.node.Form.{Form}
use Rattle.nodes.specs.declared.node.Form.TheVariants.{Table, Alpha, Target, Binds, Combines, Compares, Connects, IllFormed}
use Rattle.nodes.proofs.Forms.{form_fits, operand_fits, third_of}
use Rattle.question.proofs.TreeLaws.{tree_of_reference}
use Rattle.conditions.specs.Atoms.{OperandNarrow, AtomNarrow}
use Rattle.conditions.specs.Leaves.{empty_atom, atom_in, leaf_of, numbers_below, leaf_numbers, no_leaves, numbers_in, with_leaves, is_tree, leaf_numbered, atoms_of, LeavesFit, Collectable}
use Rattle.conditions.specs.Readings.{Names, condition_at}
use Rattle.conditions.proofs.Readings.{made, reading_in, fits_in, condition_is, Part, and_parts, or_parts}
use Rattle.conditions.proofs.OtherNodes.{NoLeaves, not_leaves}
use Rattle.conditions.specs.declared.leaves.Leaves.{Leaves}

-- an atom of the table is narrow

operand-narrow : (operand : Operand) → operand_fits operand ≡ true → OperandNarrow operand
operand-narrow (Of variable attribute) h = leb-true attribute.0 column_limit (third_of (ltb variable variable_count) (leb 1 attribute.0) (leb attribute.0 column_limit) h)
operand-narrow (Fixed constant) h = tt

pub empty_narrow : AtomNarrow empty_atom
empty_narrow = record { attribute = omega arith; operand = tt }

pub atom-narrow : (form : Form) → form_fits form ≡ true → AtomNarrow (atom_in form)
atom-narrow (Table relation) h = empty_narrow
atom-narrow Alpha h = empty_narrow
atom-narrow (Target variable attribute) h = empty_narrow
atom-narrow (Binds variable binder) h = empty_narrow
atom-narrow (Combines combination) h = empty_narrow
atom-narrow (Compares atom) h =
    let v : Bool = ltb atom.variable variable_count in
    let a : Bool = leb 1 atom.attribute.0 in
    let b : Bool = leb atom.attribute.0 column_limit in
    record {
      attribute = leb-true atom.attribute.0 column_limit (third_of v a b (and_left (v && a && b) (operand_fits atom.operand) h));
      operand = operand-narrow atom.operand (and_right (v && a && b) (operand_fits atom.operand) h);
    }
atom-narrow (Connects connective) h = empty_narrow
atom-narrow IllFormed h = empty_narrow

pub no_atom : (form : Form) → ((atom : Atom) → form ≡ Compares atom → ⊥) → empty_atom ≡ atom_in form
no_atom (Table relation) h = refl
no_atom Alpha h = refl
no_atom (Target variable attribute) h = refl
no_atom (Binds variable binder) h = refl
no_atom (Combines combination) h = refl
no_atom (Compares atom) h = absurd (h atom refl)
no_atom (Connects connective) h = refl
no_atom IllFormed h = refl

-- the atom of a decoded node
module _ (words : List ℕ) (i : ℕ) {node : Node} {found : Atom} (e : node ≡ node_at words i) (f : found ≡ atom_in node.form) where
  pub found_narrow : AtomNarrow found
  found_narrow = rw f (atom-narrow node.form (fits_in words i e).words-fit)

  pub found_is : atom_of found ≡ leaf_of (node_at words i).form
  found_is = ap atom_of f ∙ ap (λ (n : Node). leaf_of n.form) e

-- two sides joined

pub joined_and : (disjoined : Bool) {first second : Bool} (f g : calculus.Condition) → first ≡ is_tree disjoined f → second ≡ is_tree disjoined g → (not disjoined && (first && second)) ≡ is_tree disjoined (calculus.condition_and f g)
joined_and true f g p q = refl
joined_and false f g p q = ap₂ (λ (a b : Bool). a && b) p q

pub joined_or : (disjoined : Bool) {first second : Bool} (f g : calculus.Condition) → first ≡ is_tree disjoined f → second ≡ is_tree disjoined g → (disjoined && (first && second)) ≡ is_tree disjoined (calculus.condition_or f g)
joined_or true f g p q = ap₂ (λ (a b : Bool). a && b) p q
joined_or false f g p q = refl

either : (disjoined tree : Bool) → tree ≡ cond disjoined tree tree
either true tree = refl
either false tree = refl

-- leaves behind others

abbrev leaves_of : List ℕ → ℕ → Leaves
leaves_of numbers count = record { numbers = numbers; count = count }

pub length-behind : (before : Leaves) (more : List ℕ) → length (with_leaves before more).numbers ≡ length before.numbers
unfolding with_leaves
length-behind before more = length-sets before.numbers before.count more

pub count-behind : (before : Leaves) (more : List ℕ) → (with_leaves before more).count ≡ before.count + length more
unfolding with_leaves
count-behind before more = refl

pub none_behind : (before : Leaves) → before ≡ with_leaves before []
unfolding with_leaves
none_behind before = ap (leaves_of before.numbers) (omega arith)

-- collected one after the other
pub leaves-behind : (before : Leaves) (xs ys : List ℕ) → with_leaves (with_leaves before xs) ys ≡ with_leaves before (xs ++ ys)
unfolding with_leaves
leaves-behind before xs ys =
    let sum : before.count + length xs + length ys ≡ before.count + length (xs ++ ys) = omega (arith, length-append xs ys) in
    ap₂ leaves_of (sym (sets-append before.numbers before.count xs ys)) sum

-- the first ones

none_first : no_leaves.count ≡ 0
unfolding no_leaves
none_first = refl

none-room : length no_leaves.numbers ≡ question_node_limit
unfolding no_leaves
none-room = length-replicate {A = ℕ} question_node_limit 0

pub first_numbers : (numbers : List ℕ) → length numbers ≤ question_node_limit → numbers_in (with_leaves no_leaves numbers) ≡ numbers
unfolding with_leaves no_leaves
first_numbers numbers few = rw (sets-eq numbers no_leaves.numbers 0 (omega arith), zero-add (length numbers)) (take-append_seam numbers _)

module _ (words : List ℕ) where
  -- the numbers of a node's leaves, by those of its references
  pub leaf_numbers_lem : (reference : ℕ) (node : Node) {f : calculus.Condition} → 1 ≤ reference → node ≡ node_at words (reference - 1) → condition_at words reference ≡ f
      → leaf_numbers (tree_of words reference) ≡ numbers_below f (reference - 1) (leaf_numbers (tree_of words node.a)) (leaf_numbers (tree_of words node.b))
  unfolding leaf_numbers
  leaf_numbers_lem reference node h e c =
      let t = tree_of_reference words reference h in
      rw e (ap leaf_numbers t ∙ ap (λ (g : calculus.Condition). numbers_below g (reference - 1) (leaf_numbers (tree_of words (node_at words (reference - 1)).a)) (leaf_numbers (tree_of words (node_at words (reference - 1)).b))) (ap (λ (tree : Tree). (reading tree).condition) (sym t) ∙ c))

  -- what `collect` ensures
  abbrev pub Collected : Bool → ℕ → Leaves → Leaves → Bool → Type 0
  Collected disjoined reference before after tree = (after ≡ with_leaves before (leaf_numbers (tree_of words reference))) × (tree ≡ is_tree disjoined (condition_at words reference))

  module _ {reference : ℕ} (h : 1 ≤ reference) where
    module _ (left right c : ℕ) where
      abbrev Sides : Type 0
      Sides = leaf_numbers (tree_of words reference) ≡ leaf_numbers (tree_of words left) ++ leaf_numbers (tree_of words right)

      pub and_numbers : made (Connects And) left right c ≡ node_at words (reference - 1) → Sides
      and_numbers e = leaf_numbers_lem reference (made (Connects And) left right c) h e (condition_is words reference (made (Connects And) left right c) h e)

      pub or_numbers : made (Connects Or) left right c ≡ node_at words (reference - 1) → Sides
      or_numbers e = leaf_numbers_lem reference (made (Connects Or) left right c) h e (condition_is words reference (made (Connects Or) left right c) h e)

      module _ (disjoined : Bool) (before : Leaves) {middle after : Leaves} {first second : Bool} (one : Collected disjoined left before middle first) (two : Collected disjoined right middle after second) where
        both_stored : Sides → after ≡ with_leaves before (leaf_numbers (tree_of words reference))
        both_stored n = two.0 ∙ ap (λ (l : Leaves). with_leaves l (leaf_numbers (tree_of words right))) one.0 ∙ leaves-behind before (leaf_numbers (tree_of words left)) (leaf_numbers (tree_of words right)) ∙ ap (with_leaves before) (sym n)

        pub collected_and : made (Connects And) left right c ≡ node_at words (reference - 1) → Collected disjoined reference before after (not disjoined && (first && second))
        collected_and e = (both_stored (and_numbers e), joined_and disjoined (condition_at words left) (condition_at words right) one.1 two.1 ∙ ap (is_tree disjoined) (sym (condition_is words reference (made (Connects And) left right c) h e)))

        pub collected_or : made (Connects Or) left right c ≡ node_at words (reference - 1) → Collected disjoined reference before after (disjoined && (first && second))
        collected_or e = (both_stored (or_numbers e), joined_or disjoined (condition_at words left) (condition_at words right) one.1 two.1 ∙ ap (is_tree disjoined) (sym (condition_is words reference (made (Connects Or) left right c) h e)))

    module _ (disjoined : Bool) (before : Leaves) {node : Node} (e : node ≡ node_at words (reference - 1)) where
      pub collected_none : NoLeaves (reading_in words node).condition → Collected disjoined reference before before false
      collected_none none =
          let f = condition_is words reference node h e in
          (none_behind before ∙ ap (with_leaves before) (sym (leaf_numbers_lem reference node h e f ∙ none.no_numbers _ _ _)), sym (none.no_tree disjoined) ∙ ap (is_tree disjoined) (sym f))

    pub collected_leaf : (disjoined : Bool) (before : Leaves) {atom : Atom} {a b c : ℕ} → made (Compares atom) a b c ≡ node_at words (reference - 1) → {after : Leaves} → after ≡ with_leaves before ((reference - 1) ∷ []) → Collected disjoined reference before after true
    collected_leaf disjoined before {atom} {a} {b} {c} e stored =
        let f = condition_is words reference (made (Compares atom) a b c) h e in
        (stored ∙ ap (with_leaves before) (sym (leaf_numbers_lem reference (made (Compares atom) a b c) h e f)), either disjoined true ∙ ap (is_tree disjoined) (sym f))

  -- the two sides of an "and" or an "or"
  module _ {reference left right : ℕ} {before : Leaves} (s : Collectable words reference before) (n : leaf_numbers (tree_of words reference) ≡ leaf_numbers (tree_of words left) ++ leaf_numbers (tree_of words right)) (p : Part words reference left × Part words reference right) where
    pub collect_left : Collectable words left before
    collect_left = record { named = p.0.0.0; inside = p.0.0.1; whole = s.whole; room = omega (arith, s.room, ap length n, length-append (leaf_numbers (tree_of words left)) (leaf_numbers (tree_of words right))) }

    pub collect_right : {middle : Leaves} → middle ≡ with_leaves before (leaf_numbers (tree_of words left)) → Collectable words right middle
    collect_right e =
        record {
          named = p.1.0.0;
          inside = p.1.0.1;
          whole = ap (λ (l : Leaves). length l.numbers) e ∙ length-behind before (leaf_numbers (tree_of words left)) ∙ s.whole;
          room = omega (arith, s.room, ap (λ (l : Leaves). l.count) e, count-behind before (leaf_numbers (tree_of words left)), ap length n, length-append (leaf_numbers (tree_of words left)) (leaf_numbers (tree_of words right)));
        }

  abbrev Stored : ℕ → Type 0
  Stored number = number * question_node_words + question_node_words ≤ length words

  -- numbers of nodes in the table, and the leaves of a condition that they are
  record LeavesRead (numbers : List ℕ) (f : calculus.Condition) : Type 0 where
    pub inside : All Stored numbers
    pub atoms : map (leaf_numbered words) numbers ≡ leaves f

  both : {xs ys : List ℕ} {f g h : calculus.Condition} → leaves h ≡ leaves f ++ leaves g → LeavesRead xs f → LeavesRead ys g → LeavesRead (xs ++ ys) h
  both {xs} {ys} e a b =
      record {
        inside = all_append Stored xs ys a.inside b.inside;
        atoms = map-append (leaf_numbered words) xs ys ∙ ap₂ (λ (l r : List calculus.Atom). l ++ r) a.atoms b.atoms ∙ sym e;
      }

  abbrev ReadAt : ℕ → Type 0
  ReadAt reference = LeavesRead (leaf_numbers (tree_of words reference)) (condition_at words reference)

  module _ (reference : ℕ) (h : Names words reference) (below : (part : ℕ) → part < reference → Names words part → ReadAt part) where
    is : (node : Node) → node ≡ node_at words (reference - 1) → condition_at words reference ≡ (reading_in words node).condition
    is node e = condition_is words reference node h.0 e

    numbered : (node : Node) → node ≡ node_at words (reference - 1) → LeavesRead (numbers_below (reading_in words node).condition (reference - 1) (leaf_numbers (tree_of words node.a)) (leaf_numbers (tree_of words node.b))) (reading_in words node).condition → ReadAt reference
    numbered node e r = rw (leaf_numbers_lem reference node h.0 e (is node e), is node e) r

    sides : {left right : ℕ} {f : calculus.Condition} → leaves f ≡ leaves (condition_at words left) ++ leaves (condition_at words right) → Part words reference left × Part words reference right → LeavesRead (leaf_numbers (tree_of words left) ++ leaf_numbers (tree_of words right)) f
    sides {left} {right} f p = both f (below left p.0.1 p.0.0) (below right p.1.1 p.1.0)

    none : (node : Node) → node ≡ node_at words (reference - 1) → NoLeaves (reading_in words node).condition → leaves (reading_in words node).condition ≡ [] → ReadAt reference
    none node e n l = numbered node e (rw (n.no_numbers (reference - 1) (leaf_numbers (tree_of words node.a)) (leaf_numbers (tree_of words node.b))) (record { inside = tt; atoms = sym l }))

    by_form : (form : Form) (a b c : ℕ) → made form a b c ≡ node_at words (reference - 1) → ReadAt reference
    by_form (Table relation) a b c e = none _ e (not_leaves _) refl
    by_form Alpha a b c e = none _ e (not_leaves _) refl
    by_form (Target variable attribute) a b c e = none _ e (not_leaves _) refl
    by_form (Binds variable Binding) a b c e = none _ e (not_leaves _) refl
    by_form (Binds variable (Quantifies Some)) a b c e = numbered _ e (record { inside = tt; atoms = refl })
    by_form (Binds variable (Quantifies Every)) a b c e = numbered _ e (record { inside = tt; atoms = refl })
    by_form (Binds variable (Quantifies (AtLeast least))) a b c e = numbered _ e (record { inside = tt; atoms = refl })
    by_form (Combines combination) a b c e = none _ e (not_leaves _) refl
    by_form (Compares atom) a b c e = numbered _ e (record { inside = (omega (arith, h.0, h.1), tt); atoms = ap (λ (n : Node). leaf_of n.form ∷ []) (sym e) })
    by_form (Connects And) a b c e = numbered _ e (sides refl (and_parts words reference h e))
    by_form (Connects Or) a b c e = numbered _ e (sides refl (or_parts words reference h e))
    by_form (Connects Not) a b c e = numbered _ e (record { inside = tt; atoms = refl })
    by_form IllFormed a b c e = none _ e (not_leaves _) refl

  leaves_read : (fuel reference : ℕ) → reference ≤ fuel → Names words reference → ReadAt reference
  leaves_read zero reference l h = absurd (omega (arith, h.0))
  leaves_read (suc fuel) reference l h = by_form reference h (λ part m n. leaves_read fuel part (omega arith) n) (node_at words (reference - 1)).form (node_at words (reference - 1)).a (node_at words (reference - 1)).b (node_at words (reference - 1)).c refl

  -- what a call of `collect` over no leaves leaves
  pub record FoundLeaves (f : calculus.Condition) (found : List ℕ) : Type 0 where
    pub fit : LeavesFit words found
    pub straight : atoms_of words false found ≡ leaves f
    pub turned : atoms_of words true found ≡ map opposite_atom (leaves f)

  module _ (reference : ℕ) (h : Names words reference) (small : calculus.condition_nodes (condition_at words reference) ≤ question_node_limit) where
    abbrev numbers : List ℕ
    numbers = leaf_numbers (tree_of words reference)

    read : ReadAt reference
    read = leaves_read reference reference (omega arith) h

    few : length numbers ≤ question_node_limit
    few = omega (arith, small, sym (length-map numbers (leaf_numbered words)) ∙ ap length read.atoms, leaves-size (condition_at words reference))

    pub collectable : {start : Leaves} → start ≡ no_leaves → Collectable words reference start
    collectable none = rw none (record { named = h.0; inside = h.1; whole = none-room; room = omega (arith, few, none_first) })

    at : (xs : List ℕ) (k : ℕ) → All Stored xs → k < length xs → Stored (get_or xs k 0)
    at [] k all l = absurd (omega arith)
    at (x ∷ xs) zero all l = all.0
    at (x ∷ xs) (suc k) all l = at xs k all.1 (omega arith)

    module _ {start found : Leaves} (none : start ≡ no_leaves) (e : found ≡ with_leaves start numbers) where
      collected : found ≡ with_leaves no_leaves numbers
      collected = e ∙ ap (λ (l : Leaves). with_leaves l numbers) none

      pub found_few : found.count ≤ question_node_limit
      found_few = omega (arith, ap (λ (l : Leaves). l.count) collected, count-behind no_leaves numbers, none_first, few)

      pub found_leaves : {listed : List ℕ} → listed ≡ numbers_in found → FoundLeaves (condition_at words reference) listed
      found_leaves i =
          rw (i ∙ ap numbers_in collected ∙ first_numbers numbers few) (record {
            fit = record { few = few; inside = λ j l. at numbers j read.inside l };
            straight = read.atoms;
            turned = sym (map-map opposite_atom (leaf_numbered words) numbers) ∙ ap (map opposite_atom) read.atoms;
          })
