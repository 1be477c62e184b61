-- What the form of a decoded node gives: its variables are there, and its references are lower nodes of the sorts that its parts ask for. Assumes nothing.
use mathlib.Core.Path.{◌≡◌, refl, sym, ◌∙◌}
use mathlib.Core.Bool.{Bool, true, false, cond, ◌&&◌, ◌||◌, true≢false}
use mathlib.Core.List.{List}
use mathlib.Core.Logic.{⊎_elim}
use Prim.Native.Nat.{ℕ, ◌*◌, ◌≤◌}
use native.Mathlib.Omega.{arith}
use lib.Dec.{ltb, leb, eqb}
use lib.ListN.{get_or}
use borrow.Author.Tests.{ltb-true, leb-true, eqb-true}
use Rattle.relations.specs.Limits.{column_limit, question_node_words, variable_count, operator_count}
use Rattle.relations.proofs.BoolLaws.{and_left, and_right, and_both, or_cases, true_or_false}
use Rattle.nodes.specs.Kinds.{is_of, fields_of, field_fits, words_fit, reference_in}
use Rattle.nodes.specs.Nodes.{kind_named, form_of, node_at, word_of, OperandVariableFits, VariablesFit}
use Rattle.nodes.specs.declared.kinds.Sort.{Sort}
use Rattle.nodes.specs.declared.kinds.Sort.TheVariants as sort
use Rattle.nodes.specs.declared.kinds.Field.{Field}
use Rattle.nodes.specs.declared.kinds.Field.TheVariants.{Unused, Number, Positive, Variable, Attribute, AttributeOrRow, Operator, Reference, Optional}
use Rattle.nodes.specs.declared.node.Operand.{Operand}
use Rattle.nodes.specs.declared.node.Operand.TheVariants.{Of, Fixed}
use Rattle.nodes.specs.declared.node.Atom.{Atom}
use Rattle.nodes.specs.declared.node.Connective.{Connective}
use Rattle.nodes.specs.declared.node.Connective.TheVariants.{And, Or, Not}
use Rattle.nodes.specs.declared.node.Quantifier.{Quantifier}
use Rattle.nodes.specs.declared.node.Quantifier.TheVariants as quantifier
use Rattle.nodes.specs.declared.node.Binder.{Binder}
use Rattle.nodes.specs.declared.node.Binder.TheVariants.{Binding, Quantifies}
use Rattle.nodes.specs.declared.node.Form.{Form}
use Rattle.nodes.specs.declared.node.Form.TheVariants.{Table, Alpha, Target, Binds, Combines, Compares, Connects, IllFormed}
use Rattle.nodes.specs.declared.node.Node.{Node}

-- What a node's a, b or c may refer to: nothing, a node of a sort, or either.
pub data Part : Type 0 where
  none : Part
  must : Sort → Part
  may : Sort → Part

abbrev pub part_in : Field → Part
part_in Unused = none
part_in Number = none
part_in Positive = none
part_in Variable = none
part_in Attribute = none
part_in AttributeOrRow = none
part_in Operator = none
part_in (Reference sort) = must sort
part_in (Optional sort) = may sort

pub record Parts : Type 0 where
  pub a : Part
  pub b : Part
  pub c : Part

abbrev pub parts : (a b c : Part) → Parts
parts a b c = record { a = a; b = b; c = c }

abbrev pub binder_parts : Binder → Parts
binder_parts Binding = parts none (must sort.Range) (may sort.Binding)
binder_parts (Quantifies quantifier) = parts none (must sort.Range) (must sort.Condition)

abbrev pub connective_parts : Connective → Parts
connective_parts And = parts (must sort.Condition) (must sort.Condition) none
connective_parts Or = parts (must sort.Condition) (must sort.Condition) none
connective_parts Not = parts (must sort.Condition) none none

abbrev pub parts_of : Form → Parts
parts_of (Table relation) = parts none none none
parts_of Alpha = parts (must sort.Target) (must sort.Binding) (may sort.Condition)
parts_of (Target variable attribute) = parts none none (may sort.Target)
parts_of (Binds variable binder) = binder_parts binder
parts_of (Combines combination) = parts (must sort.Range) (must sort.Range) none
parts_of (Compares atom) = parts none none none
parts_of (Connects connective) = connective_parts connective
parts_of IllFormed = parts none none none

-- the words that are no references
abbrev pub operand_fits : Operand → Bool
operand_fits (Of variable attribute) = ltb variable variable_count && leb 1 attribute.0 && leb attribute.0 column_limit
operand_fits (Fixed constant) = true

abbrev pub atom_fits : Atom → Bool
atom_fits atom =
    ltb atom.variable variable_count && leb 1 atom.attribute.0 && leb atom.attribute.0 column_limit && operand_fits atom.operand

abbrev pub quantifier_fits : Quantifier → Bool
quantifier_fits quantifier.Some = true
quantifier_fits quantifier.Every = true
quantifier_fits (quantifier.AtLeast least) = leb 1 least

abbrev pub binder_fits : Binder → Bool
binder_fits Binding = true
binder_fits (Quantifies quantifier) = quantifier_fits quantifier

abbrev pub form_fits : Form → Bool
form_fits (Table relation) = true
form_fits Alpha = true
form_fits (Target variable attribute) = ltb variable variable_count && leb attribute.0 column_limit
form_fits (Binds variable binder) = binder_fits binder && ltb variable variable_count
form_fits (Combines combination) = true
form_fits (Compares atom) = atom_fits atom
form_fits (Connects connective) = true
form_fits IllFormed = true

module _ (kind : ℕ → ℕ) where
  abbrev pub part_fits : Part → ℕ → Bool
  part_fits none word = eqb word 0
  part_fits (must sort) word = is_of sort (kind word)
  part_fits (may sort) word = eqb word 0 || is_of sort (kind word)

  pub record Fits (node : Node) : Type 0 where
    pub words-fit : form_fits node.form ≡ true
    pub a_fits : part_fits (parts_of node.form).a node.a ≡ true
    pub b_fits : part_fits (parts_of node.form).b node.b ≡ true
    pub c_fits : part_fits (parts_of node.form).c node.c ≡ true

  part-fits : (field : Field) (word : ℕ) → field_fits kind field word ≡ true → part_fits (part_in field) (reference_in field word) ≡ true
  part-fits Unused word h = refl
  part-fits Number word h = refl
  part-fits Positive word h = refl
  part-fits Variable word h = refl
  part-fits Attribute word h = refl
  part-fits AttributeOrRow word h = refl
  part-fits Operator word h = refl
  part-fits (Reference sort) word h = h
  part-fits (Optional sort) word h = h

-- the tests of an atom, in the order of its words, but for those of its operator's number
atom_tests : (v a b p q o : Bool) → (v && (a && b) && (p && q) && o) ≡ true → (v && a && b && o) ≡ true
atom_tests v a b p q o h =
    let x : (v && (a && b)) ≡ true = and_left (v && (a && b)) (p && q) (and_left (v && (a && b) && (p && q)) o h) in
    let z : (a && b) ≡ true = and_right v (a && b) x in
    and_both (v && a && b) o (and_both (v && a) b (and_both v a (and_left v (a && b) x) (and_left a b z)) (and_right a b z)) (and_right (v && (a && b) && (p && q)) o h)

operand_tests : (l v a b : Bool) → (l && v && (a && b)) ≡ true → (l && (v && a && b)) ≡ true
operand_tests l v a b h =
    let x : (l && v) ≡ true = and_left (l && v) (a && b) h in
    let z : (a && b) ≡ true = and_right (l && v) (a && b) h in
    and_both l (v && a && b) (and_left l v x) (and_both (v && a) b (and_both v a (and_right l v x) (and_left a b z)) (and_right a b z))

module _ (kind : ℕ → ℕ) (a b c d e : ℕ) where
  -- words that the table lets stand spell a node that fits
  FitsAt : ℕ → Type 0
  FitsAt k =
      words_fit kind (fields_of k) a b c d e ≡ true
      → Fits kind (record { form = form_of k a b c d e; a = reference_in (fields_of k).a a; b = reference_in (fields_of k).b b; c = reference_in (fields_of k).c c })

  fits_if : (k n : ℕ) → FitsAt n → (eqb k n ≡ false → FitsAt k) → FitsAt k
  fits_if k n here else = ⊎_elim (λ (t : eqb k n ≡ true). rw (eqb-true k n t) here) else (true_or_false (eqb k n))

  three-words : (x y z v w : Bool) → (x && y && z && v && w) ≡ true → (x && y && z) ≡ true
  three-words x y z v w h = and_left (x && y && z) v (and_left (x && y && z && v) w h)

  two_words : (x y z v w : Bool) → (x && y && z && v && w) ≡ true → (x && y) ≡ true
  two_words x y z v w h = and_left (x && y) z (three-words x y z v w h)

  one_word : (x y z v w : Bool) → (x && y && z && v && w) ≡ true → x ≡ true
  one_word x y z v w h = and_left x y (two_words x y z v w h)

  fourth_word : (x y z v w : Bool) → (x && y && z && v && w) ≡ true → v ≡ true
  fourth_word x y z v w h = and_right (x && y && z) v (and_left (x && y && z && v) w h)

  -- a kind whose form has the parts that its fields say
  as_the_table : (k : ℕ) (form : Form) → parts_of form ≡ parts (part_in (fields_of k).a) (part_in (fields_of k).b) (part_in (fields_of k).c) → form_fits form ≡ true → words_fit kind (fields_of k) a b c d e ≡ true
      → Fits kind (record { form = form; a = reference_in (fields_of k).a a; b = reference_in (fields_of k).b b; c = reference_in (fields_of k).c c })
  as_the_table k form same own h =
      let f : Field → ℕ → Bool = field_fits kind in
      let x : Bool = f (fields_of k).a a in
      let y : Bool = f (fields_of k).b b in
      let z : Bool = f (fields_of k).c c in
      let v : Bool = f (fields_of k).d d in
      let w : Bool = f (fields_of k).e e in
      record {
        words-fit = own;
        a_fits = rw same (part-fits kind (fields_of k).a a (one_word x y z v w h));
        b_fits = rw same (part-fits kind (fields_of k).b b (and_right x y (two_words x y z v w h)));
        c_fits = rw same (part-fits kind (fields_of k).c c (and_right (x && y) z (three-words x y z v w h)));
      }

  fits-spelled : (k : ℕ) → FitsAt k
  unfolding FitsAt fields_of form_of
  fits-spelled k =
      fits_if k 1 (as_the_table 1 (form_of 1 a b c d e) refl refl) λ n1.
      fits_if k 2 (as_the_table 2 (form_of 2 a b c d e) refl refl) λ n2.
      fits_if k 3 (λ h. as_the_table 3 (form_of 3 a b c d e) refl (two_words (ltb a variable_count) (leb b column_limit) _ _ _ h) h) λ n3.
      fits_if k 4 (λ h. as_the_table 4 (form_of 4 a b c d e) refl (one_word (ltb a variable_count) _ _ _ _ h) h) λ n4.
      fits_if k 5 (as_the_table 5 (form_of 5 a b c d e) refl refl) λ n5.
      fits_if k 6 (as_the_table 6 (form_of 6 a b c d e) refl refl) λ n6.
      fits_if k 7 (as_the_table 7 (form_of 7 a b c d e) refl refl) λ n7.
      fits_if k 8 (λ h. as_the_table 8 (form_of 8 a b c d e) refl (atom_tests (ltb a variable_count) (leb 1 b) (leb b column_limit) (leb 1 c) (leb c operator_count) true (and_left (ltb a variable_count && (leb 1 b && leb b column_limit) && (leb 1 c && leb c operator_count) && true) (eqb e 0) h)) h) λ n8.
      fits_if k 9 (λ h. as_the_table 9 (form_of 9 a b c d e) refl (atom_tests (ltb a variable_count) (leb 1 b) (leb b column_limit) (leb 1 c) (leb c operator_count) (ltb d variable_count && leb 1 e && leb e column_limit) (operand_tests (ltb a variable_count && (leb 1 b && leb b column_limit) && (leb 1 c && leb c operator_count)) (ltb d variable_count) (leb 1 e) (leb e column_limit) h)) h) λ n9.
      fits_if k 10 (as_the_table 10 (form_of 10 a b c d e) refl refl) λ n10.
      fits_if k 11 (as_the_table 11 (form_of 11 a b c d e) refl refl) λ n11.
      fits_if k 12 (as_the_table 12 (form_of 12 a b c d e) refl refl) λ n12.
      fits_if k 13 (λ h. as_the_table 13 (form_of 13 a b c d e) refl (one_word (ltb a variable_count) _ _ _ _ h) h) λ n13.
      fits_if k 14 (λ h. as_the_table 14 (form_of 14 a b c d e) refl (one_word (ltb a variable_count) _ _ _ _ h) h) λ n14.
      fits_if k 16 (λ h. as_the_table 16 (form_of 16 a b c d e) refl (and_both (leb 1 d) (ltb a variable_count) (fourth_word (ltb a variable_count) (is_of sort.Range (kind b)) (is_of sort.Condition (kind c)) (leb 1 d) (eqb e 0) h) (one_word (ltb a variable_count) _ _ _ _ h)) h) λ n16 h.
      rw (n1, n2, n3, n4, n5, n6, n7, n8, n9, n10, n11, n12, n13, n14, n16) (record { words-fit = refl; a_fits = refl; b_fits = refl; c_fits = refl })

kept : (test : Bool) (kind : ℕ → ℕ) (node : Node) → (test ≡ true → Fits kind node) → Fits kind (cond test node (record { form = IllFormed; a = 0; b = 0; c = 0 }))
kept true kind node h = h refl
kept false kind node h = record { words-fit = refl; a_fits = refl; b_fits = refl; c_fits = refl }

-- every node of a table fits
pub node_fits : (words : List ℕ) (i : ℕ) → Fits (kind_named words i) (node_at words i)
unfolding node_at FitsAt
node_fits words i =
    let k : ℕ = get_or words (i * question_node_words) 0 in
    let w : ℕ → ℕ = word_of words i in
    kept (words_fit (kind_named words i) (fields_of k) (w 1) (w 2) (w 3) (w 4) (w 5)) (kind_named words i) _ (fits-spelled (kind_named words i) (w 1) (w 2) (w 3) (w 4) (w 5) k)

-- a reference that names a sort is of a lower node
pub lower : (words : List ℕ) (i reference : ℕ) (sort : ℕ → Bool) → sort 0 ≡ false → sort (kind_named words i reference) ≡ true → (1 ≤ reference) × (reference ≤ i)
unfolding kind_named
lower words i reference sort absent h =
    ⊎_elim (λ e. (leb-true 1 reference (and_left (leb 1 reference) (leb reference i) e), leb-true reference i (and_right (leb 1 reference) (leb reference i) e)))
    (λ e. absurd (true≢false (sym h ∙ rw e absent)))
    (true_or_false (leb 1 reference && leb reference i))

pub lower_if_any : (words : List ℕ) (i reference : ℕ) (sort : ℕ → Bool) → sort 0 ≡ false → (eqb reference 0 || sort (kind_named words i reference)) ≡ true → reference ≤ i
lower_if_any words i reference sort absent h =
    ⊎_elim (λ e. omega (arith, eqb-true reference 0 e)) (λ e. (lower words i reference sort absent e).1) (or_cases (eqb reference 0) (sort (kind_named words i reference)) h)

-- the tests of a node with three parts, and of one with two
pub first_of : (a b c : Bool) → (a && b && c) ≡ true → a ≡ true
first_of a b c h = and_left a b (and_left (a && b) c h)

pub second_of : (a b c : Bool) → (a && b && c) ≡ true → b ≡ true
second_of a b c h = and_right a b (and_left (a && b) c h)

pub third_of : (a b c : Bool) → (a && b && c) ≡ true → c ≡ true
third_of a b c h = and_right (a && b) c h

pub operand-variable : (operand : Operand) → operand_fits operand ≡ true → OperandVariableFits operand
operand-variable (Of variable attribute) h = ltb-true variable variable_count (first_of (ltb variable variable_count) (leb 1 attribute.0) (leb attribute.0 column_limit) h)
operand-variable (Fixed constant) h = tt

pub variables_fit : (form : Form) → form_fits form ≡ true → VariablesFit form
variables_fit (Table relation) h = tt
variables_fit Alpha h = tt
variables_fit (Target variable attribute) h = ltb-true variable variable_count (and_left (ltb variable variable_count) (leb attribute.0 column_limit) h)
variables_fit (Binds variable binder) h = ltb-true variable variable_count (and_right (binder_fits binder) (ltb variable variable_count) h)
variables_fit (Combines combination) h = tt
variables_fit (Compares atom) h =
    let v : Bool = ltb atom.variable variable_count in
    let a : Bool = leb 1 atom.attribute.0 in
    let b : Bool = leb atom.attribute.0 column_limit in (
      ltb-true atom.variable variable_count (first_of v a b (and_left (v && a && b) (operand_fits atom.operand) h)),
      operand-variable atom.operand (and_right (v && a && b) (operand_fits atom.operand) h),
    )
variables_fit (Connects connective) h = tt
variables_fit IllFormed h = tt

pub no_kind : (sort : Sort) → is_of sort 0 ≡ false
no_kind sort.Target = refl
no_kind sort.Binding = refl
no_kind sort.Range = refl
no_kind sort.Condition = refl

module _ (words : List ℕ) (i : ℕ) where
  part-lower : (part : Part) (word : ℕ) → part_fits (kind_named words i) part word ≡ true → word ≤ i
  part-lower none word h = omega (arith, eqb-true word 0 h)
  part-lower (must sort) word h = (lower words i word (is_of sort) (no_kind sort) h).1
  part-lower (may sort) word h = lower_if_any words i word (is_of sort) (no_kind sort) h

  pub record Lower : Type 0 where
    pub a_lower : (node_at words i).a ≤ i
    pub b_lower : (node_at words i).b ≤ i
    pub c_lower : (node_at words i).c ≤ i

  pub node_lower : Lower
  node_lower =
      let node : Node = node_at words i in
      let it = node_fits words i in
      record { a_lower = part-lower (parts_of node.form).a node.a it.a_fits; b_lower = part-lower (parts_of node.form).b node.b it.b_fits; c_lower = part-lower (parts_of node.form).c node.c it.c_fits }

  pub node_variables : VariablesFit (node_at words i).form
  node_variables = variables_fit (node_at words i).form (node_fits words i).words-fit
