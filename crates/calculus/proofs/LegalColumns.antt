-- An attribute in scope is a column of P; so are the columns of targets and triples, and there are not too many.
use mathlib.Core.Path.{◌≡◌, refl, sym, ◌∙◌, ap, subst}
use mathlib.Core.Bool.{Bool, true, false, ◌&&◌, ◌||◌, cond, So, false≢true}
use mathlib.Core.Logic.{◌⊎◌, inl, inr}
use mathlib.Core.List.{List, [], ◌∷◌, map}
use Prim.Native.Nat.{ℕ, zero, suc, ◌+◌, ◌≤◌}
use native.Mathlib.Omega.{arith}
use lib.Dec.{leb, eqb}
use borrow.Author.Tests.{leb-true, eqb-true}
use lib.ListN.{length, length-append}
use Rattle.relations.specs.Columns.{Attribute, Triple}
use Rattle.relations.specs.Comparison.{turned}
use Rattle.relations.specs.Limits.{triple_limit}
use Rattle.relations.specs.Lists.{all, filter, flat, All}
use Rattle.relations.proofs.BoolLaws.{and_right, true_or_false}
use Rattle.relations.proofs.LegalityLaws.{Inside, TripleInside}
use Rattle.calculus.specs.Form.{NotInScope, Known, GoodAtom, GoodTarget}
use Rattle.calculus.specs.Leaves.{opposite_atom, alone_on, compares_with_other}
use Rattle.calculus.specs.Question.{fixed, of_variable, Atom, compare, Target, whole_row, one_attribute}
use Rattle.calculus.specs.Scope.{entry, Scope, extend, columns_in, width_in, column_number, column_of, columns_from, target_columns}
use Rattle.calculus.specs.ShortRules.{short_rule2_atoms, triple_of}
use Rattle.calculus.proofs.AtomLaws.{width_extended, other_known}
use Rattle.calculus.proofs.ScopeLaws.{column_positive, columns_length}

-- the columns 1 .. w are columns of anything as wide
pub columns_inside : (w i u : ℕ) → 1 ≤ i → i + w ≤ suc u → All (Inside u) (columns_from w i)
columns_inside zero i u h k = tt
columns_inside (suc w) i u h k = ((h, omega arith), columns_inside w (suc i) u (omega arith) (omega arith))

-- an attribute's column is a column of the scope
pub column_at_most : (s : Scope) (v a : ℕ) → Known s v a → column_number s v a ≤ columns_in s
column_at_most [] v a k = absurd (omega arith)
column_at_most (entry x w ∷ s) v a k = go (eqb v x) k.1 (λ i. column_at_most s v a (k.0, i))
  where
    go : (b : Bool) → a ≤ cond b w (width_in s v) → (a ≤ width_in s v → column_number s v a ≤ columns_in s) → cond b a (w + column_number s v a) ≤ w + columns_in s
    go true i ih = omega arith
    go false i ih = omega (arith, ih i)

pub column-inside : (s : Scope) (v : ℕ) (a : Attribute) (w : ℕ) → w ≡ columns_in s → Known s v a.number → Inside w (column_of s v a)
column-inside s v a w e k = (column_positive s v a.number k, omega (arith, column_at_most s v a.number k))

pub alone_inside : (s : Scope) (v w u : ℕ) (a : Attribute) → NotInScope v s → So (eqb u v) → Known (extend s v w) u a.number → Inside w a
alone_inside s v w u a f h k = (k.0, omega (arith, k.1, ap (width_in (extend s v w)) (eqb-true u v h) ∙ width_extended s v w f))

pub triple_inside_lem : (s : Scope) (v w : ℕ) → NotInScope v s → (a : Atom) → So (compares_with_other v a) → GoodAtom (extend s v w) a → TripleInside (columns_in s) w (triple_of s v a)
triple_inside_lem s v w f (compare u a o (fixed c)) h k = absurd (false≢true h)
triple_inside_lem s v w f (compare u a o (of_variable x b)) h k = go (true_or_false (eqb u v)) (true_or_false (eqb x v))
  where
    turned_triple : Triple
    turned_triple = record { left = column_of s x b; operator = turned o; right = a }

    straight : Triple
    straight = record { left = column_of s u a; operator = o; right = b }

    go : (eqb u v ≡ true) ⊎ (eqb u v ≡ false) → (eqb x v ≡ true) ⊎ (eqb x v ≡ false) → TripleInside (columns_in s) w (cond (eqb u v) turned_triple straight)
    go (inl i) (inl j) = absurd (false≢true (rw (i, j) at h))
    go (inl i) (inr j) = subst (λ c. TripleInside (columns_in s) w (cond c turned_triple straight)) (sym i) (column-inside s x b (columns_in s) refl (other_known s v w x b.number j k.1), alone_inside s v w u a f i k.0)
    go (inr i) (inl j) = subst (λ c. TripleInside (columns_in s) w (cond c turned_triple straight)) (sym i) (column-inside s u a (columns_in s) refl (other_known s v w u a.number i k.0), alone_inside s v w x b f j k.1)
    go (inr i) (inr j) = absurd (false≢true (rw (i, j) at h))

-- targets' columns
pub target_inside : (s : Scope) (t : Target) → GoodTarget s t → All (Inside (columns_in s)) (target_columns s t)
target_inside s (whole_row v) k = columns_inside (width_in s v) (column_number s v 1) (columns_in s) (column_positive s v 1 (omega arith, k)) (whole s v k)
  where
    whole : (s : Scope) (v : ℕ) → 1 ≤ width_in s v → column_number s v 1 + width_in s v ≤ suc (columns_in s)
    whole [] v h = absurd (omega arith)
    whole (entry x w ∷ s) v h = go (eqb v x) h (whole s v)
      where
        go : (b : Bool) → 1 ≤ cond b w (width_in s v) → (1 ≤ width_in s v → column_number s v 1 + width_in s v ≤ suc (columns_in s)) → cond b 1 (w + column_number s v 1) + cond b w (width_in s v) ≤ suc (w + columns_in s)
        go true i ih = omega arith
        go false i ih = omega (arith, ih i)
target_inside s (one_attribute v a) k = (column-inside s v a (columns_in s) refl k, tt)

-- a good target has a column, and so has its scope

pub widths_in_columns : (s : Scope) (v : ℕ) → width_in s v ≤ columns_in s
widths_in_columns [] v = omega arith
widths_in_columns (entry x w ∷ s) v = go (eqb v x) (widths_in_columns s v)
  where
    go : (b : Bool) → width_in s v ≤ columns_in s → cond b w (width_in s v) ≤ w + columns_in s
    go true h = omega arith
    go false h = omega arith

target_columns_lem : (s : Scope) (t : Target) → GoodTarget s t → (1 ≤ length (target_columns s t)) × (1 ≤ columns_in s)
target_columns_lem s (whole_row v) k = (omega (arith, columns_length (width_in s v) (column_number s v 1)), omega (arith, widths_in_columns s v))
target_columns_lem s (one_attribute v a) k = (omega arith, omega (arith, widths_in_columns s v))

pub targets_columns : (s : Scope) (ts : List Target) → 1 ≤ length ts → All (GoodTarget s) ts → (1 ≤ length (flat (target_columns s) ts)) × (1 ≤ columns_in s)
targets_columns s [] h k = absurd (omega arith)
targets_columns s (t ∷ ts) h k = (omega (arith, (target_columns_lem s t k.0).0, length-append (target_columns s t) (flat (target_columns s) ts)), (target_columns_lem s t k.0).1)

-- S2's number of comparing atoms, also for their opposites

pub few-opposite : (v : ℕ) (cs : List Atom) → length (filter (compares_with_other v) (map opposite_atom cs)) ≡ length (filter (compares_with_other v) cs)
few-opposite v [] = refl
few-opposite v (a ∷ cs) = go a (few-opposite v cs)
  where
    each : (b : Bool) (x y : Atom) → length (filter (compares_with_other v) (map opposite_atom cs)) ≡ length (filter (compares_with_other v) cs) → length (cond b (x ∷ filter (compares_with_other v) (map opposite_atom cs)) (filter (compares_with_other v) (map opposite_atom cs))) ≡ length (cond b (y ∷ filter (compares_with_other v) cs) (filter (compares_with_other v) cs))
    each true x y ih = ap suc ih
    each false x y ih = ih

    go : (x : Atom) → length (filter (compares_with_other v) (map opposite_atom cs)) ≡ length (filter (compares_with_other v) cs) → length (filter (compares_with_other v) (opposite_atom x ∷ map opposite_atom cs)) ≡ length (filter (compares_with_other v) (x ∷ cs))
    go (compare u c o (fixed d)) ih = each false (compare u c o (fixed d)) (compare u c o (fixed d)) ih
    go (compare u c o (of_variable w d)) ih = each (compares_with_other v (compare u c o (of_variable w d))) (opposite_atom (compare u c o (of_variable w d))) (compare u c o (of_variable w d)) ih

pub few : (b : Bool) (v : ℕ) (cs : List Atom) → So (b && short_rule2_atoms v cs) → length (filter (compares_with_other v) cs) ≤ triple_limit
few b v cs h = leb-true (length (filter (compares_with_other v) cs)) triple_limit (and_right (all (λ a. alone_on v a || compares_with_other v a) cs) (leb (length (filter (compares_with_other v) cs)) triple_limit) (and_right b (short_rule2_atoms v cs) h))
