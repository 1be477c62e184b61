-- Atoms of a condition with one more variable v in scope: which see v alone, which compare it with another, and their triples.
use mathlib.Core.Path.{◌≡◌, refl, ◌∙◌, ap}
use mathlib.Core.Bool.{Bool, true, false, not, So, false≢true}
use mathlib.Core.Logic.{◌⊎◌, inl, inr}
use mathlib.Core.List.{[], ◌∷◌}
use Prim.Native.Nat.{ℕ}
use native.Mathlib.Omega.{arith}
use lib.Dec.{eqb}
use borrow.Author.Tests.{eqb-true, eq-eqb}
use Rattle.relations.specs.Columns.{Triple, column}
use Rattle.relations.specs.Comparison.{holds}
use Rattle.relations.specs.Rows.{Row}
use Rattle.relations.proofs.BoolLaws.{and_left, and_right, true_or_false}
use Rattle.relations.proofs.ComparisonLaws.{opposite-holds, turned-holds}
use Rattle.calculus.specs.Form.{NotInScope, Known, GoodAtom}
use Rattle.calculus.specs.Leaves.{opposite_atom, alone_on, compares_with_other}
use Rattle.calculus.specs.Meaning.{Environment, bound, atom_holds}
use Rattle.calculus.specs.Question.{fixed, of_variable, Atom, compare}
use Rattle.calculus.specs.Scope.{entry, Scope, extend, width_in, column_of, environment_of}
use Rattle.calculus.specs.ShortRules.{triple_of}
use Rattle.calculus.proofs.ScopeLaws.{column_of-right}

-- one triple of two rows
abbrev pub meets_triple : Row → Row → Triple → Bool
meets_triple left right t = holds t.operator (column left t.left) (column right t.right)

pub opposite_atom-holds : (a : Atom) (e : Environment) → atom_holds (opposite_atom a) e ≡ not (atom_holds a e)
opposite_atom-holds (compare v a o (fixed c)) e = opposite-holds o (column (e v) a) c.value
opposite_atom-holds (compare v a o (of_variable u b)) e = opposite-holds o (column (e v) a) (column (e u) b)

pub width_extended : (s : Scope) (v w : ℕ) → NotInScope v s → width_in (extend s v w) v ≡ w
width_extended [] v w f = rw (eq-eqb v v refl)
width_extended (entry x u ∷ s) v w f = rw f.0 (width_extended s v w f.1)

pub width-kept : (s : Scope) (v w u : ℕ) → eqb u v ≡ false → width_in (extend s v w) u ≡ width_in s u
width-kept [] v w u f = rw f
width-kept (entry x k ∷ s) v w u f = rw (width-kept s v w u f)

-- an atom on v alone sees v's row only
pub alone_atom : (v : ℕ) (a : Atom) (e e' : Environment) (r : Row) → So (alone_on v a) → atom_holds a (bound e v r) ≡ atom_holds a (bound e' v r)
alone_atom v (compare u a o (fixed c)) e e' r h = rw h
alone_atom v (compare u a o (of_variable x b)) e e' r h = rw (and_left (eqb u v) (eqb x v) h, and_right (eqb u v) (eqb x v) h)

alone_one : (s : Scope) (v w : ℕ) → NotInScope v s → (u a : ℕ) → So (eqb u v) → Known (extend s v w) u a → Known (entry v w ∷ []) u a
alone_one s v w f u a h k = (k.0, rw h (omega (arith, k.1, ap (width_in (extend s v w)) (eqb-true u v h) ∙ width_extended s v w f)))

pub alone_known : (s : Scope) (v w : ℕ) → NotInScope v s → (a : Atom) → So (alone_on v a) → GoodAtom (extend s v w) a → GoodAtom (entry v w ∷ []) a
alone_known s v w f (compare u a o (fixed c)) h k = alone_one s v w f u a.number h k
alone_known s v w f (compare u a o (of_variable x b)) h k = (alone_one s v w f u a.number (and_left (eqb u v) (eqb x v) h) k.0, alone_one s v w f x b.number (and_right (eqb u v) (eqb x v) h) k.1)

pub other_known : (s : Scope) (v w u a : ℕ) → eqb u v ≡ false → Known (extend s v w) u a → Known s u a
other_known s v w u a h k = (k.0, rw (width-kept s v w u h) at k.1)

-- an atom that compares v with another variable is its triple
pub compared_atom : (s : Scope) (v w : ℕ) → NotInScope v s → (a : Atom) → So (compares_with_other v a) → GoodAtom (extend s v w) a → (p r : Row) → meets_triple p r (triple_of s v a) ≡ atom_holds a (bound (environment_of s p) v r)
compared_atom s v w f (compare u a o (fixed c)) h k p r = absurd (false≢true h)
compared_atom s v w f (compare u a o (of_variable x b)) h k p r = go (true_or_false (eqb u v)) (true_or_false (eqb x v))
  where
    go : (eqb u v ≡ true) ⊎ (eqb u v ≡ false) → (eqb x v ≡ true) ⊎ (eqb x v ≡ false) → meets_triple p r (triple_of s v (compare u a o (of_variable x b))) ≡ atom_holds (compare u a o (of_variable x b)) (bound (environment_of s p) v r)
    go (inl i) (inl j) = absurd (false≢true (rw (i, j) at h))
    go (inl i) (inr j) = rw (i, j) (turned-holds o (column r a) (column p (column_of s x b)) ∙ ap (holds o (column r a)) (column_of-right s p x b (other_known s v w x b.number j k.1)))
    go (inr i) (inl j) = rw (i, j) (ap (λ z. holds o z (column r b)) (column_of-right s p u a (other_known s v w u a.number i k.0)))
    go (inr i) (inr j) = absurd (false≢true (rw (i, j) at h))
