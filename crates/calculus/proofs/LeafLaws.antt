-- And-trees and or-trees are known by their leaves; an atom's opposite keeps its form and kind.
use mathlib.Core.Path.{◌≡◌, refl, sym, ◌∙◌, ap₂}
use mathlib.Core.Bool.{Bool, true, false, not, ◌&&◌, ◌||◌, So, false≢true, and-true}
use mathlib.Core.List.{List, [], ◌∷◌, map}
use Prim.Native.Nat.{ℕ}
use Rattle.relations.specs.Lists.{all, All}
use Rattle.relations.specs.Values.{Tables}
use Rattle.relations.proofs.BoolLaws.{and_left, and_right}
use Rattle.relations.proofs.ListLaws.{all_every, all_append, all_cong, all_test_append, all_test_map}
use Rattle.calculus.specs.Form.{GoodAtom, GoodCondition}
use Rattle.calculus.specs.Leaves.{is_and_tree, is_or_tree, leaves, opposite_atom, alone_on, compares_with_other}
use Rattle.calculus.specs.Meaning.{Environment, atom_holds, condition_holds}
use Rattle.calculus.specs.Question.{fixed, of_variable, Atom, compare, Condition, atom, condition_and, condition_or, condition_not, for_some, for_every, for_at_least}
use Rattle.calculus.specs.Scope.{Scope}
use Rattle.calculus.proofs.AtomLaws.{opposite_atom-holds}

pub good-leaves : (columns : ℕ → ℕ) (relations : ℕ) (f : Condition) (s : Scope) → GoodCondition columns relations f s → All (GoodAtom s) (leaves f)
unfolding GoodCondition
good-leaves columns relations (atom a) s o = (o, tt)
good-leaves columns relations (condition_and f g) s o = all_append (GoodAtom s) (leaves f) (leaves g) (good-leaves columns relations f s o.0) (good-leaves columns relations g s o.1)
good-leaves columns relations (condition_or f g) s o = all_append (GoodAtom s) (leaves f) (leaves g) (good-leaves columns relations f s o.0) (good-leaves columns relations g s o.1)
good-leaves columns relations (condition_not f) s o = tt
good-leaves columns relations (for_some v R f) s o = tt
good-leaves columns relations (for_every v R f) s o = tt
good-leaves columns relations (for_at_least v R f least) s o = tt

pub and_tree_holds : (tables : Tables) (f : Condition) → So (is_and_tree f) → (e : Environment) → condition_holds tables f e ≡ all (λ a. atom_holds a e) (leaves f)
unfolding condition_holds
and_tree_holds tables (atom a) h e = sym (and-true (atom_holds a e))
and_tree_holds tables (condition_and f g) h e = ap₂ ◌&&◌ (and_tree_holds tables f (and_left (is_and_tree f) (is_and_tree g) h) e) (and_tree_holds tables g (and_right (is_and_tree f) (is_and_tree g) h) e) ∙ sym (all_test_append (λ a. atom_holds a e) (leaves f) (leaves g))
and_tree_holds tables (condition_or f g) h e = absurd (false≢true h)
and_tree_holds tables (condition_not f) h e = absurd (false≢true h)
and_tree_holds tables (for_some v R f) h e = absurd (false≢true h)
and_tree_holds tables (for_every v R f) h e = absurd (false≢true h)
and_tree_holds tables (for_at_least v R f least) h e = absurd (false≢true h)

not_or : (a b : Bool) → not (a || b) ≡ (not a && not b)
not_or true b = refl
not_or false b = refl

-- an or-tree fails where all its atoms, turned, hold
pub or_tree_fails : (tables : Tables) (f : Condition) → So (is_or_tree f) → (e : Environment) → not (condition_holds tables f e) ≡ all (λ a. atom_holds (opposite_atom a) e) (leaves f)
unfolding condition_holds
or_tree_fails tables (atom a) h e = sym (opposite_atom-holds a e) ∙ sym (and-true (atom_holds (opposite_atom a) e))
or_tree_fails tables (condition_and f g) h e = absurd (false≢true h)
or_tree_fails tables (condition_or f g) h e = not_or (condition_holds tables f e) (condition_holds tables g e) ∙ (ap₂ ◌&&◌ (or_tree_fails tables f (and_left (is_or_tree f) (is_or_tree g) h) e) (or_tree_fails tables g (and_right (is_or_tree f) (is_or_tree g) h) e) ∙ sym (all_test_append (λ a. atom_holds (opposite_atom a) e) (leaves f) (leaves g)))
or_tree_fails tables (condition_not f) h e = absurd (false≢true h)
or_tree_fails tables (for_some v R f) h e = absurd (false≢true h)
or_tree_fails tables (for_every v R f) h e = absurd (false≢true h)
or_tree_fails tables (for_at_least v R f least) h e = absurd (false≢true h)

alone_opposite : (v : ℕ) (a : Atom) → alone_on v (opposite_atom a) ≡ alone_on v a
alone_opposite v (compare u a o (fixed c)) = refl
alone_opposite v (compare u a o (of_variable x b)) = refl

compares-opposite : (v : ℕ) (a : Atom) → compares_with_other v (opposite_atom a) ≡ compares_with_other v a
compares-opposite v (compare u a o (fixed c)) = refl
compares-opposite v (compare u a o (of_variable x b)) = refl

pub good-opposite : (s : Scope) (a : Atom) → GoodAtom s a → GoodAtom s (opposite_atom a)
good-opposite s (compare u a o (fixed c)) k = k
good-opposite s (compare u a o (of_variable x b)) k = k

pub atoms-opposite : (v : ℕ) (cs : List Atom) → all (λ a. alone_on v a || compares_with_other v a) (map opposite_atom cs) ≡ all (λ a. alone_on v a || compares_with_other v a) cs
atoms-opposite v cs = all_test_map (λ a. alone_on v a || compares_with_other v a) opposite_atom cs ∙ all_cong (λ a. alone_on v (opposite_atom a) || compares_with_other v (opposite_atom a)) (λ a. alone_on v a || compares_with_other v a) cs (all_every (λ a. ap₂ ◌||◌ (alone_opposite v a) (compares-opposite v a)) cs)

pub good_opposites : (s : Scope) (cs : List Atom) → All (GoodAtom s) cs → All (GoodAtom s) (map opposite_atom cs)
good_opposites s [] k = tt
good_opposites s (a ∷ cs) k = (good-opposite s a k.0, good_opposites s cs k.1)
