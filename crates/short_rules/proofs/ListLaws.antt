-- A triple from its parts, and how many words triples and pairs are. Assumes nothing.
use Prim.Native.Nat.{ℕ, suc, ◌*◌, ◌≤◌}
use mathlib.Core.Path.{◌≡◌, refl, sym, ap, ◌∙◌}
use mathlib.Core.Bool.{Bool, true, false, not, false≢true}
use mathlib.Core.List.{List, [], ◌∷◌}
use native.Mathlib.Omega.{arith}
use lib.Dec.{eqb}
use lib.ListN.{length, length-map}
use borrow.Author.Tests.{eq-eqb, ne_eqb}
use Rattle.relations.specs.Limits.{triple_limit, list_words}
use Rattle.relations.specs.Comparison.{Operator, operator_number, turned}
use Rattle.relations.specs.PlanWords.{triple_words, pair_words}
use Rattle.relations.proofs.ListLaws.{length-flat}
use Rattle.calculus.specs.Leaves.{compares_with_other, own_attribute, other_variable, other_attribute}
use Rattle.calculus.specs.ShortRules.{triple_of, triples_of, outside_triples, division_pairs}
use Rattle.relations.specs.Columns.{Attribute}
use Rattle.relations.specs.Lists.{filter, flat}
use Rattle.calculus.specs.Question as calculus
use Rattle.calculus.specs.Scope.{Scope, column_number}

pub triple_none : (s : Scope) (x : ℕ) (a : calculus.Atom) → compares_with_other x a ≡ false → flat triple_words (triples_of s x (a ∷ [])) ≡ []
triple_none s x a h = rw h

-- the words of the triples that a node may list fit its list
pub triples_fit : (s : Scope) (x : ℕ) (atoms : List calculus.Atom) → length (filter (compares_with_other x) atoms) ≤ triple_limit → length (flat triple_words (triples_of s x atoms)) ≤ list_words
triples_fit s x atoms h = omega (arith, length-flat 3 triple_words (triples_of s x atoms) (λ t. refl), length-map (filter (compares_with_other x) atoms) (triple_of s x))

pub pairs-size : (z : ℕ) (atoms : List calculus.Atom) (column : ℕ) → length (flat pair_words (division_pairs z atoms column)) ≡ 2 * length atoms
pairs-size z [] column = refl
pairs-size z (a ∷ atoms) column = omega (arith, pairs-size z atoms (suc column))

pub outside_size : (s : Scope) (z : ℕ) (atoms : List calculus.Atom) (column : ℕ) → length (flat triple_words (outside_triples s z atoms column)) ≡ 3 * length atoms
outside_size s z [] column = refl
outside_size s z (a ∷ atoms) column = omega (arith, outside_size s z atoms (suc column))
