-- The scope in an array, one variable longer, and its first variable. Assumes nothing.
use Rattle.std.proofs.Common.{ℕ, suc, zero, ◌+◌, ◌≤◌, ◌<◌, ◌≡◌, refl, sym, ap, ◌∙◌, List, [], ◌∷◌, ◌++◌, map, length, take, drop, set, arith, add-one}
use mathlib.Core.List.{map-append}
use lib.ListN.{length-set, length-replicate, get_or}
use lib.Seq.{drop-cons}
use Rattle.std.proofs.lemmas.List.{take_more_set}
use borrow.Author.Tests.{eq-eqb, ne_eqb}
use Rattle.relations.specs.Limits.{column_limit, variable_count}
use Rattle.relations.specs.Lists.{All}
use Rattle.std.specs.Prelude.{replicate}
use Rattle.calculus.specs.Scope.{entry, columns_in, width_in, column_number}
use Rattle.calculus.proofs.ScopeLaws.{columns_extend}
use Rattle.conditions.specs.declared.scope.Entry.{Entry}
use Rattle.conditions.specs.declared.scope.Scope.{Scope}
use Rattle.conditions.specs.Scopes.{entry_of, entries_in, scope_of, no_variables, Small, ScopeFits, with_variable, Extended}

small_set : (xs : List Entry) (i : ℕ) (y : Entry) → All Small xs → Small y → All Small (set xs i y)
small_set [] i y all here = all
small_set (x ∷ xs) zero y all here = (here, all.1)
small_set (x ∷ xs) (suc i) y all here = (all.0, small_set xs i y all.1 here)

small_replicate : (n : ℕ) (x : Entry) → Small x → All Small (replicate n x)
small_replicate zero x here = tt
small_replicate (suc n) x here = (here, small_replicate n x here)

module _ (scope : Scope) (v w : ℕ) (known : v < variable_count) (fits : ScopeFits scope) (some : 1 ≤ w) (few : columns_in (scope_of scope) + w ≤ column_limit) where
  abbrev added : Entry
  added = record { variable = v; width = w }

  inside : scope.count < length scope.entries
  inside = omega (arith, fits.whole, fits.few, fits.counted)

  one_more : take (scope.count + 1) (set scope.entries scope.count added) ≡ entries_in scope ++ (added ∷ [])
  one_more = take_more_set scope.entries scope.count added inside

  stands : scope_of (with_variable scope v w) ≡ scope_of scope ++ (entry v w ∷ [])
  unfolding with_variable
  stands = ap (map entry_of) one_more ∙ map-append entry_of (entries_in scope) (added ∷ [])

  pub extended : Extended scope v w (with_variable scope v w)
  unfolding with_variable
  extended =
      record {
        is = refl;
        fits =
            record {
              whole = length-set scope.entries scope.count added ∙ fits.whole;
              small = small_set scope.entries scope.count added fits.small (omega arith, omega (arith, few));
              counted = omega (arith, fits.counted, ap columns_in stands, columns_extend (scope_of scope) v w);
              few = omega (arith, fits.few);
              narrow = omega (arith, fits.counted);
            };
        stands = stands;
      }

pub empty_fits : ScopeFits no_variables
empty_fits = record { whole = length-replicate {A = Entry} column_limit (record { variable = 0; width = 0 }); small = small_replicate column_limit (record { variable = 0; width = 0 }) (omega arith, omega arith); counted = refl; few = omega arith; narrow = omega arith }
