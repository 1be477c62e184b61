-- What a caller learns from the answer of a step, by its case. Assumes nothing.
use mathlib.Core.Path.{◌≡◌, ap, ◌∙◌}
use Prim.Native.Nat.{ℕ, ◌+◌, ◌≤◌}
use mathlib.Core.List.{List}
use lib.ListN.{length, drop}
use Rattle.lines.specs.Reading.{value, no_number, goes_on}
use Rattle.lines.specs.Answers.{NumberRead, GoneOn}
use Rattle.std.specs.Prelude.{Option, Some, None, Result, Ok, Err}
use Rattle.std.specs.Result.{IsErr, IsErrAnd}
use Rattle.std.specs.Option.{ok_or}
use Rattle.lines.specs.declared.reader.Reader.{Reader}
use Rattle.lines.specs.Reading as reads

module _ {text : List ℕ} {from : ℕ} {found : reads.Number} {answer : Option (ℕ × ℕ)} (read : NumberRead text from found answer) where
  pub number_found : {n next : ℕ} → answer ≡ Some (n, next) → (found ≡ value n (drop next text)) × (from ≤ next) × (next ≤ length text)
  number_found {n} {next} e =
      let r : NumberRead text from found (Some (n, next)) = rw e at read in
      (r.means, r.behind.0, r.behind.1)

  pub number-missing : answer ≡ None → found ≡ no_number
  number-missing e = let r : NumberRead text from found None = rw e at read in r.means

-- a number read, by another name of it
pub value_as : {found : reads.Number} {m n : ℕ} {rest : List ℕ} → found ≡ value n rest → m ≡ n → found ≡ value m rest
value_as {rest = rest} e f = rw f e

-- what the exit of a `?` returns, where it changes no type of an error
pub passed_on : {T E : Type 0} (answer : Result T E) (error : E) → IsErr answer × IsErrAnd answer (λ e. e ≡ error) → answer ≡ Err error
passed_on (Ok t) error h = absurd h.1
passed_on (Err e) error h = ap Err h.1

-- and where the error is that of an `ok_or`
pub missing_as : {S T E : Type 0} {found : Option S} (answer : Result T E) (error named : E) → IsErr answer × IsErrAnd answer (λ e. e ≡ error) → ◌≡◌ {A = Result S E} (Err error) (ok_or found named) → found ≡ None
    → answer ≡ Err named
missing_as {S} {E = E} {found = found} answer error named h e f =
    let same : ◌≡◌ {A = Result S E} (Err error) (Err named) = e ∙ ap (λ (o : Option S). ok_or o named) f in
    let alike : error ≡ named = cc in
    passed_on answer error h ∙ ap Err alike

-- where a reader stands that passed a line
pub stands_behind : {start stop : Reader} {next : ℕ} → GoneOn start next stop → goes_on stop.line (drop stop.at stop.text.now) ≡ goes_on (start.line + 1) (drop next start.text.now)
stands_behind g = rw (g.line, g.at, g.text)
