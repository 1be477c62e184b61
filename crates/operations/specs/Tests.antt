-- What a test of rows answers, where a function takes one.
use Rattle.std.specs.Prelude.{◌≡◌, Bool}
use Rattle.std.specs.Fn.{Shared, FnReturnsAt}
use Rattle.relations.specs.Rows.{Row}
use denote.Ref.{Bor}

-- whatever a call of it at a row may give is the test's answer
abbrev pub Answers : {F : Type 0} → Shared F (Bor Row × Unit {0}) Bool → F → (Row → Bool) → Type 0
Answers passing f test = (row : Row) (r : Bool) → FnReturnsAt passing f row r → r ≡ test row
