use mathlib.Core.Path.{sym, ap, ap₂, ◌∙◌}
use Prim.Native.Nat.{ℕ, ◌+◌}
use lib.ListN.{take, length-append}
use mathlib.Core.List.{[], ◌∷◌, ◌++◌}
use Rattle.values.specs.Words.{row_in}
use Rattle.values.proofs.RowsLaws.{row_inside, length_row}
use Rattle.operations.proofs.MadeLaws.{aside_taken}
use Rattle.operations.proofs.FillSteps.{builds_by}
use native.Mathlib.Omega.{arith}
use borrow.Author.Tests.{eqb-true}
use Rattle.joining.proofs.join.place_pair.Goals as goal

pub append_pair-requires : goal.append_pair-requires
append_pair-requires c = (c.requires, eqb-true _ _ (sym c.comes_last.ensures ∙ c.if-comes_last.true))

pub returns : goal.returns
returns c = let s = c.args in
    builds_by (ap (λ r. r ∷ []) (row_inside c.pair_row-aside.result 0 (s.pair.width + s.pair.more) (omega arith) ∙ ap (take (s.pair.width + s.pair.more)) c.pair_row-aside.ensures ∙ aside_taken (row_in s.work.now s.pair.left s.pair.width ++ row_in s.work.now s.pair.right s.pair.more) (s.pair.width + s.pair.more)
    (length-append (row_in s.work.now s.pair.left s.pair.width) (row_in s.work.now s.pair.right s.pair.more) ∙ ap₂ (λ (x y : ℕ). x + y) (length_row s.work.now s.pair.left s.pair.width (omega arith)) (length_row s.work.now s.pair.right s.pair.more (omega arith))) (omega arith))) c.place_row.ensures
