use mathlib.Core.Path.{◌≡◌, ap}
use mathlib.Core.List.{◌++◌, map}
use native.Mathlib.Omega.{arith}
use Rattle.relations.specs.Rows.{Row}
use Rattle.values.specs.Words.{row_in, rows_of}
use Rattle.operations.proofs.FillSteps.{builds_by}
use Rattle.operations.proofs.RowSteps.{rows_from}
use Rattle.partners.proofs.RestLaws.{filter_through}
use Rattle.joining.proofs.JoinLaws.{rest-inside, rest-ascending}
use Rattle.joining.proofs.join.join_row.Goals as goal

pub join_from-requires : goal.join_from-requires
join_from-requires c = let s = c.args in let p = c.requires in let f = c.partners_of-found.ensures in let n = c.partners_of-found.result.number in
    let high : c.as_slice.result.now ≡ c.partners_of-found.result.highs = c.as_slice.ensures.words in
    (p.0, p.1, p.2, omega (arith, rest-inside s.right n f.inside), p.4, p.5, rest-ascending s.right n s.work.now f.inside (omega arith) p.6, rw high f.short, rw high f.none_behind)

pub returns : goal.returns
returns c = let s = c.args in let n = c.partners_of-found.result.number in
    builds_by
    (ap (map (λ (r : Row). row_in s.work.now s.a s.width ++ r)) (filter_through (rw c.row.ensures at c.fill-sieve.ensures) (rows_of s.right s.work.now) (rows_from s.right n s.work.now) c.partners_of-found.ensures.all))
    c.join_from.ensures
