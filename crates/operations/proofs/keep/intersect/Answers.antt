use Rattle.relations.specs.Rows.{Row}
use Rattle.std.proofs.Common.{rules}
use mathlib.Core.Bool.{Bool}
use mathlib.Core.Path.{◌≡◌, sym}
use Prim.Native.Nat.{◌≤◌}
use lib.ListN.{length}
use native.Mathlib.Omega.{arith}
use Rattle.relations.specs.Values.{member, Ascending}
use Rattle.values.specs.Words.{rows_of, end}
use Rattle.operations.proofs.TestLaws.{split_built, rows_front}
use Rattle.operations.proofs.keep.intersect.Goals as goal

pub keep-requires : goal.keep-requires
keep-requires c = let s = c.args in let p = c.requires in let cut = c.split_at_mut-front in
    let fits : end s.right ≤ length cut.result.0.now = omega (arith, cut.ensures.front_len) in
    let ascends : Ascending (rows_of s.right cut.result.0.now) = rw (rows_front s.right s.out s.work.now p.3 p.2 cut.ensures.front) p.4 in
    (search rules, p.0, omega (arith, cut.ensures.front_len))

pub returns : goal.returns
returns c = let s = c.args in let p = c.requires in let cut = c.split_at_mut-front in
    let test : Row → Bool = λ row. member row (rows_of s.right s.work.now) in
    let same : rows_of s.right cut.result.0.now ≡ rows_of s.right s.work.now = rows_front s.right s.out s.work.now p.3 p.2 cut.ensures.front in
    split_built s.left s.out s.work.now test p.1 p.2 cut.ensures.front cut.ensures.back
    (c.keep.ensures test (λ row r says. rw (sym same) (search rules)))
