use Prim.Native.Nat.{◌+◌, ◌*◌}
use mathlib.Core.List.{◌++◌}
use Rattle.values.specs.Words.{row_in}
use Rattle.joining.proofs.JoinLaws.{put_last, full_last, written_pair, pair_wide}
use native.Mathlib.Omega.{arith}
use Rattle.joining.proofs.join.append_pair.Goals as goal

pub returns-then-work-end : goal.returns-then-work-end
returns-then-work-end c = let s = c.args in let p = c.requires in let l = s.work.now in
    full_last s.out s.made (s.pair.width + s.pair.more) (row_in l s.pair.left s.pair.width ++ row_in l s.pair.right s.pair.more) l (pair_wide l s.pair.left s.pair.right s.pair.width s.pair.more (omega arith) (omega arith)) p.0.4 p.0.5 p.1 (omega arith)

pub returns : goal.returns
returns c = let s = c.args in let p = c.requires in let l = s.work.now in
    put_last s.out s.made (s.pair.width + s.pair.more) (row_in l s.pair.left s.pair.width ++ row_in l s.pair.right s.pair.more) l (pair_wide l s.pair.left s.pair.right s.pair.width s.pair.more (omega arith) (omega arith)) p.0.4 p.0.5 p.1 (omega arith) _
    (written_pair l _ _ (s.out + s.made * (s.pair.width + s.pair.more)) s.pair.left s.pair.right s.pair.width s.pair.more (omega arith) (omega arith) (omega arith) c.write_row.ensures c.write_row-2.ensures)
