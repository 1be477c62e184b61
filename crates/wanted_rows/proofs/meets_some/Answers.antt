use Rattle.std.proofs.Common.{◌+◌, ◌-◌, ◌*◌, ◌∙◌}
use Rattle.values.specs.Words.{rows_at, rows_of}
use Rattle.partners.proofs.RestLaws.{any_through}
use Rattle.wanted_rows.proofs.meets_some.Goals as goal

pub returns : goal.returns
returns c = let s = c.args in let n = c.partners_of-found.result.number in
    c.some_through.ensures ∙ any_through c.fill-sieve.ensures (rows_of s.right s.work.now) (rows_at s.right.width (s.right.rows - n) (s.right.base + n * s.right.width) s.work.now) c.partners_of-found.ensures.all
