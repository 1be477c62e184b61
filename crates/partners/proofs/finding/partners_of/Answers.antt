use Rattle.std.proofs.Common.{◌≡◌, ◌≤◌, ap, ◌∙◌, arith}
use Rattle.relations.specs.Rows.{Row}
use Rattle.values.specs.Words.{rows_of}
use Rattle.values.specs.Places.{rows_before}
use Rattle.values.proofs.RowsLaws.{length-rows_at}
use Rattle.values.proofs.PlaceLaws.{before-most}
use Rattle.values.proofs.BoundLaws.{filter_from_words}
use Rattle.partners.proofs.finding.partners_of.Goals as goal

pub returns : goal.returns
returns c = let s = c.args in let b = c.bounds_of-bounds in let found = c.rows_before.result in
    let many : found ≡ rows_before b.result.lows (rows_of s.right s.work.now) = c.rows_before.ensures ∙ ap (λ (low : Row). rows_before low (rows_of s.right s.work.now)) c.as_slice.ensures.words in
    let inside : found ≤ s.right.rows =
    omega (arith, many, before-most b.result.lows (rows_of s.right s.work.now), length-rows_at s.right.width s.right.rows s.right.base s.work.now) in
    record {
      inside = inside;
      short = b.ensures.inside;
      all = filter_from_words s.right.width s.right.rows s.right.base s.work.now c.requires.0 b.ensures.none_before found inside many;
      none_behind = b.ensures.none_behind;
    }
