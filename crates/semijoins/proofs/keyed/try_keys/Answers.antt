use Rattle.std.proofs.Common.{◌≡◌, sym, ◌∙◌, length, take, arith}
use Rattle.std.proofs.lemmas.List.{length-take-le}
use Rattle.values.specs.Words.{rows_of}
use Rattle.semijoins.proofs.KeyLaws.{wanted_by_keys}
use Rattle.semijoins.proofs.keyed.try_keys.Goals as goal

pub returns : goal.returns
returns c = let s = c.args in let n = length s.triples.now in
    let many : length (take n c.renumbered-made.result) ≡ n = length-take-le n c.renumbered-made.result (omega arith) in
    rw (wanted_by_keys s.wanted c.as_slice-columns.result.now s.triples.now (take n c.renumbered-made.result) (rows_of s.left s.work.now) (rows_of s.right s.work.now) (sym many) (sym c.are_renumbered.ensures ∙ c.if-not-are_renumbered.false)) at c.keep_by_key.ensures
