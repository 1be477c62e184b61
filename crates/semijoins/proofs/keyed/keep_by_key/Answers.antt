use Rattle.std.proofs.Common.{arith}
use Rattle.operations.specs.Lists.{triples_of}
use Rattle.semijoins.proofs.TriedLaws.{keys_ascend, tried_short, tried_made}
use Rattle.semijoins.proofs.keyed.keep_by_key.Goals as goal

pub keep_by_rows-requires : goal.keep_by_rows-requires
keep_by_rows-requires c = let p = c.requires in let keys = c.in_ok-keys.ensures in (p.2, omega arith, keys.fits, omega (arith, keys.base), keys_ascend keys, p.7)

pub returns-in_default : goal.returns-in_default
returns-in_default c = tried_short c.in_ok-keys.ensures c.requires.6 (omega arith) c.in_default.ensures c.clear_from.ensures

pub returns : goal.returns
returns c = let s = c.args in let p = c.requires in
    tried_made c.in_ok-keys.ensures s.wanted (triples_of s.triples.now) s.left c.in-Some.rows p.3 p.5 p.6 c.in-Some.ensures c.move_down.ensures c.clear_words.ensures
