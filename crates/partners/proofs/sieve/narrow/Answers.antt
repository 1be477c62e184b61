use Rattle.std.proofs.Common.{arith}
use Rattle.partners.proofs.SieveLaws.{narrows_at, entry_found}
use Rattle.partners.proofs.sieve.narrow.Goals as goal

pub returns-in-Some-joint : goal.returns-in-Some-joint
returns-in-Some-joint c = let a = c.args in let i = c.in-Some.i in
    let found = entry_found a.sieve.now a.made a.entry.column i _ (omega arith) c.in-Some.ensures in narrows_at a.sieve.now a.made i _ a.entry c.in-Some-joint.span found.0 (omega arith) found.1 c.in-Some-joint.ensures
