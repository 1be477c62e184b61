use Rattle.std.proofs.Common.{◌≡◌}
use Rattle.relations.specs.Lists.{any}
use Rattle.operations.proofs.RowSteps.{rows_from}
use Rattle.partners.specs.Sieves.{sifts}
use Rattle.wanted_rows.proofs.some_through.Given as goal

abbrev pub invariant-loop-i : goal.invariant-loop-i
invariant-loop-i l = any (sifts l.sieve) (rows_from l.right l.number l.work) ≡ any (sifts l.sieve) (rows_from l.right l.i l.work)
