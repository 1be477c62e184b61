use mathlib.Core.Path.{sym, ◌∙◌}
use lib.Dec.{eqb}
use lib.ListN.{drop}
use borrow.Author.Tests.{tests}
use Rattle.std.proofs.Common.{rules}
use Rattle.std.proofs.lemmas.Iterator.{YieldsList-from_slice}
use Rattle.std.proofs.lemmas.Iterator.Adapters.{YieldsList-from_skip}
use Rattle.std.proofs.lemmas.Iterator.Search.{all_from_yields_List}
use Rattle.plan_reading.proofs.WordLaws.{all_listed}
use Rattle.plan_reading.proofs.nodes.all_zero.Goals as goal

pub returns : goal.returns
returns c =
    all_from_yields_List (eqb 0) _ _ c.all.result c.all.ensures.ran (YieldsList-from_skip c.args.from (YieldsList-from_slice c.args.words.now cc) cc) (λ x b q k. search (rules, tests))
    ∙ sym (all_listed (eqb 0) (drop c.args.from c.args.words.now))
