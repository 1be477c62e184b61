use mathlib.Core.Path.{refl, sym, ◌∙◌}
use Rattle.ordering.proofs.OfferLaws.{first_picked}
use Rattle.ordering.proofs.sorted.picks_of.Goals as goal

pub returns-then-leads : goal.returns-then-leads
returns-then-leads c = first_picked c.args.count c.args.width c.args.list.now (sym c.leads.ensures ∙ c.if-leads.true) c.requires.0 c.requires.2

pub returns-else-leads : goal.returns-else-leads
returns-else-leads c = record { many = refl; fits = (c.requires.0, c.requires.1, c.requires.2, refl); same = λ row q. refl }
