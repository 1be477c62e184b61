use mathlib.Core.Path.{sym, ◌∙◌}
use mathlib.Core.Logic.{inl, inr}
use native.Mathlib.Omega.{arith}
use borrow.Author.Tests.{lt-ltb}
use Rattle.catalogue.specs.Stored.{relations_of}
use Rattle.plan_reading.specs.declared.nodes.Operation.TheVariants.{Project, SelectConstant, SelectAttribute, Join, Semijoin, Antijoin, Divide, Unite, Intersect, Subtract, Tally}
use Rattle.plan_reading.proofs.LegalLaws.{count_by, legal_by}
use Rattle.plan_reading.proofs.legal.legal_node.Goals as goal

pub within-requires : goal.within-requires
within-requires c = (omega arith, omega arith, omega (arith, count_by c.args.words.now c.args.node Project c.requires.0 c.requires.1 c.in-Project.is))

pub legal_triples-requires : goal.legal_triples-requires
legal_triples-requires c = (c.requires.0, count_by c.args.words.now c.args.node Join c.requires.0 c.requires.1 c.in-Join.is)

pub legal_triples-requires-in-Semijoin : goal.legal_triples-requires-in-Semijoin
legal_triples-requires-in-Semijoin c = (c.requires.0, elim c.in-Semijoin.is [ inl o ↦ count_by c.args.words.now c.args.node Semijoin c.requires.0 c.requires.1 o | inr o ↦ count_by c.args.words.now c.args.node Antijoin c.requires.0 c.requires.1 o ])

pub legal_division-requires : goal.legal_division-requires
legal_division-requires c = (c.requires.0, count_by c.args.words.now c.args.node Divide c.requires.0 c.requires.1 c.in-Divide.is)

pub returns-then-below : goal.returns-then-below
returns-then-below c = rw (c.within.ensures, c.width_at-width.ensures) (sym (legal_by c.args.words.now c.args.node Project c.requires.0 c.requires.1 c.in-Project.is (relations_of c.args.catalogue.now) c.args.widths.now ∙ rw (lt-ltb _ _ c.if-below.true)))

pub returns-then-below-2 : goal.returns-then-below-2
returns-then-below-2 c = rw (c.within-then-below-2.ensures, c.width_at-width.ensures) (sym (legal_by c.args.words.now c.args.node SelectConstant c.requires.0 c.requires.1 c.in-SelectConstant.is (relations_of c.args.catalogue.now) c.args.widths.now ∙ rw (lt-ltb _ _ c.if-below-2.true)))

pub returns-then-below-3 : goal.returns-then-below-3
returns-then-below-3 c = rw (c.within-then-below-3.ensures, c.width_at-width.ensures) (sym (legal_by c.args.words.now c.args.node SelectAttribute c.requires.0 c.requires.1 c.in-SelectAttribute.is (relations_of c.args.catalogue.now) c.args.widths.now ∙ rw (lt-ltb _ _ c.if-below-3.true)))

pub returns-then-legal_triples : goal.returns-then-legal_triples
returns-then-legal_triples c = rw c.narrow.ensures (sym (legal_by c.args.words.now c.args.node Join c.requires.0 c.requires.1 c.in-Join.is (relations_of c.args.catalogue.now) c.args.widths.now ∙ rw (sym c.legal_triples.ensures ∙ c.if-legal_triples.true)))

pub returns-else-legal_triples : goal.returns-else-legal_triples
returns-else-legal_triples c = rw c.if-legal_triples.false (sym (legal_by c.args.words.now c.args.node Join c.requires.0 c.requires.1 c.in-Join.is (relations_of c.args.catalogue.now) c.args.widths.now ∙ rw (sym c.legal_triples.ensures ∙ c.if-legal_triples.false)))

pub returns-in-Semijoin : goal.returns-in-Semijoin
returns-in-Semijoin c = c.legal_triples-in-Semijoin.ensures ∙ sym (elim c.in-Semijoin.is [ inl o ↦ legal_by c.args.words.now c.args.node Semijoin c.requires.0 c.requires.1 o (relations_of c.args.catalogue.now) c.args.widths.now | inr o ↦ legal_by c.args.words.now c.args.node Antijoin c.requires.0 c.requires.1 o (relations_of c.args.catalogue.now) c.args.widths.now ])

pub returns-in-Divide : goal.returns-in-Divide
returns-in-Divide c = c.legal_division.ensures ∙ sym (legal_by c.args.words.now c.args.node Divide c.requires.0 c.requires.1 c.in-Divide.is (relations_of c.args.catalogue.now) c.args.widths.now)

pub returns-in-Unite : goal.returns-in-Unite
returns-in-Unite c = c.legal_sides.ensures ∙ sym (elim c.in-Unite.is [ inl o ↦ legal_by c.args.words.now c.args.node Unite c.requires.0 c.requires.1 o (relations_of c.args.catalogue.now) c.args.widths.now | inr rest ↦ elim rest [ inl o ↦ legal_by c.args.words.now c.args.node Intersect c.requires.0 c.requires.1 o (relations_of c.args.catalogue.now) c.args.widths.now | inr o ↦ legal_by c.args.words.now c.args.node Subtract c.requires.0 c.requires.1 o (relations_of c.args.catalogue.now) c.args.widths.now ] ])

pub returns-in-Tally : goal.returns-in-Tally
returns-in-Tally c = c.legal_tally.ensures ∙ sym (legal_by c.args.words.now c.args.node Tally c.requires.0 c.requires.1 c.in-Tally.is (relations_of c.args.catalogue.now) c.args.widths.now)
