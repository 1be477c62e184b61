use Rattle.question.proofs.WalkLaws.{lowest_found}
use Rattle.question.proofs.Judgements.{unknown_refused, unbound-refused, unfit-refused, all_accepted}
use Rattle.node_judging.specs.Steps.{no_widths}
use Rattle.question.specs.Trees.{question_tree}
use Rattle.catalogue.specs.Stored.{columns_of}
use Rattle.question.proofs.judgement.judge_tree.Goals as goal

pub returns-in-Some : goal.returns-in-Some
returns-in-Some c = unknown_refused c.args.catalogue.now c.args.words.now (rw (c.relations_of.ensures, c.requires.0) at c.in-Some.ensures)

pub returns-then-lowest-lt-NO_NODE : goal.returns-then-lowest-lt-NO_NODE
returns-then-lowest-lt-NO_NODE c = unbound-refused c.args.catalogue.now c.args.words.now (rw (c.relations_of.ensures, c.requires.0) at c.in_default.ensures) (lowest_found (columns_of c.args.catalogue.now) (question_tree c.args.words.now) no_widths c.none-lowest.ensures (rw (c.requires.0, c.empty-scope.ensures) at c.walk.ensures)) c.if-lowest-lt-NO_NODE.true

pub returns-then-lowest-lt-NO_NODE-2 : goal.returns-then-lowest-lt-NO_NODE-2
returns-then-lowest-lt-NO_NODE-2 c = unfit-refused c.args.catalogue.now c.args.words.now (rw (c.relations_of.ensures, c.requires.0) at c.in_default.ensures) (lowest_found (columns_of c.args.catalogue.now) (question_tree c.args.words.now) no_widths c.none-lowest.ensures (rw (c.requires.0, c.empty-scope.ensures) at c.walk.ensures)) c.if-lowest-lt-NO_NODE.false c.if-lowest-lt-NO_NODE-2.true

pub returns : goal.returns
returns c = all_accepted c.args.catalogue.now c.args.words.now (rw (c.relations_of.ensures, c.requires.0) at c.in_default.ensures) (lowest_found (columns_of c.args.catalogue.now) (question_tree c.args.words.now) no_widths c.none-lowest.ensures (rw (c.requires.0, c.empty-scope.ensures) at c.walk.ensures)) c.if-lowest-lt-NO_NODE.false c.if-lowest-lt-NO_NODE-2.false
