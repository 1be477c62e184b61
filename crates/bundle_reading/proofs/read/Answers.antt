use Rattle.bundle_reading.proofs.BundleLaws.{some_small, none_small, read_small, read_long, read_lines_lem, wrong-outcome, bundle_outcome_lem}
use Rattle.bundle_reading.specs.declared.ReadRefusal.TheVariants.{WrongLine}
use Rattle.lines.proofs.Answered.{passed_on}
use Rattle.bundles.specs.Reading.{lines_of}
use mathlib.Core.Path.{sym, ◌∙◌}
use Rattle.bundle_reading.proofs.read.Goals as goal

-- Each refusal is one test of the definition. The text was judged with no buffer lent, so only a bundle that is right is read into the buffers.
-- Assumes nothing.
pub returns-then-catalogue-lt-CATALOGUE_WORDS : goal.returns-then-catalogue-lt-CATALOGUE_WORDS
returns-then-catalogue-lt-CATALOGUE_WORDS c = let a = c.args in
    sym (read_small a.text.now a.catalogue.now a.tables.now a.question.now (some_small a.text.now a.catalogue.now a.tables.now a.question.now c.then-catalogue-lt-CATALOGUE_WORDS.either))

pub returns-then-text-gt-TEXT_BYTES : goal.returns-then-text-gt-TEXT_BYTES
returns-then-text-gt-TEXT_BYTES c = let a = c.args in
    let none = none_small a.text.now a.catalogue.now a.tables.now a.question.now c.if-catalogue-lt-CATALOGUE_WORDS.false c.if-tables-lt-WORDS.false c.if-question-lt-QUESTION_WORDS.false in
    sym (read_long a.text.now a.catalogue.now a.tables.now a.question.now none c.if-text-gt-TEXT_BYTES.true)

pub returns-in_err-judge : goal.returns-in_err-judge
returns-in_err-judge c = let a = c.args in
    let none = none_small a.text.now a.catalogue.now a.tables.now a.question.now c.if-catalogue-lt-CATALOGUE_WORDS.false c.if-tables-lt-WORDS.false c.if-question-lt-QUESTION_WORDS.false in
    rw (passed_on c.from_residual.result (WrongLine c.in_err-judge.field-0.0.0) c.from_residual.ensures)
    (sym (read_lines_lem a.text.now a.catalogue.now a.tables.now a.question.now none c.if-text-gt-TEXT_BYTES.false
    ∙ wrong-outcome a.catalogue.now a.tables.now a.question.now (lines_of a.text.now) (lines_of a.text.now).next (sym c.in_err-judge.was ∙ c.judge.ensures)))

pub returns : goal.returns
returns c = let a = c.args in let b = c.read_all.ensures in
    let none = none_small a.text.now a.catalogue.now a.tables.now a.question.now c.if-catalogue-lt-CATALOGUE_WORDS.false c.if-tables-lt-WORDS.false c.if-question-lt-QUESTION_WORDS.false in
    rw (b.catalogue, b.tables, b.question)
    (sym (read_lines_lem a.text.now a.catalogue.now a.tables.now a.question.now none c.if-text-gt-TEXT_BYTES.false
    ∙ bundle_outcome_lem a.catalogue.now a.tables.now a.question.now (lines_of a.text.now) (lines_of a.text.now).next (sym c.in_ok-read_all.was ∙ b.means)))
