use mathlib.Core.Path.{refl, sym, ap, ◌∙◌}
use native.Mathlib.Numerals.{add-one}
use native.Mathlib.Omega.{arith}
use lib.ListN.{drop, get_or}
use Rattle.catalogue.specs.Judging.{catalogue_words}
use Rattle.catalogue.proofs.Judgements.{good_pair}
use Rattle.lines.specs.Answers.{standing}
use Rattle.lines.specs.Reading.{wrong_at}
use Rattle.lines.proofs.Answered.{passed_on}
use Rattle.bundle_reading.proofs.BehindLines.{table_begun, no_table}
use Rattle.bundle_reading.proofs.read_table.Goals as goal

-- The pair that the relation line gave is kept in the catalogue, and the rows are the lines behind it. Assumes nothing.
pub returns-in_err-next_line : goal.returns-in_err-next_line
returns-in_err-next_line c = let s = c.args.reader.now in
    let n = no_table c.args.read.words s.line (drop s.at s.text.now) c.next_line.ensures c.requires.2 c.in_err-next_line.was in
    rw (passed_on c.from_residual.result c.in_err-next_line.field-0.0 c.from_residual.ensures, n.0)
    (record { means = ap wrong_at (sym n.1); stays = (refl, refl); text = refl; counted = tt; catalogue = refl; tables = refl })

pub read_rows-requires : goal.read_rows-requires
read_rows-requires c = let s = c.args.reader.now in
    let b = table_begun c.args.read.words s.line (drop s.at s.text.now) c.next_line.ensures c.requires.2 c.in_ok-next_line.was in
    ((good_pair (get_or c.next_line.new.words 0 0) (get_or c.next_line.new.words 1 0) b.ok).some, omega (arith, b.fits))

pub returns-in_err-read_rows : goal.returns-in_err-read_rows
unfolding catalogue_words
returns-in_err-read_rows c = let s = c.args.reader.now in let r = c.read_rows.ensures in
    let b = table_begun c.args.read.words s.line (drop s.at s.text.now) c.next_line.ensures c.requires.2 c.in_ok-next_line.was in
    rw (passed_on c.from_residual-in_err-read_rows.result c.in_err-read_rows.field-0.0 c.from_residual-in_err-read_rows.ensures, b.table_is, ← b.next-line)
    (record {
      means = r.means ∙ ap (standing c.read_rows.new.reader) c.in_err-read_rows.was;
      stays = (refl, refl);
      text = refl;
      counted = tt;
      catalogue = c.keep-2.ensures ∙ rw (c.keep.ensures, add-one);
      tables = r.words;
    })

pub returns : goal.returns
unfolding catalogue_words
returns c = let s = c.args.reader.now in let r = c.read_rows.ensures in
    let b = table_begun c.args.read.words s.line (drop s.at s.text.now) c.next_line.ensures c.requires.2 c.in_ok-next_line.was in
    rw (b.table_is, ← b.next-line)
    (record {
      means = r.means ∙ ap (standing c.read_rows.new.reader) c.in_ok-read_rows.was;
      stays = tt;
      text = r.text ∙ c.next_line.ensures.text;
      counted = (omega arith, omega arith, b.fits);
      catalogue = c.keep-2.ensures ∙ rw (c.keep.ensures, add-one);
      tables = r.words;
    })
