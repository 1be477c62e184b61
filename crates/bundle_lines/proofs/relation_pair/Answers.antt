use mathlib.Core.Path.{sym, ◌∙◌}
use Prim.Native.Nat.{◌+◌, ◌*◌}
use native.Mathlib.Omega.{arith}
use lib.ListN.{drop}
use borrow.Author.Tests.{lt-leb, le-leb}
use Rattle.relations.specs.Limits.{word_limit}
use Rattle.lines.proofs.Answered.{number_found, number-missing}
use Rattle.bundle_lines.proofs.OneLine.{pair_begun, relation_found, no_rows, no_columns}
use Rattle.bundle_lines.proofs.relation_pair.Goals as goal
use Rattle.bundle_lines.proofs.relation_pair.Goals.{else-pair_ok-via-then-pair_ok+else-total-width-le-WORDS, else-pair_ok-via-else-pair_ok}

pub returns-in_err-columns : goal.returns-in_err-columns
returns-in_err-columns c = let s = c.args.reader.now in
    rw c.from_residual.ensures (record {
      means = pair_begun c.args.total s.text.now s.at (sym c.begins_with.ensures ∙ c.if-not-begins_with.false) (no_columns c.args.total (drop (s.at + 9) s.text.now) (number-missing c.number_then.ensures c.in_err-columns.was));
      behind = tt;
    })

pub returns-in_err-rows : goal.returns-in_err-rows
returns-in_err-rows c = let s = c.args.reader.now in let f = number_found c.number_then.ensures c.in_ok-columns.was in
    rw c.from_residual-in_err-rows.ensures (record {
      means = pair_begun c.args.total s.text.now s.at (sym c.begins_with.ensures ∙ c.if-not-begins_with.false) (no_rows c.args.total (drop (s.at + 9) s.text.now) f.0 (number-missing c.number_then-2.ensures c.in_err-rows.was));
      behind = tt;
    })

pub returns-then-total-width-le-WORDS : goal.returns-then-total-width-le-WORDS
returns-then-total-width-le-WORDS c = let s = c.args.reader.now in
    let f = number_found c.number_then.ensures c.in_ok-columns.was in let g = number_found c.number_then-2.ensures c.in_ok-rows.was in
    record {
      means = pair_begun c.args.total s.text.now s.at (sym c.begins_with.ensures ∙ c.if-not-begins_with.false) (relation_found c.args.total (drop (s.at + 9) s.text.now) f.0 g.0
          ∙ rw (sym c.pair_ok.ensures ∙ c.if-pair_ok.true, le-leb (c.args.total + c.in_ok-columns.columns * c.in_ok-rows.rows) word_limit c.if-total-width-le-WORDS.true));
      behind = (omega (arith, f.1, g.1), g.2);
    }

pub returns-else-pair_ok : goal.returns-else-pair_ok
returns-else-pair_ok c = let s = c.args.reader.now in
    let f = number_found c.number_then.ensures c.in_ok-columns.was in let g = number_found c.number_then-2.ensures c.in_ok-rows.was in
    let found = relation_found c.args.total (drop (s.at + 9) s.text.now) f.0 g.0 in
    record {
      means = pair_begun c.args.total s.text.now s.at (sym c.begins_with.ensures ∙ c.if-not-begins_with.false) (elim c.else-pair_ok.branch [
        | else-pair_ok-via-then-pair_ok+else-total-width-le-WORDS w ↦ found ∙ rw (sym c.pair_ok.ensures ∙ w.if-pair_ok.true, lt-leb (c.args.total + c.in_ok-columns.columns * c.in_ok-rows.rows) word_limit w.if-total-width-le-WORDS.false)
        | else-pair_ok-via-else-pair_ok w ↦ found ∙ rw (sym c.pair_ok.ensures ∙ w.if-pair_ok.false)
      ]);
      behind = tt;
    }
