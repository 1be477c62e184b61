use lib.ListN.{length}
use lib.Seq.{length-take-le}
use Rattle.division.specs.Divisions.{pairs_of}
use Rattle.division.proofs.DivisionLaws.{partnered-member}
use Rattle.relations.specs.Values.{member}
use Rattle.relations.specs.Rows.{Row}
use Rattle.values.proofs.RowsLaws.{rows_at-wide}
use Rattle.values.specs.Words.{rows_of}
use mathlib.Core.Path.{sym, ap, ◌∙◌}
use native.Mathlib.Omega.{arith}
use Rattle.division.proofs.divide.has_partner.Goals as goal

pub partner_row-sought-requires : goal.partner_row-sought-requires
partner_row-sought-requires c = let p = c.requires in (omega arith, p.0.1, rw p.1 p.0.2)

pub slice_bounds-has_row-end : goal.slice_bounds-has_row-end
slice_bounds-has_row-end c = sym (length-take-le (length c.args.t.now) c.partner_row-sought.result (omega arith))

pub returns : goal.returns
returns c = let s = c.args in let p = c.requires in let l = s.work.now in
    c.has_row.ensures ∙ ap (λ (row : Row). member row (rows_of s.left l)) c.partner_row-sought.ensures
    ∙ sym (partnered-member (pairs_of s.pairs.now) s.left.width (rows_of s.left l) s.t.now s.r.now (rows_at-wide s.left.width s.left.rows s.left.base l p.2) p.1 p.0.1 p.0.2)
