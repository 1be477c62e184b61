use Prim.Native.Nat.{◌+◌, ◌-◌, ◌*◌}
use mathlib.Core.Path.{◌≡◌, refl}
use native.Mathlib.Omega.{arith}
use lib.ListN.{length, get_or, take, drop, length-drop}
use Rattle.std.proofs.lemmas.List.{take_all}
use Rattle.bundles.specs.Writing.{tables_text}
use Rattle.lines.proofs.Stores.{put_end}
use Rattle.bundle_writing.proofs.WritingSteps.{table_turn, last_pair, key_fits, numbers_fit, lines_fit, lines_put}
use Rattle.bundle_writing.proofs.put_tables.Goals as goal

pub put_bytes-behind-requires : goal.put_bytes-behind-requires
put_bytes-behind-requires c = let l = c.loop-table in let catalogue = c.args.catalogue.now in let pair = 2 * l.table in
    let t = table_turn catalogue c.args.tables.now pair l.place (get_or catalogue pair 0) (get_or catalogue (pair + 1) 0) (omega arith) l.invariant.0 refl refl in
    key_fits t l.invariant.2 c.requires.2

pub put_numbers-rows_at-requires : goal.put_numbers-rows_at-requires
put_numbers-rows_at-requires c = let l = c.loop-table in let catalogue = c.args.catalogue.now in let pair = 2 * l.table in
    let t = table_turn catalogue c.args.tables.now pair l.place (get_or catalogue pair 0) (get_or catalogue (pair + 1) 0) (omega arith) l.invariant.0 refl refl in
    let two : pair + 2 - pair ≡ 2 = omega arith in
    rw two (numbers_fit t l.invariant.2 c.requires.2 c.put_bytes-behind.ensures)

pub put_lines-end-requires : goal.put_lines-end-requires
put_lines-end-requires c = let l = c.loop-table in let catalogue = c.args.catalogue.now in let pair = 2 * l.table in
    let t = table_turn catalogue c.args.tables.now pair l.place (get_or catalogue pair 0) (get_or catalogue (pair + 1) 0) (omega arith) l.invariant.0 refl refl in
    let two : pair + 2 - pair ≡ 2 = omega arith in
    let rest : take (length c.args.tables.now - l.place) (drop l.place c.args.tables.now) ≡ drop l.place c.args.tables.now = take_all _ _ (omega (arith, length-drop l.place c.args.tables.now)) in
    rw rest (omega (arith, length-drop l.place c.args.tables.now, t.words, l.invariant.1), lines_fit t l.invariant.2 c.requires.2 c.put_bytes-behind.ensures (rw two at c.put_numbers-rows_at.ensures))

pub overflow_add-place : goal.overflow_add-place
overflow_add-place c = let l = c.loop-table in let catalogue = c.args.catalogue.now in let pair = 2 * l.table in
    let t = table_turn catalogue c.args.tables.now pair l.place (get_or catalogue pair 0) (get_or catalogue (pair + 1) 0) (omega arith) l.invariant.0 refl refl in
    omega (arith, t.words, l.invariant.1)

pub loop-table-preserved : goal.loop-table-preserved
loop-table-preserved c = let l = c.loop-table in let catalogue = c.args.catalogue.now in let pair = 2 * l.table in
    let t = table_turn catalogue c.args.tables.now pair l.place (get_or catalogue pair 0) (get_or catalogue (pair + 1) 0) (omega arith) l.invariant.0 refl refl in
    let two : pair + 2 - pair ≡ 2 = omega arith in
    let next : 2 * (l.table + 1) ≡ pair + 2 = omega arith in
    let rest : take (length c.args.tables.now - l.place) (drop l.place c.args.tables.now) ≡ drop l.place c.args.tables.now = take_all _ _ (omega (arith, length-drop l.place c.args.tables.now)) in
    rw next (
      t.pairs-left,
      omega (arith, t.words, l.invariant.1),
      lines_put t l.invariant.2 c.requires.2 c.put_bytes-behind.ensures (rw two at c.put_numbers-rows_at.ensures) (rw rest at c.put_lines-end.ensures),
    )

pub returns : goal.returns
unfolding tables_text
returns c = let l = c.loop-table in
    put_end l.invariant.2 (rw (last_pair c.args.catalogue.now (2 * l.table) (omega arith) l.invariant.0))
