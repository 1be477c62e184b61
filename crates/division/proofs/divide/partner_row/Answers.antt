use mathlib.Core.Path.{◌≡◌, sym, ap, ◌∙◌}
use mathlib.Core.List.{List, ◌++◌}
use Prim.Native.Nat.{ℕ, ◌≤◌}
use native.Mathlib.Omega.{arith}
use lib.ListN.{length, take, replicate, length-set}
use Rattle.std.proofs.Common.{rules}
use Rattle.std.specs.Slice.Iter.{chunks_exact_rest}
use Rattle.relations.specs.Limits.{column_limit}
use Rattle.relations.specs.Lists.{All}
use Rattle.relations.specs.Columns.{left_numbers}
use Rattle.operations.specs.Lists.{pair_in}
use Rattle.division.specs.Divisions.{pairs_of, with_pairs}
use Rattle.division.proofs.DivisionLaws.{row_written, pairs_none, pair-inside, pairs_next, with_next}
use Rattle.division.proofs.divide.partner_row.Goals as goal
use Rattle.division.proofs.divide.partner_row.Goals.{In-Some}

pub loop-words-init : goal.loop-words-init
loop-words-init c = let s = c.args in
    let rest : chunks_exact_rest c.into_iter-words-iterator.result ≡ s.pairs.now = ap chunks_exact_rest c.into_iter-words-iterator.ensures.into_iter_gives ∙ c.chunks_exact-words-items.ensures.rest in (
      search rules,
      search rules,
      search rules,
      omega (arith, c.write_row.auto),
      rw rest c.requires.2,
      rw rest (ap (λ (u : List ℕ). with_pairs (pairs_of s.pairs.now) u s.r.now) (sym (ap (take (length s.t.now)) c.write_row.ensures ∙ row_written (replicate column_limit 0) s.t.now (omega arith)))),
    )

-- the next pair's words are in front of those that are left
sized : (c : In-Some) → length c.in-Some.words.now ≡ 2
sized c = c.in-Some.ensures.steps.1.1 ∙ c.loop-words.invariant.2

so_far : (c : In-Some) → All (λ number. (1 ≤ number) × (number ≤ length c.args.t.now)) (left_numbers (pairs_of (c.in-Some.words.now ++ chunks_exact_rest c.next.new.self)))
so_far c = rw c.in-Some.ensures.steps.1.0 at c.loop-words.invariant.4

pub overflow_sub-made : goal.overflow_sub-made
overflow_sub-made c = let d = (goal.at.overflow_sub-made c).In-Some in (pair-inside _ _ (length c.args.t.now) (pair_in c.pair_at-pair.result) (sized d) c.pair_at-pair.ensures (so_far d)).0

pub bounds-made-number : goal.bounds-made-number
bounds-made-number c = let d = (goal.at.bounds-made-number c).In-Some in
    omega (arith, pair-inside _ _ (length c.args.t.now) (pair_in c.pair_at-pair.result) (sized d) c.pair_at-pair.ensures (so_far d), c.requires.0, c.loop-words.invariant.3)

pub loop-words-preserved : goal.loop-words-preserved
loop-words-preserved c = let s = c.args in let l = c.loop-words in let d = (goal.at.loop-words-preserved c).In-Some in let p = pair_in c.pair_at-pair.result in let steps = c.in-Some.ensures.steps in (
  search rules,
  search rules,
  steps.0 ∙ l.invariant.2,
  simp length-set l.invariant.3,
  pairs_next _ _ (length s.t.now) p (sized d) c.pair_at-pair.ensures (so_far d),
  l.invariant.5 ∙ ap (λ (words : List ℕ). with_pairs (pairs_of words) (take (length s.t.now) l.made) s.r.now) steps.1.0
      ∙ with_next _ _ (length s.t.now) p (sized d) c.pair_at-pair.ensures (so_far d) l.made c.column_of.result s.r.now c.column_of.ensures,
)

pub returns : goal.returns
returns c = let s = c.args in let l = c.loop-words in
    sym (l.invariant.5 ∙ ap (λ pairs. with_pairs pairs (take (length s.t.now) l.made) s.r.now) (pairs_none (chunks_exact_rest l.words-iterator) (omega (arith, c.in-None.ensures.steps, l.invariant.2))))
