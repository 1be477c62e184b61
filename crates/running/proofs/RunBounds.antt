-- Every number of a call of `run` is small: places and counts of nodes by the node limit, the room by the capacity, the answer's rows by the room. Assumes nothing.
use Prim.Native.Nat.{ℕ, zero, suc, pred, ◌+◌, ◌*◌, ◌/◌, ◌%◌, ◌≤◌, ◌<◌}
use mathlib.Core.Path.{◌≡◌, refl, ap}
use mathlib.Core.Bool.{Bool, true, false, cond, not, ◌&&◌}
use mathlib.Core.List.{List, [], ◌∷◌, ◌++◌}
use native.Mathlib.Omega.{arith}
use lib.Dec.{leb, ltb, eqb}
use lib.ListN.{length, take, drop, length-append}
use borrow.Author.Tests.{leb-true}
use Rattle.relations.specs.Limits.{column_limit, plan_node_limit, plan_node_words, word_limit}
use Rattle.relations.specs.Values.{Rows}
use Rattle.relations.specs.Nodes.{Node}
use Rattle.relations.specs.Plan.{values, widths, width_at, value_at, value_words, width_of_node, value_of_node}
use Rattle.relations.specs.Legality.{between}
use Rattle.relations.specs.PlanWords.{read_node}
use Rattle.relations.proofs.BoolLaws.{and_right}
use Rattle.relations.proofs.LegalityLaws.{so_between}
use Rattle.relations.proofs.MachineLaws.{run_length}
use Rattle.catalogue.specs.Judging.{tables_ok}
use Rattle.catalogue.specs.Stored.{columns_of, stored_tables}
use Rattle.std.specs.Prelude.{Option, Some, None, Ok, Err}
use Rattle.plan_reading.specs.Judging.{PlanNumbers, plan_numbers, PlanJudgement, illegal_at, judged_node, onward, judge_plan_nodes, plan_judgement, nodes_of_plan}
use Rattle.running.specs.RunCall.{run_refusal, sizes_of, Fit, fits, passes_at, fit_of, capacity_of, cleared, answer_rows, answer_width, last_place, plan_room, fit_within, stopped, answered, ran_outcome, refused, judged_outcome, run_outcome}
use Rattle.running.specs.RunBounds.{Bounded}
use Rattle.running.proofs.SizeLaws.{total, room_total}
use Rattle.running.proofs.RunLaws.{heavy-few, nodes_many, nodes-few, narrow_at}

refusal_bounded : (status place : ℕ) → place ≤ plan_node_limit → Bounded (run_refusal status place)
refusal_bounded status place h = record { place = h; nodes = omega arith; heavy = omega arith; room = omega arith; width = omega arith; rows = omega arith }

-- 9: the place is a node of the words

illegal-place : {at place : ℕ} → illegal_at at ≡ illegal_at place → at ≡ place
illegal-place e = ap (λ (n : PlanNumbers). n.place) (ap plan_numbers e)

illegal-inside : (catalogue : List ℕ) (count : ℕ) (made words : List ℕ) (place : ℕ) → judge_plan_nodes catalogue count made words ≡ illegal_at place → place ≤ length made + count
unfolding judge_plan_nodes
illegal-inside catalogue zero made words place e = absurd cc
illegal-inside catalogue (suc count) made words place e =
    go (judged_node catalogue made (read_node (take plan_node_words words))) e (λ width later. illegal-inside catalogue count (made ++ (width ∷ [])) (drop plan_node_words words) place later)
  where
    rest : ℕ → PlanJudgement
    rest width = judge_plan_nodes catalogue count (made ++ (width ∷ [])) (drop plan_node_words words)

    go : (width : Option ℕ) → onward width (length made) rest ≡ illegal_at place → ((w : ℕ) → rest w ≡ illegal_at place → place ≤ length (made ++ (w ∷ [])) + count) → place ≤ length made + suc count
    go (Some width) e later = omega (arith, later width e, length-append made (width ∷ []))
    go None e later = omega (arith, illegal-place e)

illegal_bounded : (catalogue plan : List ℕ) (place : ℕ) → plan_judgement catalogue plan ≡ illegal_at place → place ≤ plan_node_limit
illegal_bounded catalogue plan place e = go (eqb (length plan % plan_node_words) 0 && between 1 plan_node_limit (length plan / plan_node_words)) refl e
  where
    go : (whole : Bool) → (eqb (length plan % plan_node_words) 0 && between 1 plan_node_limit (length plan / plan_node_words)) ≡ whole
        → cond whole (judge_plan_nodes catalogue (length plan / plan_node_words) [] plan) (illegal_at 0) ≡ illegal_at place → place ≤ plan_node_limit
    go true whole e =
        let few : length plan / plan_node_words ≤ plan_node_limit = (so_between 1 plan_node_limit (length plan / plan_node_words) (and_right (eqb (length plan % plan_node_words) 0) (between 1 plan_node_limit (length plan / plan_node_words)) whole)).1 in
        omega (arith, few, illegal-inside catalogue (length plan / plan_node_words) [] plan place e)
    go false whole e = omega (arith, illegal-place e)

-- 10: the place is one of the sizes'; and sizes that fit are within the capacity together

passes-inside : (capacity used place : ℕ) (sizes : List ℕ) (found : ℕ) → fit_of capacity used place sizes ≡ passes_at found → found ≤ place + length sizes
unfolding fit_of
passes-inside capacity used place [] found e = let never : ◌≡◌ {A = ℕ} 0 1 = cc in absurd (omega arith)
passes-inside capacity used place (size ∷ sizes) found e = go (leb (used + size) capacity) e (λ later. passes-inside capacity (used + size) (suc place) sizes found later)
  where
    go : (room : Bool) → cond room (fit_of capacity (used + size) (suc place) sizes) (passes_at place) ≡ passes_at found
        → (fit_of capacity (used + size) (suc place) sizes ≡ passes_at found → found ≤ suc place + length sizes) → found ≤ place + suc (length sizes)
    go true e later = omega (arith, later e)
    go false e later = let is : place ≡ found = cc in omega arith

fits-inside : (capacity used place : ℕ) (sizes : List ℕ) → used ≤ capacity → fit_of capacity used place sizes ≡ fits → used + total sizes ≤ capacity
unfolding fit_of
fits-inside capacity used place [] h e = omega arith
fits-inside capacity used place (size ∷ sizes) h e = go (leb (used + size) capacity) refl e (λ more later. fits-inside capacity (used + size) (suc place) sizes more later)
  where
    go : (room : Bool) → leb (used + size) capacity ≡ room → cond room (fit_of capacity (used + size) (suc place) sizes) (passes_at place) ≡ fits
        → (used + size ≤ capacity → fit_of capacity (used + size) (suc place) sizes ≡ fits → used + size + total sizes ≤ capacity) → used + (size + total sizes) ≤ capacity
    go true room e later = omega (arith, later (leb-true (used + size) capacity room) e)
    go false room e later = let never : ◌≡◌ {A = ℕ} 0 1 = cc in absurd (omega arith)

sizes_few : (ws : List ℕ) (vs : List Rows) → length (sizes_of ws vs) ≤ length ws
sizes_few [] vs = omega arith
sizes_few (w ∷ ws) [] = omega arith
sizes_few (w ∷ ws) (v ∷ vs) = omega (arith, sizes_few ws vs)

-- one value's words are among all
size-inside : (ws : List ℕ) (vs : List Rows) (place : ℕ) → place < length ws → place < length vs → value_words (width_at ws place) (value_at vs place) ≤ total (sizes_of ws vs)
size-inside [] vs place h k = absurd (omega arith)
size-inside (w ∷ ws) [] place h k = absurd (omega arith)
size-inside (w ∷ ws) (v ∷ vs) zero h k = omega arith
size-inside (w ∷ ws) (v ∷ vs) (suc place) h k = omega (arith, size-inside ws vs place (omega arith) (omega arith))

-- a value with a column has no more rows than words
rows_words : (rows width : ℕ) → 1 ≤ width → rows ≤ rows * width
rows_words rows zero h = absurd (omega arith)
rows_words rows (suc width) h = omega arith

module _ (catalogue tables plan : List ℕ) (nodes : ℕ) (ok : tables_ok catalogue tables ≡ true) (judged : plan_judgement catalogue plan ≡ Ok nodes) where
  abbrev whole : List Node
  whole = nodes_of_plan plan

  abbrev all_widths : List ℕ
  all_widths = widths (columns_of catalogue) whole

  abbrev all_values : List Rows
  all_values = values (stored_tables catalogue tables) whole

  many : length whole ≡ nodes
  many = nodes_many catalogue tables plan nodes ok judged

  few : (1 ≤ nodes) × (nodes ≤ plan_node_limit)
  few = nodes-few catalogue tables plan nodes ok judged

  widths_many : length all_widths ≡ nodes
  widths_many = omega (arith, run_length (width_of_node (columns_of catalogue)) [] whole, many)

  values_many : length all_values ≡ nodes
  values_many = omega (arith, run_length (value_of_node (stored_tables catalogue tables)) [] whole, many)

  narrow : (1 ≤ answer_width catalogue tables whole) × (answer_width catalogue tables whole ≤ column_limit)
  narrow = narrow_at catalogue tables plan nodes ok judged (last_place catalogue tables whole) (omega (arith, many, few.0))

  -- the answer is the last value
  answer-inside : value_words (answer_width catalogue tables whole) (answer_rows catalogue tables whole) ≤ plan_room catalogue tables whole
  answer-inside =
      let last : last_place catalogue tables whole ≡ pred (length all_values) = omega (arith, many, values_many) in
      let among : value_words (width_at all_widths (pred (length all_values))) (answer_rows catalogue tables whole) ≤ total (sizes_of all_widths all_values) =
      size-inside all_widths all_values (pred (length all_values)) (omega (arith, widths_many, values_many, few.0)) (omega (arith, values_many, few.0)) in
      rw (room_total all_widths all_values, last) among

  room_bounded : (capacity : ℕ) → fit_within catalogue tables whole capacity ≡ fits → plan_room catalogue tables whole ≤ capacity
  room_bounded capacity e = omega (arith, fits-inside capacity 0 0 (sizes_of all_widths all_values) (omega arith) e, room_total all_widths all_values)

  module _ (work output : List ℕ) where
    answered_bounded : plan_room catalogue tables whole ≤ word_limit → Bounded (answered catalogue tables whole work output).numbers
    answered_bounded room =
        record {
          place = omega arith;
          nodes = omega (arith, many, few.1);
          heavy = omega (arith, heavy-few whole, many, few.1);
          room = room;
          width = narrow.1;
          rows = omega (arith, rows_words (length (answer_rows catalogue tables whole)) (answer_width catalogue tables whole) narrow.0, answer-inside);
        }

    ran_bounded : (capacity : ℕ) → capacity ≤ word_limit → (fit : Fit) → fit_within catalogue tables whole capacity ≡ fit → Bounded (ran_outcome catalogue tables whole work output fit).numbers
    ran_bounded capacity small (passes_at place) e =
        refusal_bounded 10 place (omega (arith, passes-inside capacity 0 0 (sizes_of all_widths all_values) place e, sizes_few all_widths all_values, widths_many, few.1))
    ran_bounded capacity small fits e = go (ltb (length output) (value_words (answer_width catalogue tables whole) (answer_rows catalogue tables whole)))
      where
        go : (long : Bool) → Bounded (cond long (stopped catalogue tables whole work output 11 (last_place catalogue tables whole)) (answered catalogue tables whole work output)).numbers
        go true = refusal_bounded 11 (last_place catalogue tables whole) (omega (arith, many, few.1))
        go false = answered_bounded (omega (arith, small, room_bounded capacity e))

module _ (catalogue tables plan work output : List ℕ) where
  judged_bounded : tables_ok catalogue tables ≡ true → (judged : PlanJudgement) → plan_judgement catalogue plan ≡ judged → Bounded (judged_outcome catalogue tables plan work output judged).numbers
  judged_bounded ok (Err illegal) e = refusal_bounded 9 illegal.0 (illegal_bounded catalogue plan illegal.0 e)
  judged_bounded ok (Ok nodes) e = ran_bounded catalogue tables plan nodes ok e (cleared work) output (capacity_of work) (omega arith) (fit_within catalogue tables (nodes_of_plan plan) (capacity_of work)) refl

  pub run_bounded : Bounded (run_outcome catalogue tables plan work output).numbers
  unfolding run_outcome
  run_bounded = go (tables_ok catalogue tables) refl
    where
      go : (ok : Bool) → tables_ok catalogue tables ≡ ok → Bounded (cond (not ok) (refused catalogue tables plan work output 7 0) (judged_outcome catalogue tables plan work output (plan_judgement catalogue plan))).numbers
      go true ok = judged_bounded ok (plan_judgement catalogue plan) refl
      go false ok = refusal_bounded 7 0 (omega arith)
