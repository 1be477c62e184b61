-- The invariant of the loop over a plan's nodes, `Running`, and its steps. Assumes nothing.
use mathlib.Core.Path.{◌≡◌, refl, sym, ap, ap₂, subst, ◌∙◌}
use mathlib.Core.Bool.{Bool, true, false, cond, So}
use mathlib.Core.List.{List, [], ◌∷◌, ◌++◌}
use Prim.Native.Nat.{ℕ, suc, ◌+◌, ◌-◌, ◌*◌, ◌≤◌, ◌<◌, pred}
use native.Mathlib.Nat.{zero-add, sub-zero, add-zero}
use native.Mathlib.Numerals.{add-one}
use native.Mathlib.Omega.{arith}
use lib.ListN.{length, get_or, take, drop, set, length-set, length-map, length-append}
use lib.Seq.{take-suc-set, length-take-le, take_at, drop_at, get_or-take}
use Rattle.relations.specs.Limits.{plan_node_limit, plan_node_words, column_limit}
use Rattle.relations.specs.Lists.{filter}
use Rattle.relations.specs.Values.{Rows, Tables, Wide}
use Rattle.relations.specs.Nodes.{Node, weight_of}
use Rattle.relations.specs.Machine.{run}
use Rattle.relations.specs.Plan.{values, widths, width_at, value_at, candidates, value_words, width_of_node, value_of_node, heavy_node}
use Rattle.relations.specs.Plan.{heavy as heavyOf}
use Rattle.relations.specs.Legality.{between, legal_nodes, legal_plan}
use Rattle.relations.specs.PlanWords.{read_node}
use Rattle.relations.proofs.BoolLaws.{and_left}
use Rattle.relations.proofs.LegalityLaws.{so_between}
use Rattle.relations.proofs.PlanNarrow.{widths-narrow}
use Rattle.relations.proofs.PlanWidths.{widths-kept}
use Rattle.catalogue.specs.Judging.{tables_ok}
use Rattle.values.specs.Words.{rows_of, end}
use Rattle.values.specs.Building.{Blank, Makes}
use Rattle.values.specs.declared.rows.Value.{Value}
use Rattle.values.proofs.MakeLaws.{makes-length, makes-fits, makes-count, makes_full}
use Rattle.catalogue.specs.Stored.{relations_of, columns_of, stored_tables}
use Rattle.plan_reading.specs.Judging.{legal_read, judge_plan_nodes, plan_judgement, nodes_in, nodes_of_plan}
use Rattle.plan_reading.proofs.PlanTheorem.{judged_exactly}
use Rattle.node_values.specs.Standing.{no_value, value_named, widths_of, standing, StandsBefore, Stand}
use Rattle.node_values.specs.NodeRun.{placed_of, NodeRun}
use Rattle.running.specs.RunCall.{fits, passes_at, fit_of, last_place, plan_room, fit_within}
use Rattle.running.specs.PlanRun.{Answered}
use Rattle.node_values.specs.declared.node.Made.{Made}
use Rattle.std.specs.Prelude.{Option, Some, None, Ok}
use mathlib.Core.Option.{some}
use Rattle.catalogue.proofs.TableLaws.{tables-wide, has_column}
use Rattle.node_values.proofs.StandLaws.{widths-more, value-width, standing_at, value-stands, standing-more, stand_more}
use Rattle.running.proofs.SizeLaws.{sizes_from, sizes_all, sizes_none, sizes_next, fit_none, fit_on, fit_off, total, room_total}
use Rattle.running.proofs.NextLaws.{Next, next_node, run-next, wide-candidates, Sized, judged_sized}

-- The nodes before `place` are run, and `left` are the words of the others: what is still to come completes the whole.
-- `ws` and `vs` are the widths and the rows of the values made, which stand in front of `out`.
pub record Reached (catalogue tables plan : List ℕ) (nodes capacity place out heavies : ℕ) (left ws : List ℕ) (vs : List Rows) : Type 0 where
  pub judged : judge_plan_nodes catalogue (nodes - place) ws left ≡ Ok nodes
  pub widths_all : widths (columns_of catalogue) (nodes_of_plan plan) ≡ run (width_of_node (columns_of catalogue)) ws (nodes_in (nodes - place) left)
  pub values_all : values (stored_tables catalogue tables) (nodes_of_plan plan) ≡ run (value_of_node (stored_tables catalogue tables)) vs (nodes_in (nodes - place) left)
  pub fit : fit_within catalogue tables (nodes_of_plan plan) capacity ≡ fit_of capacity out place (sizes_from (columns_of catalogue) (stored_tables catalogue tables) ws vs (nodes_in (nodes - place) left))
  pub heavy : heavyOf (nodes_of_plan plan) ≡ heavies + heavyOf (nodes_in (nodes - place) left)
  pub room : plan_room catalogue tables (nodes_of_plan plan) ≡ out + total (sizes_from (columns_of catalogue) (stored_tables catalogue tables) ws vs (nodes_in (nodes - place) left))

-- The loop: a table of the node limit lists the values made, of which the first `place` are there.
pub record Running (catalogue tables plan : List ℕ) (nodes capacity : ℕ) (table : List Value) (heavies out place : ℕ) (left work : List ℕ) : Type 0 where
  pub in_plan : place ≤ nodes
  pub todo : length left ≡ (nodes - place) * plan_node_words
  pub long : length table ≡ plan_node_limit
  pub size : length work ≡ capacity
  pub stand : Stand (take place table) out work
  pub reached : Reached catalogue tables plan nodes capacity place out heavies left (widths_of (take place table)) (standing (take place table) work)

run_step : {N X : Type 0} (step : List X → N → X) (made : List X) (n : N) (ns : List N) → run step made (n ∷ ns) ≡ run step (made ++ (step made n ∷ [])) ns
unfolding run
run_step step made n ns = refl

heavy-next : (node : Node) (nodes : List Node) → heavyOf (node ∷ nodes) ≡ weight_of (heavy_node node) + heavyOf nodes
heavy-next node nodes = go (heavy_node node)
  where
    go : (h : Bool) → length (cond h (node ∷ filter heavy_node nodes) (filter heavy_node nodes)) ≡ weight_of h + heavyOf nodes
    go true = omega arith
    go false = omega arith

pub heavy-few : (nodes : List Node) → heavyOf nodes ≤ length nodes
heavy-few [] = omega arith
heavy-few (node ∷ nodes) = let rest : heavyOf nodes ≤ length nodes = heavy-few nodes in rw (heavy-next node nodes) (go (heavy_node node) rest)
  where
    go : (h : Bool) → heavyOf nodes ≤ length nodes → weight_of h + heavyOf nodes ≤ suc (length nodes)
    go true rest = omega arith
    go false rest = omega arith

module _ (catalogue tables plan : List ℕ) (nodes : ℕ) (ok : tables_ok catalogue tables ≡ true) (judged : plan_judgement catalogue plan ≡ Ok nodes) where
  abbrev columns : ℕ → ℕ
  columns = columns_of catalogue

  abbrev stored : Tables
  stored = stored_tables catalogue tables

  abbrev whole : List Node
  whole = nodes_of_plan plan

  legal-plan : So (legal_plan columns (relations_of catalogue) whole)
  legal-plan = ((judged_exactly catalogue).sound plan nodes judged).0

  pub nodes_many : length whole ≡ nodes
  nodes_many = ((judged_exactly catalogue).sound plan nodes judged).2

  pub narrow_at : (place : ℕ) → place < nodes → (1 ≤ width_at (widths columns whole) place) × (width_at (widths columns whole) place ≤ column_limit)
  narrow_at place h = (widths-narrow columns (relations_of catalogue) (λ relation k. let c = has_column catalogue tables ok relation k in (c.0, omega (arith, c.1))) whole legal-plan).narrow place (omega (arith, nodes_many))

  wide_at : (place : ℕ) → Wide (width_at (widths columns whole) place) (value_at (values stored whole) place)
  wide_at place = (widths-kept columns (relations_of catalogue) whole legal-plan).kept stored (tables-wide catalogue tables ok) place

  module _ {capacity place out heavies : ℕ} {left ws : List ℕ} {vs : List Rows} (r : Reached catalogue tables plan nodes capacity place out heavies left ws vs) (widths-are : length ws ≡ place) (values-are : length vs ≡ place) where
    -- a node is to come
    module _ (more : place < nodes) where
      pub next : Next catalogue (nodes - place) ws left nodes
      next = next_node catalogue (nodes - place) ws left nodes (omega arith) r.judged

      abbrev node : Node
      node = next.node

      abbrev width : ℕ
      width = width_of_node columns ws node

      abbrev rows : Rows
      rows = value_of_node stored vs node

      abbrev behind : List Node
      behind = nodes_in (nodes - place - 1) (drop plan_node_words left)

      width_here : width_at (widths columns whole) place ≡ width
      width_here = ap (λ (l : List ℕ). get_or l place 0) (r.widths_all ∙ ap (run (width_of_node columns) ws) next.todo) ∙ run-next (width_of_node columns) 0 ws node behind place widths-are

      value_here : value_at (values stored whole) place ≡ rows
      value_here = ap (λ (l : List Rows). get_or l place []) (r.values_all ∙ ap (run (value_of_node stored) vs) next.todo) ∙ run-next (value_of_node stored) [] vs node behind place values-are

      pub narrow : (1 ≤ width) × (width ≤ column_limit)
      narrow = rw width_here at (narrow_at place more)

      pub wide : Wide width (candidates stored vs node)
      wide = wide-candidates width (candidates stored vs node) (rw (width_here, value_here) at (wide_at place))

      pub reached_off : capacity < out + value_words width rows → fit_within catalogue tables whole capacity ≡ passes_at place
      reached_off over =
          r.fit ∙ ap (λ (l : List Node). fit_of capacity out place (sizes_from columns stored ws vs l)) next.todo
          ∙ ap (fit_of capacity out place) (sizes_next columns stored ws vs node behind)
          ∙ fit_off capacity out place (value_words width rows) (sizes_from columns stored (ws ++ (width ∷ [])) (vs ++ (rows ∷ [])) behind) over

      pub reached_on : out + value_words width rows ≤ capacity
          → Reached catalogue tables plan nodes capacity (place + 1) (out + value_words width rows) (heavies + weight_of (heavy_node node)) (drop plan_node_words left) (ws ++ (width ∷ [])) (vs ++ (rows ∷ []))
      reached_on fit =
          let fewer : nodes - place - 1 ≡ nodes - (place + 1) = omega arith in
          let coming : behind ≡ nodes_in (nodes - (place + 1)) (drop plan_node_words left) = ap (λ (n : ℕ). nodes_in n (drop plan_node_words left)) fewer in
          let sizes : List ℕ = sizes_from columns stored (ws ++ (width ∷ [])) (vs ++ (rows ∷ [])) behind in
          record {
            judged = ap (λ (n : ℕ). judge_plan_nodes catalogue n (ws ++ (width ∷ [])) (drop plan_node_words left)) (sym fewer) ∙ next.onward;
            widths_all = rw (← coming) (r.widths_all ∙ ap (run (width_of_node columns) ws) next.todo ∙ run_step (width_of_node columns) ws node behind);
            values_all = rw (← coming) (r.values_all ∙ ap (run (value_of_node stored) vs) next.todo ∙ run_step (value_of_node stored) vs node behind);
            fit =
                rw (← coming)
                (r.fit ∙ ap (λ (l : List Node). fit_of capacity out place (sizes_from columns stored ws vs l)) next.todo
                ∙ ap (fit_of capacity out place) (sizes_next columns stored ws vs node behind)
                ∙ fit_on capacity out place (value_words width rows) sizes fit);
            heavy = rw (← coming) (r.heavy ∙ ap (λ (l : List Node). heavies + heavyOf l) next.todo ∙ omega (arith, heavy-next node behind));
            room =
                rw (← coming)
                (r.room ∙ ap (λ (l : List Node). out + total (sizes_from columns stored ws vs l)) next.todo
                ∙ ap (λ (l : List ℕ). out + total l) (sizes_next columns stored ws vs node behind) ∙ omega arith);
          }

    -- all nodes are run
    module _ (done : nodes ≤ place) where
      nothing : nodes_in (nodes - place) left ≡ []
      unfolding nodes_in
      nothing = let none : nodes - place ≡ 0 = omega arith in rw none

      pub reached_widths : widths columns whole ≡ ws
      unfolding run
      reached_widths = r.widths_all ∙ ap (run (width_of_node columns) ws) nothing

      pub reached_values : values stored whole ≡ vs
      unfolding run
      reached_values = r.values_all ∙ ap (run (value_of_node stored) vs) nothing

      none_left : sizes_from columns stored ws vs (nodes_in (nodes - place) left) ≡ []
      none_left = ap (sizes_from columns stored ws vs) nothing ∙ sizes_none columns stored ws vs

      pub reached_fit : fit_within catalogue tables whole capacity ≡ fits
      reached_fit = r.fit ∙ ap (fit_of capacity out place) none_left ∙ fit_none capacity out place

      pub reached_heavy : heavies ≡ heavyOf whole
      reached_heavy = sym (r.heavy ∙ ap (λ (l : List Node). heavies + heavyOf l) nothing ∙ add-zero heavies)

      pub reached_room : out ≡ plan_room catalogue tables whole
      reached_room = sym (r.room ∙ ap (λ (l : List ℕ). out + total l) none_left ∙ add-zero out)

  pub reached_start : (capacity : ℕ) → Reached catalogue tables plan nodes capacity 0 0 0 plan [] []
  reached_start capacity =
      let sized : Sized catalogue plan nodes = judged_sized catalogue plan nodes judged in
      let left : nodes - 0 ≡ nodes = sub-zero nodes in
      let coming : nodes_in (nodes - 0) plan ≡ whole = ap (λ (n : ℕ). nodes_in n plan) (left ∙ sym sized.many) in
      record {
        judged = rw left sized.judged;
        widths_all = ap (run (width_of_node columns) []) (sym coming);
        values_all = ap (run (value_of_node stored) []) (sym coming);
        fit = ap (fit_of capacity 0 0) (sizes_all columns stored whole) ∙ ap (λ (l : List Node). fit_of capacity 0 0 (sizes_from columns stored [] [] l)) (sym coming);
        heavy = ap heavyOf (sym coming) ∙ sym (zero-add (heavyOf (nodes_in (nodes - 0) plan)));
        room =
            room_total (widths columns whole) (values stored whole) ∙ ap total (sizes_all columns stored whole)
            ∙ ap (λ (l : List Node). total (sizes_from columns stored [] [] l)) (sym coming)
            ∙ sym (zero-add (total (sizes_from columns stored [] [] (nodes_in (nodes - 0) plan))));
      }

  pub nodes-few : (1 ≤ nodes) × (nodes ≤ plan_node_limit)
  nodes-few = rw nodes_many at (so_between 1 plan_node_limit (length whole) (and_left (between 1 plan_node_limit (length whole)) (legal_nodes columns (relations_of catalogue) [] whole) legal-plan))

  pub running_start : (table : List Value) (work : List ℕ) → length table ≡ plan_node_limit → Blank 0 work → Running catalogue tables plan nodes (length work) table 0 0 0 plan work
  running_start table work long clear =
      record {
        in_plan = omega arith;
        todo = rw sub-zero (judged_sized catalogue plan nodes judged).size;
        long = long;
        size = refl;
        stand = record { each = tt; inside = omega arith; blank = clear };
        reached = reached_start (length work);
      }

  module _ {capacity : ℕ} {table : List Value} {heavies out place : ℕ} {left work : List ℕ} (r : Running catalogue tables plan nodes capacity table heavies out place left work) where
    abbrev made : List Value
    made = take place table

    few : place ≤ plan_node_limit
    few = omega (arith, r.in_plan, nodes-few.1)

    pub made_many : length made ≡ place
    made_many = length-take-le place table (omega (arith, few, r.long))

    widths-there : length (widths_of made) ≡ place
    widths-there = length-map made (λ (value : Value). value.width) ∙ made_many

    values-there : length (standing made work) ≡ place
    values-there = length-map made (λ (value : Value). rows_of value work) ∙ made_many

    -- all nodes are run: the last value is the answer
    module _ (short : length left < plan_node_words) where
      done : nodes ≤ place
      done = omega (arith, r.todo)

      below : nodes - 1 < place
      below = omega (arith, done, nodes-few.0)

      abbrev last : Value
      last = get_or table (nodes - 1) no_value

      last_is : last ≡ value_named made (nodes - 1)
      last_is = sym (get_or-take place table (nodes - 1) no_value below)

      pub running_end : Answered catalogue tables whole work last heavies out
      running_end =
          let stands : StandsBefore out work (value_named made (nodes - 1)) = value-stands r.stand (nodes - 1) (omega (arith, made_many, below)) in
          let end_at : pred (length (values stored whole)) ≡ nodes - 1 = ap (λ (l : List Rows). pred (length l)) (reached_values r.reached widths-there values-there done) ∙ omega (arith, values-there, done, r.in_plan) in
          let at : last_place catalogue tables whole ≡ nodes - 1 = ap (λ (n : ℕ). n - 1) nodes_many in
          record {
            fit = rw r.size (reached_fit r.reached widths-there values-there done);
            inside = omega (arith, ap end last_is, stands.2, r.stand.inside);
            rows =
                ap (λ (value : Value). rows_of value work) last_is
                ∙ sym (standing_at made work (nodes - 1))
                ∙ ap (λ (l : List Rows). get_or l (nodes - 1) []) (sym (reached_values r.reached widths-there values-there done))
                ∙ ap (λ (n : ℕ). get_or (values stored whole) n []) (sym end_at);
            width =
                ap (λ (value : Value). value.width) last_is
                ∙ value-width made (nodes - 1)
                ∙ sym (ap₂ width_at (reached_widths r.reached widths-there values-there done) at);
            heavy = reached_heavy r.reached widths-there values-there done;
            room = reached_room r.reached widths-there values-there done;
          }

  -- one turn: a node's words are in front of the others
  module _ {capacity : ℕ} {table : List Value} {heavies out place : ℕ} (words behind : List ℕ) {work : List ℕ} (size : length words ≡ plan_node_words) (r : Running catalogue tables plan nodes capacity table heavies out place (words ++ behind) work) where
    abbrev before : List Value
    before = take place table

    pub more : place < nodes
    more = omega (arith, size, r.todo, length-append words behind)

    abbrev coming : Next catalogue (nodes - place) (widths_of before) (words ++ behind) nodes
    coming = next r.reached (widths-there r) (values-there r) more

    read : read_node words ≡ some coming.node
    read = ap read_node (sym (take_at words behind plan_node_words size)) ∙ coming.read

    -- the next node is legal
    pub running-legal : legal_read (relations_of catalogue) (widths_of before) (read_node words) ≡ true
    running-legal = rw read coming.legal

    module _ {after : List ℕ} {answer : Option Made} (run : NodeRun catalogue tables (read_node words) (widths_of before) (standing before work) out work after answer) where
      makes : Makes (width_of_node columns (widths_of before) coming.node) out (candidates stored (standing before work) coming.node) work after (placed_of answer)
      makes = rw read at run.makes

      -- its value has no room
      pub running_off : answer ≡ None → fit_within catalogue tables whole (length after) ≡ passes_at place
      running_off e =
          let over : length work - out < length (value_of_node stored (standing before work) coming.node) * width_of_node columns (widths_of before) coming.node = makes_full (rw e at makes) (wide r.reached (widths-there r) (values-there r) more) in
          let same : length after ≡ capacity = makes-length r.stand.inside r.stand.blank makes ∙ r.size in
          rw same (reached_off r.reached (widths-there r) (values-there r) more (omega (arith, over, r.size, r.stand.inside)))

      -- its value stands behind the others
      module _ {one : Made} (e : answer ≡ Some one) where
        abbrev value : Value
        value = one.value

        counted : (value.base ≡ out) × (value.width ≡ width_of_node columns (widths_of before) coming.node) × (one.heavy ≡ weight_of (heavy_node coming.node))
        counted = rw (e, read) at run.counts

        placed : Makes value.width out (candidates stored (standing before work) coming.node) work after (Some value.rows)
        placed = rw counted.1 (rw e at makes)

        pub running-fits : out + value.rows * value.width ≤ length work
        running-fits = omega (arith, makes-fits r.stand.inside r.stand.blank placed, makes-length r.stand.inside r.stand.blank placed)

        further : {z h : ℕ} {ws : List ℕ} {vs : List Rows} → Reached catalogue tables plan nodes capacity (place + 1) z h (drop plan_node_words (words ++ behind)) ws vs → Reached catalogue tables plan nodes capacity (place + 1) z h behind ws vs
        further {z} {h} {ws} {vs} reached = subst (λ (l : List ℕ). Reached catalogue tables plan nodes capacity (place + 1) z h l ws vs) (drop_at words behind plan_node_words size) reached

        pub running_on : Running catalogue tables plan nodes capacity (set table place value) (heavies + one.heavy) (out + value.rows * value.width) (place + 1) behind after
        running_on =
            let grown : take (place + 1) (set table place value) ≡ before ++ (value ∷ []) = rw (add-one place) (take-suc-set table place value (omega (arith, more, nodes-few.1, r.long))) in
            let thin : (1 ≤ value.width) × (value.width ≤ column_limit) = rw counted.1 (narrow r.reached (widths-there r) (values-there r) more) in
            let many : value.rows ≡ length (value_of_node stored (standing before work) coming.node) = makes-count r.stand.inside r.stand.blank placed in
            let used : value.rows * value.width ≡ value_words (width_of_node columns (widths_of before) coming.node) (value_of_node stored (standing before work) coming.node) = ap₂ ◌*◌ many counted.1 in
            record {
              in_plan = omega (arith, more);
              todo = omega (arith, r.todo, more, size, length-append words behind);
              long = length-set table place value ∙ r.long;
              size = makes-length r.stand.inside r.stand.blank placed ∙ r.size;
              stand = rw grown (stand_more r.stand counted.0 placed thin.0 thin.1);
              reached = rw (grown, widths-more before value, standing-more r.stand counted.0 placed, used, counted.2, counted.1) (further (reached_on r.reached (widths-there r) (values-there r) more (omega (arith, running-fits, used, r.size))));
            }

        -- the count of heavy nodes stays a small number
        pub running-heavy : heavies + one.heavy ≤ plan_node_limit
        running-heavy = omega (arith, running_on.reached.heavy, heavy-few whole, nodes_many, nodes-few.1)
