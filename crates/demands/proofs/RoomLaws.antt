-- Refusal 10 as its line says it: the room passes the capacity, at the first node up to which it does. Assumes nothing.
use Prim.Native.Nat.{ℕ, zero, suc, ◌+◌, ◌≤◌, ◌<◌}
use mathlib.Core.Path.{◌≡◌, refl, sym, ap, ◌∙◌}
use mathlib.Core.Bool.{Bool, true, false, cond}
use mathlib.Core.List.{List, [], ◌∷◌, ◌++◌}
use native.Mathlib.Omega.{arith}
use native.Mathlib.Nat.{zero-add, add-zero, add_assoc}
use lib.Dec.{ltb, leb}
use lib.ListN.{length, take}
use borrow.Author.Tests.{lt-ltb, le-ltb, leb-true, leb-false}
use Rattle.relations.specs.Nodes.{Node}
use Rattle.relations.specs.Values.{Rows, Tables}
use Rattle.relations.specs.Plan.{values, widths, value_words, width_of_node, value_of_node}
use Rattle.nodes.specs.References.{first_from, lowest}
use Rattle.catalogue.specs.Stored.{columns_of, stored_tables}
use Rattle.running.specs.RunCall.{fits, passes_at, fit_of, fit_within, plan_room}
use Rattle.running.proofs.SizeLaws.{sizes_from, sizes_all, total, room_total}
use Rattle.demands.specs.Refusals.{room_up_to}

-- Sizes one after another: `test` says of each place whether the sum up to it passes.
sizes_fit : (test : ℕ → Bool) (capacity used place : ℕ) (sizes : List ℕ) → used ≤ capacity → ((i : ℕ) → test (place + i) ≡ ltb capacity (used + total (take (suc i) sizes)))
    → fit_of capacity used place sizes ≡ cond (ltb capacity (used + total sizes)) (passes_at (first_from test (length sizes) place)) fits
unfolding fit_of first_from
sizes_fit test capacity used place [] inside is = rw (le-ltb capacity (used + 0) (omega arith))
sizes_fit test capacity used place (size ∷ sizes) inside is = go (leb (used + size) capacity) refl (λ more. sizes_fit test capacity (used + size) (suc place) sizes more)
  where
    here : test place ≡ ltb capacity (used + size)
    here = ap test (sym (add-zero place)) ∙ is 0 ∙ ap (λ (n : ℕ). ltb capacity (used + n)) (add-zero size)

    later : (i : ℕ) → test (suc place + i) ≡ ltb capacity (used + size + total (take (suc i) sizes))
    later i =
        let next : suc place + i ≡ place + suc i = omega arith in
        ap test next ∙ is (suc i) ∙ ap (ltb capacity) (sym (add_assoc used size (total (take (suc i) sizes))))

    go : (room : Bool) → leb (used + size) capacity ≡ room
        → (used + size ≤ capacity → ((i : ℕ) → test (suc place + i) ≡ ltb capacity (used + size + total (take (suc i) sizes)))
        → fit_of capacity (used + size) (suc place) sizes ≡ cond (ltb capacity (used + size + total sizes)) (passes_at (first_from test (length sizes) (suc place))) fits)
        → cond (leb (used + size) capacity) (fit_of capacity (used + size) (suc place) sizes) (passes_at place)
        ≡ cond (ltb capacity (used + (size + total sizes))) (passes_at (cond (test place) place (first_from test (length sizes) (suc place)))) fits
    go true room others =
        let most : used + size ≤ capacity = leb-true (used + size) capacity room in
        rw (room, here, le-ltb capacity (used + size) most, ← add_assoc used size (total sizes)) (others most later)
    go false room others =
        let over : capacity < used + size = leb-false (used + size) capacity room in
        rw (room, here, lt-ltb capacity (used + size) over, lt-ltb capacity (used + (size + total sizes)) (omega arith))

module _ (columns : ℕ → ℕ) (tables : Tables) where
  sizes_many : (ws : List ℕ) (vs : List Rows) (nodes : List Node) → length (sizes_from columns tables ws vs nodes) ≡ length nodes
  unfolding sizes_from
  sizes_many ws vs [] = refl
  sizes_many ws vs (node ∷ nodes) = ap suc (sizes_many (ws ++ (width_of_node columns ws node ∷ [])) (vs ++ (value_of_node tables vs node ∷ [])) nodes)

  -- the first nodes have the first sizes
  sizes_front : (ws : List ℕ) (vs : List Rows) (nodes : List Node) (count : ℕ) → sizes_from columns tables ws vs (take count nodes) ≡ take count (sizes_from columns tables ws vs nodes)
  unfolding sizes_from
  sizes_front ws vs [] zero = refl
  sizes_front ws vs [] (suc count) = refl
  sizes_front ws vs (node ∷ nodes) zero = refl
  sizes_front ws vs (node ∷ nodes) (suc count) =
      ap (λ (sizes : List ℕ). value_words (width_of_node columns ws node) (value_of_node tables vs node) ∷ sizes) (sizes_front (ws ++ (width_of_node columns ws node ∷ [])) (vs ++ (value_of_node tables vs node ∷ [])) nodes count)

module _ (catalogue tables : List ℕ) where
  room_is : (nodes : List Node) → plan_room catalogue tables nodes ≡ total (sizes_from (columns_of catalogue) (stored_tables catalogue tables) [] [] nodes)
  room_is nodes =
      room_total (widths (columns_of catalogue) nodes) (values (stored_tables catalogue tables) nodes)
      ∙ ap total (sizes_all (columns_of catalogue) (stored_tables catalogue tables) nodes)

  pub room-fit : (nodes : List Node) (capacity : ℕ) → fit_within catalogue tables nodes capacity
      ≡ cond (ltb capacity (plan_room catalogue tables nodes)) (passes_at (lowest (λ place. ltb capacity (room_up_to catalogue tables nodes place)) (length nodes))) fits
  room-fit nodes capacity =
      let sizes : List ℕ = sizes_from (columns_of catalogue) (stored_tables catalogue tables) [] [] nodes in
      let test : ℕ → Bool = λ place. ltb capacity (room_up_to catalogue tables nodes place) in
      let front : (i : ℕ) → room_up_to catalogue tables nodes i ≡ total (take (suc i) sizes) =
      λ i. room_is (take (suc i) nodes) ∙ ap total (sizes_front (columns_of catalogue) (stored_tables catalogue tables) [] [] nodes (suc i)) in
      let each : (i : ℕ) → test (0 + i) ≡ ltb capacity (0 + total (take (suc i) sizes)) =
      λ i. ap test (zero-add i) ∙ ap (ltb capacity) (front i ∙ sym (zero-add (total (take (suc i) sizes)))) in
      rw (sizes_all (columns_of catalogue) (stored_tables catalogue tables) nodes, room_is nodes, ← sizes_many (columns_of catalogue) (stored_tables catalogue tables) [] [] nodes)
      (sizes_fit test capacity 0 0 sizes (omega arith) each ∙ ap (λ (n : ℕ). cond (ltb capacity n) (passes_at (first_from test (length sizes) 0)) fits) (zero-add (total sizes)))
