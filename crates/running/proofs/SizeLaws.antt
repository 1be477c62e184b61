-- The words of the values still to come, node by node: whether they fit, and their sum. Assumes nothing.
use mathlib.Core.Path.{◌≡◌, refl, sym, ap, ◌∙◌}
use mathlib.Core.List.{List, [], ◌∷◌, ◌++◌, append-nil, append_assoc}
use Prim.Native.Nat.{ℕ, suc, ◌+◌, ◌≤◌, ◌<◌}
use native.Mathlib.Omega.{arith}
use lib.ListN.{length, length-append}
use borrow.Author.Tests.{le-leb, lt-leb}
use Rattle.relations.specs.Values.{Rows, Tables}
use Rattle.relations.specs.Nodes.{Node}
use Rattle.relations.specs.Machine.{run}
use Rattle.relations.specs.Plan.{values, widths, value_words, width_of_node, value_of_node, room_of}
use Rattle.running.specs.RunCall.{sizes_of, fits, passes_at, fit_of}

module _ (columns : ℕ → ℕ) (tables : Tables) where
  -- the words of each node's value, given the widths and values before them
  unfoldable pub sizes_from : List ℕ → List Rows → List Node → List ℕ
  sizes_from ws vs [] = []
  sizes_from ws vs (node ∷ nodes) =
      value_words (width_of_node columns ws node) (value_of_node tables vs node) ∷ sizes_from (ws ++ (width_of_node columns ws node ∷ [])) (vs ++ (value_of_node tables vs node ∷ [])) nodes

sizes_more : (ws : List ℕ) (vs : List Rows) (w : ℕ) (v : Rows) → length ws ≡ length vs → sizes_of (ws ++ (w ∷ [])) (vs ++ (v ∷ [])) ≡ sizes_of ws vs ++ (value_words w v ∷ [])
sizes_more [] [] w v e = refl
sizes_more [] (x ∷ vs) w v e = absurd (omega arith)
sizes_more (x ∷ ws) [] w v e = absurd (omega arith)
sizes_more (x ∷ ws) (y ∷ vs) w v e = ap (λ (sizes : List ℕ). value_words x y ∷ sizes) (sizes_more ws vs w v (omega arith))

module _ (columns : ℕ → ℕ) (tables : Tables) where
  sizes_run : (ws : List ℕ) (vs : List Rows) → length ws ≡ length vs → (nodes : List Node)
      → sizes_of (run (width_of_node columns) ws nodes) (run (value_of_node tables) vs nodes) ≡ sizes_of ws vs ++ sizes_from columns tables ws vs nodes
  unfolding run sizes_from
  sizes_run ws vs e [] = sym (append-nil (sizes_of ws vs))
  sizes_run ws vs e (node ∷ nodes) =
      let w : ℕ = width_of_node columns ws node in
      let v : Rows = value_of_node tables vs node in
      let more : List ℕ = sizes_from columns tables (ws ++ (w ∷ [])) (vs ++ (v ∷ [])) nodes in
      sizes_run (ws ++ (w ∷ [])) (vs ++ (v ∷ [])) (omega (arith, length-append ws (w ∷ []), length-append vs (v ∷ []))) nodes
      ∙ ap (λ (front : List ℕ). front ++ more) (sizes_more ws vs w v e)
      ∙ append_assoc (sizes_of ws vs) (value_words w v ∷ []) more

  -- of a whole plan
  pub sizes_all : (plan : List Node) → sizes_of (widths columns plan) (values tables plan) ≡ sizes_from columns tables [] [] plan
  sizes_all plan = sizes_run [] [] refl plan

  pub sizes_none : (ws : List ℕ) (vs : List Rows) → sizes_from columns tables ws vs [] ≡ []
  unfolding sizes_from
  sizes_none ws vs = refl

  pub sizes_next : (ws : List ℕ) (vs : List Rows) (node : Node) (nodes : List Node)
      → sizes_from columns tables ws vs (node ∷ nodes) ≡ value_words (width_of_node columns ws node) (value_of_node tables vs node) ∷ sizes_from columns tables (ws ++ (width_of_node columns ws node ∷ [])) (vs ++ (value_of_node tables vs node ∷ [])) nodes
  unfolding sizes_from
  sizes_next ws vs node nodes = refl

-- Whether they fit.

pub fit_none : (capacity used place : ℕ) → fit_of capacity used place [] ≡ fits
unfolding fit_of
fit_none capacity used place = refl

pub fit_on : (capacity used place size : ℕ) (sizes : List ℕ) → used + size ≤ capacity → fit_of capacity used place (size ∷ sizes) ≡ fit_of capacity (used + size) (place + 1) sizes
unfolding fit_of
fit_on capacity used place size sizes h = let next : place + 1 ≡ suc place = omega arith in rw (le-leb (used + size) capacity h, next)

pub fit_off : (capacity used place size : ℕ) (sizes : List ℕ) → capacity < used + size → fit_of capacity used place (size ∷ sizes) ≡ passes_at place
unfolding fit_of
fit_off capacity used place size sizes h = rw (lt-leb (used + size) capacity h)

-- Their sum.

abbrev pub total : List ℕ → ℕ
total [] = 0
total (size ∷ sizes) = size + total sizes

pub room_total : (ws : List ℕ) (vs : List Rows) → room_of ws vs ≡ total (sizes_of ws vs)
room_total [] vs = refl
room_total (w ∷ ws) [] = refl
room_total (w ∷ ws) (v ∷ vs) = ap (λ (n : ℕ). value_words w v + n) (room_total ws vs)
