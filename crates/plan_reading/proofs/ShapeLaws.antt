-- A node's words against its operation's shape: each of the decoder's tests, and the room that the list then has. Assumes nothing.
use Prim.Native.Nat.{ℕ, ◌+◌, ◌*◌, ◌≤◌, ◌<◌}
use mathlib.Core.Path.{◌≡◌, sym, ap, ◌∙◌}
use mathlib.Core.Bool.{false, ◌&&◌, ◌||◌, So, and-false}
use mathlib.Core.List.{List}
use native.Mathlib.Omega.{arith}
use lib.Dec.{leb, eqb}
use lib.ListN.{get_or, drop}
use lib.Seq.{drop-drop}
use borrow.Author.Tests.{lt-leb, le-leb, leb-true}
use Rattle.relations.specs.Limits.{head_words, list_words}
use Rattle.relations.specs.Nodes.{Operation}
use Rattle.relations.specs.Legality.{between}
use Rattle.relations.specs.PlanWords as relations
use Rattle.relations.specs.PlanWords.{shape_of, shape_fits, all_zero}
use Rattle.relations.proofs.BoolLaws.{and_left, and_right}
use Rattle.relations.proofs.PlanWordsBack.{shape_room}
use Rattle.plan_reading.specs.Decoding.{shape_in, fits}
use Rattle.plan_reading.specs.declared.nodes.Shape.{Shape}

-- the shape that the code found for the operation, and the count that it read
module _ (operation : Operation) (shape : Shape) (is : shape_in shape ≡ shape_of operation) (words : List ℕ) (count : ℕ) (read : count ≡ get_or words 3 0) where
  asked : fits operation words ≡ shape_fits (shape_in shape) (get_or words 2 0) count (drop head_words words)
  asked =
      ap (λ (s : relations.Shape). shape_fits s (get_or words 2 0) (get_or words 3 0) (drop head_words words)) (sym is)
      ∙ ap (λ (n : ℕ). shape_fits (shape_in shape) (get_or words 2 0) n (drop head_words words)) (sym read)

  pub fits_too_few : count < shape.least → fits operation words ≡ false
  fits_too_few h = asked ∙ rw (lt-leb shape.least count h) (and-false (shape.right || eqb (get_or words 2 0) 0))

  pub fits_too_many : shape.least ≤ count → shape.most < count → fits operation words ≡ false
  fits_too_many l h = asked ∙ rw (le-leb shape.least count l, lt-leb count shape.most h) (and-false (shape.right || eqb (get_or words 2 0) 0))

  pub fits_rest : shape.least ≤ count → count ≤ shape.most → fits operation words ≡ ((shape.right || eqb (get_or words 2 0) 0) && all_zero (drop (head_words + shape.unit * count) words))
  fits_rest l h = asked ∙ rw (le-leb shape.least count l, le-leb count shape.most h, drop-drop (shape.unit * count) head_words words)

  pub fits-room : count ≤ shape.most → shape.unit * count ≤ list_words
  fits-room h =
      let unit : shape.unit ≡ (shape_of operation).unit = ap (λ (s : relations.Shape). s.unit) is in
      let most : shape.most ≡ (shape_of operation).most_count = ap (λ (s : relations.Shape). s.most_count) is in
      rw unit (shape_room operation count (omega arith))

-- the count of words that fit is within its bounds, and the list has the words counted
module _ (operation : Operation) (words : List ℕ) (h : So (fits operation words)) where
  counted : So (between (shape_of operation).least_count (shape_of operation).most_count (get_or words 3 0))
  counted =
      and_left (between (shape_of operation).least_count (shape_of operation).most_count (get_or words 3 0)) (all_zero (drop ((shape_of operation).unit * get_or words 3 0) (drop head_words words)))
      (and_right ((shape_of operation).uses_right || eqb (get_or words 2 0) 0) (between (shape_of operation).least_count (shape_of operation).most_count (get_or words 3 0) && all_zero (drop ((shape_of operation).unit * get_or words 3 0) (drop head_words words))) h)

  pub count_most : get_or words 3 0 ≤ (shape_of operation).most_count
  count_most = leb-true (get_or words 3 0) (shape_of operation).most_count (and_right (leb (shape_of operation).least_count (get_or words 3 0)) (leb (get_or words 3 0) (shape_of operation).most_count) counted)

  pub count-least : (shape_of operation).least_count ≤ get_or words 3 0
  count-least = leb-true (shape_of operation).least_count (get_or words 3 0) (and_left (leb (shape_of operation).least_count (get_or words 3 0)) (leb (get_or words 3 0) (shape_of operation).most_count) counted)

  pub count_room : (shape_of operation).unit * get_or words 3 0 ≤ list_words
  count_room = shape_room operation (get_or words 3 0) count_most
