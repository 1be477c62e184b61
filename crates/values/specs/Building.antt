-- How a value is made: candidate rows are put into it one after another, until they are through or one has no room.
use Rattle.std.specs.Prelude.{◌≡◌, Bool, true, false, cond, List, [], ◌∷◌, ◌++◌, ℕ, ◌+◌, ◌-◌, ◌≤◌, leb, length, take, replicate, Option, Some, None}
use Rattle.std.proofs.lemmas.List.Edits.{sets}
use Rattle.relations.specs.Values.{Rows, Wide, insert_row, canonical}
use Rattle.values.specs.Words.{rows_at, words_of}

-- a row stands wholly in the tables, or in the work area in front of a place from which it is to be changed
abbrev pub Stands : (inWork : Bool) (start width place : ℕ) (tables work : List ℕ) → Type 0
Stands true start width place tables work = (start + width ≤ place) × (place ≤ length work)
Stands false start width place tables work = start + width ≤ length tables

-- a value that was made, or what stood there when a row had no room
pub data Built : Type 0 where
  done : Rows → Built
  stopped : Rows → Built

-- the candidates put into a value that may have so many words
unfoldable pub build : (room : ℕ) (candidates value : Rows) → Built
build room [] value = done value
build room (row ∷ candidates) value = cond (leb (length (words_of (insert_row row value))) room) (build room candidates (insert_row row value)) (stopped value)

abbrev pub answer_of : Built → Option ℕ
answer_of (done value) = Some (length value)
answer_of (stopped value) = None

abbrev pub left_of : Built → Rows
left_of (done value) = value
left_of (stopped value) = value

-- What a function leaves that puts candidates into the value of so many rows of a width from `out` on: its answer, and every word of the buffer.
-- All words from `out` to the buffer's end are room; what is in front of `out`, and behind the value, is as it was.
pub record Builds (width out rows : ℕ) (candidates : Rows) (before after : List ℕ) (answer : Option ℕ) : Type 0 where
  pub answers : answer ≡ answer_of (build (length before - out) candidates (rows_at width rows out before))
  pub words : after ≡ sets before out (words_of (left_of (build (length before - out) candidates (rows_at width rows out before))))
  pub wide : Wide width (left_of (build (length before - out) candidates (rows_at width rows out before)))

-- every word from a place on is 0
abbrev pub cleared_from : ℕ → List ℕ → List ℕ
cleared_from place words = take place words ++ replicate (length words - place) 0

-- it is so already
abbrev pub Blank : ℕ → List ℕ → Type 0
Blank place words = words ≡ cleared_from place words

-- a value that has room, or no rows
abbrev pub within : (room : ℕ) → Rows → Rows
within room value = cond (leb (length (words_of value)) room) value []

abbrev pub made_or_full : (room : ℕ) → Rows → Option ℕ
made_or_full room value = cond (leb (length (words_of value)) room) (Some (length value)) None

-- What a function leaves that makes the value of the candidates from `out` on, in whatever order and with whatever help from the words there: its answer,
-- and every word of the buffer: in front of `out` as it was, then the value's words, then zeros; on lack of room zeros alone.
pub record Makes (width out : ℕ) (candidates : Rows) (before after : List ℕ) (answer : Option ℕ) : Type 0 where
  pub answers : answer ≡ made_or_full (length before - out) (canonical candidates)
  pub words : after ≡ sets (cleared_from out before) out (words_of (within (length before - out) (canonical candidates)))
  pub wide : Wide width (within (length before - out) (canonical candidates))

-- a value that was built stays; what lack of room left goes
abbrev pub finished : (out : ℕ) → Option ℕ → List ℕ → List ℕ
finished out (Some rows) words = words
finished out None words = cleared_from out words
