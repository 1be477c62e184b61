-- How long a listing can be, and where a writer of one ends. Assumes nothing.
use Prim.Native.Nat.{ℕ, ◌+◌, ◌*◌, ◌≤◌}
use mathlib.Core.Path.{◌≡◌}
use mathlib.Core.List.{List, [], ◌∷◌}
use native.Mathlib.Omega.{arith}
use lib.ListN.{length, length-append}
use Rattle.relations.specs.Limits.{word_limit}
use Rattle.lines.specs.Marks.{row_key}
use Rattle.lines.specs.Writing.{decimal, numbers_text, lines_text}
use Rattle.lines.specs.Put.{Put, furthest}
use Rattle.lines.proofs.WritingSteps.{length-numbers, length-lines, rows_words}
use Rattle.listing.specs.Listing.{status_key, place_key, number_line, head_text, listing_text, Listable, refusal_text, listing_bytes, refusal_bytes}

-- a line of one number is its key, the digits and a line feed
pub line_parts : (key : List ℕ) (number : ℕ) → length (number_line key number) ≡ length key + (length (decimal number) + 1)
unfolding numbers_text
line_parts key number = simp length-append

-- a number has at most ten digits, and one byte stands behind it
pub line-length : (key : List ℕ) (number : ℕ) → length (number_line key number) ≤ length key + 11
line-length key number = omega (arith, length-append key (numbers_text (number ∷ [])), length-numbers (number ∷ []))

pub line-ends : (key : List ℕ) (number : ℕ) {at end : ℕ} {before after : List ℕ} → Put at (number_line key number) before after end → end ≤ at + length key + 11
line-ends key number p = omega (arith, p.end_at, line-length key number)

pub head_length : (nodes heavy room width rows : ℕ) → length (head_text nodes heavy room width rows) ≤ 101
unfolding head_text
head_length nodes heavy room width rows =
    simp length-append (omega (
      arith,
      length-numbers (0 ∷ []),
      length-numbers (nodes ∷ []),
      length-numbers (heavy ∷ []),
      length-numbers (room ∷ []),
      length-numbers (width ∷ []),
      length-numbers (rows ∷ []),
    ))

-- no more rows than words
rows_few : {width rows : ℕ} {words : List ℕ} → Listable width rows words → (rows ≤ word_limit) × (width * rows ≤ word_limit)
rows_few {width} {rows} h = (omega (arith, rows_words width rows h.some, h.there, h.few), omega (arith, h.there, h.few))

rows-length : (width rows : ℕ) (words : List ℕ) → Listable width rows words → length (lines_text row_key width rows words) ≤ 245760
rows-length width rows words h = omega (arith, length-lines row_key width rows words, (rows_few h).0, (rows_few h).1)

-- behind the head the rows' lines are within reach of every position
pub rows_reach : (nodes heavy room width rows : ℕ) (words : List ℕ) {before after : List ℕ} {end : ℕ} → Listable width rows words
    → Put 0 (head_text nodes heavy room width rows) before after end → end + length (lines_text row_key width rows words) ≤ furthest
rows_reach nodes heavy room width rows words h p = omega (arith, p.end_at, head_length nodes heavy room width rows, rows-length width rows words h)

-- For a program that prints what was put into a buffer of that many bytes: it ends within them.
pub listing_ends : (nodes heavy room width rows : ℕ) (words : List ℕ) {before after : List ℕ} {end : ℕ} → Listable width rows words
    → Put 0 (listing_text nodes heavy room width rows words) before after end → end ≤ listing_bytes
unfolding listing_text
listing_ends nodes heavy room width rows words h p =
    omega (
      arith,
      p.end_at,
      length-append (head_text nodes heavy room width rows) (lines_text row_key width rows words),
      head_length nodes heavy room width rows,
      rows-length width rows words h,
    )

pub refusal_ends : (status place : ℕ) {before after : List ℕ} {end : ℕ} → Put 0 (refusal_text status place) before after end → end ≤ refusal_bytes
unfolding refusal_text
refusal_ends status place p = omega (arith, p.end_at, length-append (number_line status_key status) (number_line place_key place), line-length status_key status, line-length place_key place)
