-- The listing that document 01 shows, and a refusal, byte by byte: the definitions say what the paper prints. Assumes nothing.
use Rattle.std.specs.Prelude.{ℕ, ◌≡◌, refl, List, [], ◌∷◌}
use Rattle.lines.specs.Marks.{bytes_of}
use Rattle.lines.specs.Writing.{digits, numbers_text, lines_text}
use Rattle.listing.specs.Listing.{head_text, listing_text, refusal_text}

abbrev shown_listing : List ℕ
shown_listing = bytes_of "status=0\nnodes=8\nheavy=2\nroom=32\nwidth=1\nrows=2\nrow=4\nrow=9\n"

listing_as_shown : listing_text 8 2 32 1 2 (4 ∷ 9 ∷ []) ≡ shown_listing
unfolding listing_text head_text lines_text numbers_text digits
listing_as_shown = refl

-- P5
abbrev shown_refusal : List ℕ
shown_refusal = bytes_of "status=10\nplace=7\n"

refusal_as_shown : refusal_text 10 7 ≡ shown_refusal
unfolding refusal_text numbers_text digits
refusal_as_shown = refl
