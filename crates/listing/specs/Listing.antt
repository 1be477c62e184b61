-- Document 01, "Bundle text and the program": the listing that `desk` prints. Assumes nothing.
use Rattle.std.specs.Prelude.{ℕ, ◌*◌, ◌≤◌, List, [], ◌∷◌, ◌++◌, length}
use Rattle.relations.specs.Limits.{word_limit}
use Rattle.lines.specs.Marks.{bytes_of, row_key}
use Rattle.lines.specs.Writing.{line_text, lines_text}

abbrev pub status_key : List ℕ
status_key = bytes_of "status="

abbrev pub place_key : List ℕ
place_key = bytes_of "place="

abbrev pub nodes_key : List ℕ
nodes_key = bytes_of "nodes="

abbrev pub heavy_key : List ℕ
heavy_key = bytes_of "heavy="

abbrev pub room_key : List ℕ
room_key = bytes_of "room="

abbrev pub width_key : List ℕ
width_key = bytes_of "width="

abbrev pub rows_key : List ℕ
rows_key = bytes_of "rows="

-- a line of one number
abbrev pub number_line : (key : List ℕ) (number : ℕ) → List ℕ
number_line key number = line_text key (number ∷ [])

-- "status, plan nodes, heavy operations, room, answer columns, answer rows"
unfoldable pub head_text : (nodes heavy room width rows : ℕ) → List ℕ
head_text nodes heavy room width rows =
    number_line status_key 0
    ++ number_line nodes_key nodes
    ++ number_line heavy_key heavy
    ++ number_line room_key room
    ++ number_line width_key width
    ++ number_line rows_key rows

-- and then the rows, whose words stand one row after another
unfoldable pub listing_text : (nodes heavy room width rows : ℕ) (words : List ℕ) → List ℕ
listing_text nodes heavy room width rows words = head_text nodes heavy room width rows ++ lines_text row_key width rows words

-- Which answers a listing can be asked for, and every answer of the desk is one: it has a column at least, its words are there, and they are within the
-- limit. So there are no more rows than words, and the text stays short.
pub record Listable (width rows : ℕ) (words : List ℕ) : Type 0 where
  pub some : 1 ≤ width
  pub there : width * rows ≤ length words
  pub few : length words ≤ word_limit

-- "A refusal prints status= and place= only."
unfoldable pub refusal_text : (status place : ℕ) → List ℕ
refusal_text status place = number_line status_key status ++ number_line place_key place

-- The bytes of a buffer that holds every listing: a row's line has 15 at most for each word, and the head's lines are fewer than the words may be. And of
-- one that holds every refusal.
abbrev pub listing_bytes : ℕ
listing_bytes = 16 * word_limit

abbrev pub refusal_bytes : ℕ
refusal_bytes = 35
