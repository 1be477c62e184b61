-- Document 01, "Bundle text and the program": the bytes that lines are made of. Assumes nothing.
use Rattle.std.specs.Prelude.{ℕ, List, [], ◌∷◌, Bool, cond, ◌&&◌, leb, eqb}
use Prim.Native.Char.{code}
use Prim.Native.String.{String, [] as []ˢ, ◌∷◌ as ◌∷ˢ◌}

-- the bytes of plain characters
abbrev pub bytes_of : String → List ℕ
bytes_of []ˢ = []
bytes_of (character ∷ˢ others) = code character ∷ bytes_of others

abbrev pub line_feed : ℕ
line_feed = code "\n"

abbrev pub space : ℕ
space = code " "

abbrev pub zero_digit : ℕ
zero_digit = code "0"

abbrev pub digit : ℕ → Bool
digit byte = leb zero_digit byte && leb byte (code "9")

-- "one space between": the byte behind a number that `more` numbers follow on its line
abbrev pub separator : ℕ → ℕ
separator more = cond (eqb more 0) line_feed space

abbrev pub plain_line : List ℕ
plain_line = bytes_of "mode=plain\n"

abbrev pub short_line : List ℕ
short_line = bytes_of "mode=short\n"

abbrev pub relation_key : List ℕ
relation_key = bytes_of "relation="

abbrev pub row_key : List ℕ
row_key = bytes_of "row="

abbrev pub node_key : List ℕ
node_key = bytes_of "node="
