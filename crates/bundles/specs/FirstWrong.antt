-- Document 01, refusal 12: "first wrong line, from 1", said of texts alone, with no reader in sight. Assumes nothing.
use Rattle.std.specs.Prelude.{ℕ, zero, suc, ◌+◌, ◌-◌, ◌≤◌, ◌≡◌, List, [], ◌∷◌, ◌++◌, true, false, cond, length, eqb}
use Rattle.catalogue.specs.Judging.{tables_ok}
use Rattle.relations.specs.Limits.{byte_limit}
use Rattle.lines.specs.Marks.{line_feed}
use Rattle.bundles.specs.Writing.{bundle_text}
use Rattle.bundles.specs.WriteCall.{nodes_ok}
use Rattle.lines.specs.Reading.{wrong_at}
use Rattle.bundles.specs.Reading.{bundle_in}
use Rattle.bundles.specs.ReadCall.{read_refused, small_buffers, read_outcome}
use Rattle.lines.specs.Words32.{Words32}

-- The first so many lines of a text, each with its LF. Behind the last LF stands one line more, which isn't ended, and may have no bytes.
unfoldable pub first_lines : ℕ → List ℕ → List ℕ
first_lines count [] = []
first_lines zero (byte ∷ bytes) = []
first_lines (suc more) (byte ∷ bytes) = byte ∷ first_lines (cond (eqb byte line_feed) more (suc more)) bytes

-- A text whose lines are right, whatever its length: the text of some bundle.
pub record RightText (text : List ℕ) : Type 0 where
  pub mode : ℕ
  pub catalogue : List ℕ
  pub tables : List ℕ
  pub nodes : List ℕ
  pub tables_ok_lem : tables_ok catalogue tables ≡ true
  pub nodes_ok_lem : nodes_ok nodes ≡ true
  pub tables_32 : Words32 tables
  pub nodes_32 : Words32 nodes
  pub text_is : bundle_text mode catalogue tables nodes ≡ text

-- Line `line` is the first wrong one: no right text has the same lines up to and with it, and one has the same lines before it.
-- So "something missing at the end is placed one line after the last", and an unended line at its own number: a right text that had
-- such a line would end there.
pub record FirstWrong (text : List ℕ) (line : ℕ) : Type 0 where
  pub counted : 1 ≤ line
  pub wrong : (other : List ℕ) → RightText other → first_lines line text ≡ first_lines line other → ⊥
  pub example : List ℕ
  pub right : RightText example
  pub right-before : first_lines (line - 1) text ≡ first_lines (line - 1) example

-- the lines of a text that are ended by LF
unfoldable pub ended_lines : List ℕ → ℕ
ended_lines [] = 0
ended_lines (byte ∷ bytes) = cond (eqb byte line_feed) 1 0 + ended_lines bytes

-- The place that `read` gives is the first wrong line. Proved in proofs/FirstWrong.antt.
pub record PlaceIsFirstWrong : Type 0 where
  -- a text within the limit is wrong at a line exactly when that is its first wrong line, and there is only one
  pub place : (text : List ℕ) (line : ℕ) → length text ≤ byte_limit → (bundle_in text).next ≡ wrong_at line → FirstWrong text line
  pub refused : (text : List ℕ) (line : ℕ) → length text ≤ byte_limit → FirstWrong text line → (bundle_in text).next ≡ wrong_at line
  pub one_place : (text : List ℕ) (one other : ℕ) → FirstWrong text one → FirstWrong text other → one ≡ other
  -- "something missing at the end is placed one line after the last; an unended line is wrong": a text that stops before the end of a right one
  pub missing : (text more : List ℕ) → RightText (text ++ more) → (RightText text → ⊥) → FirstWrong text (suc (ended_lines text))
  -- on calls of `read` that refusal 14 lets pass: 12 with this place, exactly when that line is the first wrong one
  pub read_place : (text catalogue tables question : List ℕ) → small_buffers catalogue tables question ≡ false → length text ≤ byte_limit
      → (read_outcome text catalogue tables question).numbers.status ≡ 12 → FirstWrong text (read_outcome text catalogue tables question).numbers.place
  pub read_refuses : (text catalogue tables question : List ℕ) (line : ℕ) → small_buffers catalogue tables question ≡ false → length text ≤ byte_limit
      → FirstWrong text line → read_outcome text catalogue tables question ≡ read_refused catalogue tables question 12 line
