-- The words that a comparison leaves: those from a least to a greatest one, without one.
use Rattle.std.specs.Prelude.{◌≡◌, Bool, not, ◌&&◌, ◌||◌, ℕ, ◌+◌, leb, eqb}
use Rattle.relations.specs.Limits.{greatest_number}
use Rattle.relations.specs.Comparison.{Operator, holds}
use Rattle.partners.specs.declared.sieve.Span.{Span}

-- above every word: as the greatest it says nothing, and as the one left out neither
abbrev pub no_word : ℕ
no_word = greatest_number + 1

unfoldable pub allowed : (low high except word : ℕ) → Bool
allowed low high except word = leb low word && ((leb no_word high || leb word high) && (leb no_word except || not (eqb except word)))

abbrev pub allowed_by : Span → ℕ → Bool
allowed_by span word = allowed span.low span.high span.except word

-- exactly those that a word compares with
pub record Allows (operator : Operator) (x : ℕ) (span : Span) : Type 0 where
  pub same : (word : ℕ) → allowed_by span word ≡ holds operator x word
