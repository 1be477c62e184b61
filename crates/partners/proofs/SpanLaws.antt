-- What an allowed word is. Assumes nothing.
use Rattle.std.proofs.Common.{ℕ, ◌≤◌, ◌<◌, arith}
use Rattle.std.proofs.Math.Bool.{So}
use Rattle.std.proofs.lemmas.Grind.{common_steps}
use Rattle.partners.specs.Spans.{no_word, allowed}

module _ (low high except word : ℕ) where
  pub at_least_lem : So (allowed low high except word) → low ≤ word
  unfolding allowed
  at_least_lem h = grind (arith, common_steps)

  pub at_most_lem : So (allowed low high except word) → high < no_word → word ≤ high
  unfolding allowed
  at_most_lem h k = grind (arith, common_steps)
