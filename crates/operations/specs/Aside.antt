-- A row that is made of others, as it is kept until it is placed. Assumes nothing.
use Rattle.std.specs.Prelude.{List, ℕ, replicate}
use Rattle.std.proofs.lemmas.List.Edits.{sets}
use Rattle.relations.specs.Limits.{column_limit}
use Rattle.relations.specs.Rows.{Row}

-- its words, then zeros
abbrev pub aside : Row → List ℕ
aside row = sets (replicate column_limit 0) 0 row
