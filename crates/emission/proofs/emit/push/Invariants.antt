use Rattle.std.proofs.Common.{◌≡◌, ◌+◌, take}
use Rattle.std.proofs.lemmas.List.Edits.{sets}
use Rattle.relations.specs.Limits.{head_words}
use Rattle.emission.specs.NodeLists.{padded}
use Rattle.emission.proofs.emit.push.Given as goal

abbrev pub invariant-loop-j : goal.invariant-loop-j
invariant-loop-j l = l.plan ≡ sets l.initial.plan (l.at + head_words) (take l.j (padded l.list))
