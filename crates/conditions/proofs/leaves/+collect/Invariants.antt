use Rattle.conditions.proofs.leaves.+collect.Given as goal

-- A connective's parts are lower nodes.
abbrev pub decreases-collect : goal.decreases-collect
decreases-collect l = l.reference
