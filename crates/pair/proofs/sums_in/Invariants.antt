-- The loop's invariant is `AtNeighbour`: what is summed and what is left is the group's whole sum. The measure is how many records stand above the one reached.
-- Assumes nothing.
use Rattle.sheet_rules.specs.Neighbours.{above}
use Rattle.pair.proofs.AtNeighbour.{group_from, AtNeighbour}
use Rattle.pair.proofs.sums_in.Given as goal

abbrev pub invariant-loop-at : goal.invariant-loop-at
invariant-loop-at l = AtNeighbour l.ground.sheet.now (group_from l.ground.sheet.now l.used l.initial.at) l.seconds l.diffusion l.sums l.at

abbrev pub decreases-loop-at : goal.decreases-loop-at
decreases-loop-at l = above l.at
