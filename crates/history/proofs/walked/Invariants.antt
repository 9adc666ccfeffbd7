-- The loop's invariant is `AtRecord`: at each record of the chain the answer of the rest is the sheet's. The measure is the record's minutes.
use Rattle.history_rules.proofs.AtRecord.{AtRecord}
use Rattle.history.proofs.walked.Given as goal

abbrev pub invariant-loop-last : goal.invariant-loop-last
invariant-loop-last g l = AtRecord l.ground l.at

abbrev pub decreases-loop-last : goal.decreases-loop-last
decreases-loop-last g l = l.at.last.minutes
