-- The loop's invariant: the walk from the record that is reached comes to what the whole walk does. The measure is the turns left. Assumes nothing.
use mathlib.Core.Path.{◌≡◌}
use Rattle.sheet_rules.specs.Promises.{turns_left}
use Rattle.sheet_rules.proofs.EitherChain.{outcome_at}
use Rattle.sheet.proofs.check_chain.Given as goal

abbrev pub invariant-loop-at : goal.invariant-loop-at
invariant-loop-at l = outcome_at l.links l.cable l.sheet l.at ≡ outcome_at l.links l.cable l.sheet l.initial.at

abbrev pub decreases-loop-at : goal.decreases-loop-at
decreases-loop-at l = turns_left l.links l.at
