-- Each branch is the model's; the remainder is below den, so that its part of den is at most 1. Assumes nothing.
use mathlib.Core.Path.{ap}
use native.Mathlib.Omega.{arith}
use Rattle.bounds.specs.Pair.{as_bounds}
use Rattle.model.proofs.Exponential.{fraction_exp_at_most_one, exp_far, exp_near}
use Rattle.series.proofs.UpTo.{pair_up_to}
use Rattle.series.proofs.exp_neg.Goals as goal

pub returns-then-whole-gt-FAR_FROM : goal.returns-then-whole-gt-FAR_FROM
returns-then-whole-gt-FAR_FROM c = ap as_bounds (exp_far _ _ (omega arith))

pub decayed-requires : goal.decayed-requires
decayed-requires c = rw c.exp_fraction.ensures (pair_up_to _ (fraction_exp_at_most_one _))

pub returns : goal.returns
returns c = rw (c.decayed.ensures, c.exp_fraction.ensures) (ap as_bounds (exp_near _ _ (omega arith)))
