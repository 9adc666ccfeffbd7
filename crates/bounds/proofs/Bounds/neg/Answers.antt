-- Each negation fits since no end is -2^63. Assumes nothing.
use native.Mathlib.Omega.{arith}
use Rattle.numbers.proofs.Machine.{neg_seen}
use Rattle.bounds.specs.Operations.{neg_b}
use Rattle.bounds.proofs.Enclosure.{same_ends, negation}
use Rattle.bounds.proofs.Bounds.neg.Goals as goal

pub returns : goal.returns
unfolding neg_b
returns c =
    negation (same_ends (neg_seen c.args.self.high (omega arith)) (neg_seen c.args.self.low (omega arith)))
