-- Each turn multiplies by e^(-1), and what is left to do has the same result. Assumes nothing.
use native.Mathlib.Omega.{arith}
use Rattle.series.proofs.Turns.{decay_again, decay_done}
use Rattle.series.proofs.decayed.Goals as goal

pub loop-preserved : goal.loop-preserved
loop-preserved c = decay_again (omega arith) c.scaled_mul-pair.ensures.is c.loop.invariant

pub returns : goal.returns
returns c = decay_done (omega arith) c.loop.invariant
