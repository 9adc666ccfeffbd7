-- The loop is the sum at each order, and the pair is 1 over it. Assumes nothing.
use native.Mathlib.Omega.{arith}
use Rattle.series.proofs.Turns.{exp_begin, exp_again, exp_done}
use Rattle.series.proofs.exp_fraction.Goals as goal

pub loop-k-init : goal.loop-k-init
loop-k-init c = exp_begin _ c.requires

pub loop-k-preserved : goal.loop-k-preserved
loop-k-preserved c = exp_again _ c.requires (omega arith) (omega arith) c.loop-k.invariant

pub returns : goal.returns
returns c =
    exp_done (omega arith) c.loop-k.invariant c.whole.ensures.is c.from_naturals-whole_sum.ensures c.quotient.ensures.is
    c.at_most.ensures.is
