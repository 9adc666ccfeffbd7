-- The loop is the sum at each order, and the pair is 1 over it. Assumes nothing.
use Prim.Native.Nat.{◌-◌}
use Rattle.series.proofs.Turns.{ExpTurn}
use Rattle.series.proofs.exp_fraction.Given as goal

abbrev pub invariant-loop-k : goal.invariant-loop-k
invariant-loop-k l = ExpTurn l.x l.term l.sum (l.k - 1)
