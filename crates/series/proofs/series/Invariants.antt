-- The loop is the series at each order; its pair is the sum and what may have been lost. Assumes nothing.
use Prim.Native.Nat.{◌-◌}
use Rattle.series.proofs.Turns.{SeriesTurn}
use Rattle.series.proofs.series.Given as goal

abbrev pub invariant-loop-k : goal.invariant-loop-k
invariant-loop-k l = SeriesTurn l.theta l.tau l.power l.term l.sum (l.k - 1)
