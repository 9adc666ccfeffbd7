-- The loop counts the doublings; each is ln 2, and the rest is one slice. Assumes nothing.
use Prim.Native.Nat.{◌-◌}
use Rattle.integral.proofs.Doublings.{DoublingTurn}
use Rattle.integral.proofs.logarithm.Given as goal

abbrev pub invariant-loop-base : goal.invariant-loop-base
invariant-loop-base l = DoublingTurn l.x l.y l.base l.doublings

abbrev pub decreases-loop-base : goal.decreases-loop-base
decreases-loop-base l = l.y - l.base
