-- Each turn adds what lies of one half slice, as the model's sum does, with all distances doubled once more. Assumes nothing.
use Rattle.integral.proofs.Turns.{HalfTurn}
use Rattle.integral.proofs.Reach.half_slices.Given as goal

abbrev pub invariant-loop-k : goal.invariant-loop-k
invariant-loop-k l = HalfTurn l.self.near l.self.far l.self.diffusion l.self.top l.initial.sum l.sum l.start l.end l.divisor l.k
