-- Each turn adds what lies of one unit slice, as the model's sum does. Assumes nothing.
use Rattle.integral.proofs.Turns.{UnitTurn}
use Rattle.integral.proofs.Reach.unit_slices.Given as goal

abbrev pub invariant-loop-knot : goal.invariant-loop-knot
invariant-loop-knot l = UnitTurn l.self.near l.self.far l.self.diffusion l.self.top l.initial.sum l.sum l.y l.knot
