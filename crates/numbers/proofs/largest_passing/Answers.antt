-- The bisection ends with a number that passes, or 0, whose successor does not pass, or is past the end. Assumes nothing.
use native.Mathlib.Omega.{arith}
use Rattle.numbers.proofs.Largest.{bisected}
use Rattle.numbers.proofs.largest_passing.Goals as goal

pub returns : goal.returns
returns g c =
    let v = c.loop-high.invariant in
    bisected v.0 v.1 v.2 v.3 (omega arith)
