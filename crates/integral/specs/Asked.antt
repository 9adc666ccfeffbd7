-- What the logarithm and the heating integral ask of their arguments.
use Rattle.std.specs.Prelude.{◌≡◌, ℕ, ◌*◌, ◌≤◌, ◌<◌}
use Rattle.bounds.specs.Pair.{as_bounds}
use Rattle.bounds.specs.declared.Bounds.{Bounds}
use Rattle.model.specs.Exponential.{exp_pair}
use Rattle.model.specs.Integral.{Stretch, Slice}
use Rattle.series.specs.Asked.{Exponent}
use Rattle.integral.specs.Knots.{knots, knot_exp}

-- y lies from x to 2x; half of it times 2^30 stays below 2^64
pub record OneOctave (x y : ℕ) : Type 0 where
  pub some : 0 < x
  pub order : x ≤ y
  pub near : y ≤ 2 * x
  pub small : y < 17179869184

-- y is x or more, and below 2^33, so that x is doubled at most 33 times
pub record Ratio (x y : ℕ) : Type 0 where
  pub some : 0 < x
  pub order : x ≤ y
  pub small : y < 8589934592

-- from near to far; `top`, in units of 2^-30, is below 1,024
pub record Span (near far diffusion top : ℕ) : Type 0 where
  pub stretch : Stretch near diffusion
  pub order : near ≤ far
  pub top_small : top < 1099511627776

-- a slice, and e^(-u) at its far end
pub record SliceWithExp (x y diffusion : ℕ) (decay : Bounds) : Type 0 where
  pub slice : Slice x y diffusion
  pub decay_is : decay ≡ as_bounds (exp_pair y diffusion)

-- y lies at a knot
pub record AtKnot (y diffusion knot : ℕ) : Type 0 where
  pub numbered : knot < knots
  pub exponent : Exponent y diffusion
  pub exp_is : knot_exp knot ≡ exp_pair y diffusion

-- a slice whose far end is a knot
pub record BelowKnot (x y diffusion knot : ℕ) : Type 0 where
  pub slice : Slice x y diffusion
  pub at_knot : AtKnot y diffusion knot
