-- What `series`, `exp_fraction`, `decayed` and `exp_neg` ask of their arguments. Fractions are in units of 2^-30.
use Rattle.std.specs.Prelude.{ℕ, ◌≤◌, ◌<◌, min}
use Rattle.bounds.specs.Pair.{as_pair}
use Rattle.bounds.specs.Promises.{NotBelow}
use Rattle.bounds.specs.declared.Bounds.{Bounds}
use Rattle.model.specs.Scale.{one, half}
use Rattle.model.specs.Width.{Under}

-- θ and τ of a slice
pub record SliceFractions (theta tau : ℕ) : Type 0 where
  pub theta_most : theta ≤ half
  pub tau_most : tau ≤ one

-- at most 1
pub record PartOfOne (x : ℕ) : Type 0 where
  pub most : x ≤ one

-- a pair not below 0, whose ends do not pass `most`
pub record UpTo (most : ℕ) (b : Bounds) : Type 0 where
  pub not_below : NotBelow b
  pub under : Under most (as_pair b)

-- num / den, any exponent; one of them is below 2^33, so that a remainder times 2^30 stays below 2^64
pub record Exponent (num den : ℕ) : Type 0 where
  pub den_some : 0 < den
  pub small : min num den < 8589934592
