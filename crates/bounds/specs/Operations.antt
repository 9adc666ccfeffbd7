-- What each method of `Bounds` hands back, for integers of either sign.
use Rattle.std.specs.Prelude.{ℕ, ℤ, pos, neg_ℤ, ◌+ℤ◌, ◌*ℤ◌}
use Rattle.numbers.specs.Integer.{lesser, greater}
use Rattle.numbers.specs.Rounding.{floor_z, ceil_z}
use Rattle.bounds.specs.Pair.{as_bounds, as_pair, scaled_p, quotient_p}
use Rattle.bounds.specs.declared.Bounds.{Bounds}

abbrev pub point_b : ℤ → Bounds
point_b z = record { low = z; high = z }

unfoldable pub add_b : Bounds → Bounds → Bounds
add_b a b = record { low = a.low +ℤ b.low; high = a.high +ℤ b.high }

unfoldable pub neg_b : Bounds → Bounds
neg_b a = record { low = neg_ℤ a.high; high = neg_ℤ a.low }

-- The least and the greatest of the four products of ends.
unfoldable pub mul_b : Bounds → Bounds → Bounds
mul_b a b =
    record {
      low = lesser (lesser (a.low *ℤ b.low) (a.low *ℤ b.high)) (lesser (a.high *ℤ b.low) (a.high *ℤ b.high));
      high = greater (greater (a.low *ℤ b.low) (a.low *ℤ b.high)) (greater (a.high *ℤ b.low) (a.high *ℤ b.high));
    }

-- x · y / s of pairs not below 0
unfoldable pub scaled_b : Bounds → Bounds → ℕ → Bounds
scaled_b a b s = as_bounds (scaled_p (as_pair a) (as_pair b) s)

-- x · s / y of pairs not below 0, for y above 0
unfoldable pub quotient_b : Bounds → Bounds → ℕ → Bounds
quotient_b a b s = as_bounds (quotient_p (as_pair a) (as_pair b) s)

unfoldable pub times_b : Bounds → ℕ → Bounds
times_b a n = record { low = a.low *ℤ pos n; high = a.high *ℤ pos n }

-- Document 01, 'The load sheet': low "is rounded down, toward minus infinity; high is the mirror, rounded up".
unfoldable pub divided_b : Bounds → ℕ → Bounds
divided_b a d = record { low = floor_z a.low d; high = ceil_z a.high d }

unfoldable pub at_most_b : Bounds → ℤ → Bounds
at_most_b a t = record { low = lesser a.low t; high = lesser a.high t }
