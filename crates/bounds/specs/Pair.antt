-- A pair of natural numbers, and what is computed with such pairs: the bounds that are not below 0. Document 01, 'Exact values without reals':
-- "A pair of bounds is added, multiplied and negated as one thing throughout." A low end is rounded down, a high end up.
use Rattle.std.specs.Prelude.{ℕ, ◌+◌, ◌-◌, ◌*◌, ◌/◌, min, pos}
use Rattle.numbers.specs.Integer.{up}
use Rattle.numbers.specs.Rounding.{ceil_n}
use Rattle.bounds.specs.declared.Bounds.{Bounds}

pub record Pair : Type 0 where
  pub low : ℕ
  pub high : ℕ

abbrev pub as_bounds : Pair → Bounds
as_bounds p = record { low = pos p.low; high = pos p.high }

-- The same numbers where neither end is below 0.
abbrev pub as_pair : Bounds → Pair
as_pair b = record { low = up b.low; high = up b.high }

unfoldable pub add_p : Pair → Pair → Pair
add_p p q = record { low = p.low + q.low; high = p.high + q.high }

-- c - x for x in a pair whose ends are at most c
unfoldable pub less_p : ℕ → Pair → Pair
less_p c p = record { low = c - p.high; high = c - p.low }

-- x · y / s: one more than the floor is above the high product
unfoldable pub scaled_p : Pair → Pair → ℕ → Pair
scaled_p p q s = record { low = p.low * q.low / s; high = p.high * q.high / s + 1 }

-- x · s / y, for y above 0
unfoldable pub quotient_p : Pair → Pair → ℕ → Pair
quotient_p p q s = record { low = p.low * s / q.high; high = p.high * s / q.low + 1 }

unfoldable pub times_p : Pair → ℕ → Pair
times_p p n = record { low = p.low * n; high = p.high * n }

unfoldable pub divided_p : Pair → ℕ → Pair
divided_p p d = record { low = p.low / d; high = ceil_n p.high d }

unfoldable pub at_most_p : Pair → ℕ → Pair
at_most_p p t = record { low = min p.low t; high = min p.high t }
