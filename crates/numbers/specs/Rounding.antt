-- Division by a whole number above 0, rounded down and up. Document 01, 'The load sheet': "rounded down, toward minus infinity; high is the
-- mirror, rounded up". A natural number rounded down is the kit's `◌/◌`.
use Rattle.std.specs.Prelude.{ℕ, ◌+◌, ◌-◌, ◌/◌, ℤ, pos, negsuc, neg_ℤ}

-- The greatest whole number at most z / d: of -(a + 1) it is -(a / d + 1).
unfoldable pub floor_z : ℤ → ℕ → ℤ
floor_z (pos a) d = pos (a / d)
floor_z (negsuc a) d = negsuc (a / d)

-- The least whole number at least z / d.
unfoldable pub ceil_z : ℤ → ℕ → ℤ
ceil_z z d = neg_ℤ (floor_z (neg_ℤ z) d)

-- The least natural number at least n / d.
unfoldable pub ceil_n : ℕ → ℕ → ℕ
ceil_n n d = (n + (d - 1)) / d
