-- The kit's integers as differences of two natural numbers, and the lesser and the greater of two integers.
use Rattle.std.specs.Prelude.{cond, ℕ, suc, ℤ, pos, negsuc}
use Rattle.std.specs.Int.Signed.{lt_z}

-- The positive part: z = up z - dn z, and one of the two is 0.
abbrev pub up : ℤ → ℕ
up (pos n) = n
up (negsuc n) = 0

-- The negative part.
abbrev pub dn : ℤ → ℕ
dn (pos n) = 0
dn (negsuc n) = suc n

unfoldable pub lesser : ℤ → ℤ → ℤ
lesser a b = cond (lt_z a b) a b

unfoldable pub greater : ℤ → ℤ → ℤ
greater a b = cond (lt_z a b) b a
