-- ln(y/x) in fixed point. Document 01, 'The attained share': β's divisor. The lower end is doubled as often as it goes into the upper, and the rest
-- is one slice. A doubling is the slice from 1 to 2.
use Rattle.std.specs.Prelude.{true, false, ℕ, zero, suc, ◌*◌, leb}
use Rattle.bounds.specs.Pair.{Pair, add_p, times_p, scaled_p}
use Rattle.model.specs.Scale.{one, most_doublings, from_floor}
use Rattle.model.specs.Series.{theta_of, series_pair}

unfoldable pub power_of_two : ℕ → ℕ
power_of_two zero = 1
power_of_two (suc n) = 2 * power_of_two n

-- ln(y/x) for y at most 2x
unfoldable pub logarithm_slice : ℕ → ℕ → Pair
logarithm_slice x y = scaled_p (from_floor (theta_of x y)) (series_pair (theta_of x y) 0) one

-- how often x may be doubled without passing y, `fuel` times at most
unfoldable pub doublings : ℕ → ℕ → ℕ → ℕ
doublings zero x y = 0
doublings (suc fuel) x y = elim (leb (2 * x) y) [ true ↦ suc (doublings fuel (2 * x) y) | false ↦ 0 ]

-- n doublings, and the rest
unfoldable pub logarithm_after : ℕ → ℕ → ℕ → Pair
logarithm_after n x y = add_p (times_p (logarithm_slice 1 2) n) (logarithm_slice (x * power_of_two n) y)

unfoldable pub logarithm : ℕ → ℕ → Pair
logarithm x y = logarithm_after (doublings most_doublings x y) x y
