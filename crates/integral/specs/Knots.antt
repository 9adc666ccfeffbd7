-- The knots in u between which the slices of the heating integral lie, numbered from 0: 16, 15, .., 2, 1, then 1/2, 1/4, and so on.
use Rattle.std.specs.Prelude.{true, false, ℕ, ◌+◌, ◌-◌, ltb}
use Rattle.bounds.specs.Pair.{Pair}
use Rattle.model.specs.Scale.{far_from, units, halves}
use Rattle.model.specs.Exponential.{exp_pair}
use Rattle.model.specs.Logarithm.{power_of_two}

-- those that are the far end of a slice
abbrev pub knots : ℕ
knots = units + halves

-- e^(-u) at a knot
unfoldable pub knot_exp : ℕ → Pair
knot_exp j = elim (ltb j units) [ true ↦ exp_pair (far_from - j) 1 | false ↦ exp_pair 1 (power_of_two (j - units)) ]
