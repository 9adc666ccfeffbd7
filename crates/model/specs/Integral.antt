-- The heating integral in fixed point: of e^(-u)/u for u from near/diffusion to far/diffusion, summed slice by slice from its far end.
-- Document 01, 'The attained share': J. Near, far and diffusion are any two squared distances and 8·t·s in one unit; `top` is at least ln(far/near).
-- The slices lie between knots of u, the same for every cable: 16, 15, .., 2, 1, then 1/2, 1/4, and so on. Only a slice that an end cuts is worked out.
use Rattle.std.specs.Prelude.{true, false, ◌&&◌, ℕ, zero, suc, ◌*◌, ◌-◌, ◌≤◌, ◌<◌, min, max, ltb, leb}
use Rattle.numbers.specs.Fraction.{Frac, ◌per◌}
use Rattle.bounds.specs.Pair.{Pair, add_p, scaled_p, at_most_p}
use Rattle.model.specs.Scale.{one, far_from, diffusion_end, units, halves, exactly, from_floor}
use Rattle.model.specs.Exponential.{exp_pair}
use Rattle.model.specs.Series.{theta_of, tau_of, series_pair}
use Rattle.model.specs.Logarithm.{power_of_two}

-- what is asked of the near end and of the diffusion
pub record Stretch (near diffusion : ℕ) : Type 0 where
  pub near_some : 0 < near
  pub diffusion_some : 0 < diffusion
  pub diffusion_small : diffusion < diffusion_end

-- from x to y is one slice: at most half of y and at most the diffusion wide; a remainder and a width times 2^30 stay below 2^63
pub record Slice (x y diffusion : ℕ) : Type 0 where
  pub some : 0 < x
  pub order : x < y
  pub half : 2 * (y - x) ≤ y
  pub short : y - x ≤ diffusion
  pub small : min y diffusion < 2 * diffusion_end

-- the integral over one slice
unfoldable pub slice_pair : ℕ → ℕ → ℕ → Pair
slice_pair x y diffusion = scaled_p (scaled_p (exp_pair y diffusion) (series_pair (theta_of x y) (tau_of x y diffusion)) one) (from_floor (theta_of x y)) one

-- the whole slice from n to n + 1
unfoldable pub unit_slice : ℕ → Pair
unit_slice n = slice_pair n (suc n) 1

-- the whole slice from 1/2^(k + 1) to 1/2^k
unfoldable pub half_slice : ℕ → Pair
half_slice k = slice_pair 1 2 (power_of_two (suc k))

-- from x to y, or nothing
unfoldable pub any_slice : ℕ → ℕ → ℕ → Pair
any_slice x y diffusion = elim (ltb x y) [ true ↦ slice_pair x y diffusion | false ↦ exactly 0 ]

-- what lies from near to far of the slice from x to y, whose pair is `all`
unfoldable pub part_slice : ℕ → ℕ → ℕ → ℕ → ℕ → Pair → Pair
part_slice near far x y diffusion all = elim (leb near x && leb y far) [ true ↦ all | false ↦ any_slice (max near x) (min far y) diffusion ]

-- what lies from near to far of the whole slice from n to n + 1
unfoldable pub unit_part : ℕ → ℕ → ℕ → ℕ → Pair
unit_part near far diffusion n = part_slice near far (n * diffusion) (suc n * diffusion) diffusion (unit_slice n)

-- what lies from near to far of that from 1/2^(k + 1) to 1/2^k, with all distances and the diffusion times 2^(k + 1)
unfoldable pub half_part : ℕ → ℕ → ℕ → ℕ → Pair
half_part near far diffusion k =
    part_slice (near * power_of_two (suc k)) (far * power_of_two (suc k)) diffusion (2 * diffusion) (diffusion * power_of_two (suc k)) (half_slice k)

-- v, or the end that it lies beyond
abbrev pub within : ℕ → ℕ → ℕ → ℕ
within near far v = max near (min far v)

-- where the slices from the far end reach after i unit slices, and after k half slices
abbrev pub unit_place : ℕ → ℕ → ℕ → ℕ → Frac
unit_place near far diffusion i = within near far ((far_from - i) * diffusion) per diffusion

abbrev pub half_place : ℕ → ℕ → ℕ → ℕ → Frac
half_place near far diffusion k = within (near * power_of_two k) (far * power_of_two k) diffusion per (diffusion * power_of_two k)

-- with one slice more; no sum passes the logarithm
abbrev pub joined : ℕ → Pair → Pair → Pair
joined top sum slice = at_most_p (add_p sum slice) top

-- where the slices begin: what lies beyond `far_from` is one far slice
unfoldable pub slice_start : ℕ → ℕ → ℕ → ℕ
slice_start near far diffusion = elim (ltb (far_from * diffusion) far) [ true ↦ max near (far_from * diffusion) | false ↦ far ]

-- the far slice: from 0 to e^(-u) at its near end times the logarithm
unfoldable pub far_pair : ℕ → ℕ → ℕ → ℕ → Pair
far_pair near far diffusion top = elim (ltb (far_from * diffusion) far) [
  | true ↦ at_most_p (scaled_p (record { low = 0; high = top }) (exp_pair (max near (far_from * diffusion)) diffusion) one) top
  | false ↦ record { low = 0; high = 0 }
]

-- `first` with i unit slices, from 16 down to 16 - i
unfoldable pub unit_sum : ℕ → ℕ → ℕ → ℕ → Pair → ℕ → Pair
unit_sum near far diffusion top first zero = first
unit_sum near far diffusion top first (suc i) = joined top (unit_sum near far diffusion top first i) (unit_part near far diffusion (units - i))

-- `first` with k half slices, from 1 down to 1/2^k
unfoldable pub half_sum : ℕ → ℕ → ℕ → ℕ → Pair → ℕ → Pair
half_sum near far diffusion top first zero = first
half_sum near far diffusion top first (suc k) = joined top (half_sum near far diffusion top first k) (half_part near far diffusion k)

-- the far slice, the unit slices, and as many half slices as any near end can need
unfoldable pub heating_integral : ℕ → ℕ → ℕ → ℕ → Pair
heating_integral near far diffusion top = half_sum near start diffusion top (unit_sum near start diffusion top (far_pair near far diffusion top) units) halves
  where
    start : ℕ
    start = slice_start near far diffusion
