-- One slice of the heating integral. With S = 2^30, S times its pair's width is at most 2,016 low + 156 θ + 6 S.
use Prim.Native.Nat.{ℕ, ◌+◌, ◌*◌, ◌/◌, ◌-◌, ◌≤◌, ◌<◌}
use native.Mathlib.Nat.{mul-le-mul, mul-le-mul_left, mul-le-mul_right, lt_of_mul-lt-mul_right}
use native.Mathlib.Omega.{arith}
use Rattle.bounds.specs.Pair.{Pair, scaled_p}
use Rattle.model.specs.Scale.{one, half, from_floor}
use Rattle.model.specs.Exponential.{exp_pair}
use Rattle.model.specs.Series.{theta_of, tau_of, series_pair}
use Rattle.model.specs.Integral.{Slice, slice_pair}
use Rattle.model.specs.Width.{Under, Within}
use Rattle.model.proofs.Rounding.{fraction_at_most_one}
use Rattle.model.proofs.Exponential.{exp_at_most_one, exp_within_51}
use Rattle.model.proofs.Series.{series_most, series_most_lem, series_at_least_one, series_within_2016, theta_at_most_half}

-- the ends stand in order, and 2^30 times their distance is at most 2,016 low + `rest`
pub record Spread (rest : ℕ) (b : Pair) : Type 0 where
  pub order : b.low ≤ b.high
  pub width : one * b.high ≤ one * b.low + 2016 * b.low + rest

-- the largest upper end of the exponential times the series
abbrev pub height_most : ℕ
height_most = 3221227489

height_spread : (a b : Pair) → a.high ≤ one → Within 51 a → Within 2016 b → one ≤ b.low → b.high ≤ series_most → Spread (156 * one) (scaled_p a b one)
unfolding scaled_p
height_spread a b h v w z k =
    let l = mul-le-mul v.order w.order in
    let p = mul-le-mul_right b.high v.width in
    let q = mul-le-mul_left a.low w.width in
    let m = mul-le-mul_left a.low z in
    let n : a.low ≤ a.low * b.low / one = omega arith in
    record { order = omega arith; width = omega arith }

area_spread : (c : Pair) (theta : ℕ) → Spread (156 * one) c → c.high ≤ height_most → Spread (156 * theta + 6 * one) (scaled_p c (from_floor theta) one)
unfolding scaled_p
area_spread c theta g k =
    let m = c.high - c.low in
    let l = mul-le-mul_right theta g.order in
    let e : c.high ≤ c.low + m = omega arith in
    let f : one * m ≤ 2016 * c.low + 156 * one = omega arith in
    let p = mul-le-mul_right (theta + 1) e in
    let q = mul-le-mul_right theta f in
    let low = c.low * theta / one in
    let r : m * theta < 2016 * low + 2016 + 156 * theta = lt_of_mul-lt-mul_right one (omega arith) in
    record { order = omega arith; width = omega arith }

height_most_lem : (a b : Pair) → Under one a → Under series_most b → Under height_most (scaled_p a b one)
unfolding scaled_p
height_most_lem a b h k = record { low = omega (arith, mul-le-mul h.low k.low); high = omega (arith, mul-le-mul h.high k.high) }

area_most : (c : Pair) (theta : ℕ) → theta ≤ half → Under height_most c → Under (2 * one) (scaled_p c (from_floor theta) one)
unfolding scaled_p
area_most c theta h k =
    let a : theta + 1 ≤ 536870913 = omega arith in
    record { low = omega (arith, mul-le-mul k.low h); high = omega (arith, mul-le-mul k.high a) }

module _ {x y diffusion : ℕ} (s : Slice x y diffusion) where
  pub theta_half : theta_of x y ≤ half
  theta_half = theta_at_most_half x y s.half

  pub tau_one : tau_of x y diffusion ≤ one
  tau_one = fraction_at_most_one (y - x) diffusion s.short

  abbrev exponential : Pair
  exponential = exp_pair y diffusion

  abbrev series : Pair
  series = series_pair (theta_of x y) (tau_of x y diffusion)

  pub slice_series_most : Under series_most series
  slice_series_most = series_most_lem (theta_of x y) (tau_of x y diffusion) theta_half tau_one

  pub slice_height_most : Under height_most (scaled_p exponential series one)
  slice_height_most = height_most_lem exponential series (exp_at_most_one y diffusion) slice_series_most

  pub slice_at_most_two : Under (2 * one) (slice_pair x y diffusion)
  unfolding slice_pair
  slice_at_most_two = area_most (scaled_p exponential series one) (theta_of x y) theta_half slice_height_most

  pub slice_spread : Spread (156 * theta_of x y + 6 * one) (slice_pair x y diffusion)
  unfolding slice_pair
  slice_spread =
      area_spread (scaled_p exponential series one) (theta_of x y)
      (height_spread exponential series (exp_at_most_one y diffusion).high (exp_within_51 y diffusion (omega arith)) (series_within_2016 _ _ theta_half tau_one)
      (series_at_least_one (theta_of x y) (tau_of x y diffusion)) slice_series_most.high)
      slice_height_most.high
