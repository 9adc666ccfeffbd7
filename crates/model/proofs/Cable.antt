-- How wide the logarithm and the integral of every cable in range are, by whole numbers alone.
use mathlib.Core.Path.{ap}
use Prim.Native.Nat.{ℕ, zero, suc, ◌+◌, ◌*◌, ◌≤◌, ◌<◌}
use native.Mathlib.Nat.{mul-le-mul, lt_of_mul-lt-mul_right}
use native.Mathlib.Omega.{arith}
use Rattle.bounds.specs.Pair.{times_p}
use Rattle.model.specs.Scale.{one, most_doublings}
use Rattle.model.specs.Logarithm.{power_of_two, doublings, logarithm}
use Rattle.model.specs.Integral.{Stretch, slice_start}
use Rattle.model.specs.Share.{cable_logarithm, cable_integral, Ranges}
use Rattle.model.specs.Width.{Under}
use Rattle.model.proofs.Logarithm.{power_of_sum, Octave, doublings_in_octave, doublings_at_most_fuel, LogarithmOf, logarithm_by_doublings}
use Rattle.model.proofs.FarSlice.{slice_start_inside}
use Rattle.model.proofs.Thetas.{thetas_at_most_octaves}
use Rattle.model.proofs.Integral.{Widths, integral_widths, integral_under_top}

above_four_is_third_power : (n : ℕ) → 4 < power_of_two n → 3 ≤ n
unfolding power_of_two
above_four_is_third_power zero h = absurd (omega arith)
above_four_is_third_power (suc zero) h = absurd (omega arith)
above_four_is_third_power (suc (suc zero)) h = absurd (omega arith)
above_four_is_third_power (suc (suc (suc n))) h = omega arith

-- ---- The numbers of the widths, one step at a time. Of the cable's logarithm, n is the doublings of its half, low and high its ends; of its
-- integral, `least` and `most` are the ends, and x the sum of θ.
thetas_by_logarithm : (n x high : ℕ) → 3 ≤ n → x ≤ one * (n + n + 2) → 1488522518 * n ≤ high → 100 * x ≤ 193 * high
thetas_by_logarithm n x high a b c = omega arith

integral_by_logarithm : (most least x high : ℕ) → one * most ≤ one * least + 2016 * least + (122 * high + 156 * x + 13 * one) → least ≤ high → 100 * x ≤ 193 * high →
    4 * one ≤ high → 1000000000 * most ≤ 1000000000 * least + 2448 * high
integral_by_logarithm most least x high a z b c =
    let e : 100 * one * most ≤ 100 * one * least + 262804 * high = omega arith in
    omega arith

logarithm_by_itself : (n low high : ℕ) → 3 ≤ n → high ≤ low + 382 * n + 390 → 1488522136 * n ≤ low → 1000000000 * high ≤ 1000000000 * low + 345 * low
logarithm_by_itself n low high a b c = omega arith

module _ {d l s k w t : ℕ} (c : Ranges d l s k w t) where
  abbrev times : ℕ
  times = doublings most_doublings d (40 * l)

  -- ---- the logarithm
  cable_octave : Octave d (40 * l) times
  unfolding power_of_two
  cable_octave = doublings_in_octave most_doublings d (40 * l) (omega arith) (omega arith)

  three_doublings : 3 ≤ times
  three_doublings =
      let o = cable_octave in
      above_four_is_third_power times (lt_of_mul-lt-mul_right d (omega arith))

  half_logarithm : LogarithmOf times (logarithm d (40 * l))
  unfolding power_of_two
  half_logarithm = logarithm_by_doublings d (40 * l) (omega arith) (omega arith)

  pub cable_logarithm_ordered : (cable_logarithm d l).low ≤ (cable_logarithm d l).high
  unfolding cable_logarithm times_p
  cable_logarithm_ordered = let b = half_logarithm in omega (arith, b.order)

  pub cable_logarithm_above_zero : 0 < (cable_logarithm d l).low
  unfolding cable_logarithm times_p
  cable_logarithm_above_zero = let b = half_logarithm in let n = three_doublings in omega (arith, n, b.low_least)

  pub cable_logarithm_most : (cable_logarithm d l).high ≤ 54 * one
  unfolding cable_logarithm times_p
  cable_logarithm_most = let b = half_logarithm in let f = doublings_at_most_fuel most_doublings d (40 * l) in omega (arith, b.high_most, f)

  pub cable_logarithm_width : 1000000000 * (cable_logarithm d l).high ≤ 1000000000 * (cable_logarithm d l).low + 345 * (cable_logarithm d l).low
  unfolding cable_logarithm times_p
  cable_logarithm_width =
      let b = half_logarithm in
      logarithm_by_itself times ((logarithm d (40 * l)).low * 2) ((logarithm d (40 * l)).high * 2) three_doublings (omega (arith, b.width)) (omega (arith, b.low_least))

  -- ---- the integral
  diameter_above_zero : 1 ≤ d
  diameter_above_zero = omega arith

  pub cable_stretch : Stretch (5 * d * d) (8 * t * s)
  cable_stretch = record {
    near_some = let m = mul-le-mul diameter_above_zero diameter_above_zero in omega arith;
    diffusion_some = let m = mul-le-mul c.t_least c.s_least in omega arith;
    diffusion_small = let m = mul-le-mul c.t_most c.s_most in omega arith;
  }

  pub near_below_far : 5 * d * d ≤ 8000 * l * l
  near_below_far = let h : d ≤ 40 * l = omega arith in let m = mul-le-mul h h in omega arith

  abbrev start : ℕ
  start = slice_start (5 * d * d) (8000 * l * l) (8 * t * s)

  cable_widths : Widths (5 * d * d) start (cable_logarithm d l).high (cable_integral d l s t)
  unfolding cable_integral
  cable_widths = integral_widths (5 * d * d) (8000 * l * l) (8 * t * s) (cable_logarithm d l).high cable_stretch near_below_far

  abbrev theta_sum : ℕ
  theta_sum = cable_widths.thetas

  theta_sum_by_doublings : theta_sum ≤ one * (times + times + 2)
  unfolding power_of_two
  theta_sum_by_doublings =
      let o = cable_octave in
      let g = slice_start_inside (5 * d * d) (8000 * l * l) (8 * t * s) near_below_far in
      let e = power_of_sum times times in
      let h : 40 * l ≤ 2 * (d * power_of_two times) = omega arith in
      let m = mul-le-mul h h in
      let f : 8000 * l * l ≤ 4 * (5 * d * d * (power_of_two times * power_of_two times)) = omega arith in
      let r = thetas_at_most_octaves theta_sum (5 * d * d) start (suc (times + times)) cable_stretch.near_some (omega (arith, ap (λ x. 5 * d * d * x) e))
      (cable_widths.lines (suc (times + times))) in
      omega arith

  pub cable_integral_ordered : (cable_integral d l s t).low ≤ (cable_integral d l s t).high
  cable_integral_ordered = cable_widths.spread.order

  pub cable_integral_under_logarithm : Under (cable_logarithm d l).high (cable_integral d l s t)
  unfolding cable_integral
  cable_integral_under_logarithm = integral_under_top (5 * d * d) (8000 * l * l) (8 * t * s) (cable_logarithm d l).high

  pub cable_integral_width : 1000000000 * (cable_integral d l s t).high ≤ 1000000000 * (cable_integral d l s t).low + 2448 * (cable_logarithm d l).high
  unfolding cable_logarithm times_p
  cable_integral_width =
      let n = three_doublings in
      let b = half_logarithm in
      let high = (logarithm d (40 * l)).high * 2 in
      let y = thetas_by_logarithm times theta_sum high n theta_sum_by_doublings (omega (arith, b.high_least)) in
      integral_by_logarithm _ _ theta_sum high cable_widths.spread.width cable_integral_under_logarithm.low y (omega (arith, n, b.high_least))
