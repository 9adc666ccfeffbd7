-- The series of a slice, for θ at most 1/2 and τ at most 1: from 1 to 3, and at most 2,016 units wide; at most 378 where τ is 0.
use mathlib.Core.Path.{◌≡◌, ap}
use Prim.Native.Nat.{ℕ, zero, suc, ◌+◌, ◌*◌, ◌/◌, ◌-◌, ◌≤◌, ◌<◌}
use native.Mathlib.Nat.{mul-le-mul_right, div-mul-le_self, mul-div-mul_left}
use native.Mathlib.Omega.{arith}
use Rattle.model.specs.Scale.{one, half}
use Rattle.model.specs.Exponential.{exp_term}
use Rattle.model.specs.Series.{theta_of, series_term, series_sum, series_pair}
use Rattle.model.specs.Logarithm.{power_of_two}
use Rattle.model.specs.Width.{Under, Within}
use Rattle.model.proofs.Rounding.{times_fraction_less, times_half_halves, half_of, third_of, fraction_at_most_half}

-- the largest upper end of the series
abbrev pub series_most : ℕ
series_most = 3221227488

-- ---- sizes on the way: τ^k/k!, g_k and the sum, at order 1 or more
pub record SeriesRoom (exp term sum : ℕ) : Type 0 where
  pub exp_most : exp ≤ one
  pub term_most : term ≤ 2 * one
  pub sum_most : 3 * sum + term + 2 * exp ≤ 9 * one

room_step : (theta tau exp term sum k : ℕ) → theta ≤ half → tau ≤ one → SeriesRoom exp term sum →
    SeriesRoom (exp * tau / one / suc (suc k)) (theta * term / one + exp * tau / one / suc (suc k))
    (sum + (theta * term / one + exp * tau / one / suc (suc k)) / suc (suc (suc k)))
room_step theta tau exp term sum k h j r =
    let a = times_fraction_less exp tau j in
    let b = half_of (exp * tau / one) k in
    let d = times_half_halves theta term h in
    let f = third_of (theta * term / one + exp * tau / one / suc (suc k)) k in
    omega arith

pub series_room : (theta tau k : ℕ) → theta ≤ half → tau ≤ one → SeriesRoom (exp_term tau (suc k)) (series_term theta tau (suc k)) (series_sum theta tau (suc k))
unfolding exp_term series_term series_sum
series_room theta tau zero h j = omega arith
series_room theta tau (suc k) h j = room_step theta tau (exp_term tau (suc k)) (series_term theta tau (suc k)) (series_sum theta tau (suc k)) k h j (series_room theta tau k h j)

-- ---- widths: g_k + 2 τ^k/k! halves at each step
halves_step : (theta tau exp term j n : ℕ) → theta ≤ half → tau ≤ one → (term + 2 * exp) * n ≤ 2415919104 →
    (theta * term / one + exp * tau / one / suc (suc (suc j)) + 2 * (exp * tau / one / suc (suc (suc j)))) * (2 * n) ≤ 2415919104
halves_step theta tau exp term j n h k r =
    let a = times_fraction_less exp tau k in
    let b = third_of (exp * tau / one) j in
    let d = times_half_halves theta term h in
    let f : 2 * (theta * term / one + exp * tau / one / suc (suc (suc j)) + 2 * (exp * tau / one / suc (suc (suc j)))) ≤ term + 2 * exp = omega arith in
    omega (arith, mul-le-mul_right n f)

term_halves : (theta tau : ℕ) → theta ≤ half → tau ≤ one → (j : ℕ) → (series_term theta tau (suc (suc j)) + 2 * exp_term tau (suc (suc j))) * power_of_two j ≤ 2415919104
unfolding exp_term series_term power_of_two
term_halves theta tau h k zero =
    let a = times_fraction_less tau tau k in
    let b = times_half_halves theta (theta + tau) h in
    let e1 : exp_term tau 1 ≡ tau = omega arith in
    let g1 : series_term theta tau 1 ≡ theta + tau = omega arith in
    rw (g1, e1) (omega arith)
term_halves theta tau h k (suc j) = halves_step theta tau (exp_term tau (suc (suc j))) (series_term theta tau (suc (suc j))) j (power_of_two j) h k (term_halves theta tau h k j)

pub series_within_2016 : (theta tau : ℕ) → theta ≤ half → tau ≤ one → Within 2016 (series_pair theta tau)
unfolding series_pair power_of_two
series_within_2016 theta tau h k = let f = term_halves theta tau h k 17 in record { order = omega arith; width = omega arith }

pub series_most_lem : (theta tau : ℕ) → theta ≤ half → tau ≤ one → Under series_most (series_pair theta tau)
unfolding series_pair
series_most_lem theta tau h k = let r = series_room theta tau 18 h k in let w = series_within_2016 theta tau h k in record { low = omega arith; high = omega arith }

sum_at_least_one : (theta tau k : ℕ) → one ≤ series_sum theta tau k
unfolding series_sum
sum_at_least_one theta tau zero = omega arith
sum_at_least_one theta tau (suc k) = let h = sum_at_least_one theta tau k in omega arith

pub series_at_least_one : (theta tau : ℕ) → one ≤ (series_pair theta tau).low
unfolding series_pair
series_at_least_one theta tau = sum_at_least_one theta tau 19

-- ---- without τ
no_term_without_tau : (k : ℕ) → exp_term 0 (suc k) ≡ 0
unfolding exp_term
no_term_without_tau k = omega (arith, div-mul-le_self (exp_term 0 k * 0 / one) (suc k))

times_none : (e p : ℕ) → e ≡ 0 → e * p ≡ 0
times_none e p h = rw h (omega arith)

term_halves_without_tau : (theta k : ℕ) → theta ≤ half → series_term theta 0 k * power_of_two k ≤ one
unfolding series_term power_of_two
term_halves_without_tau theta zero h = omega arith
term_halves_without_tau theta (suc k) h =
    let z = no_term_without_tau k in
    let a = times_half_halves theta (series_term theta 0 k) h in
    let r = term_halves_without_tau theta k h in
    omega (arith, mul-le-mul_right (power_of_two k) a, times_none (exp_term 0 (suc k)) (power_of_two k) z)

pub series_without_tau_within_378 : (theta : ℕ) → theta ≤ half → Within 378 (series_pair theta 0)
unfolding series_pair power_of_two
series_without_tau_within_378 theta h = let f = term_halves_without_tau theta 19 h in record { order = omega arith; width = omega arith }

-- ---- θ
pub theta_at_most_half : (x y : ℕ) → 2 * (y - x) ≤ y → theta_of x y ≤ half
theta_at_most_half x y h = fraction_at_most_half (y - x) y h

-- both ends times c
pub same_theta : (c x y : ℕ) → 0 < c → x ≤ y → theta_of (c * x) (c * y) ≡ theta_of x y
same_theta c x y z h =
    let d : y - x + x ≡ y = omega arith in
    let e : (c * y - c * x) * one ≡ c * ((y - x) * one) = omega (arith, ap (λ t. c * t) d) in
    rw e (mul-div-mul_left ((y - x) * one) y z)
