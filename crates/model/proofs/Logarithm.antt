-- The logarithm: how many doublings it has, and how wide its pair is for that number.
use mathlib.Core.Path.{◌≡◌, refl}
use mathlib.Core.Bool.{Bool, true, false}
use Prim.Native.Nat.{ℕ, zero, suc, ◌+◌, ◌*◌, ◌≤◌, ◌<◌}
use lib.Dec.{leb}
use borrow.Author.Tests.{leb-true, leb-false}
use native.Mathlib.Nat.{zero-add, suc-add, mul-le-mul, mul-le-mul_left}
use native.Mathlib.Omega.{arith}
use Rattle.bounds.specs.Pair.{Pair, add_p, times_p, scaled_p}
use Rattle.model.specs.Scale.{one, half, most_doublings, from_floor}
use Rattle.model.specs.Exponential.{exp_term}
use Rattle.model.specs.Series.{theta_of, series_term, series_sum, series_pair}
use Rattle.model.specs.Logarithm.{power_of_two, logarithm_slice, doublings, logarithm_after, logarithm}
use Rattle.model.specs.Width.{Under, Within}
use Rattle.model.proofs.Series.{series_most, series_most_lem, series_without_tau_within_378, theta_at_most_half}

-- ---- powers of two
pub power_of_sum : (n m : ℕ) → power_of_two (n + m) ≡ power_of_two n * power_of_two m
unfolding power_of_two
power_of_sum zero m = rw zero-add (omega arith)
power_of_sum (suc n) m = rw suc-add (omega (arith, power_of_sum n m))

pub power_above_zero : (n : ℕ) → 0 < power_of_two n
unfolding power_of_two
power_above_zero zero = omega arith
power_above_zero (suc n) = let h = power_above_zero n in omega arith

-- ---- the number of doublings: as many as go into y
pub record Octave (x y n : ℕ) : Type 0 where
  pub from : x * power_of_two n ≤ y
  pub to : y < 2 * (x * power_of_two n)

pub doublings_in_octave : (fuel x y : ℕ) → x ≤ y → y < x * power_of_two fuel → Octave x y (doublings fuel x y)
unfolding doublings power_of_two
doublings_in_octave zero x y h k = absurd (omega arith)
doublings_in_octave (suc fuel) x y h k = go (leb (2 * x) y) refl (λ l m. doublings_in_octave fuel (2 * x) y l m)
  where
    go : (b : Bool) → leb (2 * x) y ≡ b → (2 * x ≤ y → y < 2 * x * power_of_two fuel → Octave (2 * x) y (doublings fuel (2 * x) y)) →
        Octave x y (elim b [ true ↦ suc (doublings fuel (2 * x) y) | false ↦ 0 ])
    go true e r =
        let w = leb-true (2 * x) y e in
        let o = r w (omega arith) in
        record { from = omega arith; to = omega arith }
    go false e r = let w = leb-false (2 * x) y e in record { from = omega arith; to = omega arith }

pub doublings_at_most_fuel : (fuel x y : ℕ) → doublings fuel x y ≤ fuel
unfolding doublings
doublings_at_most_fuel zero x y = omega arith
doublings_at_most_fuel (suc fuel) x y = go (leb (2 * x) y) (doublings_at_most_fuel fuel (2 * x) y)
  where
    go : (b : Bool) → doublings fuel (2 * x) y ≤ fuel → ◌≤◌ (elim b [ true ↦ suc (doublings fuel (2 * x) y) | false ↦ 0 ]) (suc fuel)
    go true h = omega arith
    go false h = omega arith

-- ---- one slice
product_within_195 : (theta : ℕ) (q : Pair) → theta ≤ half → Within 378 q → q.high ≤ series_most → Within 195 (scaled_p (from_floor theta) q one)
unfolding scaled_p
product_within_195 theta q h w k =
    let l = mul-le-mul_left theta w.order in
    let p = mul-le-mul_left theta w.width in
    record { order = omega arith; width = omega arith }

product_most : (theta : ℕ) (q : Pair) → theta ≤ half → Under series_most q → Under (2 * one) (scaled_p (from_floor theta) q one)
unfolding scaled_p
product_most theta q h k =
    let a : theta + 1 ≤ 536870913 = omega arith in
    record { low = omega (arith, mul-le-mul h k.low); high = omega (arith, mul-le-mul a k.high) }

pub slice_within_195 : (x y : ℕ) → y ≤ 2 * x → Within 195 (logarithm_slice x y)
unfolding logarithm_slice
slice_within_195 x y h =
    let t = theta_at_most_half x y (omega arith) in
    product_within_195 (theta_of x y) (series_pair (theta_of x y) 0) t (series_without_tau_within_378 (theta_of x y) t) (series_most_lem (theta_of x y) 0 t (omega arith)).high

pub slice_most : (x y : ℕ) → y ≤ 2 * x → Under (2 * one) (logarithm_slice x y)
unfolding logarithm_slice
slice_most x y h =
    let t = theta_at_most_half x y (omega arith) in
    product_most (theta_of x y) (series_pair (theta_of x y) 0) t (series_most_lem (theta_of x y) 0 t (omega arith))

pub logarithm_of_two : ◌≡◌ {A = Pair} (logarithm_slice 1 2) (record { low = 744261068; high = 744261259 })
unfolding logarithm_slice scaled_p exp_term series_term series_sum series_pair
logarithm_of_two = refl

-- ---- the whole, with n doublings
pub record LogarithmOf (n : ℕ) (b : Pair) : Type 0 where
  pub order : b.low ≤ b.high
  pub width : b.high ≤ b.low + 191 * n + 195
  pub low_least : 744261068 * n ≤ b.low
  pub high_least : 744261259 * n ≤ b.high
  pub high_most : b.high ≤ 744261259 * n + 2 * one

pub logarithm_after_lem : (n x y : ℕ) → y ≤ 2 * (x * power_of_two n) → LogarithmOf n (logarithm_after n x y)
unfolding logarithm_after add_p times_p
logarithm_after_lem n x y h =
    let w = slice_within_195 (x * power_of_two n) y h in
    let t = slice_most (x * power_of_two n) y h in
    rw logarithm_of_two (omega arith)

pub logarithm_by_doublings : (x y : ℕ) → x ≤ y → y < x * power_of_two most_doublings → LogarithmOf (doublings most_doublings x y) (logarithm x y)
unfolding logarithm
logarithm_by_doublings x y h k = let o = doublings_in_octave most_doublings x y h k in logarithm_after_lem (doublings most_doublings x y) x y (omega arith)
