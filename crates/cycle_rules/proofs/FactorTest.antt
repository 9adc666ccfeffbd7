-- The test of a factor falls, for a heating sum of either sign, and the sum that it is asked of is small enough.
use mathlib.Core.Path.{◌≡◌, refl}
use mathlib.Core.Bool.{true, false}
use mathlib.Core.List.{List}
use mathlib.Core.Logic.{⊎_elim}
use Prim.Native.Nat.{ℕ, zero, suc, ◌*◌, ◌≤◌, ◌<◌}
use native.Mathlib.Nat.{mul-le-mul, mul-le-mul_left}
use native.Mathlib.Omega.{arith}
use borrow.Author.Tests.{leb-true, le-leb}
use lib.IntN.{ℤ, pos, negsuc, neg_ℤ, nat_abs, ◌*ℤ◌}
use lib.Signed.{◌≤ℤ◌, le_z}
use Rattle.numbers.specs.Largest.{Falling}
use Rattle.numbers.specs.Rounding.{floor_z, ceil_z}
use Rattle.numbers.proofs.Integers.{one_part, le_lin, lin_le, neg_up, neg_dn, size_lin, negℤ-*ℤ}
use Rattle.numbers.proofs.Rounding.{floor_mono, floor_exact, ceil_mono, ceil_exact}
use Rattle.bounds.specs.Operations.{divided_b}
use Rattle.bounds.specs.Promises.{Sized, TimesRoom}
use Rattle.bounds.specs.declared.Bounds.{Bounds}
use Rattle.bounds.proofs.Sizes.{sized_more, times_sized}
use Rattle.cycle_rules.specs.Heating.{heating_hours, common_divisor, heating_bounds}
use Rattle.cycle_rules.specs.Factor.{most_factor, most_heating, allowed}
use Rattle.cycle_rules.specs.Asked.{most_sum}
use Rattle.cycle_rules.proofs.Heating.{gathered_sized}

-- ---- the test

-- no product of a number below 0 is above a natural number
below_any : (x b : ℕ) → le_z (neg_ℤ (pos x)) (pos b) ≡ true
below_any zero b = le-leb 0 b (omega arith)
below_any (suc x) b = refl

pub allowed_falls : (sum : ℤ) → Falling (allowed sum)
unfolding allowed
allowed_falls (pos s) =
    record {
      smaller =
          λ i j h e.
          le-leb (s * (i * i)) most_heating
          (omega (arith, leb-true (s * (j * j)) most_heating e, mul-le-mul_left s (mul-le-mul h h)));
    }
allowed_falls (negsuc s) = record { smaller = λ i j h e. below_any (suc s * (i * i)) most_heating }

pub nothing_allowed : (sum : ℤ) → allowed sum 0 ≡ true
unfolding allowed
nothing_allowed (pos s) = le-leb (s * (0 * 0)) most_heating (omega arith)
nothing_allowed (negsuc s) = below_any (suc s * (0 * 0)) most_heating

-- a sum below 0 is within 10^12 times any square
pub never_below : (s m : ℕ) → allowed (negsuc s) m ≡ false → ⊥
unfolding allowed
never_below s m e = let f = below_any (suc s * (m * m)) most_heating in let z : ◌≡◌ {A = ℕ} 0 1 = cc in omega arith

pub test_room : {sum : Bounds} {m : ℕ} → Sized most_sum sum → m ≤ most_factor → TimesRoom sum (m * m)
test_room {m} s h =
    let squared : m * m ≤ 25000000 = omega (arith, mul-le-mul h h) in
    record { factor = omega arith; products = sized_more (omega arith) (times_sized (m * m) s) }

-- ---- a quotient is smaller by its divisor

not_below : (z : ℤ) {n : ℕ} → nat_abs z ≤ n → neg_ℤ (pos n) ≤ℤ z
not_below z {n} h = lin_le (neg_ℤ (pos n)) z (omega (arith, size_lin z, neg_up (pos n), neg_dn (pos n)))

not_above : (z : ℤ) {n : ℕ} → nat_abs z ≤ n → z ≤ℤ pos n
not_above z {n} h = lin_le z (pos n) (omega (arith, size_lin z))

between : (z : ℤ) {n : ℕ} → neg_ℤ (pos n) ≤ℤ z → z ≤ℤ pos n → nat_abs z ≤ n
between z {n} l h =
    ⊎_elim (λ e. omega (arith, size_lin z, le_lin l, le_lin h, neg_up (pos n), neg_dn (pos n)))
    (λ e. omega (arith, size_lin z, le_lin l, le_lin h, neg_up (pos n), neg_dn (pos n)))
    (one_part z)

quotient_sized : {k d : ℕ} {a : Bounds} → 0 < d → Sized (k * d) a → Sized k (divided_b a d)
unfolding divided_b
quotient_sized {k} {d} {a} h s =
    let from : (z : ℤ) → nat_abs z ≤ k * d → (neg_ℤ (pos k) *ℤ pos d) ≤ℤ z = λ z p. rw (negℤ-*ℤ (pos k) (pos d)) (not_below z p) in
    record {
      low =
          between (floor_z a.low d) (rw (floor_exact h (neg_ℤ (pos k))) at (floor_mono h (from a.low s.low)))
          (rw (floor_exact h (pos k)) at (floor_mono h (not_above a.low s.low)));
      high =
          between (ceil_z a.high d) (rw (ceil_exact h (neg_ℤ (pos k))) at (ceil_mono h (from a.high s.high)))
          (rw (ceil_exact h (pos k)) at (ceil_mono h (not_above a.high s.high)));
    }

pub sum_sized : (hours : List ℕ) (hour : ℕ) (pairs : ℕ → Bounds) → ((i : ℕ) → Sized 1000000 (pairs (suc i))) → 0 < common_divisor hours → Sized most_sum (heating_bounds pairs hours hour)
unfolding heating_bounds
sum_sized hours hour pairs each h = quotient_sized h (sized_more (omega arith) (gathered_sized hours hour pairs each heating_hours))
