-- What a rounded product or quotient is at most.
use Prim.Native.Nat.{ℕ, suc, ◌+◌, ◌*◌, ◌/◌, ◌≤◌, ◌<◌}
use native.Mathlib.Nat.{mul-le-mul_left, mul-le-mul_right, div-mul-le_self, div-le_of_le-mul, lt-div-mul-add, lt_of_mul-lt-mul_right}
use native.Mathlib.Omega.{arith}
use Rattle.model.specs.Scale.{one, half}

pub times_fraction_less : (x t : ℕ) → t ≤ one → x * t / one ≤ x
times_fraction_less x t h = omega (arith, mul-le-mul_left x h)

pub times_half_halves : (t x : ℕ) → t ≤ half → 2 * (t * x / one) ≤ x
times_half_halves t x h = omega (arith, mul-le-mul_right x h)

pub half_of : (x k : ℕ) → 2 * (x / suc (suc k)) ≤ x
half_of x k = omega (arith, div-mul-le_self x (suc (suc k)))

pub third_of : (x k : ℕ) → 3 * (x / suc (suc (suc k))) ≤ x
third_of x k = omega (arith, div-mul-le_self x (suc (suc (suc k))))

-- of v over y, in units of 2^-30
pub fraction_at_most_one : (v y : ℕ) → v ≤ y → v * one / y ≤ one
fraction_at_most_one v y h = div-le_of_le-mul y (omega (arith, mul-le-mul_right one h))

pub fraction_at_most_half : (v y : ℕ) → 2 * v ≤ y → v * one / y ≤ half
fraction_at_most_half v y h = div-le_of_le-mul y (omega (arith, mul-le-mul_right half h))

pub larger_divisor_less : (n a b : ℕ) → 0 < a → a ≤ b → n / b ≤ n / a
larger_divisor_less n a b h k =
    let p = div-mul-le_self n b in
    let q = lt-div-mul-add {a = n} {b = a} h in
    let r : n / b < n / a + 1 = lt_of_mul-lt-mul_right a (omega (arith, mul-le-mul_left (n / b) k)) in
    omega arith
