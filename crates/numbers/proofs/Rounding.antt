-- Both sides of division by a whole number above 0: a floor times d is at most, its successor's above; a ceiling's is at least, its
-- predecessor's below. Of a natural floor the kit says so (`div-mul-le_self`, `lt-div-mul-add`, `mul-div_cancel`).
use mathlib.Core.Path.{◌≡◌, refl, ap}
use mathlib.Core.Bool.{true, false}
use Prim.Native.Nat.{ℕ, suc, ◌+◌, ◌-◌, ◌*◌, ◌/◌, ◌≤◌, ◌<◌}
use native.Mathlib.Nat.{add-mul, div-le_self, div-mul-le_self, le_antisymm, le-div_iff_mul-le, le_of_mul-le-mul_right, le_refl, lt-div-mul-add, lt_of_mul-lt-mul_right, suc-mul}
use native.Mathlib.Omega.{arith}
use lib.IntN.{ℤ, pos, negsuc, neg_ℤ, nat_abs, suc_ℤ, pred_ℤ, ◌*ℤ◌, neg_ℤ-neg_ℤ, neg_ℤ-suc_ℤ}
use lib.Signed.{◌≤ℤ◌, ◌<ℤ◌, lt_z, mag, ≤ℤ_refl}
use borrow.Author.Tests.{ltb-true}
use Rattle.numbers.specs.Integer.{up}
use Rattle.numbers.specs.Rounding.{floor_z, ceil_z, ceil_n}
use Rattle.numbers.proofs.Integers.{le_lin, lin_le, lt_lin, lin_lt, suc_lin, mul_lin, negℤ-*ℤ, ≤ℤ_trans, ≤ℤ_antisym, <ℤ_sucℤ, negℤ_mono, negℤ_strict, *ℤ_cancel}

-- ---- natural numbers

module _ {d : ℕ} (h : 0 < d) where
  pub floor_n_mono : {m n : ℕ} → m ≤ n → m / d ≤ n / d
  floor_n_mono {m} {n} p = (le-div_iff_mul-le h).1 (omega (arith, div-mul-le_self m d))

  pub ceil_n_high : (n : ℕ) → n ≤ ceil_n n d * d
  unfolding ceil_n
  ceil_n_high n = omega (arith, lt-div-mul-add {a = n + (d - 1)} h)

  pub ceil_n_low : (n : ℕ) → ceil_n n d * d < n + d
  unfolding ceil_n
  ceil_n_low n = omega (arith, div-mul-le_self (n + (d - 1)) d)

  pub ceil_n_least : {n : ℕ} (k : ℕ) → n ≤ k * d → ceil_n n d ≤ k
  ceil_n_least {n} k p =
      let below : ceil_n n d < suc k = lt_of_mul-lt-mul_right d (omega (arith, suc-mul k d, ceil_n_low n)) in
      omega arith

  pub ceil_n_mono : {m n : ℕ} → m ≤ n → ceil_n m d ≤ ceil_n n d
  ceil_n_mono {m} {n} p = ceil_n_least (ceil_n n d) (omega (arith, ceil_n_high n))

  pub ceil_n_exact : (k : ℕ) → ceil_n (k * d) d ≡ k
  ceil_n_exact k = le_antisymm (ceil_n_least k (le_refl (k * d))) (le_of_mul-le-mul_right (ceil_n_high (k * d)) h)

-- ---- integers

module _ {d : ℕ} (h : 0 < d) where
  pub floor_low : (z : ℤ) → (floor_z z d *ℤ pos d) ≤ℤ z
  unfolding floor_z
  floor_low (pos a) = lin_le (pos (a / d) *ℤ pos d) (pos a) (omega (arith, div-mul-le_self a d))
  floor_low (negsuc a) =
      lin_le (negsuc (a / d) *ℤ pos d) (negsuc a)
      (omega (arith, mul_lin (negsuc (a / d)) (pos d), suc-mul (a / d) d, lt-div-mul-add {a = a} h))

  pub floor_high : (z : ℤ) → z <ℤ (suc_ℤ (floor_z z d) *ℤ pos d)
  unfolding floor_z
  floor_high (pos a) = lin_lt (pos a) (pos (suc (a / d) * d)) (omega (arith, suc-mul (a / d) d, lt-div-mul-add {a = a} h))
  floor_high (negsuc a) =
      lin_lt (negsuc a) (suc_ℤ (negsuc (a / d)) *ℤ pos d)
      (omega (
        arith,
        mul_lin (suc_ℤ (negsuc (a / d))) (pos d),
        simp (add-mul, suc-mul) at (ap (λ (n : ℕ). n * d) (suc_lin (negsuc (a / d)))),
        div-mul-le_self a d,
      ))

  pub floor_greatest : {z : ℤ} (k : ℤ) → (k *ℤ pos d) ≤ℤ z → k ≤ℤ floor_z z d
  floor_greatest {z} k p =
      <ℤ_sucℤ (*ℤ_cancel d (lin_lt (k *ℤ pos d) (suc_ℤ (floor_z z d) *ℤ pos d) (omega (arith, le_lin p, lt_lin (floor_high z)))))

  pub floor_mono : {a b : ℤ} → a ≤ℤ b → floor_z a d ≤ℤ floor_z b d
  floor_mono {a} {b} p = floor_greatest (floor_z a d) (≤ℤ_trans (floor_low a) p)

  pub floor_exact : (k : ℤ) → floor_z (k *ℤ pos d) d ≡ k
  floor_exact k =
      let f = floor_z (k *ℤ pos d) d in
      let below : (f *ℤ pos d) <ℤ (suc_ℤ k *ℤ pos d) =
      lin_lt (f *ℤ pos d) (suc_ℤ k *ℤ pos d)
      (omega (
        arith,
        le_lin (floor_low (k *ℤ pos d)),
        mul_lin k (pos d),
        mul_lin (suc_ℤ k) (pos d),
        simp (add-mul, suc-mul) at (ap (λ (n : ℕ). n * d) (suc_lin k)),
      ))
      in
      ≤ℤ_antisym (<ℤ_sucℤ (*ℤ_cancel d below)) (floor_greatest k (≤ℤ_refl (k *ℤ pos d)))

  pub ceil_high : (z : ℤ) → z ≤ℤ (ceil_z z d *ℤ pos d)
  unfolding ceil_z
  ceil_high z = rw (negℤ-*ℤ (floor_z (neg_ℤ z) d) (pos d)) (rw (neg_ℤ-neg_ℤ z) at (negℤ_mono (floor_low (neg_ℤ z))))

  pub ceil_low : (z : ℤ) → (pred_ℤ (ceil_z z d) *ℤ pos d) <ℤ z
  unfolding ceil_z
  ceil_low z =
      rw (← neg_ℤ-suc_ℤ (floor_z (neg_ℤ z) d), negℤ-*ℤ (suc_ℤ (floor_z (neg_ℤ z) d)) (pos d))
      (rw (neg_ℤ-neg_ℤ z) at (negℤ_strict (floor_high (neg_ℤ z))))

  pub ceil_least : {z : ℤ} (k : ℤ) → z ≤ℤ (k *ℤ pos d) → ceil_z z d ≤ℤ k
  unfolding ceil_z
  ceil_least {z} k p =
      rw (neg_ℤ-neg_ℤ k) at (negℤ_mono (floor_greatest {z = neg_ℤ z} (neg_ℤ k) (rw (negℤ-*ℤ k (pos d)) (negℤ_mono p))))

  pub ceil_mono : {a b : ℤ} → a ≤ℤ b → ceil_z a d ≤ℤ ceil_z b d
  ceil_mono {a} {b} p = ceil_least (ceil_z b d) (≤ℤ_trans p (ceil_high b))

  pub ceil_exact : (k : ℤ) → ceil_z (k *ℤ pos d) d ≡ k
  unfolding ceil_z
  ceil_exact k = rw (← negℤ-*ℤ k (pos d), floor_exact (neg_ℤ k)) (neg_ℤ-neg_ℤ k)

-- by the sign, with the size that a machine division sees
pub floor_neg : (z : ℤ) (d : ℕ) → lt_z z (pos 0) ≡ true → floor_z z d ≡ negsuc (mag z / d)
unfolding floor_z
floor_neg (pos a) d e = absurd (omega (arith, ltb-true a 0 e))
floor_neg (negsuc a) d e = refl

pub floor_pos : (z : ℤ) (d : ℕ) → lt_z z (pos 0) ≡ false → floor_z z d ≡ pos (up z / d)
unfolding floor_z
floor_pos (pos a) d e = refl
floor_pos (negsuc a) d e = let z : ◌≡◌ {A = ℕ} 0 1 = cc in absurd (omega arith)

-- no larger in size
pub floor_size : (z : ℤ) (d : ℕ) → nat_abs (floor_z z d) ≤ nat_abs z
unfolding floor_z
floor_size (pos a) d = div-le_self a d
floor_size (negsuc a) d = omega (arith, div-le_self a d)

-- a number not below 0 is rounded up as a natural number is
module _ (n : ℕ) {d : ℕ} (h : 0 < d) where
  reaches : (c : ℤ) → pos n ≤ℤ (c *ℤ pos d) → pos (ceil_n n d) ≤ℤ c
  reaches (pos c) p = lin_le (pos (ceil_n n d)) (pos c) (omega (arith, ceil_n_least h {n = n} c (omega (arith, le_lin p))))
  reaches (negsuc c) p = absurd (omega (arith, le_lin p, mul_lin (negsuc c) (pos d), suc-mul c d))

  pub ceil_natural : ceil_z (pos n) d ≡ pos (ceil_n n d)
  ceil_natural =
      ≤ℤ_antisym (ceil_least h (pos (ceil_n n d)) (lin_le (pos n) (pos (ceil_n n d * d)) (omega (arith, ceil_n_high h n))))
      (reaches (ceil_z (pos n) d) (ceil_high h (pos n)))
