-- How large the ends of a result are, for what a method asks of them.
use Prim.Native.Nat.{ℕ, ◌+◌, ◌*◌, ◌≤◌}
use native.Mathlib.Omega.{arith}
use native.Mathlib.Nat.{mul-le-mul}
use lib.IntN.{ℤ, pos, nat_abs, ◌*ℤ◌}
use lib.Signed.{◌≤ℤ◌}
use mathlib.Core.Logic.{⊎_elim}
use Rattle.numbers.proofs.Integers.{one_part, le_lin, size_lin, size_neg, size_add, size_mul, ≤ℤ_trans, lesser_left, lesser_right, greater_left, greater_right, lesser_both, greater_both}
use Rattle.bounds.specs.Operations.{add_b, neg_b, mul_b, times_b}
use Rattle.bounds.specs.Promises.{Sized}
use Rattle.bounds.specs.declared.Bounds.{Bounds}

-- ---- the ends of a result

pub sized_more : {j k : ℕ} {a : Bounds} → j ≤ k → Sized j a → Sized k a
sized_more h s = record { low = omega (arith, s.low); high = omega (arith, s.high) }

pub add_sized : {j k : ℕ} {a b : Bounds} → Sized j a → Sized k b → Sized (j + k) (add_b a b)
unfolding add_b
add_sized {a} {b} s t =
    record {
      low = omega (arith, size_add a.low b.low, s.low, t.low);
      high = omega (arith, size_add a.high b.high, s.high, t.high);
    }

pub neg_sized : {k : ℕ} {a : Bounds} → Sized k a → Sized k (neg_b a)
unfolding neg_b
neg_sized {a} s =
    record { low = omega (arith, size_neg a.high, s.high); high = omega (arith, size_neg a.low, s.low) }

size_product : {j k : ℕ} (x y : ℤ) → nat_abs x ≤ j → nat_abs y ≤ k → nat_abs (x *ℤ y) ≤ j * k
size_product x y p q = rw (size_mul x y) (mul-le-mul p q)

pub mul_sized : {j k : ℕ} {a b : Bounds} → Sized j a → Sized k b → Sized (j * k) (mul_b a b)
unfolding mul_b
mul_sized {j} {k} {a} {b} s t =
    let P : ℤ → Type 0 = λ (z : ℤ). nat_abs z ≤ j * k in
    let ll = size_product a.low b.low s.low t.low in
    let lh = size_product a.low b.high s.low t.high in
    let hl = size_product a.high b.low s.high t.low in
    let hh = size_product a.high b.high s.high t.high in
    record {
      low = lesser_both P (lesser_both P ll lh) (lesser_both P hl hh);
      high = greater_both P (greater_both P ll lh) (greater_both P hl hh);
    }

pub times_sized : {k : ℕ} {a : Bounds} (n : ℕ) → Sized k a → Sized (k * n) (times_b a n)
unfolding times_b
times_sized {a} n s =
    record {
      low = size_product a.low (pos n) s.low (omega arith);
      high = size_product a.high (pos n) s.high (omega arith);
    }

-- ---- the four products of ends, where the least and the greatest are known

between_sized : {k : ℕ} {l z h : ℤ} → nat_abs l ≤ k → nat_abs h ≤ k → l ≤ℤ z → z ≤ℤ h → nat_abs z ≤ k
between_sized {k} {l} {z} {h} p q u v =
    ⊎_elim (λ e. omega (arith, size_lin l, size_lin z, size_lin h, le_lin u, le_lin v))
    (λ e. omega (arith, size_lin l, size_lin z, size_lin h, le_lin u, le_lin v))
    (one_part z)

pub record Products (k : ℕ) (a b : Bounds) : Type 0 where
  pub ll : nat_abs (a.low *ℤ b.low) ≤ k
  pub lh : nat_abs (a.low *ℤ b.high) ≤ k
  pub hl : nat_abs (a.high *ℤ b.low) ≤ k
  pub hh : nat_abs (a.high *ℤ b.high) ≤ k

pub products_sized : {k : ℕ} (a b : Bounds) → Sized k (mul_b a b) → Products k a b
unfolding mul_b
products_sized {k} a b s =
    record {
      ll = between_sized s.low s.high (≤ℤ_trans (lesser_left _ _) (lesser_left _ _)) (≤ℤ_trans (greater_left _ _) (greater_left _ _));
      lh = between_sized s.low s.high (≤ℤ_trans (lesser_left _ _) (lesser_right _ _)) (≤ℤ_trans (greater_right _ _) (greater_left _ _));
      hl = between_sized s.low s.high (≤ℤ_trans (lesser_right _ _) (lesser_left _ _)) (≤ℤ_trans (greater_left _ _) (greater_right _ _));
      hh = between_sized s.low s.high (≤ℤ_trans (lesser_right _ _) (lesser_right _ _)) (≤ℤ_trans (greater_right _ _) (greater_right _ _));
    }
