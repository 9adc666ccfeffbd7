-- Whole numbers of units of 2^-30 as fractions: what a rounded product or quotient loses.
use Prim.Native.Nat.{ℕ, zero, suc, ◌+◌, ◌*◌, ◌/◌, ◌≤◌, ◌<◌, min}
use mathlib.Core.Path.{◌≡◌, refl}
use mathlib.Core.Bool.{Bool, true, false}
use lib.Dec.{ltb}
use borrow.Author.Tests.{ltb-true, ltb-false}
use native.Mathlib.Nat.{div-mul-le_self, lt-div-mul-add}
use native.Mathlib.Omega.{arith}
use Rattle.numbers.specs.Fraction.{Frac, ◌≼◌, ◌≈◌, ◌per◌, whole, 1F, ◌⊕◌, ◌⊗◌}
use Rattle.numbers.proofs.Fractions.{refl≼, trans≼, mul≼}
use Rattle.model.specs.Scale.{one, half}
use Rattle.model.specs.Encloses.{unit}

pub unit_times_low : (a b : ℕ) → unit (a * b / one) ≼ unit a ⊗ unit b
unit_times_low a b = omega arith

pub unit_times_high : (a b : ℕ) → unit a ⊗ unit b ≼ unit (a * b / one) ⊕ unit 1
unit_times_high a b = omega arith

-- one more than the floor is above
pub unit_times_over : (a b : ℕ) → unit a ⊗ unit b ≼ unit (a * b / one + 1)
unit_times_over a b = omega arith

pub unit_part_low : (x n : ℕ) → unit (x / suc n) ≼ unit x ⊗ 1 per (suc n)
unit_part_low x n = omega (arith, div-mul-le_self x (suc n))

pub unit_part_high : (x n : ℕ) → unit x ⊗ 1 per (suc n) ≼ unit (x / suc n) ⊕ unit 1
unit_part_high x n = omega (arith, lt-div-mul-add {a = x} {b = suc n} (omega arith))

pub unit_add : (a b : ℕ) → unit (a + b) ≈ unit a ⊕ unit b
unit_add a b = omega arith

pub unit≼ : {a b : ℕ} → a ≤ b → unit a ≼ unit b
unit≼ h = omega arith

pub unit_whole : {a : ℕ} (n : ℕ) → a ≤ n * one → unit a ≼ whole n
unit_whole n h = omega arith

-- n units are a, rounded down
pub record Floor (n : ℕ) (a : Frac) : Type 0 where
  pub low : unit n ≼ a
  pub high : a ≼ unit n ⊕ unit 1

pub quotient_floor : (r d : ℕ) → 0 < d → Floor (r * one / d) (r per d)
quotient_floor r zero z = absurd (omega arith)
quotient_floor r (suc d) z = record {
  low = omega (arith, div-mul-le_self (r * one) (suc d));
  high = omega (arith, lt-div-mul-add {a = r * one} {b = suc d} z);
}

pub floor_same : {n : ℕ} {a b : Frac} → a ≈ b → Floor n a → Floor n b
floor_same e f = record { low = trans≼ f.low e.to; high = trans≼ e.from f.high }

pub floor_at_most_one : {n : ℕ} {a : Frac} → Floor n a → a ≼ 1F → n ≤ one
floor_at_most_one {n} {a} f h = go (trans≼ f.low h)
  where
    go : unit n ≼ 1F → n ≤ one
    go k = omega arith

pub floor_at_most_half : {n : ℕ} {a : Frac} → Floor n a → whole 2 ⊗ a ≼ 1F → n ≤ half
floor_at_most_half {n} {a} f h = go (trans≼ (mul≼ (refl≼ (whole 2)) f.low) h)
  where
    go : whole 2 ⊗ unit n ≼ 1F → n ≤ half
    go k = omega arith

-- 1 over z units
pub inverse_low : (z : ℕ) → unit (one * one / z) ⊗ unit z ≼ 1F
inverse_low z = omega (arith, div-mul-le_self (one * one) z)

pub inverse_over : (z : ℕ) → 0 < z → 1F ≼ unit (one * one / z + 1) ⊗ unit z
inverse_over z h = omega (arith, lt-div-mul-add {a = one * one} {b = z} h)

-- what holds of both holds of the lesser
pub of_lesser : (P : ℕ → Type 0) (u v : ℕ) → P u → P v → P (min u v)
of_lesser P u v p q = go (ltb u v) refl
  where
    go : (b : Bool) → ltb u v ≡ b → P (min u v)
    go true e = let w = ltb-true u v e in let m : min u v ≡ u = omega arith in rw m p
    go false e = let w = ltb-false u v e in let m : min u v ≡ v = omega arith in rw m q
