-- Whole numbers over whole numbers: places on a line whose unit is 1/D, and their distances and ratios.
use Prim.Native.Nat.{ℕ, zero, suc, ◌+◌, ◌*◌, ◌-◌, ◌≤◌, ◌<◌}
use mathlib.Core.Path.{◌≡◌}
use native.Mathlib.Nat.{mul-pos, mul-le-mul_left, mul-le-mul_right}
use native.Mathlib.Omega.{arith}
use Rattle.numbers.specs.Fraction.{◌≼◌, ◌≈◌, ◌per◌, whole, 1F, ◌⊕◌, ◌⊗◌}
use Rattle.numbers.proofs.Fractions.{per≼}

pub per_rises : {a b : ℕ} (D : ℕ) → 0 < D → a ≤ b → a per D ≼ b per D
per_rises {a} {b} D z h = per≼ a D b D z z (mul-le-mul_right D h)

-- from x on to y
pub per_distance : (x y D : ℕ) → 0 < D → x ≤ y → x per D ⊕ (y - x) per D ≈ y per D
per_distance x y zero z h = absurd (omega arith)
per_distance x y (suc D) z h = let e : x + (y - x) ≡ y = omega arith in rw e at (sum_per x (y - x))
  where
    sum_per : (a b : ℕ) → a per (suc D) ⊕ b per (suc D) ≈ (a + b) per (suc D)
    sum_per a b = omega arith

-- both times c
pub per_scaled : (c a D : ℕ) → 0 < c → 0 < D → (c * a) per (c * D) ≈ a per D
per_scaled c a D z k =
    record {
      to = per≼ (c * a) (c * D) a D (mul-pos z k) k (omega arith);
      from = per≼ a D (c * a) (c * D) k (mul-pos z k) (omega arith);
    }

-- far/D is at most y/D times far/near
pub stretched : (near y far D : ℕ) → 0 < near → 0 < D → near ≤ y → far per D ≼ y per D ⊗ far per near
stretched zero y far D z k h = absurd (omega arith)
stretched (suc near) y far zero z k h = absurd (omega arith)
stretched (suc near) y far (suc D) z k h = omega (arith, mul-le-mul_left (far * suc D) h)

pub per_per : (a D b : ℕ) → 0 < D → 0 < b → a per D ⊗ D per b ≈ a per b
per_per a zero b z k = absurd (omega arith)
per_per a (suc D) zero z k = absurd (omega arith)
per_per a (suc D) (suc b) z k = omega arith

pub per_one : (D y : ℕ) → 0 < D → 0 < y → D per y ⊗ y per D ≈ 1F
per_one zero y z k = absurd (omega arith)
per_one (suc D) zero z k = absurd (omega arith)
per_one (suc D) (suc y) z k = omega arith

pub per_at_most_one : (a b : ℕ) → 0 < b → a ≤ b → a per b ≼ 1F
per_at_most_one a b z h = per≼ a b 1 1 z (omega arith) (omega arith)

pub twice_per : (a b D : ℕ) → 0 < D → 2 * a ≤ b → whole 2 ⊗ a per D ≼ b per D
twice_per a b zero z h = absurd (omega arith)
twice_per a b (suc D) z h = omega (arith, mul-le-mul_right (suc D) h)

pub twice_per_one : (a b : ℕ) → 0 < b → 2 * a ≤ b → whole 2 ⊗ a per b ≼ 1F
twice_per_one a zero z h = absurd (omega arith)
twice_per_one a (suc b) z h = omega arith
