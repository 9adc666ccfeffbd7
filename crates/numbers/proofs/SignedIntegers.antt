-- Integers as signed fractions: their order, sums, products and quotients.
use mathlib.Core.Path.{◌≡◌}
use mathlib.Core.Logic.{◌⊎◌, inl, inr}
use Prim.Native.Nat.{◌+◌, ◌*◌, ◌≤◌}
use native.Mathlib.Omega.{arith}
use lib.IntN.{ℤ, pos, negsuc, ◌+ℤ◌, ◌*ℤ◌}
use lib.Signed.{◌≤ℤ◌}
use Rattle.numbers.specs.Fraction.{◌≼◌, ◌⊕◌, ◌⊗◌, whole}
use Rattle.numbers.specs.Signed.{◌≼ₛ◌, ◌≈ₛ◌, of_int, add_s, mul_s}
use Rattle.numbers.specs.Integer.{up, dn}
use Rattle.numbers.proofs.Integers.{le_lin, lin_le, add_lin, mul_lin}

pub of_int≼ : {y z : ℤ} → y ≤ℤ z → of_int y ≼ₛ of_int z
of_int≼ {y} {z} h = record { le = go (le_lin h) }
  where
    go : up y + dn z ≤ up z + dn y → whole (up y) ⊕ whole (dn z) ≼ whole (up z) ⊕ whole (dn y)
    go p = omega arith

pub of_int_order : (y z : ℤ) → of_int y ≼ₛ of_int z → y ≤ℤ z
of_int_order y z h = lin_le y z (go h.le)
  where
    go : whole (up y) ⊕ whole (dn z) ≼ whole (up z) ⊕ whole (dn y) → up y + dn z ≤ up z + dn y
    go p = omega (arith, p.cross)

pub of_int_add : (y z : ℤ) → of_int (y +ℤ z) ≈ₛ add_s (of_int y) (of_int z)
of_int_add y z = record { to = record { le = to_it (add_lin y z) }; from = record { le = from_it (add_lin y z) } }
  where
    to_it : up (y +ℤ z) + (dn y + dn z) ≡ dn (y +ℤ z) + (up y + up z) → whole (up (y +ℤ z)) ⊕ (whole (dn y) ⊕ whole (dn z)) ≼ whole (up y) ⊕ whole (up z) ⊕ whole (dn (y +ℤ z))
    to_it e = omega arith

    from_it : up (y +ℤ z) + (dn y + dn z) ≡ dn (y +ℤ z) + (up y + up z) → whole (up y) ⊕ whole (up z) ⊕ whole (dn (y +ℤ z)) ≼ whole (up (y +ℤ z)) ⊕ (whole (dn y) ⊕ whole (dn z))
    from_it e = omega arith

pub of_int_mul : (y z : ℤ) → of_int (y *ℤ z) ≈ₛ mul_s (of_int y) (of_int z)
of_int_mul y z = record { to = record { le = to_it (mul_lin y z) }; from = record { le = from_it (mul_lin y z) } }
  where
    to_it : up (y *ℤ z) + (up y * dn z + dn y * up z) ≡ dn (y *ℤ z) + (up y * up z + dn y * dn z)
        → whole (up (y *ℤ z)) ⊕ (whole (up y) ⊗ whole (dn z) ⊕ whole (dn y) ⊗ whole (up z)) ≼ whole (up y) ⊗ whole (up z) ⊕ whole (dn y) ⊗ whole (dn z) ⊕ whole (dn (y *ℤ z))
    to_it e = omega arith

    from_it : up (y *ℤ z) + (up y * dn z + dn y * up z) ≡ dn (y *ℤ z) + (up y * up z + dn y * dn z)
        → whole (up y) ⊗ whole (up z) ⊕ whole (dn y) ⊗ whole (dn z) ⊕ whole (dn (y *ℤ z)) ≼ whole (up (y *ℤ z)) ⊕ (whole (up y) ⊗ whole (dn z) ⊕ whole (dn y) ⊗ whole (up z))
    from_it e = omega arith

-- an integer is not below 0 or not above 0
pub either_sign : (z : ℤ) → ((of_int z).minus ≼ (of_int z).plus) ⊎ ((of_int z).plus ≼ (of_int z).minus)
either_sign (pos n) = inl (record { cross = omega arith })
either_sign (negsuc n) = inr (record { cross = omega arith })
