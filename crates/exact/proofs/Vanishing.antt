-- x^n/n! falls below any fraction above 0, from an explicit order on.
use Prim.Native.Nat.{ℕ, zero, suc, ◌+◌, ◌*◌, ◌-◌, ◌≤◌, ◌<◌}
use mathlib.Core.List.{[], ◌∷◌}
use native.Mathlib.Nat.{mul-pos, mul-le-mul, zero-add, suc-add, le-mul_of_pos_right, sub-add_cancel}
use native.Mathlib.Omega.{arith}
use Rattle.numbers.specs.Fraction.{Frac, ◌≼◌, whole, ◌⊗◌}
use Rattle.numbers.proofs.Fractions.{trans≼, whole≼}
use Rattle.numbers.proofs.FractionProver.{qv, qn, ◌*'◌, q_le, le, q_from, q_cancel}
use Rattle.exact.specs.Exponential.{term}
use Rattle.exact.proofs.Exponential.{halves}

doubles : (j : ℕ) → whole (suc (suc j)) ≼ whole 2 ⊗ whole (suc j)
doubles j = omega arith

-- (j + 1) · t (j + k) ≤ t k, from 2y ≤ k
falls : (y : Frac) (k : ℕ) → whole 2 ⊗ y ≼ whole k → (j : ℕ) → whole (suc j) ⊗ term y (j + k) ≼ term y k
falls y k h zero = rw zero-add (q_le (term y k ∷ []) (qn 1 *' qv 0) (qv 0) tt)
falls y k h (suc j) = rw suc-add (q_from (whole (suc (suc j)) ∷ whole (suc j) ∷ term y (suc (j + k)) ∷ term y (j + k) ∷ term y k ∷ [])
    (le (qv 2) (qv 0) (qn 2 *' qv 1) ∷ le (qv 1) (qn 2 *' qv 2) (qv 3) ∷ le (qn 1) (qv 1 *' qv 3) (qv 4) ∷ []) (qv 0 *' qv 2) (qv 4) tt
    (doubles j) (halves y (j + k) (trans≼ h (whole≼ (omega arith)))) (falls y k h j))

-- a whole number above a fraction over another
pub reach : (a e : Frac) → 0 < e.num → (j : ℕ) → a.num * e.den ≤ j → a ≼ whole (suc j) ⊗ e
reach a e z j h = record { cross = go (mul-le-mul h (one_le (mul-pos a.pos z))) }
  where
    one_le : 0 < a.den * e.num → 1 ≤ a.den * e.num
    one_le p = p

    go : a.num * e.den * 1 ≤ j * (a.den * e.num) → a.num * (whole (suc j) ⊗ e).den ≤ (whole (suc j) ⊗ e).num * a.den
    go p = omega arith

pub twice : (y : Frac) → whole 2 ⊗ y ≼ whole (2 * y.num)
twice y = omega (arith, le-mul_of_pos_right y.num y.pos)

from_there : (y e : Frac) → 0 < e.num → (j : ℕ) → (term y (2 * y.num)).num * e.den ≤ j → term y (j + 2 * y.num) ≼ e
from_there y e z j h = q_cancel (term y (j + 2 * y.num) ∷ term y (2 * y.num) ∷ whole (suc j) ∷ e ∷ [])
    (le (qn 1) (qv 2 *' qv 0) (qv 1) ∷ le (qn 1) (qv 1) (qv 2 *' qv 3) ∷ []) (qv 2) (qv 0) (qv 3) tt (omega arith)
    (falls y (2 * y.num) (twice y) j) (reach (term y (2 * y.num)) e z j h)

-- an order from which x^m/m! is at most e
abbrev pub order_for : Frac → Frac → ℕ
order_for y e = (term y (2 * y.num)).num * e.den + 2 * y.num

pub vanishes : (y e : Frac) → 0 < e.num → (m : ℕ) → order_for y e ≤ m → term y m ≼ e
vanishes y e z m h = rw (sub-add_cancel {n = m} {m = 2 * y.num} (omega arith)) at (from_there y e z (m - 2 * y.num) (omega arith))
