-- Certified bounds of e^(−x): a is below where no partial sum makes a·E exceed 1, and above where some partial sum makes a·E reach 1.
-- With 'for all' on one side and 'for some' on the other no limit is taken.
use Prim.Native.Nat.{ℕ, zero, suc, ◌+◌}
use mathlib.Core.List.{[], ◌∷◌}
use mathlib.Core.Bool.{Bool, true, false}
use lib.Dec.{T}
use native.Mathlib.Omega.{arith}
use Rattle.numbers.specs.Fraction.{Frac, ◌≼◌, ◌≈◌, whole, 0F, 1F, ◌⊕◌, ◌⊗◌, ◌÷◌, power}
use Rattle.numbers.proofs.Fractions.{refl≼, trans≼, zero≼, mul≼}
use Rattle.numbers.proofs.FractionProver.{qv, qn, ◌*'◌, q_le, le, eq, q_from}
use Rattle.exact.specs.Exponential.{exp_sum, exp_sum_over, enough, exp_low, exp_high}
use Rattle.exact.proofs.Exponential.{exp_sum≼, sum_over, exp_sum_inv, exp_sum_over_inv, enough_is, exp_sum_zero}
use Rattle.exact.proofs.Product.{sum_product_above, sum_product_below}

pub record Below (a x : Frac) : Type 0 where
  pub under : (m : ℕ) → a ⊗ exp_sum x m ≼ 1F

pub record Above (a x : Frac) : Type 0 where
  pub order : ℕ
  pub reaches : 1F ≼ a ⊗ exp_sum x order

-- ---- against the document's fractions
pub below_upper : {a x : Frac} → Below a x → (n : ℕ) → a ≼ 1F ÷ exp_sum x n
below_upper {a} {x} h n = q_from (a ∷ exp_sum x n ∷ (1F ÷ exp_sum x n) ∷ []) (eq (qn 0) (qv 0) (qv 2 *' qv 1) (qn 1) ∷ le (qv 2) (qv 0 *' qv 1) (qn 1) ∷ []) (qv 0) (qv 2) tt
    (exp_sum_inv x n) (h.under n)

pub below_one : {a x : Frac} → Below a x → a ≼ 1F
below_one {a} {x} h = q_from (a ∷ []) (le (qn 1) (qv 0 *' qn 1) (qn 1) ∷ []) (qv 0) (qn 1) tt (h.under 0)

pub below_high : {a x : Frac} → Below a x → (n : ℕ) → a ≼ exp_high x n
below_high {a} {x} h n = go (enough x n)
  where
    go : (b : Bool) → ◌≼◌ a (elim b [ true ↦ (1F ÷ exp_sum x n) | false ↦ 1F ])
    go true = below_upper h n
    go false = below_one h

pub above_lower : {a x : Frac} → Above a x → (n : ℕ) → whole 2 ⊗ x ≼ whole n → 1F ÷ exp_sum_over x n ≼ a
above_lower {a} {x} h n k = q_from (a ∷ exp_sum x h.order ∷ exp_sum_over x n ∷ (1F ÷ exp_sum_over x n) ∷ [])
    (le (qv 3) (qn 1) (qv 0 *' qv 1) ∷ le (qv 3 *' qv 0) (qv 1) (qv 2) ∷ eq (qv 0) (qn 0) (qv 3 *' qv 2) (qn 1) ∷ []) (qv 3) (qv 0) tt
    h.reaches (sum_over h.order n (refl≼ x) k) (exp_sum_over_inv x n)

pub above_low : {a x : Frac} → Above a x → (n : ℕ) → exp_low x n ≼ a
above_low {a} {x} h n = go (enough x n) (enough_is x n)
  where
    go : (b : Bool) → (T b → whole 2 ⊗ x ≼ whole n) → ◌≼◌ (elim b [ true ↦ (1F ÷ exp_sum_over x n) | false ↦ 0F ]) a
    go true k = above_lower h n (k tt)
    go false k = zero≼ a

-- ---- products
pub below_product : {a b x y : Frac} → Below a x → Below b y → Below (a ⊗ b) (x ⊕ y)
below_product {a} {b} {x} {y} h k = record {
  under = λ m. q_from (a ∷ b ∷ exp_sum x m ∷ exp_sum y m ∷ exp_sum (x ⊕ y) m ∷ [])
      (le (qv 0 *' qv 1) (qv 4) (qv 2 *' qv 3) ∷ le (qv 1 *' qv 3) (qv 0 *' qv 2) (qn 1) ∷ le (qn 1) (qv 1 *' qv 3) (qn 1) ∷ []) (qv 0 *' qv 1 *' qv 4) (qn 1) tt
      (sum_product_above x y m) (h.under m) (k.under m);
}

pub above_product : {a b x y : Frac} → Above a x → Above b y → Above (a ⊗ b) (x ⊕ y)
above_product {a} {b} {x} {y} h k = record {
  order = h.order + k.order;
  reaches = q_from (a ∷ b ∷ exp_sum x h.order ∷ exp_sum y k.order ∷ exp_sum (x ⊕ y) (h.order + k.order) ∷ [])
      (le (qn 1) (qn 1) (qv 1 *' qv 3) ∷ le (qv 1 *' qv 3) (qn 1) (qv 0 *' qv 2) ∷ le (qv 0 *' qv 1) (qv 2 *' qv 3) (qv 4) ∷ []) (qn 1) (qv 0 *' qv 1 *' qv 4) tt
      k.reaches h.reaches (sum_product_below x y h.order k.order);
}

-- ---- monotone in both
pub below_mono : {a b x y : Frac} → a ≼ b → x ≼ y → Below b y → Below a x
below_mono p q h = record { under = λ m. trans≼ (mul≼ p (exp_sum≼ m q)) (h.under m) }

pub above_mono : {a b x y : Frac} → a ≼ b → x ≼ y → Above a x → Above b y
above_mono p q h = record { order = h.order; reaches = trans≼ h.reaches (mul≼ p (exp_sum≼ h.order q)) }

-- ---- closed forms
pub below_zero : (x : Frac) → Below 0F x
below_zero x = record { under = λ m. q_le (exp_sum x m ∷ []) (qn 0 *' qv 0) (qn 1) tt }

pub above_one : (x : Frac) → Above 1F x
above_one x = record { order = 0; reaches = q_le [] (qn 1) (qn 1 *' qn 1) tt }

-- ---- powers: a bound of e^(-x) gives one of e^(-k·x)
times_next : (x : Frac) (k : ℕ) → whole (suc k) ⊗ x ≈ whole k ⊗ x ⊕ x
times_next x k = omega arith

pub below_one_zero : Below 1F 0F
below_one_zero = record { under = λ m. q_from (exp_sum 0F m ∷ []) (le (qn 1) (qv 0) (qn 1) ∷ []) (qn 1 *' qv 0) (qn 1) tt (exp_sum_zero m) }

pub below_power : {a x : Frac} → Below a x → (k : ℕ) → Below (power a k) (whole k ⊗ x)
below_power {a} {x} h zero = below_mono (refl≼ 1F) (q_le (x ∷ []) (qn 0 *' qv 0) (qn 0) tt) below_one_zero
below_power {a} {x} h (suc k) = below_mono (refl≼ (power a (suc k))) (times_next x k).to (below_product (below_power h k) h)

pub above_power : {a x : Frac} → Above a x → (k : ℕ) → Above (power a k) (whole k ⊗ x)
above_power {a} {x} h zero = above_one (whole 0 ⊗ x)
above_power {a} {x} h (suc k) = above_mono (refl≼ (power a (suc k))) (times_next x k).from (above_product (above_power h k) h)
