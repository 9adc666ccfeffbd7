-- e^(-x) in fixed point. Document 01, 'The attained share': the attainment's two exponentials, and e^(-u) under the integral J.
use Rattle.std.specs.Prelude.{true, false, ℕ, zero, suc, ◌+◌, ◌*◌, ◌/◌, ◌%◌, ltb}
use Rattle.bounds.specs.Pair.{Pair, scaled_p, quotient_p, at_most_p}
use Rattle.model.specs.Scale.{one, exp_order, exp_loss, inverse_e_low, inverse_e_high, far_from, exactly}

-- x^k/k!, rounded down at each step
unfoldable pub exp_term : ℕ → ℕ → ℕ
exp_term x zero = one
exp_term x (suc k) = exp_term x k * x / one / suc k

-- the sum of x^j/j! for j from 0 to k
unfoldable pub exp_sum : ℕ → ℕ → ℕ
exp_sum x zero = one
exp_sum x (suc k) = exp_sum x k + exp_term x (suc k)

-- e^(-x) for x at most 1: 1 over the sum
unfoldable pub fraction_exp_pair : ℕ → Pair
fraction_exp_pair x = at_most_p (quotient_p (exactly one) (record { low = exp_sum x exp_order; high = exp_sum x exp_order + exp_loss }) one) one

-- times e^(-1)
abbrev pub decayed_once : Pair → Pair
decayed_once b = scaled_p b (record { low = inverse_e_low; high = inverse_e_high }) one

-- times e^(-m)
unfoldable pub decayed : ℕ → Pair → Pair
decayed zero b = b
decayed (suc m) b = decayed m (decayed_once b)

-- e^(-num/den): by its whole part and its rest
unfoldable pub exp_pair : ℕ → ℕ → Pair
exp_pair num den = elim (ltb far_from (num / den)) [
  | true ↦ decayed (suc far_from) (record { low = 0; high = one })
  | false ↦ decayed (num / den) (fraction_exp_pair (num % den * one / den))
]
