-- The series of one slice, from x to y, of J and of ln: with θ = (y - x)/y and τ = (y - x)/D, where u runs as the distance over D,
-- the integral of e^(-u)/u over the slice is e^(-y/D) · θ · (the sum of g_k/(k + 1)), with g_0 = 1 and g_k = θ g_(k-1) + τ^k/k!.
use Rattle.std.specs.Prelude.{ℕ, zero, suc, ◌+◌, ◌*◌, ◌/◌, ◌-◌}
use Rattle.bounds.specs.Pair.{Pair}
use Rattle.model.specs.Scale.{one, series_order, series_loss, term_loss}
use Rattle.model.specs.Exponential.{exp_term}

-- θ
abbrev pub theta_of : ℕ → ℕ → ℕ
theta_of x y = (y - x) * one / y

-- τ
abbrev pub tau_of : ℕ → ℕ → ℕ → ℕ
tau_of x y diffusion = (y - x) * one / diffusion

-- g_k
unfoldable pub series_term : ℕ → ℕ → ℕ → ℕ
series_term theta tau zero = one
series_term theta tau (suc k) = theta * series_term theta tau k / one + exp_term tau (suc k)

-- the sum of g_j/(j + 1) for j from 0 to k
unfoldable pub series_sum : ℕ → ℕ → ℕ → ℕ
series_sum theta tau zero = one
series_sum theta tau (suc k) = series_sum theta tau k + series_term theta tau (suc k) / suc (suc k)

-- The upper end adds what rounding may have lost, and twice the last term for all that follow it.
unfoldable pub series_pair : ℕ → ℕ → Pair
series_pair theta tau = record {
  low = series_sum theta tau series_order;
  high = series_sum theta tau series_order + series_loss + 2 * (series_term theta tau series_order + term_loss) / suc series_order;
}
