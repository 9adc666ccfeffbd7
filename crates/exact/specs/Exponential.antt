-- Document 01, 'Exact values without reals': the lower and the upper fraction of e^(−x) at order n.
use Rattle.std.specs.Prelude.{ℕ, zero, suc, Bool, true, false}
use Rattle.numbers.specs.Fraction.{Frac, ◌≼?◌, ◌per◌, whole, 0F, 1F, ◌⊕◌, ◌⊗◌, ◌÷◌}

-- x^j/j!, each from the one before; `term_literal` shows that it is the power over the factorial
abbrev pub term : Frac → ℕ → Frac
term x zero = 1F
term x (suc j) = term x j ⊗ x ⊗ 1 per (suc j)

-- E: the sum of x^j/j! for j from 0 to n
abbrev pub exp_sum : Frac → ℕ → Frac
exp_sum x zero = 1F
exp_sum x (suc n) = exp_sum x n ⊕ term x (suc n)

-- E + 2·x^(n+1)/(n+1)!
abbrev pub exp_sum_over : Frac → ℕ → Frac
exp_sum_over x n = exp_sum x n ⊕ whole 2 ⊗ term x (suc n)

-- n ≥ 2x
abbrev pub enough : Frac → ℕ → Bool
enough x n = whole 2 ⊗ x ≼? whole n

-- 'For n ≥ 2x, lower is 1/(E + 2·x^(n+1)/(n+1)!) and upper is 1/E. For smaller n, lower is 0 and upper is 1.'
abbrev pub exp_low : Frac → ℕ → Frac
exp_low x n = elim (enough x n) [ true ↦ 1F ÷ exp_sum_over x n | false ↦ 0F ]

abbrev pub exp_high : Frac → ℕ → Frac
exp_high x n = elim (enough x n) [ true ↦ 1F ÷ exp_sum x n | false ↦ 1F ]
