-- Document 01, 'Exact values without reals': a stretch from p, w wide, cut into n equal parts, and the fractions of J and of ln.
use Rattle.std.specs.Prelude.{ℕ, suc}
use Rattle.numbers.specs.Fraction.{Frac, ◌per◌, 1F, ◌⊕◌, ◌⊗◌, ◌÷◌, sum}
use Rattle.exact.specs.Exponential.{exp_low, exp_high}

-- the left end of part i; the right end of part i is the left end of part i + 1
abbrev pub cut_at : Frac → Frac → ℕ → ℕ → Frac
cut_at p w i n = p ⊕ w ⊗ i per n

-- each part's width times the height at its left end
abbrev pub left_sum : (Frac → Frac) → Frac → Frac → ℕ → Frac
left_sum height p w n = w ⊗ 1 per n ⊗ sum (λ i. height (cut_at p w i n)) n

-- each part's width times the height at its right end
abbrev pub right_sum : (Frac → Frac) → Frac → Frac → ℕ → Frac
right_sum height p w n = w ⊗ 1 per n ⊗ sum (λ i. height (cut_at p w (suc i) n)) n

-- J: 'Upper takes each part's width times the upper e^(−u) over u at its left end; lower takes the lower one at its right end.'
abbrev pub integral_high : Frac → Frac → ℕ → Frac
integral_high p w n = left_sum (λ u. exp_high u n ÷ u) p w n

abbrev pub integral_low : Frac → Frac → ℕ → Frac
integral_low p w n = right_sum (λ u. exp_low u n ÷ u) p w n

-- ln ((p + w)/p): 'the same cutting, with 1/u'
abbrev pub ln_high : Frac → Frac → ℕ → Frac
ln_high p w n = left_sum (λ u. 1F ÷ u) p w n

abbrev pub ln_low : Frac → Frac → ℕ → Frac
ln_low p w n = right_sum (λ u. 1F ÷ u) p w n
