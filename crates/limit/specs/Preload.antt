-- Document 01, 'The emergency current': "this says that the rise at the end is within r".
use Rattle.std.specs.Prelude.{[], ◌∷◌, ℕ, ◌*◌}
use Rattle.exact.specs.Value.{Value}
use Rattle.history_rules.specs.Exact.{exact_rise}

-- The rise, 'The load sheet', from a preload of h percent of the rated current by the one step to i. A percent of a whole number of amperes is a whole number
-- of hundredths, so the three currents are in hundredths of an ampere: the formula asks for nothing but their ratios.
abbrev pub rise_from_preload : ℕ → ℕ → Value → ℕ → Value
rise_from_preload rated h share i = exact_rise (λ minutes. share) (h * rated) (100 * rated) (record { number = 1; minutes = 0; amperes = 100 * i } ∷ [])
