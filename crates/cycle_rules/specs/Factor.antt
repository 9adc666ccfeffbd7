-- Document 01, 'The daily cycle': "The reported factor is the largest whole m, at most 5,000, with m² times that sum at most 10^12."
use Rattle.std.specs.Prelude.{Bool, ℕ, ◌*◌, ℤ, pos, ◌*ℤ◌}
use Rattle.std.specs.Int.Signed.{le_z}
use Rattle.numbers.specs.Largest.{largest}

-- thousandths
abbrev pub most_factor : ℕ
most_factor = 5000

-- thousandths² times millionths
abbrev pub most_heating : ℕ
most_heating = 1000000000000

unfoldable pub allowed : ℤ → ℕ → Bool
allowed sum m = le_z (sum *ℤ pos (m * m)) (pos most_heating)

abbrev pub largest_factor : ℤ → ℕ
largest_factor sum = largest (allowed sum) most_factor
