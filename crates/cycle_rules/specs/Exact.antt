-- Document 01, 'What the distances say': "The exact [..] heating sum [is its formula] with the exact G for each share [..] the heating sum is taken
-- gathered." The exact shares, in millionths, are any function from minutes to a value, and the reference hour is any.
use Rattle.std.specs.Prelude.{List, ℕ, zero, suc, ◌+◌, ◌*◌, ◌<◌, pos}
use Rattle.numbers.specs.Fraction.{whole}
use Rattle.numbers.specs.Signed.{of_int}
use Rattle.exact.specs.Value.{Value, AtMost, AtLeast, number, integer, ◌+ᵥ◌, ◌·ᵥ◌, ◌/ᵥ◌, largestᵥ}
use Rattle.cycle_rules.specs.Day.{day_hours}
use Rattle.cycle_rules.specs.Heating.{heating_hours, common_divisor, relative_load, gathered_load}

-- 'The daily cycle', "Gather what multiplies each G", "with G at whole hours": the terms of G(1) to G(n), on what multiplies none of them
unfoldable pub exact_gathered : (ℕ → Value) → List ℕ → ℕ → ℕ → Value
exact_gathered shares hours hour zero = integer (pos (relative_load hours hour heating_hours * 1000000))
exact_gathered shares hours hour (suc i) = exact_gathered shares hours hour i +ᵥ integer (gathered_load hours hour i) ·ᵥ shares (60 * suc i)

-- the exact heating sum in millionths, for a reference hour
unfoldable pub exact_heating : (ℕ → Value) → List ℕ → ℕ → Value
exact_heating shares hours hour = exact_gathered shares hours hour heating_hours /ᵥ number (whole (common_divisor hours))

-- T. Document 02, note 1: "The factor rule now speaks of the largest exact sum, at the same distance."
abbrev pub largest_heating : (ℕ → Value) → List ℕ → Value
largest_heating shares hours = largestᵥ (exact_heating shares hours) day_hours

-- the rounded sum is at most this above T: the width of each share's pair, and 1 for rounding up
abbrev pub sum_width : ℕ → ℕ
sum_width share_width = heating_hours * share_width + 1

-- "m²·T is at most 10^12. If m is below 5,000, each larger whole number, squared and times T + 301, is at least 10^12 + 1", for any width of the shares'
-- pairs: 301 is `sum_width 50`
pub record FactorDistance (share_width : ℕ) (heating : Value) (m : ℕ) : Type 0 where
  pub not_above : AtLeast (of_int (pos 1000000000000)) (integer (pos (m * m)) ·ᵥ heating)
  pub larger_above : m < 5000 → (k : ℕ) → m < k → AtMost (of_int (pos 1000000000001)) (integer (pos (k * k)) ·ᵥ (heating +ᵥ integer (pos (sum_width share_width))))
