-- Document 01, 'The daily cycle': the heating sum of a cycle for a reference hour, from the shares G(1) to G(6), as it is written and gathered. Both are
-- taken times 24·(highest load)², which leaves no fractions. And the reference hour.
use Rattle.std.specs.Prelude.{cond, List, ℕ, zero, suc, ◌*◌, ltb, ℤ, pos, ◌+ℤ◌, ◌-ℤ◌, ◌*ℤ◌}
use Rattle.std.specs.Int.Signed.{le_z}
use Rattle.bounds.specs.Operations.{point_b, add_b, mul_b, divided_b}
use Rattle.bounds.specs.declared.Bounds.{Bounds}
use Rattle.cycle_rules.specs.Day.{day_hours, highest_load, earlier, squared_load, squared_loads}

-- "for i = 0 to 5"
abbrev pub heating_hours : ℕ
heating_hours = 6

-- "Y0 is its squared load over the squared highest; Yi belongs to i hours earlier [..]. μ is the mean of all 24": what Y and μ are multiplied by
abbrev pub common_divisor : List ℕ → ℕ
common_divisor hours = day_hours * (highest_load hours * highest_load hours)

-- Yi for i from 0 to 5; at 6, μ
unfoldable pub relative_load : List ℕ → ℕ → ℕ → ℕ
relative_load hours hour i =
    cond (ltb i heating_hours) (day_hours * squared_load hours (earlier hour i)) (squared_loads hours day_hours)

-- ---- as it is written, for G(1), G(2), .. over one common denominator `one`

-- "G(0) = 0"
abbrev pub from_start : (ℕ → ℤ) → ℕ → ℤ
from_start G zero = pos 0
from_start G (suc i) = G (suc i)

-- the sum of Yi·(G(i+1) − G(i)) for i below n
unfoldable pub written_steps : List ℕ → ℕ → (ℕ → ℤ) → ℕ → ℤ
written_steps hours hour G zero = pos 0
written_steps hours hour G (suc i) =
    written_steps hours hour G i +ℤ (pos (relative_load hours hour i) *ℤ (G (suc i) -ℤ from_start G i))

-- ".. plus μ·(1 − G(6))"
abbrev pub written_sum : List ℕ → ℕ → ℤ → (ℕ → ℤ) → ℤ
written_sum hours hour one G =
    written_steps hours hour G heating_hours +ℤ (pos (relative_load hours hour heating_hours) *ℤ (one -ℤ G heating_hours))

-- ---- gathered

-- what multiplies G(i+1): Yi − Y(i+1), and Y5 − μ for G(6)
abbrev pub gathered_load : List ℕ → ℕ → ℕ → ℤ
gathered_load hours hour i = pos (relative_load hours hour i) -ℤ pos (relative_load hours hour (suc i))

-- the terms of G(1) to G(n), on what multiplies none of them
unfoldable pub gathered_sum : List ℕ → ℕ → ℤ → (ℕ → ℤ) → ℕ → ℤ
gathered_sum hours hour one G zero = pos (relative_load hours hour heating_hours) *ℤ one
gathered_sum hours hour one G (suc i) = gathered_sum hours hour one G i +ℤ (gathered_load hours hour i *ℤ G (suc i))

-- a whole share, in millionths
abbrev pub million : ℕ
million = 1000000

-- "take high where that is positive and low where negative": the product of a number and a pair does
unfoldable pub gathered_bounds : List ℕ → ℕ → (ℕ → Bounds) → ℕ → Bounds
gathered_bounds hours hour pairs zero = point_b (pos (relative_load hours hour heating_hours * million))
gathered_bounds hours hour pairs (suc i) =
    add_b (gathered_bounds hours hour pairs i) (mul_b (point_b (gathered_load hours hour i)) (pairs (suc i)))

unfoldable pub heating_bounds : (ℕ → Bounds) → List ℕ → ℕ → Bounds
heating_bounds pairs hours hour = divided_b (gathered_bounds hours hour pairs heating_hours) (common_divisor hours)

-- "round the sum up to millionths"
abbrev pub heating_sum : (ℕ → Bounds) → List ℕ → ℕ → ℤ
heating_sum pairs hours hour = (heating_bounds pairs hours hour).high

-- ---- the reference hour

-- the latest of the first n numbers that none of them exceeds, and 0 where there are none
unfoldable pub latest_largest : (ℕ → ℤ) → ℕ → ℕ
latest_largest sums zero = 0
latest_largest sums (suc n) = cond (le_z (sums (latest_largest sums n)) (sums n)) n (latest_largest sums n)

-- Document 02, note 1: "CIGRE asks for the time of highest temperature, so the reference hour becomes the one with the largest rounded-up heating sum of all 24."
-- Document 01: "the latest such hour where several are equal"
abbrev pub reference_hour : (ℕ → Bounds) → List ℕ → ℕ
reference_hour pairs hours = latest_largest (heating_sum pairs hours) day_hours
