-- Document 01, 'The load sheet': "Rise, in millionths of the rated steady rise: (start² · 1,000,000 + sum over steps of (amperes² − previous
-- amperes²) · G in millionths) / rated²." The shares are any function from minutes to a pair.
use Rattle.std.specs.Prelude.{List, [], ◌∷◌, ℕ, ◌*◌, ℤ, pos, ◌-ℤ◌}
use Rattle.bounds.specs.Operations.{point_b, add_b, mul_b, divided_b}
use Rattle.bounds.specs.declared.Bounds.{Bounds}
use Rattle.sheet_rules.specs.Chain.{Step}

-- "A drop in load gives a negative step."
abbrev pub change_of : ℕ → ℕ → ℤ
change_of previous amperes = pos (amperes * amperes) -ℤ pos (previous * previous)

-- The product with a pair has "the low share for a positive step and the high share for a negative one" at its low end, and the mirror at its high end.
abbrev pub step_heat : Bounds → ℕ → ℕ → Bounds
step_heat pair previous amperes = mul_b (point_b (change_of previous amperes)) pair

unfoldable pub sum_of : (ℕ → Bounds) → ℕ → List Step → Bounds
sum_of pairs previous [] = point_b (pos 0)
sum_of pairs previous (s ∷ ss) = add_b (step_heat (pairs s.minutes) previous s.amperes) (sum_of pairs s.amperes ss)

-- a whole share, in millionths
abbrev pub million : ℕ
million = 1000000

abbrev pub start_heat : ℕ → Bounds
start_heat start = point_b (pos (start * start * million))

-- one division at the end: low "is rounded down, toward minus infinity; high is the mirror, rounded up"
unfoldable pub rise_of : (ℕ → Bounds) → ℕ → ℕ → List Step → Bounds
rise_of pairs start rated steps = divided_b (add_b (start_heat start) (sum_of pairs start steps)) (rated * rated)
