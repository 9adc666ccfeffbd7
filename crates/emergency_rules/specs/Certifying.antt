-- Document 01, 'The emergency current': which whole amperes are certified, and the largest of them. h is the preload in percent of the rated current,
-- r the limit in percent of the rated rise, g the high share in millionths.
use Rattle.std.specs.Prelude.{Bool, ℕ, ◌*◌, ℤ, pos, ◌-ℤ◌, ◌*ℤ◌, ◌≤ℤ◌}
use Rattle.std.specs.Int.Signed.{le_z}
use Rattle.numbers.specs.Largest.{largest}

-- "10,000·i² − h²·rated²": the change of squared load by the step from the preload to i
abbrev pub load_change : ℕ → ℕ → ℕ → ℤ
load_change rated h i = pos (10000 * (i * i)) -ℤ pos (h * h * (rated * rated))

-- ".. · g": what that step adds
abbrev pub added_rise : ℕ → ℕ → ℤ → ℕ → ℤ
added_rise rated h g i = load_change rated h i *ℤ g

-- a whole share, in millionths
abbrev pub million : ℕ
million = 1000000

-- "100·r": in percent², as h² is, the squared load that holds the rise at the limit for ever
abbrev pub steady_limit : ℕ → ℕ
steady_limit r = 100 * r

-- "(100·r − h²) · rated² · 1,000,000": what the preload leaves up to the limit
abbrev pub room_to_limit : ℕ → ℕ → ℕ → ℤ
room_to_limit rated h r = (pos (steady_limit r) -ℤ pos (h * h)) *ℤ pos (rated * rated * million)

-- "A whole ampere i is certified when" the one is at most the other
pub record Certified (rated h r : ℕ) (g : ℤ) (i : ℕ) : Type 0 where
  pub rule : added_rise rated h g i ≤ℤ room_to_limit rated h r

-- its test
unfoldable pub certified : ℕ → ℕ → ℕ → ℤ → ℕ → Bool
certified rated h r g i = le_z (added_rise rated h g i) (room_to_limit rated h r)

-- "the largest certified i from 0 to 10,000"
abbrev pub most_current : ℕ
most_current = 10000

abbrev pub largest_certified : ℕ → ℕ → ℕ → ℤ → ℕ
largest_certified rated h r g = largest (certified rated h r g) most_current
