-- Hourly amperes, of 16 bits, from numbers of 32: a number beyond 16 bits is held at the largest of 16 bits, which is above every accepted hour.
use Rattle.std.specs.Prelude.{◌≡◌, List, ℕ, ◌+◌, ◌<◌, min, length, get_or}
use Rattle.cycle_rules.specs.Day.{day_hours}

abbrev pub most_hour : ℕ
most_hour = 65535

-- The first `done` of the hours that stand from place `from` on: after a cable's eight fields, or first.
pub record HoursTo (from done : ℕ) (values hours : List ℕ) : Type 0 where
  pub many : length hours ≡ day_hours
  pub each : (k : ℕ) → k < done → get_or hours k 0 ≡ min (get_or values (from + k) 0) most_hour

abbrev pub HoursFrom : ℕ → List ℕ → List ℕ → Type 0
HoursFrom from values hours = HoursTo from day_hours values hours
