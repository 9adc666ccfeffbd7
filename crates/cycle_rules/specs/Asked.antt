-- What the functions below `cycle::factor` ask.
use Rattle.std.specs.Prelude.{◌≡◌, List, ℕ, zero, suc, ◌*◌, ◌≤◌, ◌<◌, pos, get_or}
use Rattle.bounds.specs.Operations.{point_b}
use Rattle.bounds.specs.Promises.{Sized}
use Rattle.bounds.specs.declared.Bounds.{Bounds}
use Rattle.cycle_rules.specs.Day.{day_hours, highest_load}
use Rattle.cycle_rules.specs.Heating.{common_divisor, million}

-- The pairs of six shares in a list, as G(1), G(2), ..
abbrev pub pairs_of : List Bounds → ℕ → Bounds
pairs_of shares zero = point_b (pos 0)
pairs_of shares (suc i) = get_or shares i (point_b (pos 0))

-- 24·65,535² A²: loads of 16 bits have no larger common divisor.
abbrev pub most_divisor : ℕ
most_divisor = day_hours * (65535 * 65535)

-- Shares of at most 1,000,000 millionths in size, and check 11 passed.
pub record Shared (shares : List Bounds) (hours : List ℕ) : Type 0 where
  pub sized : (i : ℕ) → Sized million (pairs_of shares (suc i))
  pub loaded : 0 < highest_load hours

-- The common divisor of the day.
pub record DivisorOf (hours : List ℕ) (divisor : ℕ) : Type 0 where
  pub is : divisor ≡ common_divisor hours
  pub to : divisor ≤ most_divisor

-- 7,000,000 millionths. No heating sum is larger: the gathered numbers and the constant are at most the common divisor each.
abbrev pub most_sum : ℕ
most_sum = 7000000
