-- The loop takes one hour more at a time, as the definition does. Assumes nothing.
use mathlib.Core.Path.{◌≡◌}
use Prim.Native.Nat.{◌-◌, ◌≤◌}
use Rattle.bounds.specs.Promises.{Sized}
use Rattle.cycle_rules.specs.Day.{day_hours}
use Rattle.cycle_rules.specs.Heating.{heating_bounds, heating_sum, latest_largest}
use Rattle.cycle_rules.specs.Asked.{most_sum, pairs_of}
use Rattle.heating.proofs.largest_sum.Given as goal

abbrev pub invariant-loop-hour : goal.invariant-loop-hour
invariant-loop-hour l = (l.hour ≤ day_hours) × (l.largest ≡ heating_bounds (pairs_of l.shares) l.fn.hours (latest_largest (heating_sum (pairs_of l.shares) l.fn.hours) l.hour)) × (Sized most_sum l.largest)

abbrev pub decreases-loop-hour : goal.decreases-loop-hour
decreases-loop-hour l = day_hours - l.hour
