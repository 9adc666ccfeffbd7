-- The loop fills the six shares; the share of an accepted group is not refused at a whole hour. Assumes nothing.
use Prim.Native.Nat.{◌-◌, ◌≤◌}
use Rattle.sheet_rules.specs.Ground.{group_at}
use Rattle.cycle_rules.specs.Heating.{heating_hours}
use Rattle.cycle_rules.proofs.Shares.{Filled}
use Rattle.cycle.proofs.factor_of_day.Given as goal

abbrev pub invariant-loop-i : goal.invariant-loop-i
invariant-loop-i l = (l.i ≤ heating_hours) × (Filled (group_at l.ground) l.shares l.i)

abbrev pub decreases-loop-i : goal.decreases-loop-i
decreases-loop-i l = heating_hours - l.i
