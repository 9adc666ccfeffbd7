-- The loop's invariant: what the first outside is from the value at hand on is what it is from the first on. Assumes nothing.
use mathlib.Core.Path.{◌≡◌}
use Prim.Native.Nat.{◌≤◌}
use lib.ListN.{length}
use Rattle.ranges.specs.Ranges.{ranges_of, first_outside}
use Rattle.ranges.proofs.Ranges.{outside_from}
use Rattle.ranges.proofs.first_outside.Given as goal

abbrev pub invariant-loop-i : goal.invariant-loop-i
invariant-loop-i l = (l.i ≤ length l.values) × (outside_from l.ranges l.values l.i ≡ first_outside 1 (ranges_of l.ranges) l.values)
