-- What passes, or 0, lies below what does not, or the end's successor. Assumes nothing.
use Rattle.std.proofs.Common.{◌+◌, ◌-◌, ◌<◌, ◌≤◌, true, false}
use Rattle.numbers.proofs.largest_passing.Given as goal

abbrev pub invariant-loop-high : goal.invariant-loop-high
invariant-loop-high g l =
    (l.low < l.high)
    × (l.high ≤ l.end + 1)
    × (0 < l.low → goal.F-post g l.passes l.low true)
    × (l.high ≤ l.end → goal.F-post g l.passes l.high false)

abbrev pub decreases-loop-high : goal.decreases-loop-high
decreases-loop-high g l = l.high - l.low
