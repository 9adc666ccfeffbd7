-- The loop takes one hour more at a time, as the definition does. Assumes nothing.
use mathlib.Core.Path.{sym, ap, ◌∙◌}
use native.Mathlib.Omega.{arith}
use Rattle.cycle_rules.specs.Heating.{heating_bounds, heating_sum}
use Rattle.cycle_rules.specs.Asked.{pairs_of}
use Rattle.cycle_rules.proofs.HourByHour.{latest_first, hotter_here, hotter_kept}
use Rattle.heating.proofs.largest_sum.Goals as goal
use Rattle.heating.proofs.largest_sum.Goals.{then-largest-sum, else-largest-sum}

pub loop-hour-init : goal.loop-hour-init
loop-hour-init c =
    let s = c.args in
    (omega arith, (rw c.new-day.ensures at c.heating_sum-largest.ensures.0) ∙ ap (heating_bounds (pairs_of s.shares) s.hours) (sym (latest_first (heating_sum (pairs_of s.shares) s.hours))), c.heating_sum-largest.ensures.1)

pub loop-hour-preserved : goal.loop-hour-preserved
loop-hour-preserved c =
    let s = c.args in
    elim c.if-largest-sum.branch [
      | then-largest-sum w ↦ (
        omega arith,
        w.largest-is ∙ hotter_here (pairs_of s.shares) s.hours c.loop-hour.hour c.loop-hour.invariant.1 (rw c.new-day.ensures at c.heating_sum-sum.ensures.0) c.loop-hour.invariant.2 c.heating_sum-sum.ensures.1 w.if-largest-sum.true,
        rw w.largest-is c.heating_sum-sum.ensures.1,
      )
      | else-largest-sum w ↦ (
        omega arith,
        w.largest-is ∙ hotter_kept (pairs_of s.shares) s.hours c.loop-hour.hour c.loop-hour.invariant.1 (rw c.new-day.ensures at c.heating_sum-sum.ensures.0) c.loop-hour.invariant.2 c.heating_sum-sum.ensures.1 w.if-largest-sum.false,
        rw w.largest-is c.loop-hour.invariant.2,
      )
    ]
