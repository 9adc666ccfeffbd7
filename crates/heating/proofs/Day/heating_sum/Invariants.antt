-- The loop adds one share's term at a time, as the definition does. Assumes nothing.
use mathlib.Core.Path.{◌≡◌}
use Rattle.cycle_rules.specs.Heating.{gathered_bounds}
use Rattle.cycle_rules.specs.Asked.{pairs_of}
use Rattle.heating.proofs.Day.heating_sum.Given as goal

abbrev pub invariant-loop-i : goal.invariant-loop-i
invariant-loop-i l = l.sum ≡ gathered_bounds l.self.hours l.hour (pairs_of l.fn.shares) l.i
