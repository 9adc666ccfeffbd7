-- The hour's square, or the sum of all, by the definition's test. Assumes nothing.
use mathlib.Core.Path.{ap, ◌∙◌}
use Prim.Native.Nat.{ℕ, ◌*◌, ◌≤◌}
use native.Mathlib.Omega.{arith}
use borrow.Author.Tests.{lt-ltb, le-ltb}
use borrow.Author.Rules.{rules}
use Rattle.cycle_rules.specs.Heating.{heating_hours, relative_load}
use Rattle.cycle_rules.proofs.Day.{most_square, square_to}
use Rattle.heating.proofs.Day.relative_load.Goals as goal

pub returns-then-i-lt-HEATING_HOURS : goal.returns-then-i-lt-HEATING_HOURS
unfolding relative_load
returns-then-i-lt-HEATING_HOURS c =
    let square_small : c.square.result ≤ most_square = square_to (rw c.from.ensures at c.square.ensures) (search rules) in
    let s = c.args in
    (ap (λ (n : ℕ). 24 * n) (rw c.from.ensures at c.square.ensures) ∙ rw (relative_load, lt-ltb s.i heating_hours c.if-i-lt-HEATING_HOURS.true), omega (arith, square_small))

pub returns-else-i-lt-HEATING_HOURS : goal.returns-else-i-lt-HEATING_HOURS
unfolding relative_load
returns-else-i-lt-HEATING_HOURS c =
    (c.args.self.now.mean_is ∙ rw (relative_load, le-ltb c.args.i heating_hours c.if-i-lt-HEATING_HOURS.false), c.args.self.now.mean_to)
