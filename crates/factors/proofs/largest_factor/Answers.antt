-- The test falls and 0 passes it, so the bisection ends with the largest factor that is allowed. Assumes nothing.
use borrow.Author.Rules.{rules}
use Rattle.cycle_rules.specs.Factor.{allowed}
use Rattle.cycle_rules.proofs.FactorTest.{allowed_falls, nothing_allowed}
use Rattle.factors.proofs.largest_factor.Goals as goal

pub returns : goal.returns
returns c =
    let sum = c.args.sum in
    c.largest_passing.ensures.is (allowed sum.high) (record { says = λ n b h p. search rules }) (allowed_falls sum.high) (nothing_allowed sum.high)
