-- The two tests are those of the definition, in its order. Assumes nothing.
use borrow.Author.Tests.{lt-ltb, le-ltb}
use Rattle.cable_rules.specs.Checks.{checked}
use Rattle.cable.proofs.check_cable.Goals as goal

pub returns-in-Some : goal.returns-in-Some
unfolding checked
returns-in-Some c = record { answer = simp (← c.outside_field.ensures, c.in-Some.is) }

pub returns-then-cable : goal.returns-then-cable
unfolding checked
returns-then-cable c = record { answer = simp (← c.outside_field.ensures, c.in_default.is, lt-ltb _ _ c.if-cable.true) }

pub returns : goal.returns
unfolding checked
returns c = record { answer = simp (← c.outside_field.ensures, c.in_default.is, le-ltb _ _ c.if-cable.false) }
