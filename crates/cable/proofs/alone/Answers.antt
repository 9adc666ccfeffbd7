-- The test on the diffusivity is that of the definition. Assumes nothing.
use borrow.Author.Tests.{eq-eqb, ne_eqb}
use Rattle.cable_rules.specs.Checks.{in_use}
use Rattle.cable.proofs.alone.Goals as goal

pub returns-then-used-eq0 : goal.returns-then-used-eq0
unfolding in_use
returns-then-used-eq0 c = record { answer = simp (eq-eqb _ _ c.if-used-eq0.true) }

pub returns-else-used-eq0 : goal.returns-else-used-eq0
unfolding in_use
returns-else-used-eq0 c = record { answer = simp (ne_eqb _ _ c.if-used-eq0.false) }
