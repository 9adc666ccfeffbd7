-- The test is that of the definition.
use borrow.Author.Tests.{eq-eqb, ne_eqb}
use Rattle.sheet_rules.specs.Layout.{header_length}
use Rattle.header.proofs.header_length.Goals as goal

pub returns-then-size : goal.returns-then-size
unfolding header_length
returns-then-size c = simp (eq-eqb _ _ c.if-size.true)

pub returns-else-size : goal.returns-else-size
unfolding header_length
returns-else-size c = simp (ne_eqb _ _ c.if-size.false)
