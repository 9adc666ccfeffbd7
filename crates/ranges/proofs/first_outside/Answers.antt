-- The loop's invariant: what the first outside is from the value at hand on is what it is from the first on. Assumes nothing.
use mathlib.Core.Path.{sym, ◌∙◌}
use borrow.Author.Rules.{rules}
use Rattle.ranges.proofs.Ranges.{from_first, from_outside, from_passed, from_last}
use Rattle.ranges.proofs.first_outside.Goals as goal

pub loop-i-init : goal.loop-i-init
loop-i-init c = (search rules, from_first _ _)

pub returns-then-outside : goal.returns-then-outside
returns-then-outside c =
    sym (from_outside _ _ c.loop-i.i (search rules) (search rules) (sym c.outside.ensures ∙ c.if-outside.true)) ∙ c.loop-i.invariant.1

pub loop-i-preserved : goal.loop-i-preserved
loop-i-preserved c =
    (search rules, sym (from_passed _ _ c.loop-i.i (search rules) (search rules) (sym c.outside.ensures ∙ c.if-outside.false)) ∙ c.loop-i.invariant.1)

pub returns : goal.returns
returns c = sym (from_last _ _ _ (search rules)) ∙ c.loop-i.invariant.1
