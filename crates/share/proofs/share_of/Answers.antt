-- `share::share_of` refuses the minutes or gives the pair. Assumes nothing.
use mathlib.Core.Path.{sym, ap, ◌∙◌}
use Rattle.share_rules.specs.declared.ShareAnswer.TheVariants.{Pair}
use Rattle.share_rules.proofs.Answers.{minutes_refused, share_given}
use Rattle.share.proofs.share_of.Goals as goal

pub returns-then-outside : goal.returns-then-outside
returns-then-outside c = minutes_refused _ _ (sym c.outside.ensures ∙ c.if-outside.true)

pub returns : goal.returns
returns c =
    ap Pair c.pair_of.ensures ∙ share_given _ _ (sym c.outside.ensures ∙ c.if-outside.false)
