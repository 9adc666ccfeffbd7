-- The loop fills the six shares; the share of an accepted group is not refused at a whole hour. Assumes nothing.
use mathlib.Core.Path.{sym, ap, ◌∙◌}
use native.Mathlib.Omega.{arith}
use Rattle.bounds.specs.declared.Bounds.{Bounds}
use Rattle.cycle_rules.specs.Factor.{largest_factor}
use Rattle.cycle_rules.specs.declared.FactorAnswer.TheVariants.{Factor}
use Rattle.cycle_rules.proofs.Answers.{hour_answered, hour_not_refused}
use Rattle.cycle_rules.proofs.Shares.{next_filled, filled_shared, same_largest}
use Rattle.cycle.proofs.factor_of_day.Goals as goal

pub returns-in_default : goal.returns-in_default
returns-in_default c =
    absurd (hour_not_refused _ c.loop-i.i (omega arith) (sym c.share_of-answer.ensures ∙ c.in_default.is))

pub loop-i-preserved : goal.loop-i-preserved
loop-i-preserved c =
    let v = c.loop-i in
    (omega arith, next_filled v.invariant.1 (omega arith) (hour_answered _ v.i (sym c.share_of-answer.ensures ∙ c.in-Pair.is)))

pub largest_sum-requires : goal.largest_sum-requires
largest_sum-requires c = filled_shared c.loop-i.invariant.1 (omega arith) _ c.requires

pub returns : goal.returns
returns c =
    ap Factor (c.largest_factor.ensures ∙ ap (λ (b : Bounds). largest_factor b.high) (c.largest_sum.ensures.0 ∙ same_largest c.loop-i.invariant.1 (omega arith) _))
